use Rattle.std.proofs.Common.{◌∙◌, sym, subst, Option, Ok}
use Rattle.s2_text.specs.LineTables.{ReadsLine}
use Rattle.s2_mnemonics.specs.declared.line.Line.{Line}
use Rattle.s2_mnemonics.specs.TextTable.{text_rows}
use Rattle.s2_asm.proofs.Steps.{remark_taken, line_taken, outcome, on_ok}
use Rattle.s2_asm.proofs.progress.take_line.Goals as goal

pub returns-in-Ok-None-clause-one : goal.returns-in-Ok-None-clause-one
returns-in-Ok-None-clause-one c =
    remark_taken c.args.progress.now c.args.line.now c.args.n
    (subst (λ (o : Option Line). ReadsLine text_rows c.args.line.now (Ok o)) c.in-Ok-None.field-0-is c.in-Ok-None.ensures.read)

pub returns-in-None-clause-one : goal.returns-in-None-clause-one
returns-in-None-clause-one c =
    line_taken c.args.progress.now c.advance.new.progress c.args.line.now c.args.n c.in-Ok-Some.said c.stood-known.result c.advance.result
    (subst (λ (o : Option Line). ReadsLine text_rows c.args.line.now (Ok o)) c.in-Ok-Some.field-0-is c.in-Ok-Some.ensures.read)
    c.stood-known.ensures (sym c.fault_in.ensures ∙ c.in-None.is)
    (λ fine. record {
      orgs = c.advance.ensures.orgs;
      words = c.advance.ensures.words;
      here = c.advance.ensures.here;
      labels = on_ok c.advance.result _ c.advance.ensures.labels fine;
    })
    (outcome c.advance.result c.advance.ensures.memory)
