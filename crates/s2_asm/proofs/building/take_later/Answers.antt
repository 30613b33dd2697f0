use Rattle.std.proofs.Common.{Option, Some, Ok, subst}
use Rattle.s2_text.specs.LineTables.{ReadsLine}
use Rattle.s2_mnemonics.specs.declared.line.Line.{Line}
use Rattle.s2_mnemonics.specs.TextTable.{text_rows}
use Rattle.s2_asm.proofs.Good.{line_good}
use Rattle.s2_asm.proofs.LaterWalk.{read_again}
use Rattle.s2_asm.proofs.building.take_later.Goals as goal

pub add_line-requires-clause-good : goal.add_line-requires-clause-good
add_line-requires-clause-good c =
    line_good c.in-Ok-Some.said c.args.line.now (subst (λ (o : Option Line). ReadsLine text_rows c.args.line.now (Ok o)) c.in-Ok-Some.field-0-is c.in-Ok-Some.ensures.read)

pub returns-in-Ok-Some : goal.returns-in-Ok-Some
returns-in-Ok-Some c = λ list holds.
    read_again list c.args.building.now c.add_line.new.building c.args.n c.args.line.now c.add_line.result (Some c.in-Ok-Some.said)
    (subst (λ (o : Option Line). ReadsLine text_rows c.args.line.now (Ok o)) c.in-Ok-Some.field-0-is c.in-Ok-Some.ensures.read) (c.add_line.ensures list holds)
