use Rattle.std.proofs.Common.{sym, subst, Ok}
use Rattle.s2_mnemonics.specs.declared.line.Line.{Line}
use Rattle.s2_asm.specs.LineFaults.{Gives}
use Rattle.s2_asm.proofs.words.line_word.Goals as goal

pub returns-in-Plain : goal.returns-in-Plain
returns-in-Plain c = λ list holds. subst (λ (l : Line). Gives list c.args.at c.args.n l (Ok c.plain_word.result)) (sym c.in-Plain.is) (c.plain_word.ensures list c.args.at c.args.n)
