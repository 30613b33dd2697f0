use Rattle.std.proofs.Common.{ℕ, List, sym, subst}
use Rattle.s2_text.specs.LineTables.{SaysIn}
use Rattle.s2_journal.specs.ReportLines.{report_rows, note_answer}
use Rattle.s2_journal.proofs.ReportTexts.{note_in_table}
use Rattle.s2_journal.proofs.writing.put_note.Goals as goal

pub returns-clause-said : goal.returns-clause-said
returns-clause-said c = λ readable. subst (λ (t : List ℕ). SaysIn report_rows (note_answer c.args.n.now) t) (sym c.note_line.ensures.text) (note_in_table c.args.n.now readable)
