use Rattle.std.proofs.Common.{ℕ, List, sym, subst}
use Rattle.s2_text.specs.LineTables.{SaysIn}
use Rattle.s2_journal.specs.declared.note.ReportLine.TheVariants.{End as Ending}
use Rattle.s2_journal.specs.ReportLines.{report_rows}
use Rattle.s2_journal.proofs.ReportTexts.{end_in_table}
use Rattle.s2_journal.proofs.writing.put_end.Goals as goal

pub returns-clause-said : goal.returns-clause-said
returns-clause-said c = λ readable. subst (λ (t : List ℕ). SaysIn report_rows Ending t) (sym c.end_line.ensures.text) (end_in_table c.args.e.now readable)
