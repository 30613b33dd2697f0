use Rattle.std.proofs.Common.{ℕ, List, sym, subst}
use Rattle.s2_text.specs.LineTables.{SaysIn}
use Rattle.s2_journal.specs.ReportLines.{report_rows, count_answer}
use Rattle.s2_journal.proofs.ReportTexts.{count_in_table}
use Rattle.s2_journal.proofs.writing.put_count.Goals as goal

pub returns-clause-said : goal.returns-clause-said
returns-clause-said c = λ readable. subst (λ (t : List ℕ). SaysIn report_rows (count_answer c.args.name c.args.n) t) (sym c.count_line.ensures.text) (count_in_table c.args.name c.args.n readable)
