use Rattle.s2_journal.proofs.WholeReports.{report_form}
use Rattle.s2_journal.proofs.ReportAnswers.{report_not_bad, bad_once}
use Rattle.s2_journal.proofs.order.report_order.Goals as goal

pub returns-clause-form : goal.returns-clause-form
returns-clause-form c = λ lines said r. report_form lines said r

pub returns-clause-either : goal.returns-clause-either
returns-clause-either c = λ lines said line column r bad. report_not_bad lines said line column r bad

pub returns-clause-place : goal.returns-clause-place
returns-clause-place c = λ lines line column line' column' p q. bad_once lines line column line' column' p q
