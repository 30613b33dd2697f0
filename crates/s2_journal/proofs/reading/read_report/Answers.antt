use Rattle.s2_text.proofs.ShortLines.{uncut_row, row_again}
use Rattle.s2_journal.specs.ReportLines.{report_rows}
use Rattle.s2_journal.proofs.LineRanges.{read_in_range}
use Rattle.s2_journal.proofs.ReportTests.{report_disjoint, report_short}
use Rattle.s2_journal.proofs.reading.read_report.Goals as goal

pub returns-clause-read : goal.returns-clause-read
returns-clause-read c = uncut_row report_rows c.args.line.now c.front-seen.result.now c.without_remarks.result report_short c.front-seen.ensures.front (c.without_remarks.ensures report_rows c.table_line.ensures).is

pub returns-clause-line : goal.returns-clause-line
returns-clause-line c =
    row_again report_rows c.args.line.now c.without_remarks.result report_disjoint
    (uncut_row report_rows c.args.line.now c.front-seen.result.now c.without_remarks.result report_short c.front-seen.ensures.front (c.without_remarks.ensures report_rows c.table_line.ensures).is)

pub returns-clause-range : goal.returns-clause-range
returns-clause-range c =
    read_in_range c.args.line.now c.without_remarks.result
    (uncut_row report_rows c.args.line.now c.front-seen.result.now c.without_remarks.result report_short c.front-seen.ensures.front (c.without_remarks.ensures report_rows c.table_line.ensures).is)
