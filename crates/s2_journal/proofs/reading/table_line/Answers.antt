use Rattle.std.proofs.Common.{◌++◌}
use Rattle.s2_text.proofs.TableRows.{rows_join}
use Rattle.s2_journal.specs.ReportLines.{note_rows, count_rows, end_rows}
use Rattle.s2_journal.proofs.reading.table_line.Goals as goal

pub returns : goal.returns
returns c =
    rows_join note_rows (count_rows ++ end_rows) _ _ _ _ c.line_of_note.ensures
    (rows_join count_rows end_rows _ _ _ _ c.line_of_count.ensures c.line_of_end.ensures c.either-found.ensures)
    c.either.ensures
