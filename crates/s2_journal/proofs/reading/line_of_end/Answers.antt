use Rattle.std.proofs.Common.{refl}
use Rattle.s2_text.proofs.TableRows.{rows_more, rows_last}
use Rattle.s2_journal.proofs.reading.line_of_end.Goals as goal

pub returns : goal.returns
returns c =
    rows_more _ _ _ _ _ _ c.end_script.ensures
    (rows_more _ _ _ _ _ _ c.end_halt.ensures
    (rows_more _ _ _ _ _ _ c.end_bad.ensures
    (rows_more _ _ _ _ _ _ c.end_second.ensures
    (rows_more _ _ _ _ _ _ c.end_slow.ensures
    (rows_more _ _ _ _ _ _ c.end_board.ensures
    (rows_more _ _ _ _ _ _ c.end_too_long.ensures
    (rows_last _ _ _ c.end_report-found.ensures refl)
    c.either-found.ensures refl) c.either-found-2.ensures refl) c.either-found-3.ensures refl) c.either-found-4.ensures refl) c.either-found-5.ensures refl) c.either-found-6.ensures refl) c.either.ensures refl
