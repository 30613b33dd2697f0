use Rattle.std.proofs.Common.{refl}
use Rattle.s2_text.proofs.TableRows.{rows_more, rows_last}
use Rattle.s2_journal.proofs.reading.line_of_note.Goals as goal

pub returns : goal.returns
returns c =
    rows_more _ _ _ _ _ _ c.delivered_tick.ensures
    (rows_more _ _ _ _ _ _ c.delivered_key.ensures
    (rows_more _ _ _ _ _ _ c.out-3.ensures
    (rows_more _ _ _ _ _ _ c.out-2.ensures
    (rows_more _ _ _ _ _ _ c.out.ensures
    (rows_more _ _ _ _ _ _ c.lost_tick.ensures
    (rows_more _ _ _ _ _ _ c.lost_key.ensures
    (rows_more _ _ _ _ _ _ c.repair.ensures
    (rows_more _ _ _ _ _ _ c.board.ensures
    (rows_more _ _ _ _ _ _ c.join.ensures
    (rows_more _ _ _ _ _ _ c.joined-2.ensures
    (rows_more _ _ _ _ _ _ c.joined.ensures
    (rows_more _ _ _ _ _ _ c.mend.ensures
    (rows_more _ _ _ _ _ _ c.mended.ensures
    (rows_last _ _ _ c.delivered_private-found.ensures refl)
    c.either-found.ensures refl) c.either-found-2.ensures refl) c.either-found-3.ensures refl) c.either-found-4.ensures refl) c.either-found-5.ensures refl) c.either-found-6.ensures refl) c.either-found-7.ensures refl) c.either-found-8.ensures refl) c.either-found-9.ensures refl) c.either-found-10.ensures refl) c.either-found-11.ensures refl) c.either-found-12.ensures refl) c.either-found-13.ensures refl) c.either.ensures refl
