use Rattle.std.proofs.Common.{refl}
use Rattle.s2_text.proofs.TableRows.{rows_more, rows_last}
use Rattle.s2_script.proofs.reading.table_line.Goals as goal

pub returns : goal.returns
returns c =
    rows_more _ _ _ _ _ _ c.ticks.ensures
    (rows_more _ _ _ _ _ _ c.tick.ensures
    (rows_more _ _ _ _ _ _ c.key.ensures
    (rows_more _ _ _ _ _ _ c.poke.ensures
    (rows_more _ _ _ _ _ _ c.local.ensures
    (rows_more _ _ _ _ _ _ c.drive.ensures
    (rows_more _ _ _ _ _ _ c.mute.ensures
    (rows_more _ _ _ _ _ _ c.remove.ensures
    (rows_more _ _ _ _ _ _ c.revive.ensures
    (rows_more _ _ _ _ _ _ c.dead.ensures
    (rows_more _ _ _ _ _ _ c.flip.ensures
    (rows_last _ _ _ c.mend-found.ensures refl)
    c.either-found.ensures refl) c.either-found-2.ensures refl) c.either-found-3.ensures refl) c.either-found-4.ensures refl) c.either-found-5.ensures refl) c.either-found-6.ensures refl) c.either-found-7.ensures refl) c.either-found-8.ensures refl) c.either-found-9.ensures refl) c.either-found-10.ensures refl) c.either.ensures refl
