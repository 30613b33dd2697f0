use Rattle.std.proofs.Common.{refl}
use Rattle.s2_text.proofs.TableRows.{rows_more, rows_last}
use Rattle.s2_mnemonics.proofs.reading.three_line.Goals as goal

pub returns : goal.returns
returns c =
    rows_more _ _ _ _ _ _ c.three-9.ensures
    (rows_more _ _ _ _ _ _ c.three-8.ensures
    (rows_more _ _ _ _ _ _ c.three-7.ensures
    (rows_more _ _ _ _ _ _ c.three-6.ensures
    (rows_more _ _ _ _ _ _ c.three-5.ensures
    (rows_more _ _ _ _ _ _ c.three-4.ensures
    (rows_more _ _ _ _ _ _ c.three-3.ensures
    (rows_more _ _ _ _ _ _ c.three-2.ensures
    (rows_more _ _ _ _ _ _ c.three.ensures
    (rows_last _ _ _ c.three-found.ensures refl) c.either-found.ensures refl) c.either-found-2.ensures refl) c.either-found-3.ensures refl) c.either-found-4.ensures refl) c.either-found-5.ensures refl) c.either-found-6.ensures refl) c.either-found-7.ensures refl) c.either-found-8.ensures refl) c.either.ensures refl
