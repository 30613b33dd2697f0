use Rattle.std.proofs.Common.{refl}
use Rattle.s2_text.proofs.TableRows.{rows_more, rows_last}
use Rattle.s2_mnemonics.proofs.reading.division_line.Goals as goal

pub returns : goal.returns
returns c =
    rows_more _ _ _ _ _ _ c.division-3.ensures
    (rows_more _ _ _ _ _ _ c.division-2.ensures
    (rows_more _ _ _ _ _ _ c.division.ensures
    (rows_last _ _ _ c.division-found.ensures refl) c.either-found.ensures refl) c.either-found-2.ensures refl) c.either.ensures refl
