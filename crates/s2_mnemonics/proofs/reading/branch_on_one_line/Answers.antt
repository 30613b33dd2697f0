use Rattle.std.proofs.Common.{refl}
use Rattle.s2_text.proofs.TableRows.{rows_more, rows_last}
use Rattle.s2_mnemonics.proofs.reading.branch_on_one_line.Goals as goal

pub returns : goal.returns
returns c =
    rows_more _ _ _ _ _ _ c.one_there-6.ensures
    (rows_more _ _ _ _ _ _ c.one_named-5.ensures
    (rows_more _ _ _ _ _ _ c.one_there-5.ensures
    (rows_more _ _ _ _ _ _ c.one_named-4.ensures
    (rows_more _ _ _ _ _ _ c.one_there-4.ensures
    (rows_more _ _ _ _ _ _ c.one_named-3.ensures
    (rows_more _ _ _ _ _ _ c.one_there-3.ensures
    (rows_more _ _ _ _ _ _ c.one_named-2.ensures
    (rows_more _ _ _ _ _ _ c.one_there-2.ensures
    (rows_more _ _ _ _ _ _ c.one_named.ensures
    (rows_more _ _ _ _ _ _ c.one_there.ensures
    (rows_last _ _ _ c.one_named-found.ensures refl) c.either-found.ensures refl) c.either-found-2.ensures refl) c.either-found-3.ensures refl) c.either-found-4.ensures refl) c.either-found-5.ensures refl) c.either-found-6.ensures refl) c.either-found-7.ensures refl) c.either-found-8.ensures refl) c.either-found-9.ensures refl) c.either-found-10.ensures refl) c.either.ensures refl
