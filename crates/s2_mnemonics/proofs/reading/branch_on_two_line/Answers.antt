use Rattle.std.proofs.Common.{refl}
use Rattle.s2_text.proofs.TableRows.{rows_more, rows_last}
use Rattle.s2_mnemonics.proofs.reading.branch_on_two_line.Goals as goal

pub returns : goal.returns
returns c =
    rows_more _ _ _ _ _ _ c.two_there-2.ensures
    (rows_more _ _ _ _ _ _ c.two_named.ensures
    (rows_more _ _ _ _ _ _ c.two_there.ensures
    (rows_last _ _ _ c.two_named-found.ensures refl) c.either-found.ensures refl) c.either-found-2.ensures refl) c.either.ensures refl
