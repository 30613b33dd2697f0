use Rattle.std.proofs.Common.{refl}
use Rattle.s2_text.proofs.TableRows.{rows_more, rows_last}
use Rattle.s2_mnemonics.proofs.reading.named_line.Goals as goal

pub returns : goal.returns
returns c =
    rows_more _ _ _ _ _ _ c.named-6.ensures
    (rows_more _ _ _ _ _ _ c.named-5.ensures
    (rows_more _ _ _ _ _ _ c.named-4.ensures
    (rows_more _ _ _ _ _ _ c.named-3.ensures
    (rows_more _ _ _ _ _ _ c.named-2.ensures
    (rows_more _ _ _ _ _ _ c.named.ensures
    (rows_last _ _ _ c.named-found.ensures refl) c.either-found.ensures refl) c.either-found-2.ensures refl) c.either-found-3.ensures refl) c.either-found-4.ensures refl) c.either-found-5.ensures refl) c.either.ensures refl
