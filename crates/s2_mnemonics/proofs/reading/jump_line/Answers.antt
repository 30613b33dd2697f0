use Rattle.std.proofs.Common.{refl}
use Rattle.s2_text.proofs.TableRows.{rows_more, rows_last}
use Rattle.s2_mnemonics.proofs.reading.jump_line.Goals as goal

pub returns : goal.returns
returns c =
    rows_more _ _ _ _ _ _ c.jump_there-2.ensures
    (rows_more _ _ _ _ _ _ c.jump_named-2.ensures
    (rows_more _ _ _ _ _ _ c.jump_there.ensures
    (rows_more _ _ _ _ _ _ c.jump_named.ensures
    (rows_more _ _ _ _ _ _ c.jump_register.ensures
    (rows_last _ _ _ c.jump_link_register-found.ensures refl) c.either-found.ensures refl) c.either-found-2.ensures refl) c.either-found-3.ensures refl) c.either-found-4.ensures refl) c.either.ensures refl
