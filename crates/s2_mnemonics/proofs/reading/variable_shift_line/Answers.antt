use Rattle.std.proofs.Common.{refl}
use Rattle.s2_text.proofs.TableRows.{rows_more, rows_last}
use Rattle.s2_mnemonics.proofs.reading.variable_shift_line.Goals as goal

pub returns : goal.returns
returns c =
    rows_more _ _ _ _ _ _ c.turned-2.ensures
    (rows_more _ _ _ _ _ _ c.turned.ensures
    (rows_last _ _ _ c.turned-found.ensures refl) c.either-found.ensures refl) c.either.ensures refl
