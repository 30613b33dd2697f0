use Rattle.std.proofs.Common.{refl}
use Rattle.s2_text.proofs.TableRows.{rows_more, rows_last}
use Rattle.s2_mnemonics.proofs.reading.coprocessor_line.Goals as goal

pub returns : goal.returns
returns c =
    rows_more _ _ _ _ _ _ c.from_coprocessor.ensures
    (rows_last _ _ _ c.to_coprocessor-found.ensures refl) c.either.ensures refl
