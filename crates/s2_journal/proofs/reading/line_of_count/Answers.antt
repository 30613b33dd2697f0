use Rattle.std.proofs.Common.{refl}
use Rattle.s2_text.proofs.TableRows.{rows_more, rows_last}
use Rattle.s2_journal.proofs.reading.line_of_count.Goals as goal

pub returns : goal.returns
returns c =
    rows_more _ _ _ _ _ _ c.runs.ensures
    (rows_more _ _ _ _ _ _ c.ticks.ensures
    (rows_last _ _ _ c.bytes-found.ensures refl)
    c.either-found.ensures refl) c.either.ensures refl
