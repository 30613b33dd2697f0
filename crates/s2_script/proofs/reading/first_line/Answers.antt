use Rattle.std.proofs.Common.{refl}
use Rattle.s2_text.proofs.TableRows.{rows_more}
use Rattle.s2_script.proofs.FirstRows.{rows_on_first}
use Rattle.s2_script.proofs.reading.first_line.Goals as goal

pub returns : goal.returns
returns c = rows_more _ _ _ _ _ _ c.version.ensures (rw c.on_first.ensures (rows_on_first _ _ c.table_line.ensures)) c.either.ensures refl
