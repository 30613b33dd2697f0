use Rattle.std.proofs.Common.{arith}
use Rattle.s2_text.proofs.ShortLines.{with_remarks_stops}
use Rattle.s2_text.proofs.tables.with_remarks.Goals as goal

pub returns-in-Err-found : goal.returns-in-Err-found
returns-in-Err-found g c = λ rows reads. with_remarks_stops rows c.args.line.now c.args.found c.in-Err-found.t c.in-Err.s.left c.min-left.result reads c.in-Err-found.is c.in-Err.ensures (grind arith)
