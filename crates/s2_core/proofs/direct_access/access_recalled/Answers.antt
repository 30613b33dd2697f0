use Rattle.std.proofs.Common.{◌*◌}
use Rattle.s2_core.proofs.CarriedOut.{carried}
use Rattle.s2_core.proofs.direct_access.access_recalled.Goals as goal

pub returns-clause-done : goal.returns-clause-done
returns-clause-done g c = carried c.args.cpu.now _ _ _ _ _ _ _ _ c.requires.reached (c.access_at.ensures.done (c.args.index * 4))
