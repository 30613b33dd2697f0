use Rattle.std.proofs.Common.{◌<◌}
use Rattle.s2_cp0.proofs.KeptBits.{with_index, entry-within}
use Rattle.s2_cp0.proofs.registers.Cp0.set_probed.Goals as goal

pub invariant_of-self : goal.invariant_of-self
invariant_of-self c =
    let low : c.in-Some.entry < 64 = rw c.in-Some.is at c.requires in
    with_index _ _ c.self.invariant (entry-within c.in-Some.entry low)
