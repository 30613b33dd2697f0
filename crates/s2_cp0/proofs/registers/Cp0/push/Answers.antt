use Rattle.s2_cp0.proofs.KeptBits.{HasKeptBits-pushed}
use Rattle.s2_cp0.proofs.registers.Cp0.push.Goals as goal

pub invariant_of-self : goal.invariant_of-self
invariant_of-self c = HasKeptBits-pushed _ c.self.invariant
