use Rattle.s2_cp0.proofs.KeptBits.{HasKeptBits-popped}
use Rattle.s2_cp0.proofs.registers.Cp0.pop.Goals as goal

pub invariant_of-self : goal.invariant_of-self
invariant_of-self c = HasKeptBits-popped _ c.self.invariant
