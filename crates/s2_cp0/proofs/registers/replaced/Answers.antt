use Rattle.s2_cp0.proofs.MaskBits.{bit_at-replaced_bits}
use Rattle.s2_cp0.proofs.registers.replaced.Goals as goal

pub returns-clause-bits : goal.returns-clause-bits
returns-clause-bits c = λ i low. bit_at-replaced_bits c.args.old c.args.new c.args.mask i c.ranges.mask.fits low
