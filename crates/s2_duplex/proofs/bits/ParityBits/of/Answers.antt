use Rattle.std.proofs.Common.{arith}
use Rattle.s2_duplex.proofs.PackedUnits.{parities_are}
use Rattle.s2_duplex.proofs.bits.ParityBits.of.Goals as goal

pub returns : goal.returns
returns c = parities_are c.loop-i.bits c.args.words.now c.loop-i.invariant.0 (λ k h. c.loop-i.invariant.1 k (omega arith))
