-- The entry leaves one set for another.
use Rattle.std.proofs.Common.{arith}
use Rattle.s2_tlb.proofs.EntrySets.{moved}
use Rattle.s2_tlb.proofs.index.replace.Goals as goal

pub returns : goal.returns
returns c = record { sets = λ field entries entry count was is are. moved field c.args.sets.now entries entry c.args.i c.args.from c.args.to (omega arith) count c.requires.i c.requires.from c.requires.to was is are }
