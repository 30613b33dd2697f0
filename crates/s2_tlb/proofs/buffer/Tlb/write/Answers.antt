-- The entry is written, its sets follow, and nothing is remembered.
use Rattle.std.proofs.Common.{arith, refl}
use Rattle.std.proofs.lemmas.Grind.{common_steps}
use Rattle.s2_tlb.specs.TranslationEntries.{AreTranslationEntries, entries_written}
use Rattle.s2_tlb.proofs.buffer.Tlb.write.Goals as goal

pub invariant_of-self : goal.invariant_of-self
invariant_of-self c =
    let entries : AreTranslationEntries (entries_written c.self.inside.pairs c.args.i c.args.hi c.args.lo) = grind (arith, common_steps) in
    (entries, c.replace.ensures c.self.inside.pairs c.self.invariant.0.count refl c.self.invariant.1, c.forget.ensures _)
