-- The lowest bit of the set of the entries that match is the lowest of them; where it has none, none matches.
use Rattle.std.proofs.Common.{ℕ, sym, ap, ◌∙◌, arith, w64}
use Rattle.std.specs.Int.{bit_at}
use Rattle.std.proofs.lemmas.Nat.Bits.{bit_at-zero, bit_at-trailing_zeros}
use Rattle.s2_tlb.proofs.EntrySets.{flag_zero, flag_one}
use Rattle.s2_tlb.proofs.LowestMatch.{found, none_found}
use Rattle.s2_tlb.proofs.buffer.Tlb.lowest.Goals as goal

pub returns-then-set-eq0-clause-value : goal.returns-then-set-eq0-clause-value
returns-then-set-eq0-clause-value c =
    let entries = c.self.inside.pairs in
    let count = c.self.invariant.0.count in
    let nowhere = (none_found entries c.args.page c.args.asid).1 (λ i within.
    flag_zero _ (sym (c.matching-set.ensures entries c.self.invariant.0 c.self.invariant.1 i (omega arith)) ∙ (ap (λ (w : ℕ). bit_at w i) c.if-set-eq0.true ∙ bit_at-zero i))) in
    cc

pub returns-else-set-eq0-clause-value : goal.returns-else-set-eq0-clause-value
returns-else-set-eq0-clause-value c =
    let entries = c.self.inside.pairs in
    let count = c.self.invariant.0.count in
    let lowest = bit_at-trailing_zeros w64 c.matching-set.result (omega arith) (omega arith) in
    let at = (found entries c.args.page c.args.asid _).1 (record {
      within = omega arith;
      matches = flag_one _ (sym (c.matching-set.ensures entries c.self.invariant.0 c.self.invariant.1 _ lowest.0) ∙ lowest.1);
      lower = λ j h. flag_zero _ (sym (c.matching-set.ensures entries c.self.invariant.0 c.self.invariant.1 j (omega arith)) ∙ lowest.2 j h);
    }) in
    cc
