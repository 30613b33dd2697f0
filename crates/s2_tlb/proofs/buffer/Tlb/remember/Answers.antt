-- The page that was found is remembered.
use Rattle.std.proofs.Common.{ℕ, List, refl, sym, ap, subst, ◌∙◌, ◌/◌}
use Rattle.std.specs.Prelude.{slice_index_or, slice_set}
use Rattle.s2_tlb.specs.TranslationEntries.{lowest_match}
use Rattle.s2_tlb.specs.RememberedPages.{AreRemembered}
use Rattle.s2_tlb.proofs.RememberedPages.{page_remembered}
use Rattle.s2_tlb.proofs.buffer.Tlb.remember.Goals as goal

pub invariant_of-self : goal.invariant_of-self
invariant_of-self c = (
  c.self.invariant.0,
  c.self.invariant.1,
  subst (λ (h : ℕ). AreRemembered (slice_set c.self.inside.remembered c.remembered_place-place.result (h, (slice_index_or c.self.inside.pairs c.in-Some.i (0, 0)).1)) c.self.inside.pairs) (sym c.remembered_hi.ensures)
      (page_remembered c.self.inside.remembered c.self.inside.pairs c.remembered_place-place.result c.args.va c.args.asid c.in-Some.i (slice_index_or c.self.inside.pairs c.in-Some.i (0, 0)).1 c.remembered_place-place.ensures c.requires
      (ap (λ (entries : List (ℕ × ℕ)). lowest_match entries (c.args.va / 4096) c.args.asid) c.self.view_is ∙ sym c.in-Some.ensures.value) refl c.if-lo-eq1.true c.self.invariant.2),
)
