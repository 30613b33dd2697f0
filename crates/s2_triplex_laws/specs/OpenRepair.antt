-- What an open reintegration and a hold tell, in the words of the machine.
use Rattle.std.specs.Prelude.{ℕ, ◌≡◌, ◌<◌, ◌/◌, ◌↔◌, true, false, Some, None}
use Rattle.std.specs.List.{Contains}
use Rattle.s2_base.specs.declared.map.TheConstants.{LOCAL_WORDS}
use Rattle.s2_store.specs.declared.store.TheConstants.{PAGE_WORDS}
use Rattle.s2_join.specs.declared.item.Item.TheVariants.{Local}
use Rattle.s2_machine.specs.Cores.{mark_at, word_at}
use Rattle.s2_plant_laws.specs.CopiedPages.{SavedWordsLast, is_clean_page}
use Rattle.s2_voter.specs.VoterState.{is_member, latch_of}
use Rattle.s2_triplex.specs.declared.membership.Membership.TheVariants.{Joining}
use Rattle.s2_triplex.specs.TriplexCores.{TriplexCore}
use Rattle.s2_triplex.specs.TriplexState.{TriplexState, Reintegration, module_at, membership_at}
use Rattle.s2_triplex.specs.CopyHolds.{is_holding}
use Rattle.s2_triplex_laws.specs.TriplexInvariant.{TriplexInvariant}
use Rattle.s2_triplex_laws.specs.RepairInvariant.{RepairInvariant}

-- while the machine holds, no member has a latch, a full port or a mark
pub record HoldFacts (d : TriplexState) : Type 0 where
  pub latches : (p : ℕ) → p < 3 → is_member d.voter p ≡ true → latch_of d.voter p ≡ None
  pub ports : (p : ℕ) → p < 3 → is_member d.voter p ≡ true → (module_at d.modules p).port ≡ None
  pub marks : (p page : ℕ) → p < 3 → is_member d.voter p ≡ true → mark_at (module_at d.modules p).marks page ≡ false

-- the processor of an open reintegration alone joins, and is the tainted one; each word of a clean page that is
-- not still to copy equals the word of each member in which that page has no mark; and the saved words come last,
-- and are not all copied
pub record OpenFacts (d : TriplexState) (j : Reintegration) : Type 0 where
  pub joining : (p : ℕ) → p < 3 → (membership_at d.memberships p ≡ Joining) ↔ (j.copying.joiner ≡ p)
  pub tainted : d.tainted ≡ Some j.copying.joiner
  pub held : is_holding d.reintegration ≡ true → HoldFacts d
  pub order : SavedWordsLast j.copying
  pub unsaved : j.copying.saved ≡ false
  pub copied : j.disturbed ≡ false → (p i : ℕ) → p < 3 → is_member d.voter p ≡ true → i < LOCAL_WORDS → is_clean_page j.copying (i / PAGE_WORDS) ≡ true → (Contains j.copying.left (Local i) → ⊥) →
      mark_at (module_at d.modules p).marks (i / PAGE_WORDS) ≡ false → word_at (module_at d.modules j.copying.joiner).local i ≡ word_at (module_at d.modules p).local i

abbrev pub OpenReintegrationTells : Type 0
OpenReintegrationTells = (k : TriplexCore) (d : TriplexState) (j : Reintegration) → TriplexInvariant k d → RepairInvariant d → d.reintegration ≡ Some j → OpenFacts d j

-- where none is open, no processor joins and the machine does not hold
pub record ClosedFacts (d : TriplexState) : Type 0 where
  pub joining : (p : ℕ) → p < 3 → membership_at d.memberships p ≡ Joining → ⊥
  pub free : is_holding d.reintegration ≡ false

abbrev pub NoReintegrationTells : Type 0
NoReintegrationTells = (d : TriplexState) → RepairInvariant d → d.reintegration ≡ None → ClosedFacts d
