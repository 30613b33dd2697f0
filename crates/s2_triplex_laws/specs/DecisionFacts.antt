-- What every decision tells: the good processors agree, and whoever is named is the tainted one.
use Rattle.std.specs.Prelude.{ℕ, ◌≡◌, ◌≢◌, ◌<◌, ◌⊎◌, true, Some}
use Rattle.std.specs.declared.option.Option.{Option}
use Rattle.s2_ports.specs.declared.requests.Request.{Request}
use Rattle.s2_agree.specs.AgreedCount.{agreed_count}
use Rattle.s2_agree.specs.CountBounds.{IsCountWithin}
use Rattle.s2_voter.specs.declared.verdicts.Verdict.TheVariants.{Done, Split}
use Rattle.s2_voter.specs.VoterState.{is_member, latch_of}
use Rattle.s2_voter.specs.Verdicts.{is_differing, is_unlatched, verdict_of}
use Rattle.s2_machine.specs.declared.ask.Ask.TheVariants.{Outside}
use Rattle.s2_triplex.specs.declared.membership.Membership.TheVariants.{In}
use Rattle.s2_triplex.specs.TriplexCores.{TriplexCore}
use Rattle.s2_triplex.specs.ModuleState.{replica_of, replica_ask}
use Rattle.s2_triplex.specs.TriplexState.{TriplexState, module_at, membership_at}
use Rattle.s2_triplex.specs.VotedAccess.{seen_in}
use Rattle.s2_triplex.specs.VoterDecision.{is_named}
use Rattle.s2_triplex_laws.specs.LatchAgreement.{IsGood, LatchAgreement, AllLatched}
use Rattle.s2_triplex_laws.specs.ReplicaEquality.{Masking}

-- every good processor is in, so at least two are, and one that is not in is the tainted one
pub record GoodAreIn (d : TriplexState) : Type 0 where
  pub good : (p : ℕ) → p < 3 → IsGood d p → membership_at d.memberships p ≡ In
  pub member : (p : ℕ) → p < 3 → IsGood d p → is_member d.voter p ≡ true
  pub out : (p : ℕ) → p < 3 → membership_at d.memberships p ≢ In → d.tainted ≡ Some p
  pub two : (p q : ℕ) → p < 3 → q < 3 → p ≢ q → (membership_at d.memberships p ≡ In) ⊎ (membership_at d.memberships q ≡ In)

abbrev pub GoodProcessorsAreIn : Type 0
GoodProcessorsAreIn = (k : TriplexCore) (d : TriplexState) → LatchAgreement k d → GoodAreIn d

-- at a decision every good processor asks for what was agreed, is latched with it, and all are equal; whoever is
-- named is tainted, and each member that differs or is late is named; the agreed count of events is one that a
-- good processor could have seen
pub record DecisionFacts (k : TriplexCore) (d : TriplexState) (r : Request) (differ late : Option ℕ) : Type 0 where
  pub own : (p : ℕ) → p < 3 → IsGood d p → replica_ask k (replica_of (module_at d.modules p)) ≡ Outside r
  pub latched : (p : ℕ) → p < 3 → IsGood d p → (seen : ℕ) × (latch_of d.voter p ≡ Some (record { request = r; seen = seen }))
  pub equal : (p q : ℕ) → p < 3 → q < 3 → IsGood d p → IsGood d q → replica_of (module_at d.modules p) ≡ replica_of (module_at d.modules q)
  pub tainted : (p : ℕ) → p < 3 → is_named differ late p ≡ true → d.tainted ≡ Some p
  pub differs : (p : ℕ) → p < 3 → is_differing d.voter r p ≡ true → differ ≡ Some p
  pub lates : (p : ℕ) → p < 3 → is_unlatched d.voter p ≡ true → late ≡ Some p
  pub count : IsCountWithin (agreed_count (seen_in d.voter r) d.delivered) d.delivered d.accepted

abbrev pub DecisionsAreRight : Type 0
DecisionsAreRight = (k : TriplexCore) (d : TriplexState) (r : Request) (differ late : Option ℕ) → Masking k d → AllLatched d → verdict_of d.voter ≡ Done r differ late → DecisionFacts k d r differ late

-- no decision is split
abbrev pub DecisionsNeverSplit : Type 0
DecisionsNeverSplit = (k : TriplexCore) (d : TriplexState) → Masking k d → AllLatched d → verdict_of d.voter ≢ Split
