-- The voter's part of a step as calls of the voter, one after another.
use Rattle.std.specs.Prelude.{ℕ, ◌≡◌, ◌<◌, ◌==◌, ◌||◌, length, Bool, true, false, Some, None, IfSome}
use Rattle.std.specs.declared.option.Option.{Option}
use Rattle.s2_ports.specs.declared.requests.Request.{Request}
use Rattle.s2_ports.specs.declared.requests.Posted.{Posted}
use Rattle.s2_voter.specs.declared.verdicts.Verdict.TheVariants.{Done}
use Rattle.s2_voter.specs.VoterState.{VoterState, IsVoter, is_member, latch_of}
use Rattle.s2_voter.specs.VoterCalls.{latched_voter, without_member, with_member, cleared_voter, ticked_voter, no_latches}
use Rattle.s2_voter.specs.Verdicts.{verdict_of}
use Rattle.s2_triplex.specs.TriplexState.{TriplexState, three_of}
use Rattle.s2_triplex.specs.TickFirings.{latched_from}
use Rattle.s2_triplex.specs.VoterDecision.{is_named, stays_member}
use Rattle.s2_triplex.specs.ActStep.{voter_without}

-- a member without a latch, whose port holds a request, is latched
abbrev pub latched_where : Bool → Option Posted → Option Posted → ℕ → VoterState → VoterState
latched_where true None (Some posted) p v = latched_voter p posted v
latched_where true None None p v = v
latched_where true (Some latch) port p v = v
latched_where false latch port p v = v

-- processor p is latched where it is such a member
abbrev pub latched_at : Option Posted → ℕ → VoterState → VoterState
latched_at port p v = latched_where (is_member v p) (latch_of v p) port p v

-- the voter's calls up to the verdict of a tick: its age grows, and then each processor may be latched
abbrev pub after_latching : (ℕ → Option Posted) → VoterState → VoterState
after_latching ports v = latched_at (ports 2) 2 (latched_at (ports 1) 1 (latched_at (ports 0) 0 (ticked_voter v)))

-- they make of the voter what a tick does
abbrev pub LatchingByCalls : Type 0
LatchingByCalls = (ports : ℕ → Option Posted) (v : VoterState) → IsVoter v → after_latching ports v ≡ latched_from ports v

-- a removal is one call
abbrev pub RemovalIsACall : Type 0
RemovalIsACall = (p : ℕ) (v : VoterState) → p < 3 → length v.members ≡ 3 → length v.latches ≡ 3 → voter_without p v ≡ without_member p v

-- a processor that a decision names is dropped
abbrev pub without_named : Option ℕ → VoterState → VoterState
without_named None v = v
without_named (Some p) v = without_member p v

-- the voter after a decision: without whom it names, and with no latch and no age
abbrev pub after_answers : Option ℕ → Option ℕ → VoterState → VoterState
after_answers differ late v = cleared_voter (without_named late (without_named differ v))

abbrev pub MembersLeaveByCalls : Type 0
MembersLeaveByCalls = (d : TriplexState) (differ late : Option ℕ) → length d.voter.members ≡ 3 → IfSome differ (λ p. p < 3) → IfSome late (λ p. p < 3) →
    after_answers differ late d.voter ≡ record { members = three_of (stays_member d (is_named differ late)); latches = no_latches; age = None; timer = d.voter.timer }

-- whom a decision names is a processor
abbrev pub NamedAreProcessors : Type 0
NamedAreProcessors = (v : VoterState) (r : Request) (differ late : Option ℕ) → verdict_of v ≡ Done r differ late → IfSome differ (λ p. p < 3) × IfSome late (λ p. p < 3)

-- a processor that was brought back is a member by one call
abbrev pub JoinerIsAdded : Type 0
JoinerIsAdded = (v : VoterState) (joiner : ℕ) → joiner < 3 → length v.members ≡ 3 → record v { members = three_of (λ p. (joiner == p) || is_member v p) } ≡ with_member joiner v
