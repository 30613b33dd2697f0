-- The voter's calls in a step.
use Rattle.std.proofs.Common.{◌≡◌, ℕ, ◌+◌, ◌<◌, [], length, refl, sym, ◌∙◌, arith, length-set}
use Rattle.std.specs.Prelude.{Bool, true, false, Some, None, IfSome, is_some, nat_lt, if◌then◌else◌}
use Rattle.std.proofs.lemmas.Bool.Decides.{nat_tests}
use Rattle.std.specs.declared.option.Option.{Option}
use Rattle.s2_ports.specs.declared.requests.Posted.{Posted}
use Rattle.s2_voter.specs.VoterState.{VoterState, IsVoter, IsAge}
use Rattle.s2_voter.specs.VoterCalls.{older, ticked_voter, with_member, without_member}
use Rattle.s2_triplex.specs.TriplexState.{TriplexState, started_triplex}
use Rattle.s2_triplex.specs.TickFirings.{latched_from}
use Rattle.s2_triplex.specs.VoterDecision.{is_named}
use Rattle.s2_triplex.specs.ActStep.{voter_without}
use Rattle.s2_triplex_laws.specs.VoterTurn.{after_answers, after_latching, without_named}
use Rattle.s2_triplex_laws.proofs.VoterTurn.{joiner_added, latching_calls, members_leave, removal_call}
use Rattle.s2_plant.specs.StepParts.{voter_decided, voter_joined}

-- a voter that keeps its rule after a tick kept it before
age_before : (timer : ℕ) (age : Option ℕ) → IsAge timer (older timer age) → IsAge timer age
age_before timer None h = tt
age_before timer (Some age) h = by_test (nat_lt age timer) refl h
  where
    by_test : (b : Bool) → nat_lt age timer ≡ b → IsAge timer (Some (if b then age + 1 else age)) → IsAge timer (Some age)
    by_test true e k = let less : age < timer = grind (arith, nat_tests) in omega arith
    by_test false e k = k

age_there : (timer : ℕ) (age : Option ℕ) → is_some (older timer age) ≡ is_some age
age_there timer None = refl
age_there timer (Some age) = refl

before_tick : (v : VoterState) → IsVoter (ticked_voter v) → IsVoter v
before_tick v k = record { members = k.members; latches = k.latches; latched = k.latched; aged = sym (age_there v.timer v.age) ∙ k.aged; age = age_before v.timer v.age k.age; timer = k.timer }

pub latched_all : (ports : ℕ → Option Posted) (v : VoterState) → IsVoter (ticked_voter v) → after_latching ports v ≡ latched_from ports v
latched_all ports v kept = latching_calls ports v (before_tick v kept)

-- the number of members stays where one of them leaves
named_size : (named : Option ℕ) (v : VoterState) → length (without_named named v).members ≡ length v.members
named_size None v = refl
named_size (Some p) v = length-set v.members p false

pub decided_all : (differ late : Option ℕ) (v : VoterState) → IsVoter (after_answers differ late v) → IfSome differ (λ p. p < 3) → IfSome late (λ p. p < 3) → after_answers differ late v ≡ voter_decided (is_named differ late) v
decided_all differ late v kept a b =
    members_leave (record started { voter = v }) differ late (sym (named_size differ v) ∙ (sym (named_size late (without_named differ v)) ∙ kept.members)) a b
  where
    started : TriplexState
    started = started_triplex 0 0 [] []

pub joined_one : (joiner : ℕ) (v : VoterState) → joiner < 3 → IsVoter (with_member joiner v) → with_member joiner v ≡ voter_joined joiner v
joined_one joiner v low kept = sym (joiner_added v joiner low (sym (length-set v.members joiner true) ∙ kept.members))

pub removed_one : (p : ℕ) (v : VoterState) → p < 3 → IsVoter (without_member p v) → without_member p v ≡ voter_without p v
removed_one p v low kept = sym (removal_call p v low (sym (length-set v.members p false) ∙ kept.members) (sym (length-set v.latches p None) ∙ kept.latches))
