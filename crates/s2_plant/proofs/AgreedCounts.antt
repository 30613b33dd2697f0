-- The latches that agree on a request: there are two or three, and so are the counts of events that they have seen.
use Rattle.std.proofs.Common.{◌≡◌, ℕ, ◌≤◌, List, [], ◌∷◌, ◌++◌, length, refl, sym, subst, ◌∙◌, arith, length-append}
use Rattle.std.specs.Prelude.{Bool, true, false, cond, nat_lt, count_by, find, Some, None, if◌then◌else◌}
use Rattle.std.specs.declared.option.Option.{Option}
use Rattle.std.specs.Option.{option_map_or}
use Rattle.std.proofs.lemmas.Bool.Decides.{nat_tests}
use Rattle.s2_ports.specs.declared.requests.Request.{Request}
use Rattle.s2_ports.specs.declared.requests.Posted.{Posted}
use Rattle.s2_voter.specs.declared.verdicts.Verdict.TheVariants.{Waiting, Done, Split}
use Rattle.s2_voter.specs.RequestEquality.{is_same_request}
use Rattle.s2_voter.specs.VoterState.{VoterState, IsVoter}
use Rattle.s2_voter.specs.Verdicts.{verdict_of, is_due, agreed_request, done_with, differing_member, late_member, holds_request, is_shared, latched_requests}
use Rattle.s2_voter.proofs.Agreement.{verdict_decided}
use Rattle.s2_triplex.specs.VotedAccess.{seen_in, seen_of}

-- a request that was found among others passes the test
found_passes : (test : Request → Bool) (rs : List Request) (r : Request) → find test rs ≡ Some r → test r ≡ true
found_passes test [] r h = absurd cc
found_passes test (x ∷ rs) r h = by_test (test x) refl (found_passes test rs r) h
  where
    same : (a b : Request) → Some a ≡ Some b → a ≡ b
    same a b h = cc

    by_test : (b : Bool) → test x ≡ b → (find test rs ≡ Some r → test r ≡ true) → cond b (Some x) (find test rs) ≡ Some r → test r ≡ true
    by_test true e rest k = subst (λ (y : Request). test y ≡ true) (same x r k) e
    by_test false e rest k = rest k

same_request : (a b : Request) (u v x y : Option ℕ) → Done a u v ≡ Done b x y → a ≡ b
same_request a b u v x y h = cc

-- two latches hold the request of a decision
pub decision_shared : (v : VoterState) (r : Request) (differ late : Option ℕ) → verdict_of v ≡ Done r differ late → is_shared v.latches r ≡ true
decision_shared v r differ late h = by_due (is_due v) (agreed_request v.latches) refl (sym (verdict_decided v) ∙ h)
  where
    by_due : (due : Bool) (agreed : Option Request) → agreed_request v.latches ≡ agreed → (if due then option_map_or (done_with v) agreed Split else Waiting) ≡ Done r differ late → is_shared v.latches r ≡ true
    by_due true (Some request) found e =
        subst (λ (x : Request). is_shared v.latches x ≡ true) (same_request request r (differing_member v request) (late_member v) differ late e) (found_passes (is_shared v.latches) (latched_requests v.latches) request found)
    by_due true None found e = absurd cc
    by_due false agreed found e = absurd cc

seen_length : (r : Request) (l : Option Posted) → length (seen_of r l) ≡ cond (holds_request r l) 1 0
seen_length r None = refl
seen_length r (Some posted) = by_test (is_same_request r posted.request)
  where
    by_test : (b : Bool) → length (if b then posted.seen ∷ [] else []) ≡ cond b 1 0
    by_test true = refl
    by_test false = refl

three_lengths : (r : Request) (a b c : Option Posted) → length (seen_of r a ++ (seen_of r b ++ seen_of r c)) ≡ count_by (holds_request r) (a ∷ b ∷ c ∷ [])
three_lengths r a b c =
    let first = seen_length r a in
    let second = seen_length r b in
    let third = seen_length r c in
    let outer = length-append (seen_of r a) (seen_of r b ++ seen_of r c) in
    let inner = length-append (seen_of r b) (seen_of r c) in
    omega arith

by_latches : (members : List Bool) (latches : List (Option Posted)) (age : Option ℕ) (timer : ℕ) (r : Request) → length latches ≡ 3 → let v : VoterState = record { members = members; latches = latches; age = age; timer = timer } in length (seen_in v r) ≡ count_by (holds_request r) latches
by_latches members [] age timer r h = absurd (omega arith)
by_latches members (a ∷ []) age timer r h = absurd (omega arith)
by_latches members (a ∷ b ∷ []) age timer r h = absurd (omega arith)
by_latches members (a ∷ b ∷ c ∷ []) age timer r h = three_lengths r a b c
by_latches members (a ∷ b ∷ c ∷ d ∷ ls) age timer r h = absurd (omega arith)

pub two_seen : (v : VoterState) (r : Request) → IsVoter v → is_shared v.latches r ≡ true → 2 ≤ length (seen_in v r)
two_seen v r kept shared =
    let count = by_latches v.members v.latches v.age v.timer r kept.latches in
    let more = more_than_one (count_by (holds_request r) v.latches) shared in
    omega arith
  where
    more_than_one : (n : ℕ) → nat_lt 1 n ≡ true → 2 ≤ n
    more_than_one n h = grind (arith, nat_tests)
