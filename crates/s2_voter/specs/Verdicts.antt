-- The verdict of the voter: a list of conditions, each with its verdict. The first condition that holds decides.
use Rattle.std.specs.Prelude.{ℕ, ◌&&◌, ◌||◌, not, List, [], ◌∷◌, ◌++◌, map, find, count_by, Bool, true, false, Some, None, is_some, is_none, nat_le, nat_lt, if◌then◌else◌}
use Rattle.std.specs.List.{filter_map, list_all}
use Rattle.std.specs.declared.option.Option.{Option}
use Rattle.s2_ports.specs.declared.requests.Posted.{Posted}
use Rattle.s2_ports.specs.declared.requests.Request.{Request}
use Rattle.s2_voter.specs.declared.verdicts.Verdict.{Verdict}
use Rattle.s2_voter.specs.declared.verdicts.Verdict.TheVariants.{Waiting, Done, Split}
use Rattle.s2_voter.specs.RequestEquality.{is_same_request}
use Rattle.s2_voter.specs.VoterState.{VoterState, is_member, latch_of}

-- the numbers of the processors
abbrev pub processors : List ℕ
processors = 0 ∷ 1 ∷ 2 ∷ []

-- a member without a latch
abbrev pub is_unlatched : VoterState → ℕ → Bool
is_unlatched v p = is_member v p && is_none (latch_of v p)

-- whether the age has reached the timer
abbrev pub is_timed_out : ℕ → Option ℕ → Bool
is_timed_out timer None = false
is_timed_out timer (Some age) = nat_le timer age

-- a decision is due where every member is latched, or where the timer has run out
abbrev pub is_due : VoterState → Bool
is_due v = list_all (λ p. not (is_unlatched v p)) processors || is_timed_out v.timer v.age

-- what a latch asks for
abbrev pub request_of : Option Posted → Option Request
request_of None = None
request_of (Some posted) = Some posted.request

-- whether a latch asks for this request
abbrev pub holds_request : Request → Option Posted → Bool
holds_request request None = false
holds_request request (Some posted) = is_same_request request posted.request

-- a member whose latch holds another request
abbrev pub is_differing : VoterState → Request → ℕ → Bool
is_differing v request p = is_member v p && (is_some (latch_of v p) && not (holds_request request (latch_of v p)))

-- the member that differs, if any
abbrev pub differing_member : VoterState → Request → Option ℕ
differing_member v request = find (is_differing v request) processors

-- the member that is late, if any
abbrev pub late_member : VoterState → Option ℕ
late_member v = find (is_unlatched v) processors

-- the request is agreed, and the remaining member, if any, is named
abbrev pub done_with : VoterState → Request → Verdict
done_with v request = Done request (differing_member v request) (late_member v)

-- the latched requests
abbrev pub latched_requests : List (Option Posted) → List Request
latched_requests latches = filter_map request_of latches

-- whether two latches at least hold a request
abbrev pub is_shared : List (Option Posted) → Request → Bool
is_shared latches request = nat_lt 1 (count_by (holds_request request) latches)

-- the request that two latches hold
abbrev pub agreed_request : List (Option Posted) → Option Request
agreed_request latches = find (is_shared latches) (latched_requests latches)

-- the verdicts, each with its condition: no decision is due; two latches hold one of the latched requests; else
abbrev pub verdict_rows : VoterState → List (Bool × Verdict)
verdict_rows v = (not (is_due v), Waiting) ∷ map (λ request. (is_shared v.latches request, done_with v request)) (latched_requests v.latches) ++ (true, Split) ∷ []

-- the verdict beside the first condition that holds
abbrev pub first_that_holds : List (Bool × Verdict) → Verdict
first_that_holds [] = Split
first_that_holds (row ∷ rows) = if row.0 then row.1 else first_that_holds rows

-- the verdict: that of the first row that holds
abbrev pub verdict_of : VoterState → Verdict
verdict_of v = first_that_holds (verdict_rows v)
