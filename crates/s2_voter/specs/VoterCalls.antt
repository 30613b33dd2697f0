-- What each call makes of the voter.
use Rattle.std.specs.Prelude.{ℕ, ◌+◌, List, [], ◌∷◌, Bool, true, false, Some, None, nat_lt, slice_set, if◌then◌else◌}
use Rattle.std.specs.declared.option.Option.{Option}
use Rattle.s2_ports.specs.declared.requests.Posted.{Posted}
use Rattle.s2_voter.specs.VoterState.{VoterState, has_two_latches}
use Rattle.s2_voter.specs.declared.timers.TheConstants.{DECISION_TIMER}

-- no latch
abbrev pub no_latches : List (Option Posted)
no_latches = None ∷ None ∷ None ∷ []

-- three members, no latch and no age, and the timer of a machine that is given no frame
abbrev pub new_voter : VoterState
new_voter = record { members = true ∷ true ∷ true ∷ []; latches = no_latches; age = None; timer = DECISION_TIMER }

-- the second latch sets an absent age to 0
abbrev pub started_age : Bool → Option ℕ → Option ℕ
started_age two (Some age) = Some age
started_age true None = Some 0
started_age false None = None

-- processor p is latched
abbrev pub latched_voter : ℕ → Posted → VoterState → VoterState
latched_voter p posted v =
    let latches = slice_set v.latches p (Some posted) in
    record v { latches = latches; age = started_age (has_two_latches latches) v.age }

-- the age stays only where two latches remain
abbrev pub remaining_age : Bool → Option ℕ → Option ℕ
remaining_age true age = age
remaining_age false age = None

-- processor p is no member, and has no latch
abbrev pub without_member : ℕ → VoterState → VoterState
without_member p v =
    let latches = slice_set v.latches p None in
    record { members = slice_set v.members p false; latches = latches; age = remaining_age (has_two_latches latches) v.age; timer = v.timer }

-- processor p is a member
abbrev pub with_member : ℕ → VoterState → VoterState
with_member p v = record v { members = slice_set v.members p true }

-- no latch and no age
abbrev pub cleared_voter : VoterState → VoterState
cleared_voter v = record v { latches = no_latches; age = None }

-- a present age below the timer grows by one
abbrev pub older : ℕ → Option ℕ → Option ℕ
older timer None = None
older timer (Some age) = Some (if nat_lt age timer then age + 1 else age)

-- the voter one tick later
abbrev pub ticked_voter : VoterState → VoterState
ticked_voter v = record v { age = older v.timer v.age }

-- the voter with another timer
abbrev pub timed_voter : ℕ → VoterState → VoterState
timed_voter timer v = record v { timer = timer }
