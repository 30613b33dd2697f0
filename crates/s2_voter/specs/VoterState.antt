-- The voter as plain data: who is a member, what each processor has latched, since when two have, and its timer.
use Rattle.std.specs.Prelude.{◌≡◌, ℕ, ◌≤◌, ◌⊎◌, List, length, Bool, true, false, Some, None, is_some, nat_lt, count_by, slice_index_or}
use Rattle.std.specs.declared.option.Option.{Option}
use Rattle.s2_ports.specs.declared.requests.Posted.{Posted}
use Rattle.s2_voter.specs.declared.timers.TheConstants.{DECISION_TIMER, LONG_DECISION_TIMER}

-- members and latches have a place for each processor 0, 1 and 2; the age and the timer are in ticks
pub record VoterState : Type 0 where
  pub members : List Bool
  pub latches : List (Option Posted)
  pub age : Option ℕ
  pub timer : ℕ

-- whether a processor is a member
abbrev pub is_member : VoterState → ℕ → Bool
is_member v p = slice_index_or v.members p false

-- the latch of a processor
abbrev pub latch_of : VoterState → ℕ → Option Posted
latch_of v p = slice_index_or v.latches p None

-- whether two processors at least are latched
abbrev pub has_two_latches : List (Option Posted) → Bool
has_two_latches latches = nat_lt 1 (count_by is_some latches)

-- the age does not pass the timer
abbrev pub IsAge : ℕ → Option ℕ → Type 0
IsAge timer None = Unit {0}
IsAge timer (Some age) = age ≤ timer

-- the timers that a voter may be given
abbrev pub IsTimer : ℕ → Type 0
IsTimer timer = (timer ≡ DECISION_TIMER) ⊎ (timer ≡ LONG_DECISION_TIMER)

-- the states that a voter can be in: only members are latched, and the age is present exactly where two are
pub record IsVoter (v : VoterState) : Type 0 where
  pub members : length v.members ≡ 3
  pub latches : length v.latches ≡ 3
  pub latched : (p : ℕ) → is_some (latch_of v p) ≡ true → is_member v p ≡ true
  pub aged : is_some v.age ≡ has_two_latches v.latches
  pub age : IsAge v.timer v.age
  pub timer : IsTimer v.timer
