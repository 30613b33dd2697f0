-- Ticks in which the voter decides nothing.
use Rattle.std.specs.Prelude.{ℕ, ◌+◌, ◌-◌, ◌^◌, ◌||◌, nat_lt, Some, None, if◌then◌else◌}
use Rattle.std.specs.declared.option.Option.{Option}
use Rattle.s2_voter.specs.VoterState.{VoterState}
use Rattle.s2_voter.specs.Verdicts.{is_unlatched}

-- an age so many ticks later, to the timer at most
abbrev pub aged_by : ℕ → ℕ → Option ℕ → Option ℕ
aged_by timer n None = None
aged_by timer n (Some age) = Some (if nat_lt (age + n) timer then age + n else timer)

abbrev pub aged_voter : ℕ → VoterState → VoterState
aged_voter n v = record v { age = aged_by v.timer n v.age }

-- how many ticks may pass before the timer runs out at one; without an age no timer runs
abbrev pub rest_of : ℕ → Option ℕ → ℕ
rest_of timer None = 2 ^ 64 - 1
rest_of timer (Some age) = timer - (age + 1)

-- and where a member is not latched, no decision is due before
abbrev pub ticks_to_decision : VoterState → ℕ
ticks_to_decision v = if is_unlatched v 0 || (is_unlatched v 1 || is_unlatched v 2) then rest_of v.timer v.age else 0
