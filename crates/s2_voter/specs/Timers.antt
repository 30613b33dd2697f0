-- The voter's timer by the frame of the machine.
use Rattle.std.specs.Prelude.{ℕ, if◌then◌else◌}
use Rattle.s2_clock.specs.Frames.{is_long}
use Rattle.s2_voter.specs.declared.timers.TheConstants.{DECISION_TIMER, LONG_DECISION_TIMER}

abbrev pub timer_of : ℕ → ℕ
timer_of frame = if is_long frame then LONG_DECISION_TIMER else DECISION_TIMER
