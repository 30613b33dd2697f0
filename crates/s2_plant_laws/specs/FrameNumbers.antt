-- The numbers that follow from the frame: its kind, up to FRAME or longer, decides the skew, the stated wait and
-- the stated reintegration. The timer is the voter's.
use Rattle.std.specs.Prelude.{ℕ, if◌then◌else◌}
use Rattle.s2_clock.specs.Frames.{is_long}
use Rattle.s2_plant_laws.specs.declared.numbers.TheConstants.{SKEW_BOUND, LONG_SKEW_BOUND, STATED_WAIT, LONG_STATED_WAIT, STATED_REINTEGRATION, LONG_STATED_REINTEGRATION}

-- how many ticks apart two good processors may post the same request
abbrev pub skew_of : ℕ → ℕ
skew_of frame = if is_long frame then LONG_SKEW_BOUND else SKEW_BOUND

-- how many ticks a request may wait, at the verdict
abbrev pub stated_wait_of : ℕ → ℕ
stated_wait_of frame = if is_long frame then LONG_STATED_WAIT else STATED_WAIT

-- below how many ticks a repair stays
abbrev pub stated_reintegration_of : ℕ → ℕ
stated_reintegration_of frame = if is_long frame then LONG_STATED_REINTEGRATION else STATED_REINTEGRATION
