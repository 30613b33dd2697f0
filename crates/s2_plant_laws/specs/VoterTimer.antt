-- The age and the timer of the laws are the voter's.
use Rattle.std.specs.Prelude.{ℕ, ◌≡◌, ◌≤◌, Bool, true, false, Some}
use Rattle.std.specs.declared.option.Option.{Option}
use Rattle.s2_voter.specs.VoterCalls.{started_age, older}
use Rattle.s2_voter.specs.Verdicts.{is_timed_out}
use Rattle.s2_plant_laws.specs.BoundedSkew.{IsBeforeTimer, age_after}

-- In a tick the voter's age grows and then begins with the second latch. At the timer it no longer grows; before
-- it, it is that of the laws. The voter is timed out exactly where the age has come to the timer.
pub record VoterTimer : Type 0 where
  pub grows : (timer : ℕ) (age : Option ℕ) (two : Bool) → IsBeforeTimer timer age → started_age two (older timer age) ≡ age_after age two
  pub before : (timer : ℕ) (age : Option ℕ) → is_timed_out timer age ≡ false → IsBeforeTimer timer age
  pub late : (timer age : ℕ) → is_timed_out timer (Some age) ≡ true → timer ≤ age
