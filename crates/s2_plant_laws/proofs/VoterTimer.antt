-- The voter's age and timer.
use Rattle.std.proofs.Common.{◌≡◌, ℕ, ◌+◌, ◌<◌, ◌≤◌, refl, ap, arith}
use Rattle.std.specs.Prelude.{Bool, true, false, Some, None, nat_lt, nat_le, if◌then◌else◌}
use Rattle.std.specs.declared.option.Option.{Option}
use Rattle.std.proofs.lemmas.Bool.Decides.{nat_tests}
use Rattle.s2_voter.specs.VoterCalls.{started_age, older}
use Rattle.s2_voter.specs.Verdicts.{is_timed_out}
use Rattle.s2_plant_laws.specs.BoundedSkew.{IsBeforeTimer, age_after}
use Rattle.s2_plant_laws.specs.VoterTimer.{VoterTimer}

grows : (timer : ℕ) (age : Option ℕ) (two : Bool) → IsBeforeTimer timer age → started_age two (older timer age) ≡ age_after age two
grows timer None true h = refl
grows timer None false h = refl
grows timer (Some age) two h =
    let test : nat_lt age timer ≡ true = grind (arith, nat_tests) in ap (λ (b : Bool). Some (if b then age + 1 else age)) test

not_late : (timer n : ℕ) → nat_le timer n ≡ false → n < timer
not_late timer n h = grind (arith, nat_tests)

before : (timer : ℕ) (age : Option ℕ) → is_timed_out timer age ≡ false → IsBeforeTimer timer age
before timer None h = tt
before timer (Some age) h = not_late timer age h

late : (timer age : ℕ) → is_timed_out timer (Some age) ≡ true → timer ≤ age
late timer age h = grind (arith, nat_tests)

pub voter_timer : VoterTimer
voter_timer = record { grows = grows; before = before; late = late }
