-- The stated wait.
use Rattle.std.proofs.Common.{◌≡◌, ℕ, ◌+◌, ◌≤◌, refl, arith}
use Rattle.std.specs.Prelude.{Bool, true, false, if◌then◌else◌}
use Rattle.s2_clock.specs.Frames.{is_long}
use Rattle.s2_voter.specs.Timers.{timer_of}
use Rattle.s2_plant_laws.specs.FrameNumbers.{skew_of, stated_wait_of}
use Rattle.s2_plant_laws.specs.WaitingTime.{StatedWait}
use Rattle.s2_plant_laws.proofs.Spans.{frame_skew}
use Rattle.s2_plant_laws.proofs.SkewBounds.{skew_bounds_wait}
use Rattle.s2_plant_laws.proofs.TickBounds.{verdict_bounds_wait}

sum_by : (long : Bool) → (if long then 312 else 82) + (if long then 384 else 128) ≡ (if long then 696 else 210)
sum_by true = refl
sum_by false = refl

pub wait_sum : (frame : ℕ) → skew_of frame + timer_of frame ≡ stated_wait_of frame
wait_sum frame = sum_by (is_long frame)

room_by : (long : Bool) → (if long then 312 else 82) ≤ (if long then 384 else 128)
room_by true = omega arith
room_by false = omega arith

pub skew_below_timer : (frame : ℕ) → skew_of frame ≤ timer_of frame
skew_below_timer frame = room_by (is_long frame)

pub stated_wait : StatedWait
stated_wait = record {
  sum = wait_sum;
  verdict = λ frame j p asks mask old new f most ask tick h low good full.
      let w = (verdict_bounds_wait (timer_of frame) j (skew_of frame) asks mask old new (frame_skew frame j f h.needs most).1 (skew_below_timer frame) ask tick h).waits p low good full in
      let s = wait_sum frame in
      omega arith;
  between = λ frame j p d f most h low good full.
      let w = (skew_bounds_wait (timer_of frame) j (skew_of frame) d (frame_skew frame j f h.needs most).1 h).waits p low good full in
      let s = wait_sum frame in
      omega arith;
  apart = λ frame j p q d f most h low_p low_q good_p good_q full_p full_q. (skew_bounds_wait (timer_of frame) j (skew_of frame) d (frame_skew frame j f h.needs most).1 h).apart p q low_p low_q good_p good_q full_p full_q;
  young = λ frame j p age d f most h low good idle is. (skew_bounds_wait (timer_of frame) j (skew_of frame) d (frame_skew frame j f h.needs most).1 h).young p age low good idle is;
}
