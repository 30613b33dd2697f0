-- Waiting times: what bounded skew says of how long a request waits.
use Rattle.std.specs.Prelude.{ℕ, ◌≡◌, ◌<◌, ◌≤◌, ◌+◌, ◌-◌, Bool, true, false, Some}
use Rattle.s2_clock.specs.Frames.{IsFrame}
use Rattle.s2_voter.specs.Timers.{timer_of}
use Rattle.s2_plant_laws.specs.FrameNumbers.{skew_of, stated_wait_of}
use Rattle.s2_plant_laws.specs.WorkSpan.{span, frame_work}
use Rattle.s2_plant_laws.specs.BoundedSkew.{SkewData, clock_at, is_good, since_resume, BoundedSkew, AllAsk, IsTickOf}

-- At the verdict of a tick: where the age has come to the timer, every good processor has posted, and no
-- request has waited longer than the skew and the timer.
pub record VerdictWaits (timer j skew : ℕ) (d : SkewData) : Type 0 where
  pub soon : since_resume d ≤ span j + timer
  pub all : (p age : ℕ) → p < 3 → is_good d.tainted p ≡ true → d.age ≡ Some age → timer ≤ age → (clock_at d.clocks p).full ≡ true
  pub waits : (p : ℕ) → p < 3 → is_good d.tainted p ≡ true → (clock_at d.clocks p).full ≡ true → d.ticks - (clock_at d.clocks p).posted ≤ skew + timer
  pub worked : (p : ℕ) → p < 3 → is_good d.tainted p ≡ true → (clock_at d.clocks p).full ≡ true → ((clock_at d.clocks p).run + 1 ≡ d.resumed_run + j) × (d.resumed + j ≤ d.ticks)

-- it holds at the verdict of every tick, a deciding one too
abbrev pub VerdictBoundsWait : Type 0
VerdictBoundsWait = (timer j skew : ℕ) (asks : ℕ → Bool) (mask : ℕ) (old new : SkewData) → span j ≤ j + skew → skew ≤ timer → AllAsk asks j old →
    IsTickOf timer asks mask old new → BoundedSkew timer j old → VerdictWaits timer j skew new

-- Between ticks: a good processor that works has not used up its span, a request waits for less than the skew
-- and the timer, two requests are posted at most the skew apart, and the age is below the skew while a good
-- processor works.
pub record WaitBounds (timer j skew : ℕ) (d : SkewData) : Type 0 where
  pub whole : since_resume d < span j + timer
  pub works : (p : ℕ) → p < 3 → is_good d.tainted p ≡ true → (clock_at d.clocks p).full ≡ false → since_resume d < span j
  pub waits : (p : ℕ) → p < 3 → is_good d.tainted p ≡ true → (clock_at d.clocks p).full ≡ true → d.ticks - (clock_at d.clocks p).posted < skew + timer
  pub apart : (p q : ℕ) → p < 3 → q < 3 → is_good d.tainted p ≡ true → is_good d.tainted q ≡ true → (clock_at d.clocks p).full ≡ true →
      (clock_at d.clocks q).full ≡ true → (clock_at d.clocks p).posted ≤ (clock_at d.clocks q).posted + skew
  pub young : (p age : ℕ) → p < 3 → is_good d.tainted p ≡ true → (clock_at d.clocks p).full ≡ false → d.age ≡ Some age → age < skew

-- bounded skew gives these bounds
abbrev pub SkewBoundsWait : Type 0
SkewBoundsWait = (timer j skew : ℕ) (d : SkewData) → span j ≤ j + skew → BoundedSkew timer j d → WaitBounds timer j skew d

-- The stated wait of a frame: a request waits for less than it between ticks, and for no longer than it at the
-- verdict. Two good processors post the same request at most the skew of the frame apart, and the age is below that
-- while one of them works.
pub record StatedWait : Type 0 where
  pub sum : (frame : ℕ) → skew_of frame + timer_of frame ≡ stated_wait_of frame
  pub verdict : (frame j p : ℕ) (asks : ℕ → Bool) (mask : ℕ) (old new : SkewData) → IsFrame frame → j ≤ frame_work frame → AllAsk asks j old → IsTickOf (timer_of frame) asks mask old new →
      BoundedSkew (timer_of frame) j old → p < 3 → is_good new.tainted p ≡ true → (clock_at new.clocks p).full ≡ true → new.ticks - (clock_at new.clocks p).posted ≤ stated_wait_of frame
  pub between : (frame j p : ℕ) (d : SkewData) → IsFrame frame → j ≤ frame_work frame → BoundedSkew (timer_of frame) j d → p < 3 → is_good d.tainted p ≡ true →
      (clock_at d.clocks p).full ≡ true → d.ticks - (clock_at d.clocks p).posted < stated_wait_of frame
  pub apart : (frame j p q : ℕ) (d : SkewData) → IsFrame frame → j ≤ frame_work frame → BoundedSkew (timer_of frame) j d → p < 3 → q < 3 → is_good d.tainted p ≡ true → is_good d.tainted q ≡ true →
      (clock_at d.clocks p).full ≡ true → (clock_at d.clocks q).full ≡ true → (clock_at d.clocks p).posted ≤ (clock_at d.clocks q).posted + skew_of frame
  pub young : (frame j p age : ℕ) (d : SkewData) → IsFrame frame → j ≤ frame_work frame → BoundedSkew (timer_of frame) j d → p < 3 → is_good d.tainted p ≡ true →
      (clock_at d.clocks p).full ≡ false → d.age ≡ Some age → age < skew_of frame
