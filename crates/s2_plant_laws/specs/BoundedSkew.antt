-- Bounded skew: how far three processors and the age of their request may be since the last resume, and
-- that each kind of step keeps to it. Nothing is said of the tainted processor.
use Rattle.std.specs.Prelude.{ℕ, ◌≡◌, ◌<◌, ◌≤◌, ◌+◌, ◌-◌, Bool, true, false, not, nat_lt, List, [], Some, None, length, slice_index_or, ◌⊎◌}
use Rattle.std.specs.declared.option.Option.{Option}
use Rattle.s2_clock.specs.declared.numbers.TheConstants.{MISSES_ALLOWED, REFRESH_PERIOD}
use Rattle.s2_clock.specs.TickWindow.{misses_in}
use Rattle.s2_clock.specs.ClockWatch.{is_firing, is_tainted}
use Rattle.s2_plant_laws.specs.WorkSpan.{span}
use Rattle.s2_plant_laws.specs.ClockPace.{ClockData, clock_after, BoundedClock, AsksAt}

-- what the bounds read of a machine: three processors, whether each has a latch, the tainted one, the age of
-- the second latch, the tick count, and the tick and run count of the last resume
pub record SkewData : Type 0 where
  pub clocks : List ClockData
  pub latched : List Bool
  pub tainted : Option ℕ
  pub age : Option ℕ
  pub ticks : ℕ
  pub resumed : ℕ
  pub resumed_run : ℕ

-- what is read where there is no processor of a number
abbrev pub blank_clock : ClockData
blank_clock = record { run = 0; fires = 0; full = false; posted = 0; watch = [] }

-- processor p
abbrev pub clock_at : List ClockData → ℕ → ClockData
clock_at clocks p = slice_index_or clocks p blank_clock

-- whether processor p has a latch
abbrev pub is_latched : List Bool → ℕ → Bool
is_latched latched p = slice_index_or latched p false

-- a processor is good where it is not the tainted one
abbrev pub is_good : Option ℕ → ℕ → Bool
is_good tainted p = not (is_tainted tainted p)

-- one where there is a latch
abbrev pub latch_count : Bool → ℕ
latch_count true = 1
latch_count false = 0

-- whether at least two processors have a latch
abbrev pub are_two_latched : List Bool → Bool
are_two_latched latched = nat_lt 1 (latch_count (is_latched latched 0) + latch_count (is_latched latched 1) + latch_count (is_latched latched 2))

-- the age after a tick without a decision: it begins with the second latch
abbrev pub age_after : Option ℕ → Bool → Option ℕ
age_after (Some age) two = Some (age + 1)
age_after None true = Some 0
age_after None false = None

-- the age is below the bound of the timer, so no decision is due by it
abbrev pub IsBeforeTimer : ℕ → Option ℕ → Type 0
IsBeforeTimer timer None = Unit {0}
IsBeforeTimer timer (Some age) = age < timer

-- the ticks since the last resume
abbrev pub since_resume : SkewData → ℕ
since_resume d = d.ticks - d.resumed

-- the second latch was taken between j ticks and the span of j after the last resume; while there are fewer
-- than two, less than that span has passed
abbrev pub AgeBounds : ℕ → ℕ → ℕ → Option ℕ → Type 0
AgeBounds timer j elapsed None = elapsed < span j
AgeBounds timer j elapsed (Some age) = (age < timer) × (age + j ≤ elapsed) × (elapsed ≤ age + span j)

-- each good processor is within its bounds
abbrev pub AllBounded : ℕ → ℕ → ℕ → ℕ → Option ℕ → List ClockData → Type 0
AllBounded j resumed from elapsed tainted clocks =
    (p : ℕ) → p < 3 → is_good tainted p ≡ true → BoundedClock j resumed from elapsed (clock_at clocks p)

-- the skew is bounded, where the next posting needs j firings of work from the last resume on
pub record BoundedSkew (timer j : ℕ) (d : SkewData) : Type 0 where
  pub needs : 1 ≤ j
  pub past : d.resumed ≤ d.ticks
  pub each : AllBounded j d.resumed d.resumed_run (since_resume d) d.tainted d.clocks
  pub age : AgeBounds timer j (since_resume d) d.age

-- every good processor asks for the outside after the same work
abbrev pub AllAsk : (ℕ → Bool) → ℕ → SkewData → Type 0
AllAsk asks j d = (p : ℕ) → p < 3 → is_good d.tainted p ≡ true → AsksAt j d.resumed_run (asks p) (clock_at d.clocks p)

-- The new machine is the old one at the verdict of a tick with a mask: each good processor fired or missed,
-- its clock is fair, it is latched exactly where its port is full, and the age grew.
pub record IsTickOf (timer : ℕ) (asks : ℕ → Bool) (mask : ℕ) (old new : SkewData) : Type 0 where
  pub ticks : new.ticks ≡ old.ticks + 1
  pub resumed : new.resumed ≡ old.resumed
  pub run : new.resumed_run ≡ old.resumed_run
  pub tainted : new.tainted ≡ old.tainted
  pub clocks : (p : ℕ) → p < 3 → is_good old.tainted p ≡ true → clock_at new.clocks p ≡ clock_after (asks p) new.ticks (is_firing mask p) (clock_at old.clocks p)
  pub fair : (p : ℕ) → p < 3 → is_good old.tainted p ≡ true → misses_in (clock_at new.clocks p).watch ≤ MISSES_ALLOWED
  pub three : length new.latched ≡ 3
  pub latches : (p : ℕ) → p < 3 → is_good old.tainted p ≡ true → is_latched new.latched p ≡ (clock_at new.clocks p).full
  pub age : IsBeforeTimer timer old.age → new.age ≡ age_after old.age (are_two_latched new.latched)

-- a tick after which no decision is due by the timer leaves the skew bounded
abbrev pub TickBoundsSkew : Type 0
TickBoundsSkew = (timer j : ℕ) (asks : ℕ → Bool) (mask : ℕ) (old new : SkewData) → AllAsk asks j old → IsTickOf timer asks mask old new →
    IsBeforeTimer timer new.age → BoundedSkew timer j old → BoundedSkew timer j new

-- the age became absent, since fewer than two latches are left
pub record LosesAge (new : SkewData) : Type 0 where
  pub age : new.age ≡ None
  pub few : are_two_latched new.latched ≡ false
  pub three : length new.latched ≡ 3
  pub latches : (p : ℕ) → p < 3 → is_good new.tainted p ≡ true → is_latched new.latched p ≡ (clock_at new.clocks p).full

-- The new machine is the old one after an act of the script: no more processors are good than before, and of
-- these nothing changed.
pub record IsActOn (old new : SkewData) : Type 0 where
  pub ticks : new.ticks ≡ old.ticks
  pub resumed : new.resumed ≡ old.resumed
  pub run : new.resumed_run ≡ old.resumed_run
  pub good : (p : ℕ) → p < 3 → is_good new.tainted p ≡ true → is_good old.tainted p ≡ true
  pub clocks : (p : ℕ) → p < 3 → is_good new.tainted p ≡ true → clock_at new.clocks p ≡ clock_at old.clocks p
  pub age : (new.age ≡ old.age) ⊎ LosesAge new

-- an act of the script leaves the skew bounded
abbrev pub ActBoundsSkew : Type 0
ActBoundsSkew = (timer j : ℕ) (old new : SkewData) → IsActOn old new → BoundedSkew timer j old → BoundedSkew timer j new

-- a good processor right after a resume
pub record ClockAtResume (from : ℕ) (c : ClockData) : Type 0 where
  pub run : c.run ≡ from
  pub fires : c.fires < REFRESH_PERIOD
  pub full : c.full ≡ false
  pub fair : misses_in c.watch ≤ MISSES_ALLOWED

-- a machine right after a resume: no time has passed, and no processor is latched
pub record AtResume (d : SkewData) : Type 0 where
  pub now : d.resumed ≡ d.ticks
  pub each : (p : ℕ) → p < 3 → is_good d.tainted p ≡ true → ClockAtResume d.resumed_run (clock_at d.clocks p)
  pub age : d.age ≡ None

-- the skew is bounded right after a resume: at the start, after a decision, while a repair copies, at its end
abbrev pub ResumeBoundsSkew : Type 0
ResumeBoundsSkew = (timer j : ℕ) (d : SkewData) → 1 ≤ j → AtResume d → BoundedSkew timer j d
