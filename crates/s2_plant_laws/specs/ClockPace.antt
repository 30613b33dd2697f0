-- How far one processor may be since the last resume.
--
-- All good processors are equal at a resume: at the start, at a decision of the voter, at a word copied in
-- a repair. From there each runs cycles until it posts its next request, and then waits for the decision.
-- j is the number of firings of work up to the posting, `from` the run count at the resume, and `elapsed`
-- the number of ticks since.
use Rattle.std.specs.Prelude.{ℕ, ◌≡◌, ◌<◌, ◌≤◌, ◌+◌, ◌%◌, ◌↔◌, Bool, true, false, List, nat_lt, if◌then◌else◌}
use Rattle.s2_clock.specs.declared.numbers.TheConstants.{MISSES_ALLOWED, REFRESH_PERIOD}
use Rattle.s2_clock.specs.TickWindow.{misses_in, window_after}
use Rattle.s2_plant_laws.specs.WorkSpan.{span}
use Rattle.s2_plant_laws.specs.TickHistory.{misses_allowed, refresh_from, refreshes}

-- what the bounds read of one processor: its run count, the number of its next firing, whether its port is
-- full, the tick of its last posting, and its last ticks
pub record ClockData : Type 0 where
  pub run : ℕ
  pub fires : ℕ
  pub full : Bool
  pub posted : ℕ
  pub watch : List Bool

-- a firing of work: where the processor asks for the outside it posts the request, and else it runs a cycle
abbrev pub after_work : Bool → ℕ → ClockData → ClockData
after_work true tick c = record c { full = true; posted = tick }
after_work false tick c = record c { run = c.run + 1 }

-- a processor whose port is full waits
abbrev pub after_work_unless : Bool → Bool → ℕ → ClockData → ClockData
after_work_unless true asks tick c = c
after_work_unless false asks tick c = after_work asks tick c

-- a firing, by its number: the last ones of a period go to refresh
abbrev pub after_firing : Bool → ℕ → ClockData → ClockData
after_firing asks tick c =
    let next = record c { fires = (c.fires + 1) % REFRESH_PERIOD; watch = window_after true c.watch } in
    if nat_lt c.fires refresh_from then after_work_unless c.full asks tick next else next

-- a missed tick is recorded, and nothing else happens
abbrev pub after_miss : ClockData → ClockData
after_miss c = record c { watch = window_after false c.watch }

-- one processor after a tick, at which it fires or misses; `asks` says whether it asks for the outside
abbrev pub clock_after : Bool → ℕ → Bool → ClockData → ClockData
clock_after asks tick fires c = if fires then after_firing asks tick c else after_miss c

-- Progress of work: some number of misses fits the ticks, the run count and the number of the next firing.
-- Each tick was missed or fired, and each firing ran a cycle or went to refresh.
pub record WorkProgress (j from elapsed : ℕ) (c : ClockData) : Type 0 where
  pub short : c.run < from + j
  pub misses : ℕ
  pub firings : ℕ
  pub split : misses + firings ≡ elapsed
  pub within : misses ≤ misses_allowed elapsed c.watch
  pub fits : from + firings ≡ c.run + refreshes c.fires firings

-- A request waits that was posted after j ticks at least, and within the span of j.
pub record PostedInTime (j resumed from elapsed : ℕ) (c : ClockData) : Type 0 where
  pub at : c.run + 1 ≡ from + j
  pub worked : resumed + j ≤ c.posted
  pub soon : c.posted ≤ resumed + span j
  pub past : c.posted ≤ resumed + elapsed

-- a processor works until its port is full, and then its request waits
abbrev pub ProgressBy : Bool → ℕ → ℕ → ℕ → ℕ → ClockData → Type 0
ProgressBy false j resumed from elapsed c = WorkProgress j from elapsed c
ProgressBy true j resumed from elapsed c = PostedInTime j resumed from elapsed c

-- the bounds of one good processor
pub record BoundedClock (j resumed from elapsed : ℕ) (c : ClockData) : Type 0 where
  pub fires : c.fires < REFRESH_PERIOD
  pub fair : misses_in c.watch ≤ MISSES_ALLOWED
  pub progress : ProgressBy c.full j resumed from elapsed c

-- the processor asks for the outside exactly before the last of j firings of work
abbrev pub AsksAt : ℕ → ℕ → Bool → ClockData → Type 0
AsksAt j from asks c = (asks ≡ true) ↔ (c.run + 1 ≡ from + j)

-- a tick of a fair clock leaves a processor within its bounds
abbrev pub TickBoundsClock : Type 0
TickBoundsClock = (j resumed from elapsed : ℕ) (asks fires : Bool) (c : ClockData) → 1 ≤ j → AsksAt j from asks c →
    misses_in (window_after fires c.watch) ≤ MISSES_ALLOWED → BoundedClock j resumed from elapsed c →
    BoundedClock j resumed from (elapsed + 1) (clock_after asks (resumed + elapsed + 1) fires c)
