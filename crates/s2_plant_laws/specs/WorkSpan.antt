-- How many ticks so many firings of work may take.
use Rattle.std.specs.Prelude.{ℕ, ◌≡◌, ◌≤◌, ◌+◌, ◌-◌, ◌*◌, ◌/◌, ◌%◌}
use Rattle.s2_clock.specs.declared.numbers.TheConstants.{WINDOW, MISSES_ALLOWED, REFRESH_PERIOD, REFRESH_FIRINGS, FRAME, LONGEST_FRAME}
use Rattle.s2_clock.specs.Frames.{IsFrame}
use Rattle.s2_plant_laws.specs.declared.numbers.TheConstants.{SKEW_BOUND, LONG_SKEW_BOUND}
use Rattle.s2_plant_laws.specs.FrameNumbers.{skew_of}

-- into how many windows so many ticks fall, the last one begun
abbrev pub windows_of : ℕ → ℕ
windows_of ticks = (ticks + (WINDOW - 1)) / WINDOW

-- into how many refresh periods, the last one begun
abbrev pub periods_of : ℕ → ℕ
periods_of ticks = (ticks + (REFRESH_PERIOD - 1)) / REFRESH_PERIOD

-- the firings of work that so many ticks hold at least: in each window some ticks are missed, in each
-- refresh period some firings are lost
abbrev pub sure_work : ℕ → ℕ
sure_work ticks = ticks - MISSES_ALLOWED * windows_of ticks - REFRESH_FIRINGS * periods_of ticks

-- The span of work: so many ticks hold j firings of work, whatever the clock.
-- 256 ticks hold 238 firings of work at least: 16 are missed and 2 lost. 64 ticks hold 60, and of the
-- first 60 in a refresh period 2 are lost.
abbrev pub span : ℕ → ℕ
span j = j + 18 * ((j - 1) / 238) + 4 * (((j - 1) % 238 + 62) / 60) + 2

-- it is the least number of ticks that hold j firings of work
abbrev pub SpanIsLeast : Type 0
SpanIsLeast = (j : ℕ) → 1 ≤ j → (j ≤ sure_work (span j)) × ((t : ℕ) → j ≤ sure_work t → span j ≤ t)

-- A frame needs one firing more than it has run cycles: at its end the synchronisation is posted.
abbrev pub frame_work : ℕ → ℕ
frame_work frame = frame + 1

-- the spans of a frame's work, and by how much a span exceeds the work; with every frame, by its skew at most
pub record SpanBounds : Type 0 where
  pub frame : span (frame_work FRAME) ≡ 1107
  pub longest_frame : span (frame_work LONGEST_FRAME) ≡ 4409
  pub skew : (j : ℕ) → 1 ≤ j → j ≤ frame_work FRAME → (j ≤ span j) × (span j ≤ j + SKEW_BOUND)
  pub long_skew : (j : ℕ) → 1 ≤ j → j ≤ frame_work LONGEST_FRAME → (j ≤ span j) × (span j ≤ j + LONG_SKEW_BOUND)
  pub every_frame : (frame j : ℕ) → IsFrame frame → 1 ≤ j → j ≤ frame_work frame → (j ≤ span j) × (span j ≤ j + skew_of frame)
  pub sevenfold : (j : ℕ) → 1 ≤ j → span j ≤ 7 * j
