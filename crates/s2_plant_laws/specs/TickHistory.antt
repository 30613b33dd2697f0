-- A processor's ticks as a list, the newest first: true where it fired. What a fair clock does in them.
use Rattle.std.specs.Prelude.{ℕ, ◌<◌, ◌≤◌, ◌+◌, ◌-◌, ◌*◌, ◌/◌, ◌%◌, Bool, List, [], ◌∷◌, length, take, nat_lt, ◌&&◌, if◌then◌else◌}
use Rattle.s2_clock.specs.declared.numbers.TheConstants.{WINDOW, MISSES_ALLOWED, REFRESH_PERIOD, REFRESH_FIRINGS}
use Rattle.s2_clock.specs.TickWindow.{misses_in}
use Rattle.s2_plant_laws.specs.WorkSpan.{sure_work, span}

-- how many of the last ticks may have been missed: what is allowed of each whole window, and those that
-- the window shows of the rest
abbrev pub misses_allowed : ℕ → List Bool → ℕ
misses_allowed ticks window = MISSES_ALLOWED * (ticks / WINDOW) + misses_in (take (ticks % WINDOW) window)

-- the number of the first firing in a period that goes to refresh
abbrev pub refresh_from : ℕ
refresh_from = REFRESH_PERIOD - REFRESH_FIRINGS

-- how many of the last n firings had number k, where the next has number f
abbrev pub firings_numbered : ℕ → ℕ → ℕ → ℕ
firings_numbered k f n = (n + (REFRESH_PERIOD + k - f)) / REFRESH_PERIOD - (REFRESH_PERIOD + k - f) / REFRESH_PERIOD

-- how many of the last n firings went to refresh, where the next has number f: the last two of a period do
abbrev pub refreshes : ℕ → ℕ → ℕ
refreshes f n = firings_numbered refresh_from f n + firings_numbered (refresh_from + 1) f n

-- the clock was fair at each tick of the list
abbrev pub IsFairHistory : List Bool → Type 0
IsFairHistory [] = Unit {0}
IsFairHistory (fired ∷ before) = (misses_in (take WINDOW (fired ∷ before)) ≤ MISSES_ALLOWED) × IsFairHistory before

-- the number of the next firing after these ticks, where that before them was f
abbrev pub firing_after : ℕ → List Bool → ℕ
firing_after f [] = f
firing_after f (fired ∷ before) = if fired then (firing_after f before + 1) % REFRESH_PERIOD else firing_after f before

-- a tick that fires with number f does work where that number does not go to refresh
abbrev pub work_at : Bool → ℕ → ℕ
work_at fired f = if fired && nat_lt f refresh_from then 1 else 0

-- the firings of work in a list of ticks, where the number of the first firing is f
abbrev pub work_in : ℕ → List Bool → ℕ
work_in f [] = 0
work_in f (fired ∷ before) = work_in f before + work_at fired (firing_after f before)

-- the ticks of a fair clock hold the sure work, and j firings of work from the span of j on
pub record DoesWork (f : ℕ) (ticks : List Bool) : Type 0 where
  pub work : sure_work (length ticks) ≤ work_in f ticks
  pub within : (j : ℕ) → 1 ≤ j → span j ≤ length ticks → j ≤ work_in f ticks

-- every fair clock does
abbrev pub FairClockWorks : Type 0
FairClockWorks = (f : ℕ) (ticks : List Bool) → f < REFRESH_PERIOD → IsFairHistory ticks → DoesWork f ticks
