-- The rule of fair clocks: no processor that is not tainted misses more than 4 of the last 64 ticks.
use Rattle.std.specs.Prelude.{ℕ, zero, suc, ◌/◌, ◌%◌, ◌^◌, ◌==◌, ◌&&◌, ◌||◌, not, nat_lt, Bool, false, List, [], ◌∷◌, slice_index_or, Some, None, Ok, Err, if◌then◌else◌}
use Rattle.std.specs.declared.option.Option.{Option}
use Rattle.std.specs.declared.result.Result.{Result}
use Rattle.s2_clock.specs.declared.numbers.TheConstants.{MISSES_ALLOWED}
use Rattle.s2_clock.specs.declared.watch.Slow.{Slow}
use Rattle.s2_clock.specs.TickWindow.{misses_in, window_after, window_fired, fair_window}

-- whether a mask has processor p fire: bit p says so
abbrev pub is_firing : ℕ → ℕ → Bool
is_firing mask p = (mask / 2 ^ p) % 2 == 1

-- whether processor p is the tainted one
abbrev pub is_tainted : Option ℕ → ℕ → Bool
is_tainted None p = false
is_tainted (Some t) p = t == p

-- the tainted processor is recorded as fired, whatever the mask says
abbrev pub is_recorded_as_fired : ℕ → Option ℕ → ℕ → Bool
is_recorded_as_fired mask tainted p = is_firing mask p || is_tainted tainted p

-- the ticks of processor p
abbrev pub window_at : List (List Bool) → ℕ → List Bool
window_at windows p = slice_index_or windows p []

-- the ticks of processor p after a tick with a mask
abbrev pub window_next : ℕ → Option ℕ → List (List Bool) → ℕ → List Bool
window_next mask tainted windows p = window_after (is_recorded_as_fired mask tainted p) (window_at windows p)

-- the ticks of all three after a tick with a mask
abbrev pub windows_after : ℕ → Option ℕ → List (List Bool) → List (List Bool)
windows_after mask tainted windows =
    window_next mask tainted windows 0 ∷ window_next mask tainted windows 1 ∷ window_next mask tainted windows 2 ∷ []

-- the ticks of all three after so many ticks with a mask
abbrev pub windows_run : ℕ → Option ℕ → ℕ → List (List Bool) → List (List Bool)
windows_run mask tainted zero windows = windows
windows_run mask tainted (suc n) windows = windows_after mask tainted (windows_run mask tainted n windows)

-- the ticks of all three after so many ticks at which each is recorded as fired
abbrev pub windows_fired : ℕ → List (List Bool) → List (List Bool)
windows_fired n windows = window_fired n (window_at windows 0) ∷ window_fired n (window_at windows 1) ∷ window_fired n (window_at windows 2) ∷ []

-- each processor fires with a mask, the tainted one aside: no clock is too slow for a tick with it
abbrev pub is_covered : ℕ → Option ℕ → Bool
is_covered mask tainted = is_recorded_as_fired mask tainted 0 && (is_recorded_as_fired mask tainted 1 && is_recorded_as_fired mask tainted 2)

-- the ticks that a processor would have missed, this one included
abbrev pub misses_after : ℕ → List (List Bool) → ℕ → ℕ
misses_after mask windows p = misses_in (window_after (is_firing mask p) (window_at windows p))

-- a processor is too slow for a tick where it is not tainted and would have missed more than is allowed
abbrev pub is_slow : ℕ → Option ℕ → List (List Bool) → ℕ → Bool
is_slow mask tainted windows p = not (is_tainted tainted p) && nat_lt MISSES_ALLOWED (misses_after mask windows p)

-- what is said of a processor that is too slow
abbrev pub slow_at : ℕ → Option ℕ → List (List Bool) → ℕ → Option Slow
slow_at mask tainted windows p =
    if is_slow mask tainted windows p then Some (record { p = p; misses = misses_after mask windows p }) else None

-- the first that is there
abbrev pub first_some : List (Option Slow) → Option Slow
first_some [] = None
first_some (None ∷ others) = first_some others
first_some (Some slow ∷ others) = Some slow

-- the least processor that is too slow for a tick, and how many ticks it would have missed
abbrev pub slow_of : ℕ → Option ℕ → List (List Bool) → Option Slow
slow_of mask tainted windows =
    first_some (slow_at mask tainted windows 0 ∷ slow_at mask tainted windows 1 ∷ slow_at mask tainted windows 2 ∷ [])

-- a tick is refused exactly where a processor is too slow
abbrev pub tick_answer : Option Slow → Result (Unit {0}) Slow
tick_answer None = Ok tt
tick_answer (Some slow) = Err slow

-- these ticks after a tick, or the old ones where it was refused
abbrev pub windows_unless : Option Slow → List (List Bool) → List (List Bool) → List (List Bool)
windows_unless None new old = new
windows_unless (Some slow) new old = old

-- the ticks of all three after a tick: a refused one leaves them as they are
abbrev pub watch_after : ℕ → Option ℕ → List (List Bool) → List (List Bool)
watch_after mask tainted windows = windows_unless (slow_of mask tainted windows) (windows_after mask tainted windows) windows

-- the ticks before the start count as fired
abbrev pub fair_windows : List (List Bool)
fair_windows = fair_window ∷ fair_window ∷ fair_window ∷ []
