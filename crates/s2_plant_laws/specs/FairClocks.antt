-- What the rule of fair clocks says of a tick.
use Rattle.std.specs.Prelude.{ℕ, ◌≡◌, ◌<◌, ◌≤◌, List, Bool, false, None, Some}
use Rattle.std.specs.declared.option.Option.{Option}
use Rattle.s2_clock.specs.declared.numbers.TheConstants.{MISSES_ALLOWED}
use Rattle.s2_clock.specs.declared.watch.Slow.{Slow}
use Rattle.s2_clock.specs.TickWindow.{misses_in}
use Rattle.s2_clock.specs.ClockWatch.{is_tainted, window_at, windows_after, misses_after, slow_of, fair_windows}

-- each of the three missed no more of its last ticks than is allowed, the tainted one too
abbrev pub AreFair : List (List Bool) → Type 0
AreFair windows = (p : ℕ) → p < 3 → misses_in (window_at windows p) ≤ MISSES_ALLOWED

-- no processor is too slow: each that is not tainted would have missed no more than is allowed
abbrev pub NoneIsSlow : ℕ → Option ℕ → List (List Bool) → Type 0
NoneIsSlow mask tainted windows = (p : ℕ) → p < 3 → is_tainted tainted p ≡ false → misses_after mask windows p ≤ MISSES_ALLOWED

-- the processor named is the least that is too slow, with its misses
pub record IsLeastSlow (mask : ℕ) (tainted : Option ℕ) (windows : List (List Bool)) (slow : Slow) : Type 0 where
  pub low : slow.p < 3
  pub good : is_tainted tainted slow.p ≡ false
  pub misses : slow.misses ≡ misses_after mask windows slow.p
  pub most : MISSES_ALLOWED < slow.misses
  pub least : (p : ℕ) → p < slow.p → is_tainted tainted p ≡ false → misses_after mask windows p ≤ MISSES_ALLOWED

-- a tick is refused exactly where a processor is too slow, and the windows stay fair
pub record FairTicks : Type 0 where
  pub start : AreFair fair_windows
  pub none : (mask : ℕ) (tainted : Option ℕ) (windows : List (List Bool)) → slow_of mask tainted windows ≡ None → NoneIsSlow mask tainted windows
  pub allowed : (mask : ℕ) (tainted : Option ℕ) (windows : List (List Bool)) → NoneIsSlow mask tainted windows → slow_of mask tainted windows ≡ None
  pub least : (mask : ℕ) (tainted : Option ℕ) (windows : List (List Bool)) (slow : Slow) → slow_of mask tainted windows ≡ Some slow → IsLeastSlow mask tainted windows slow
  pub stays : (mask : ℕ) (tainted : Option ℕ) (windows : List (List Bool)) → AreFair windows → slow_of mask tainted windows ≡ None → AreFair (windows_after mask tainted windows)
