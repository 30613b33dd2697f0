-- The last 64 ticks of one processor, the newest first: true where it fired.
use Rattle.std.specs.Prelude.{ℕ, zero, suc, ◌+◌, ◌/◌, ◌%◌, ◌==◌, Bool, true, false, List, [], ◌∷◌, take, replicate}
use Rattle.s2_clock.specs.declared.numbers.TheConstants.{WINDOW}

-- one tick: 1 where it was missed
abbrev pub miss_of : Bool → ℕ
miss_of true = 0
miss_of false = 1

-- how many ticks of a list were missed
abbrev pub misses_in : List Bool → ℕ
misses_in [] = 0
misses_in (fired ∷ before) = miss_of fired + misses_in before

-- the window after one more tick: that one first, and the oldest forgotten
abbrev pub window_after : Bool → List Bool → List Bool
window_after fired window = take WINDOW (fired ∷ window)

-- the window after so many firings
abbrev pub window_fired : ℕ → List Bool → List Bool
window_fired zero window = window
window_fired (suc n) window = window_after true (window_fired n window)

-- the window of a processor that never missed a tick
abbrev pub fair_window : List Bool
fair_window = replicate WINDOW true

-- the ticks that the low bits of a word stand for, the lowest bit first: a bit of 1 is a miss
unfoldable pub bits_shown : ℕ → ℕ → List Bool
bits_shown zero word = []
bits_shown (suc n) word = (word % 2 == 0) ∷ bits_shown n (word / 2)
