-- A window stays fair.
use Rattle.std.proofs.Common.{◌≡◌, ℕ, zero, suc, ◌≤◌, List, [], ◌∷◌, take, refl, arith}
use Rattle.std.specs.Prelude.{Bool, true, false, ◌||◌}
use Rattle.s2_clock.specs.TickWindow.{misses_in, window_after, window_fired}

-- the newest ticks of a list have no more misses than all of it
pub misses-take : (n : ℕ) (w : List Bool) → misses_in (take n w) ≤ misses_in w
misses-take zero w = omega arith
misses-take (suc n) [] = omega arith
misses-take (suc n) (true ∷ w) = let h = misses-take n w in omega arith
misses-take (suc n) (false ∷ w) = let h = misses-take n w in omega arith

-- a firing adds no miss
pub misses-fired : (w : List Bool) → misses_in (window_after true w) ≤ misses_in w
misses-fired w = let h = misses-take 63 w in omega arith

-- of the tainted processor each tick is recorded as fired
pub recorded_fair : (fired tainted : Bool) (w : List Bool) → misses_in w ≤ 4 → (tainted ≡ false → misses_in (window_after fired w) ≤ 4) →
    misses_in (window_after (fired || tainted) w) ≤ 4
recorded_fair true tainted w old new = let h = misses-fired w in omega arith
recorded_fair false true w old new = let h = misses-fired w in omega arith
recorded_fair false false w old new = new refl

-- nor do many
pub fired_fair : (n : ℕ) (w : List Bool) → misses_in w ≤ 4 → misses_in (window_fired n w) ≤ 4
fired_fair zero w h = h
fired_fair (suc n) w h = let one = misses-fired (window_fired n w) in let rest = fired_fair n w h in omega arith
