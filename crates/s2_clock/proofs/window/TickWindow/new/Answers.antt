use Rattle.std.proofs.Common.{◌≡◌, ◌≤◌, refl, arith}
use Rattle.s2_clock.specs.TickWindow.{bits_shown, misses_in, fair_window}
use Rattle.s2_clock.proofs.window.TickWindow.new.Goals as goal

none_shown : bits_shown 64 0 ≡ fair_window
unfolding bits_shown
none_shown = refl

none_missed : misses_in (bits_shown 64 0) ≤ 4
unfolding bits_shown
none_missed = omega arith

pub invariant_of-result : goal.invariant_of-result
invariant_of-result c = none_missed

pub returns : goal.returns
returns c = none_shown
