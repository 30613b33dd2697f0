use Rattle.std.proofs.Common.{◌≤◌, List, ap, sym, subst, ◌∙◌}
use Rattle.std.specs.Prelude.{Bool}
use Rattle.s2_clock.specs.TickWindow.{misses_in, window_fired}
use Rattle.s2_clock.proofs.FairWindows.{fired_fair}
use Rattle.s2_clock.proofs.window.TickWindow.fire.Goals as goal

pub invariant_of-self : goal.invariant_of-self
invariant_of-self c = subst (λ (w : List Bool). misses_in w ≤ 4) (sym c.fired-self-inside.ensures) (fired_fair c.args.n _ c.self.invariant)

pub returns-clause-window : goal.returns-clause-window
returns-clause-window c = c.fired-self-inside.ensures ∙ ap (window_fired c.args.n) c.self.view_is

pub returns-clause-fair : goal.returns-clause-fair
returns-clause-fair c = subst (λ (w : List Bool). misses_in w ≤ 4) c.self.view_is c.self.invariant
