use Rattle.std.proofs.Common.{◌≡◌, ◌≤◌, List, subst, sym}
use Rattle.std.specs.Prelude.{Bool, true, false, ◌||◌}
use Rattle.s2_clock.specs.TickWindow.{bits_shown, misses_in, window_after}
use Rattle.s2_clock.proofs.FairWindows.{recorded_fair}
use Rattle.s2_clock.proofs.window.TickWindow.record.Goals as goal
use Rattle.s2_clock.proofs.window.TickWindow.record.Goals.{then-fired, else-fired}

or_true : (f t x : Bool) → f ≡ true → x ≡ f → x ≡ (f || t)
or_true true t x h e = e
or_true false t x h e = absurd cc

or_false : (f t x : Bool) → f ≡ false → x ≡ t → x ≡ (f || t)
or_false false t x h e = e
or_false true t x h e = absurd cc

pub invariant_of-self : goal.invariant_of-self
invariant_of-self c =
    let was = bits_shown 64 c.self.inside.word in
    let fair = subst (λ (w : List Bool). c.args.tainted ≡ false → misses_in (window_after c.args.fired w) ≤ 4) (sym c.self.view_is) c.requires.fair in
    let one : c.if-fired.shifted ≡ (c.args.fired || c.args.tainted) = elim c.if-fired.branch [ then-fired w ↦ or_true c.args.fired c.args.tainted c.if-fired.shifted w.if-fired.true w.shifted-is | else-fired w ↦ or_false c.args.fired c.args.tainted c.if-fired.shifted w.if-fired.false w.shifted-is ] in
    subst (λ (w : List Bool). misses_in w ≤ 4) (sym c.shifted-self-inside.ensures)
    (subst (λ (b : Bool). misses_in (window_after b was) ≤ 4) (sym one) (recorded_fair c.args.fired c.args.tainted was c.self.invariant fair))
