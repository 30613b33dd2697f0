use Rattle.std.proofs.Common.{◌≡◌, ℕ, suc, ◌+◌, List, refl, ap, sym, subst, ◌∙◌, arith, below_more}
use Rattle.std.specs.Prelude.{Bool, false, None, Some, is_some}
use Rattle.std.specs.declared.option.Option.{Option}
use Rattle.s2_clock.specs.declared.watch.Slow.{Slow}
use Rattle.s2_clock.specs.ClockWatch.{slow_of, windows_after, windows_run}
use Rattle.s2_clock.proofs.watch.Watch.run.Goals as goal

none_from : (o : Option Slow) → is_some o ≡ false → o ≡ None
none_from None h = refl
none_from (Some slow) h = absurd cc

pub loop-i-preserved : goal.loop-i-preserved
loop-i-preserved c =
    let fair : slow_of c.args.mask c.args.tainted c.loop-i.self ≡ None = none_from _ (ap is_some (sym c.slow.ensures) ∙ (sym c.is_some.ensures ∙ c.if-is_some.false)) in
    let next : suc c.loop-i.i ≡ c.loop-i.i + 1 = omega arith in
    record {
      ran = c.record.ensures ∙ (ap (windows_after c.args.mask c.args.tainted) c.loop-i.invariant.ran ∙ ap (λ (k : ℕ). windows_run c.args.mask c.args.tainted k c.args.self.now) next);
      lawful = below_more (λ (j : ℕ). slow_of c.args.mask c.args.tainted (windows_run c.args.mask c.args.tainted j c.args.self.now) ≡ None) _ c.loop-i.invariant.lawful (subst (λ (w : List (List Bool)). slow_of c.args.mask c.args.tainted w ≡ None) c.loop-i.invariant.ran fair);
    }
