use Rattle.std.proofs.Common.{◌≡◌, ℕ, suc, ◌+◌, ◌<◌, refl, sym, ap, subst, ◌∙◌, arith, below_more}
use Rattle.std.specs.Prelude.{true, false}
use Rattle.s2_triplex.specs.R2000Triplex.{r2000_triplex}
use Rattle.s2_triplex.specs.ModuleState.{ModuleState}
use Rattle.s2_triplex.specs.ModuleFiring.{is_posting, module_fired}
use Rattle.s2_module.specs.ModuleLeads.{module_ticks, posts_at}
use Rattle.s2_module.proofs.TurnRuns.{quiet_more, ticks_more}
use Rattle.s2_module.proofs.module.Module.lead.Goals as goal

pub loop-quiet-init : goal.loop-quiet-init
unfolding module_ticks
loop-quiet-init c = record { within = omega arith; after = refl; silent = λ j h. absurd (omega (arith, h)) }

pub returns-then-quiet-n-clause-quiet : goal.returns-then-quiet-n-clause-quiet
returns-then-quiet-n-clause-quiet c = λ j low.
    quiet_more c.args.seen c.loop-quiet.quiet c.run_on-run.result.ran c.args.self.now c.loop-quiet.self c.loop-quiet.invariant.after c.loop-quiet.invariant.silent (c.run_on-run.ensures.quiet c.args.seen) j (omega (arith, low, c.if-quiet-n.true))

pub returns-then-quiet-n-clause-silent : goal.returns-then-quiet-n-clause-silent
returns-then-quiet-n-clause-silent c = λ _.
    c.run_on-run.ensures.module c.args.seen ∙ (ap (module_ticks r2000_triplex c.args.seen true true c.run_on-run.result.ran) c.loop-quiet.invariant.after ∙ ticks_more c.args.seen c.loop-quiet.quiet c.run_on-run.result.ran c.args.self.now)
    ∙ ap (λ (i : ℕ). module_ticks r2000_triplex c.args.seen true true i c.args.self.now) c.if-quiet-n.true

pub returns-then-fire_after-clause-quiet : goal.returns-then-fire_after-clause-quiet
returns-then-fire_after-clause-quiet c =
    quiet_more c.args.seen c.loop-quiet.quiet c.run_on-run.result.ran c.args.self.now c.loop-quiet.self c.loop-quiet.invariant.after c.loop-quiet.invariant.silent (c.run_on-run.ensures.quiet c.args.seen)

pub returns-then-fire_after-clause-posts : goal.returns-then-fire_after-clause-posts
returns-then-fire_after-clause-posts c = λ _.
    ap (λ (x : ModuleState). is_posting r2000_triplex x true) (sym (c.run_on-run.ensures.module c.args.seen ∙ (ap (module_ticks r2000_triplex c.args.seen true true c.run_on-run.result.ran) c.loop-quiet.invariant.after ∙ ticks_more c.args.seen c.loop-quiet.quiet c.run_on-run.result.ran c.args.self.now)))
    ∙ (sym c.fire_after.ensures.posts ∙ c.if-fire_after.true)

pub returns-then-fire_after-clause-posted : goal.returns-then-fire_after-clause-posted
unfolding module_ticks
returns-then-fire_after-clause-posted c = λ _. c.fire_after.ensures.module
    ∙ ap (module_fired r2000_triplex c.args.seen true) (c.run_on-run.ensures.module c.args.seen ∙ (ap (module_ticks r2000_triplex c.args.seen true true c.run_on-run.result.ran) c.loop-quiet.invariant.after ∙ ticks_more c.args.seen c.loop-quiet.quiet c.run_on-run.result.ran c.args.self.now))

pub loop-quiet-preserved : goal.loop-quiet-preserved
unfolding module_ticks
loop-quiet-preserved c =
    let m = c.args.self.now in
    let q = c.loop-quiet.quiet in
    let r = c.run_on-run.result.ran in
    let one : suc (q + r) ≡ q + r + 1 = omega arith in
    let after : c.run_on-run.new.self ≡ module_ticks r2000_triplex c.args.seen true true (q + r) m = c.run_on-run.ensures.module c.args.seen ∙ (ap (module_ticks r2000_triplex c.args.seen true true c.run_on-run.result.ran) c.loop-quiet.invariant.after ∙ ticks_more c.args.seen c.loop-quiet.quiet c.run_on-run.result.ran c.args.self.now) in
    let none : is_posting r2000_triplex c.run_on-run.new.self true ≡ false = sym c.fire_after.ensures.posts ∙ c.if-fire_after.false in
    record {
      within = omega (arith, c.run_on-run.ensures.most, c.loop-quiet-test.true, c.if-quiet-n.false);
      after = c.fire_after.ensures.module ∙ (ap (module_fired r2000_triplex c.args.seen true) after ∙ ap (λ (i : ℕ). module_ticks r2000_triplex c.args.seen true true i m) one);
      silent = below_more (λ (j : ℕ). posts_at r2000_triplex c.args.seen true true j m ≡ false) _ (quiet_more c.args.seen c.loop-quiet.quiet c.run_on-run.result.ran c.args.self.now c.loop-quiet.self c.loop-quiet.invariant.after c.loop-quiet.invariant.silent (c.run_on-run.ensures.quiet c.args.seen))
          (subst (λ (x : ModuleState). is_posting r2000_triplex x true ≡ false) after none);
    }
