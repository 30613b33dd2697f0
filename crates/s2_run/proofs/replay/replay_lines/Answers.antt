use Rattle.std.proofs.Common.{ℕ, List, arith, subst, refl, inl, ◌∙◌}
use Rattle.std.specs.Prelude.{Ok, Err}
use Rattle.s2_journal.specs.ReportOrder.{ReadsNext}
use Rattle.s2_run.proofs.LineList.{fed_more, none_rest}
use Rattle.s2_run.proofs.Replaying.{replaying_none, replay_line, replay_bad, replay_long, replay_ended, replay_failed, replay_cut}
use Rattle.s2_run.proofs.replay.replay_lines.Goals as goal

pub loop-order-init : goal.loop-order-init
loop-order-init g c = record {
  told = λ s h. replaying_none c.args.machine.now s _ _ _ c.requires c.new-order.ensures h;
  ended = λ s h e. absurd cc;
  fed = λ s h e. inl refl;
  below = omega arith;
  count = omega arith;
  written = omega arith;
  range = omega (arith, c.requires);
  faults = refl;
  console_faults = refl;
  empty_takes = refl;
}

pub returns-in-Err-clause-told : goal.returns-in-Err-clause-told
returns-in-Err-clause-told g c = λ s report h.
    let r = c.loop-order.invariant.told s h in
    replay_failed _ report r (c.in-Err.ensures.told r.rest r.left_is (λ e. none_rest r.left_is (c.loop-order.invariant.ended s h e))) c.loop-order.invariant.below (c.loop-order.invariant.fed s h c.in-Err.ensures.going)

pub returns-in-Ok-End-clause-told : goal.returns-in-Ok-End-clause-told
returns-in-Ok-End-clause-told g c = λ s report h.
    let r = c.loop-order.invariant.told s h in
    let i = c.in-Ok-End in
    replay_ended _ report _ r (rw i.field-0-is at (i.ensures.told r.rest r.left_is (λ e. none_rest r.left_is (c.loop-order.invariant.ended s h e)))) c.verdict_at_end-verdict.ensures.whole c.verdict_at_end-verdict.ensures.early c.loop-order.invariant.below

pub returns-in-Ok-TooLong-clause-told : goal.returns-in-Ok-TooLong-clause-told
returns-in-Ok-TooLong-clause-told g c = λ s report h.
    let r = c.loop-order.invariant.told s h in
    let i = c.in-Ok-TooLong in
    replay_long _ report r (rw i.field-0-is at (i.ensures.told r.rest r.left_is (λ e. none_rest r.left_is (c.loop-order.invariant.ended s h e)))) c.loop-order.invariant.below

pub returns-in-Err-take-clause-told : goal.returns-in-Err-take-clause-told
returns-in-Err-take-clause-told g c = λ s report h.
    let r = c.loop-order.invariant.told s h in
    let i = c.in-Ok-Line in
    let f = rw i.field-0-is at i.ensures.size in
    let bad = c.in-Err-take.bad in
    replay_bad _ report bad r (rw i.field-0-is at (i.ensures.told r.rest r.left_is (λ e. none_rest r.left_is (c.loop-order.invariant.ended s h e)))) (subst (λ (t : List ℕ). ReadsNext r.said t (Err bad)) c.line.ensures (c.in-Err-take.ensures.read r.said r.order_is)) c.loop-order.invariant.below (omega (arith, f.1))

pub loop-order-preserved : goal.loop-order-preserved
loop-order-preserved g c =
    let i = c.in-Ok-Line in
    let f = rw i.field-0-is at i.ensures.size in
    let ran = c.in-Ok-run_line in
    record {
      told = λ s h.
          let r = c.loop-order.invariant.told s h in
          replay_line c.in-Ok.said ran.written _ _ _ r (rw i.field-0-is at (i.ensures.told r.rest r.left_is (λ e. none_rest r.left_is (c.loop-order.invariant.ended s h e)))) (subst (λ (t : List ℕ). ReadsNext r.said t (Ok c.in-Ok.said)) c.line.ensures (c.in-Ok.ensures.read r.said r.order_is)) c.requires
          ran.ensures.named (c.in-Ok.ensures.taken r.said r.order_is) ran.ensures.machine ran.ensures.count ran.ensures.bytes;
      ended = λ s h.
          let r = c.loop-order.invariant.told s h in
          i.ensures.ended r.rest r.left_is (λ e. none_rest r.left_is (c.loop-order.invariant.ended s h e));
      fed = λ s h e.
          let r = c.loop-order.invariant.told s h in
          fed_more s r.rest _ _ r.rest_is ((rw i.field-0-is at (i.ensures.fed r.rest r.left_is)) e);
      below = omega (arith, f.1);
      count = omega (arith, f.0);
      written = omega (arith, ran.ensures.steps);
      range = ran.ensures.range c.loop-order.invariant.range;
      faults = i.ensures.passed ∙ c.loop-order.invariant.faults;
      console_faults = ran.ensures.cause.whole.0 ∙ c.loop-order.invariant.console_faults;
      empty_takes = ran.ensures.cause.whole.1 ∙ c.loop-order.invariant.empty_takes;
    }

pub returns-in-Err-run_line-clause-told : goal.returns-in-Err-run_line-clause-told
returns-in-Err-run_line-clause-told g c = λ s report h.
    let r = c.loop-order.invariant.told s h in
    let i = c.in-Ok-Line in
    let f = rw i.field-0-is at i.ensures.size in
    let cut = c.in-Err-run_line in
    replay_cut _ report c.in-Ok.said cut.field-0.taken _ r (rw i.field-0-is at (i.ensures.told r.rest r.left_is (λ e. none_rest r.left_is (c.loop-order.invariant.ended s h e)))) (subst (λ (t : List ℕ). ReadsNext r.said t (Ok c.in-Ok.said)) c.line.ensures (c.in-Ok.ensures.read r.said r.order_is)) c.requires
    (omega (arith, f.1)) cut.ensures.cut cut.ensures.bytes
