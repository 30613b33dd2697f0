use Rattle.std.proofs.Common.{◌≡◌, ◌≤◌, ◌<◌, sym, ap, ◌∙◌, arith, ⊎_elim, None}
use Rattle.std.proofs.lemmas.List.{get_or_read}
use Rattle.s2_trace.specs.Travel.{kept_run, slot}
use Rattle.s2_trace.proofs.NewestKept.{better, no_better, none_kept_here, kept_too_late, kept_too_early, newest_of_all}
use Rattle.s2_trace.proofs.checkpoint.latest.Goals.{in-Some+then-run-n+then-best_run-run, in-Some+else-run-n, in_default}
use Rattle.s2_trace.proofs.checkpoint.latest.Goals as goal

pub loop-i-preserved : goal.loop-i-preserved
loop-i-preserved c =
    let kept : c.run.result ≡ kept_run (slot c.args.slots.now c.loop-i.i) = c.run.ensures ∙ ap kept_run (get_or_read c.args.slots.now c.loop-i.i c.index-slots-i.result c.loop-i-test.true c.index-slots-i.is None) in
    elim c.match-run.branch [
      | in-Some+then-run-n+then-best_run-run w ↦
          rw (w.best-is, w.best_run-is)
          (better w.in-Some.run' c.loop-i.invariant (sym kept ∙ w.in-Some.is) w.if-run-n.true w.if-best_run-run.true c.loop-i-test.true)
      | in-Some+else-run-n w ↦
          rw (w.best-is, w.best_run-is)
          (no_better c.loop-i.invariant (⊎_elim
          (λ (early : (w.in-Some.run' ≤ c.args.n) × (w.in-Some.run' < c.loop-i.best_run)). kept_too_early (slot c.args.slots.now c.loop-i.i) c.args.n w.in-Some.run' c.loop-i.best_run (sym w.in-Some.is ∙ kept) early.1)
          (λ (late : c.args.n < w.in-Some.run'). kept_too_late (slot c.args.slots.now c.loop-i.i) c.args.n w.in-Some.run' c.loop-i.best_run (sym w.in-Some.is ∙ kept) late)
          w.else-run-n.either))
      | in_default w ↦
          rw (w.best-is, w.best_run-is)
          (no_better c.loop-i.invariant (none_kept_here (slot c.args.slots.now c.loop-i.i) c.args.n c.loop-i.best_run (sym w.in_default.is ∙ kept)))
    ]

pub returns : goal.returns
returns c = newest_of_all c.loop-i.invariant (let no = c.loop-i-test.false in omega arith)
