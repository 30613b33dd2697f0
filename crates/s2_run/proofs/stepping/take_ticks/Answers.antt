use Rattle.std.proofs.Common.{◌≡◌, ◌+◌, ◌-◌, ◌<◌, arith, subst, ap, ◌∙◌}
use Rattle.std.specs.Prelude.{None}
use Rattle.s2_triplex.specs.R2000Triplex.{r2000_triplex}
use Rattle.s2_triplex.specs.TriplexSteps.{clock_tick}
use Rattle.s2_triplex.specs.TriplexState.{TriplexState}
use Rattle.s2_plant.specs.TickRuns.{after_ticks}
use Rattle.s2_run.specs.ScriptRuns.{ScriptRun, ticks_run}
use Rattle.s2_run.specs.RunTranscript.{taken}
use Rattle.s2_run.specs.ScriptRunParts.{HasRun}
use Rattle.s2_run.proofs.ScriptStages.{ran_step, cut_step, ticks_ended, ticks_broken, ticks_up, going_halt, going_ticks, tick_quiet, same_twice}
use Rattle.s2_run.proofs.SilentTicks.{silent_ticks, ran_silent}
use Rattle.s2_run.proofs.stepping.take_ticks.Goals as goal

pub returns-in-Ok-Some-clause-ran : goal.returns-in-Ok-Some-clause-ran
unfolding after_ticks
returns-in-Ok-Some-clause-ran g c =
    let i = c.loop-left.invariant in
    let r = c.run_ticks-run in
    let ran = r.ensures.run in
    let q = r.result.before in
    let d : TriplexState = after_ticks r2000_triplex c.args.mask q c.loop-left.plant in
    let low : c.args.n - c.loop-left.left + q < c.args.n = omega (arith, ran.within, i.left) in
    let one = rw c.in-Ok-Some.field-0-is at (c.in-Ok-Some.ensures.ran d (clock_tick c.args.mask) ran.answer ran.machine) in
    ticks_ended c.args.line c.args.mask c.args.plant.now c.args.n (c.args.n - c.loop-left.left + q) low
    (ran_step c.args.line (clock_tick c.args.mask) (ran_silent c.args.line c.args.mask c.args.plant.now (c.args.n - c.loop-left.left) q i.ran i.running ran.silent) one)

pub returns-in-Err-clause-cut : goal.returns-in-Err-clause-cut
unfolding after_ticks
returns-in-Err-clause-cut g c =
    let i = c.loop-left.invariant in
    let r = c.run_ticks-run in
    let ran = r.ensures.run in
    let q = r.result.before in
    let d : TriplexState = after_ticks r2000_triplex c.args.mask q c.loop-left.plant in
    let low : c.args.n - c.loop-left.left + q < c.args.n = omega (arith, ran.within, i.left) in
    ticks_broken c.args.line c.args.mask c.args.plant.now c.args.n (c.args.n - c.loop-left.left + q) low
    (cut_step c.args.line (clock_tick c.args.mask) (ran_silent c.args.line c.args.mask c.args.plant.now (c.args.n - c.loop-left.left) q i.ran i.running ran.silent)
    (c.in-Err.ensures.cut d (clock_tick c.args.mask) ran.answer ran.machine))

pub loop-left-preserved : goal.loop-left-preserved
unfolding after_ticks
loop-left-preserved g c =
    let i = c.loop-left.invariant in
    let r = c.run_ticks-run in
    let ran = r.ensures.run in
    let q = r.result.before in
    let d : TriplexState = after_ticks r2000_triplex c.args.mask q c.loop-left.plant in
    let within = ran.within in
    let so_far = c.args.n - c.loop-left.left in
    let more : so_far + q + 1 ≡ c.args.n - (c.loop-left.left - (q + 1)) = omega (arith, within, i.left) in
    let sums = silent_ticks c.loop-left.plant c.args.mask q i.running ran.silent in
    let one = rw c.in-Ok-None.field-0-is at (c.in-Ok-None.ensures.ran d (clock_tick c.args.mask) ran.answer ran.machine) in
    let count = going_ticks c.args.line d c.args.mask one in
    record {
      left = omega (arith, i.left);
      ran = subst (λ (r : ScriptRun). HasRun r None c.run_ticks-run.new.self c.args.written.now c.take_answer.new.written (taken (g.C.Sink.taken c.args.console.now) (g.R.Sink.taken c.args.report.now)) (taken (g.C.Sink.taken c.take_answer.new.console) (g.R.Sink.taken c.take_answer.new.report)))
          (ticks_up c.args.line c.args.mask c.args.plant.now (so_far + q) ∙ ap (ticks_run c.args.line c.args.mask c.args.plant.now) more)
          (ran_step c.args.line (clock_tick c.args.mask) (ran_silent c.args.line c.args.mask c.args.plant.now so_far q i.ran i.running ran.silent) one);
      running = going_halt c.args.line d (clock_tick c.args.mask) one;
      ticks = omega (arith, count, sums.ticks, i.ticks, more);
      accepted = tick_quiet c.args.line d c.args.mask one ∙ (sums.accepted ∙ i.accepted);
      few = omega (arith, c.in-Ok-None.ensures.added, i.few, more);
      console_same = same_twice i.console_same c.in-Ok-None.ensures.cause.passed.0;
      report_same = same_twice i.report_same c.in-Ok-None.ensures.cause.passed.1;
    }
