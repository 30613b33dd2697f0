use Rattle.std.proofs.Common.{ℕ, inr}
use Rattle.s2_triplex.specs.TriplexState.{with_frame}
use Rattle.s2_run.proofs.ScriptRunEnds.{lines_end, run_done, run_cut_off}
use Rattle.s2_run.proofs.run.run_script.Goals as goal

pub returns-in-Err-clause-told : goal.returns-in-Err-clause-told
returns-in-Err-clause-told g c = λ s h. lines_end (λ (frame : ℕ). with_frame frame c.args.plant.now) s c.in-Err.fault _ _ _ _ (c.in-Err.ensures.told s h)

pub returns-in-Ok-put_end_lines-clause-told : goal.returns-in-Ok-put_end_lines-clause-told
returns-in-Ok-put_end_lines-clause-told g c = λ s h.
    let e = c.in-Ok.ensures.told s h in
    (e.0, e.1, run_done (with_frame e.0 c.args.plant.now) s c.in-Ok.finish.end c.in-Ok.finish.written _ _ _ _ _ _ c.runs.result c.ticks.result e.2 c.runs.ensures.reference c.ticks.ensures.ticks c.in-Ok-put_end_lines.ensures.bytes)

pub returns-in-Err-put_end_lines-clause-told : goal.returns-in-Err-put_end_lines-clause-told
returns-in-Err-put_end_lines-clause-told g c = λ s h.
    let e = c.in-Ok.ensures.told s h in
    (e.0, e.1, inr (run_cut_off (with_frame e.0 c.args.plant.now) s c.in-Ok.finish.end c.in-Ok.finish.written _ _ _ _ _ _ c.runs.result c.ticks.result c.in-Err-put_end_lines.field-0.taken e.2 c.runs.ensures.reference c.ticks.ensures.ticks c.in-Err-put_end_lines.ensures.cut c.in-Err-put_end_lines.ensures.bytes))
