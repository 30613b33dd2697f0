use Rattle.std.proofs.Common.{ℕ, refl, subst, ◌∙◌}
use Rattle.s2_triplex.specs.TriplexState.{TriplexState, with_frame}
use Rattle.s2_run.specs.RunTranscript.{taken}
use Rattle.s2_run.specs.ScriptEndings.{ScriptEnds}
use Rattle.std.specs.Prelude.{Err}
use Rattle.s2_run.proofs.run.run_machine.Goals as goal

pub returns-in-Ok-clause-told : goal.returns-in-Ok-clause-told
returns-in-Ok-clause-told g c = λ s image first h. record {
  state = c.run_script.new.plant;
  last_is = refl;
  ends = rw (c.insert-plant.ensures.value, first) at (c.in-Ok.ensures.told s h);
}

pub returns-in-Err-clause-told : goal.returns-in-Err-clause-told
returns-in-Err-clause-told g c = λ s image first h. record {
  state = c.run_script.new.plant;
  last_is = refl;
  ends = subst (λ (d : TriplexState). ScriptEnds (λ (frame : ℕ). with_frame frame d) s (Err c.in-Err.fault) c.run_script.new.plant (taken (g.C.Sink.taken c.args.console.now) (g.R.Sink.taken c.args.report.now)) (taken (g.C.Sink.taken c.run_script.new.console) (g.R.Sink.taken c.run_script.new.report)) (g.S.Source.left c.run_script.new.input))
      (c.insert-plant.ensures.value ∙ first) (c.in-Err.ensures.told s h);
}
