use Rattle.std.proofs.Common.{ap}
use Rattle.s2_run.specs.ScriptRuns.{halt_end}
use Rattle.s2_run.proofs.ScriptStages.{step_refused, step_made, step_cut}
use Rattle.s2_run.proofs.stepping.take_answer.Goals as goal

pub returns-in-Err-clause-ran : goal.returns-in-Err-clause-ran
returns-in-Err-clause-ran g c = λ d step says moves. step_refused c.args.line d step c.in-Err.reason _ _ _ (rw c.in-Err.is at says) moves

pub returns-in-Err-emit-clause-cut : goal.returns-in-Err-emit-clause-cut
returns-in-Err-emit-clause-cut g c = λ d step says moves. step_cut c.args.line d step c.in-Ok.turn _ c.in-Err-emit.field-0.taken _ _ (rw c.in-Ok.is at says) moves c.in-Err-emit.ensures.cut c.in-Err-emit.ensures.bytes

pub returns-in-Some-clause-ran : goal.returns-in-Some-clause-ran
returns-in-Some-clause-ran g c = λ d step says moves. step_made c.args.line d step c.in-Ok.turn _ _ c.args.written.now c.in-Ok-emit.n _ _ (rw c.in-Ok.is at says) moves (ap halt_end c.in-Some.ensures) c.in-Ok-emit.ensures.count c.in-Ok-emit.ensures.bytes

pub returns-in-None-clause-ran : goal.returns-in-None-clause-ran
returns-in-None-clause-ran g c = λ d step says moves. step_made c.args.line d step c.in-Ok.turn _ _ c.args.written.now c.in-Ok-emit.n _ _ (rw c.in-Ok.is at says) moves (ap halt_end c.in-None.ensures) c.in-Ok-emit.ensures.count c.in-Ok-emit.ensures.bytes
