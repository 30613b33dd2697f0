use Rattle.std.proofs.Common.{subst}
use Rattle.s2_machine.specs.Machine.{Machine}
use Rattle.s2_run.specs.SingleCommand.{ProgramEnds}
use Rattle.s2_run.specs.SeenObjects.{streams}
use Rattle.s2_run.proofs.single.replay_program.Goals as goal

pub returns-in-Ok-clause-told : goal.returns-in-Ok-clause-told
returns-in-Ok-clause-told g c = λ s h.
    subst (λ (m : Machine). ProgramEnds m s c.replay_machine.result (streams (g.S.Source.left c.args.input.now) (g.C.Sink.taken c.args.console.now) (g.R.Sink.taken c.args.report.now)) (streams (g.S.Source.left c.replay_machine.new.input) (g.C.Sink.taken c.replay_machine.new.console) (g.R.Sink.taken c.replay_machine.new.report)))
    c.in-Ok.ensures (c.replay_machine.ensures.told s h)
