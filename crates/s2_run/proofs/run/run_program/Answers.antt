use Rattle.s2_run.proofs.run.run_program.Goals as goal

pub returns-in-Ok-clause-told : goal.returns-in-Ok-clause-told
returns-in-Ok-clause-told g c = λ s h. c.run_machine.ensures.told s c.args.image c.in-Ok.ensures.machine h
