use Rattle.s2_asm.proofs.Limits.{means_fits}
use Rattle.s2_asm.proofs.passes.assemble.Goals as goal

pub returns-in-Ok-clause-few : goal.returns-in-Ok-clause-few
returns-in-Ok-clause-few c = (means_fits c.args.text.now c.in-Ok.program.entry c.in-Ok.program.parts c.in-Ok.ensures).0

pub returns-in-Ok-clause-small : goal.returns-in-Ok-clause-small
returns-in-Ok-clause-small c = (means_fits c.args.text.now c.in-Ok.program.entry c.in-Ok.program.parts c.in-Ok.ensures).1

pub returns-in-Ok-clause-aligned : goal.returns-in-Ok-clause-aligned
returns-in-Ok-clause-aligned c = (means_fits c.args.text.now c.in-Ok.program.entry c.in-Ok.program.parts c.in-Ok.ensures).2
