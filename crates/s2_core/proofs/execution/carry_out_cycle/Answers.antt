-- The cycle's step, where no interrupt is up.
use Rattle.s2_core.proofs.CaseOrder.{step_executed}
use Rattle.s2_core.proofs.CarriedOut.{carried}
use Rattle.s2_core.proofs.execution.carry_out_cycle.Goals as goal

pub returns-in-Some-clause-done : goal.returns-in-Some-clause-done
returns-in-Some-clause-done g c =
    carried c.args.cpu.now _ _ _ _ _ _ _ _
    (step_executed c.args.cpu.now (g.S.Store.words c.args.store.now) c.in-Some.ensures.running)
    c.carry_out_recalled.ensures.done
