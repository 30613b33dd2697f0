-- The cycle's step: an interrupt, or what the fetch gives.
use Rattle.std.proofs.Common.{ap, sym, ◌∙◌}
use Rattle.s2_machine.specs.declared.step.Step.TheVariants.{Raise}
use Rattle.s2_core.proofs.CaseOrder.{step_executed, step_interrupted}
use Rattle.s2_core.proofs.CarriedOut.{carried}
use Rattle.s2_core.proofs.execution.carry_out_tested.Goals as goal

pub returns-then-interrupted-clause-done : goal.returns-then-interrupted-clause-done
returns-then-interrupted-clause-done g c =
    carried c.args.cpu.now _ _ _ _ _ _ _ _
    (ap Raise c.plain.ensures.value ∙ step_interrupted c.args.cpu.now (g.S.Store.words c.args.store.now) (sym c.interrupted.ensures ∙ c.if-interrupted.true))
    (c.raised.ensures (g.S.Store.words c.args.store.now) (g.S.Store.marks c.args.store.now))

pub returns-clause-done : goal.returns-clause-done
returns-clause-done g c =
    carried c.args.cpu.now _ _ _ _ _ _ _ _
    (step_executed c.args.cpu.now (g.S.Store.words c.args.store.now) (sym c.interrupted.ensures ∙ c.if-interrupted.false))
    c.carry_out_instruction.ensures.done
