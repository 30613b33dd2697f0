use Rattle.std.proofs.Common.{ap, sym, ◌∙◌}
use Rattle.s2_machine.specs.declared.step.Step.TheVariants.{Raise}
use Rattle.s2_core.proofs.ForeignUnits.{foreign_unit}
use Rattle.s2_core.proofs.CaseOrder.{foreign_executed}
use Rattle.s2_core.proofs.instruction_rows.foreign.Goals as goal

pub unusable-requires : goal.unusable-requires
unusable-requires c = (foreign_unit c.args.word c.args.unit c.args.word c.requires).1

pub returns-clause-step : goal.returns-clause-step
returns-clause-step c = λ p. ap Raise c.unusable.ensures.value ∙ sym (foreign_executed p c.args.unit c.args.word (foreign_unit c.args.word c.args.unit c.args.word c.requires).0)
