use Rattle.std.proofs.Common.{ap, subst, ◌∙◌}
use Rattle.std.specs.declared.option.Option.{Option}
use Rattle.s2_machine.specs.InstructionRows.{step_of}
use Rattle.s2_machine.specs.declared.step.Step.{Step}
use Rattle.s2_module.specs.FoundStep.{IsFound}
use Rattle.s2_triplex.specs.ModuleState.{ModuleState}
use Rattle.s2_module.proofs.module.Module.known_step.Goals as goal

pub returns-in-Some-clause-step : goal.returns-in-Some-clause-step
returns-in-Some-clause-step c =
    (subst (λ (o : Option Step). IsFound o c.self.inside.cpu c.self.inside.pages.words) c.in-Some.is c.self.invariant).0
    ∙ ap (λ (x : ModuleState). step_of x.cpu x.local) c.self.view_is

pub returns-in-None-clause-step : goal.returns-in-None-clause-step
returns-in-None-clause-step c = c.step_on.ensures.step ∙ ap (λ (x : ModuleState). step_of x.cpu x.local) c.self.view_is
