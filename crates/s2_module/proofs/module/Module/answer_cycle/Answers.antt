use Rattle.std.proofs.Common.{ap, sym, ◌∙◌}
use Rattle.s2_machine.specs.InstructionRows.{step_of}
use Rattle.std.specs.Prelude.{◌&&◌}
use Rattle.s2_triplex.specs.ModuleState.{ModuleState, is_frame_end}
use Rattle.s2_module.proofs.ModuleViews.{answered_by}
use Rattle.s2_module.proofs.module.Module.answer_cycle.Goals as goal

pub answer_on-asks-requires-clause-known : goal.answer_on-asks-requires-clause-known
answer_on-asks-requires-clause-known c = c.known_step-step.ensures.step ∙ ap (λ (x : ModuleState). step_of x.cpu x.local) (sym c.self.view_is)

pub returns : goal.returns
returns c = answered_by _ _ _ _ _ _ _ _ c.self.view_is c.requires.due c.requires.kind c.answer_on-asks.ensures.asks c.answer_on-asks.ensures.cpu
    (c.is_due-self-inside.ensures ∙ ap (λ r. c.answer_on-asks.result && is_frame_end c.self.inside.frame r) c.run-run.ensures)
