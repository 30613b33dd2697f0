use Rattle.std.proofs.Common.{ap, ◌∙◌}
use Rattle.s2_triplex.specs.ModuleState.{is_frame_end}
use Rattle.s2_module.proofs.ModuleViews.{finished_by, asked_by}
use Rattle.s2_module.proofs.module.Module.finish_cycle.Goals as goal

pub finish_on-requires-clause-asked : goal.finish_on-requires-clause-asked
finish_on-requires-clause-asked c = asked_by _ _ c.self.view_is c.requires.asked

pub returns : goal.returns
returns c = finished_by _ _ _ _ _ _ _ c.self.view_is c.finish_on.ensures.cpu c.finish_on.ensures.pages (c.ends_frame-self-inside.ensures ∙ ap (is_frame_end _) c.run-run.ensures)
