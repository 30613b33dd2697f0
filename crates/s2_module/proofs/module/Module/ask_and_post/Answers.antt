use Rattle.std.proofs.Common.{sym, ap, ◌∙◌}
use Rattle.s2_machine.specs.LocalWork.{ask_of}
use Rattle.s2_triplex.specs.ModuleState.{ModuleState}
use Rattle.s2_module.proofs.ModuleViews.{posted_as}
use Rattle.s2_module.proofs.module.Module.ask_and_post.Goals as goal

pub unreachable-requires : goal.unreachable-requires
unreachable-requires c = c.requires (ap (λ (x : ModuleState). ask_of x.cpu x.local) (sym c.self.view_is) ∙ sym c.in-Local.ensures.ask)

pub returns-clause-module : goal.returns-clause-module
returns-clause-module c = posted_as _ _ _ _ _ c.self.view_is c.in-Outside.ensures.ask c.post.ensures
