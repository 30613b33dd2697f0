use Rattle.s2_module.proofs.ModuleViews.{unmarked_by}
use Rattle.s2_module.proofs.module.Module.clear_dirty.Goals as goal

pub returns : goal.returns
returns c = unmarked_by _ _ _ c.self.view_is c.clear.ensures
