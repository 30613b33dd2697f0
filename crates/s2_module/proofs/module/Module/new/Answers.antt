use Rattle.std.proofs.Common.{List, ℕ, ap, ◌∙◌}
use Rattle.s2_elf.specs.MemoryImage.{MemoryImage}
use Rattle.s2_triplex.specs.ModuleState.{started_module}
use Rattle.s2_module.proofs.ModuleViews.{started_by}
use Rattle.s2_module.proofs.module.Module.new.Goals as goal

pub returns-clause-module : goal.returns-clause-module
returns-clause-module c =
    started_by 1024 _ _ _ _ c.start.ensures c.in_ok-pages.ensures.store
    ∙ (ap (λ (local : List ℕ). started_module 1024 c.image.inside.entry local) c.as_slice.ensures.value
    ∙ ap (λ (image : MemoryImage). started_module 1024 image.entry image.local) c.image.view_is)
