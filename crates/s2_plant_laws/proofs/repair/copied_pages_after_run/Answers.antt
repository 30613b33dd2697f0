use Rattle.s2_plant_laws.proofs.CopiedPages.{copied_pages_after_run}
use Rattle.s2_plant_laws.proofs.repair.copied_pages_after_run.Goals as goal

pub returns : goal.returns
returns c = copied_pages_after_run
