use Rattle.s2_plant_laws.proofs.CopiedPages.{stores_mark_pages}
use Rattle.s2_plant_laws.proofs.repair.stores_mark_pages.Goals as goal

pub returns : goal.returns
returns c = stores_mark_pages
