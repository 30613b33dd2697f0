use Rattle.s2_run.proofs.UnversionedScripts.{unversioned_scripts}
use Rattle.s2_run.proofs.laws.unversioned_scripts_stay.Goals as goal

pub returns : goal.returns
returns c = unversioned_scripts
