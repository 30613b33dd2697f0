use Rattle.s2_run.proofs.MaskedScripts.{every_script_is_masked}
use Rattle.s2_run.proofs.laws.scripts_are_masked.Goals as goal

pub returns : goal.returns
returns c = every_script_is_masked
