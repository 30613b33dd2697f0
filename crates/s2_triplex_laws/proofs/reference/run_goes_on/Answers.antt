use Rattle.s2_triplex_laws.proofs.MaskingLaws.{run_goes_on}
use Rattle.s2_triplex_laws.proofs.reference.run_goes_on.Goals as goal

pub returns : goal.returns
returns c = run_goes_on
