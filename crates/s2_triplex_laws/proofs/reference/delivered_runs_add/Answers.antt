use Rattle.s2_triplex_laws.proofs.MaskingLaws.{delivered_runs_add}
use Rattle.s2_triplex_laws.proofs.reference.delivered_runs_add.Goals as goal

pub returns : goal.returns
returns c = delivered_runs_add
