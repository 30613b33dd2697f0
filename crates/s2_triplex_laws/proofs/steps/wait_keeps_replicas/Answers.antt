use Rattle.s2_triplex_laws.proofs.MaskingLaws.{wait_keeps_replicas}
use Rattle.s2_triplex_laws.proofs.steps.wait_keeps_replicas.Goals as goal

pub returns : goal.returns
returns c = wait_keeps_replicas
