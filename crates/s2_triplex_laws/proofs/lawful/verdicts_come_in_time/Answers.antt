use Rattle.s2_triplex_laws.proofs.RequestWaits.{verdicts_come}
use Rattle.s2_triplex_laws.proofs.lawful.verdicts_come_in_time.Goals as goal

pub returns : goal.returns
returns c = verdicts_come
