use Rattle.s2_plant_laws.proofs.Requests.{request_is_last_work}
use Rattle.s2_plant_laws.proofs.request_is_last_work.Goals as goal

pub returns : goal.returns
returns c = request_is_last_work
