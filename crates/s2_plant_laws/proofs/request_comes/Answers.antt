use Rattle.s2_plant_laws.proofs.Requests.{request_comes}
use Rattle.s2_plant_laws.proofs.request_comes.Goals as goal

pub returns : goal.returns
returns c = request_comes
