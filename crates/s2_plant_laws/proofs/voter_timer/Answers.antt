use Rattle.s2_plant_laws.proofs.VoterTimer.{voter_timer}
use Rattle.s2_plant_laws.proofs.voter_timer.Goals as goal

pub returns : goal.returns
returns c = voter_timer
