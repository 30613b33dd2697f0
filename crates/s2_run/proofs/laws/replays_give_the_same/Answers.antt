use Rattle.s2_run.proofs.ReadableRuns.{replays_give_the_same}
use Rattle.s2_run.proofs.laws.replays_give_the_same.Goals as goal

pub returns : goal.returns
returns c = replays_give_the_same
