use Rattle.s2_saved.proofs.StateKept.{keeps}
use Rattle.s2_saved.proofs.laws.load_keeps_state.Goals as goal

pub returns : goal.returns
returns c = keeps
