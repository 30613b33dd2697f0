use Rattle.s2_triplex_laws.proofs.StepNotes.{act_tells}
use Rattle.s2_triplex_laws.proofs.notes.act_turn_tells.Goals as goal

pub returns : goal.returns
returns c = act_tells
