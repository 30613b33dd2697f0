use Rattle.s2_triplex_laws.proofs.StepNotes.{turn_tells}
use Rattle.s2_triplex_laws.proofs.notes.turn_tells_advance.Goals as goal

pub returns : goal.returns
returns c = turn_tells
