use Rattle.s2_triplex_laws.proofs.StepNotes.{tick_tells}
use Rattle.s2_triplex_laws.proofs.notes.tick_turn_tells.Goals as goal

pub returns : goal.returns
returns c = tick_tells
