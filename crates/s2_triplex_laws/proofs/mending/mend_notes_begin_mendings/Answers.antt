use Rattle.s2_triplex_laws.proofs.MendedNotes.{mend_notes_begin_mendings}
use Rattle.s2_triplex_laws.proofs.mending.mend_notes_begin_mendings.Goals as goal

pub returns : goal.returns
returns c = mend_notes_begin_mendings
