use Rattle.s2_triplex_laws.proofs.MendedNotes.{mended_notes_end_mendings}
use Rattle.s2_triplex_laws.proofs.mending.mended_notes_end_mendings.Goals as goal

pub returns : goal.returns
returns c = mended_notes_end_mendings
