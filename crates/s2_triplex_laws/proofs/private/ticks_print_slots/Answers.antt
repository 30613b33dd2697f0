use Rattle.s2_triplex_laws.proofs.PrivateFacts.{ticks_print_slots}
use Rattle.s2_triplex_laws.proofs.private.ticks_print_slots.Goals as goal

pub returns : goal.returns
returns c = ticks_print_slots
