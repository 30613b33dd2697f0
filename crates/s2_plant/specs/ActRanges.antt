-- The ranges of the numbers in an act, as plain bounds, and which acts are faults of a board: for the parts of the
-- machine alone.
use Rattle.std.specs.Prelude.{◌≡◌, ◌<◌, Bool, true, false}
use Rattle.s2_ports.specs.Events.{comes_from_outside}
use Rattle.s2_base.specs.declared.map.TheConstants.{LOCAL_WORDS, GLOBAL_WORDS}
use Rattle.s2_join.specs.declared.join.TheConstants.{SAVED_WORDS}
use Rattle.s2_duplex.specs.ToleratedFaults.{IsFaultBelow}
use Rattle.s2_script.specs.declared.entry.Act.{Act}
use Rattle.s2_script.specs.declared.entry.Act.TheVariants.{Event, Poke, PokeLocal, Drive, Mute, Remove, Revive, Board, Mend}

abbrev pub IsActInRange : Act → Type 0
IsActInRange (Event event) = comes_from_outside event ≡ true
IsActInRange (Poke p k v) = (p < 3) × (k < SAVED_WORDS)
IsActInRange (PokeLocal p i v) = (p < 3) × (i < LOCAL_WORDS)
IsActInRange (Drive p posted) = p < 3
IsActInRange (Mute p) = p < 3
IsActInRange (Remove p) = p < 3
IsActInRange (Revive p) = p < 3
IsActInRange (Board fault) = IsFaultBelow GLOBAL_WORDS fault
IsActInRange (Mend board) = board < 2

-- whether an act is a fault of a board
abbrev pub is_board_act : Act → Bool
is_board_act (Event event) = false
is_board_act (Poke p k v) = false
is_board_act (PokeLocal p i v) = false
is_board_act (Drive p posted) = false
is_board_act (Mute p) = false
is_board_act (Remove p) = false
is_board_act (Revive p) = false
is_board_act (Board fault) = true
is_board_act (Mend board) = false
