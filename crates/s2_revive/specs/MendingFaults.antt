-- Faults of boards of which one may mend.
use Rattle.std.specs.Prelude.{ℕ, ◌==◌, ◌||◌, Bool, true, false, Some, None, if◌then◌else◌}
use Rattle.std.specs.declared.option.Option.{Option}
use Rattle.s2_ports.specs.declared.events.BoardFault.{BoardFault}
use Rattle.s2_ports.specs.declared.events.BoardFault.TheVariants.{Dead, Flip}
use Rattle.s2_duplex.specs.ToleratedFaults.{is_tolerated, boards_struck}
use Rattle.s2_revive.specs.declared.revive.Mending.{Mending}
use Rattle.s2_revive.specs.MendingBoards.{MendingBoards}

-- whether a board mends
abbrev pub is_mending_board : ℕ → Option Mending → Bool
is_mending_board b None = false
is_mending_board b (Some m) = m.board == b

-- a board that mends and is dead mends no more
abbrev pub ends_mending : Option Mending → BoardFault → Bool
ends_mending mending (Dead board) = is_mending_board board mending
ends_mending mending (Flip board index bit) = false

-- that is tolerated always, and every other fault where both boards are in and no word could be lost
abbrev pub is_fault_tolerated : MendingBoards → BoardFault → Bool
is_fault_tolerated s fault = ends_mending s.mending fault || is_tolerated s.pair fault

-- a fault that is tolerated
abbrev pub struck_if : Bool → MendingBoards → BoardFault → MendingBoards
struck_if true s fault = record s { mending = None }
struck_if false s fault = record s { pair = boards_struck s.pair fault }

abbrev pub mending_struck : MendingBoards → BoardFault → MendingBoards
mending_struck s fault = struck_if (ends_mending s.mending fault) s fault

-- one that is not changes nothing
abbrev pub mending_faulted : MendingBoards → BoardFault → MendingBoards
mending_faulted s fault = if is_fault_tolerated s fault then mending_struck s fault else s
