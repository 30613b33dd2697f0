-- Faults of the boards: what they do, and which of them leave a valid word at each place.
use Rattle.std.specs.Prelude.{ℕ, ◌<◌, ◌^◌, ◌==◌, ◌&&◌, Bool, false, length, slice_set, if◌then◌else◌}
use Rattle.std.specs.List.{list_all, range_with_len}
use Rattle.std.specs.Int.Bits.{bit_xor}
use Rattle.s2_ports.specs.declared.events.BoardFault.{BoardFault}
use Rattle.s2_ports.specs.declared.events.BoardFault.TheVariants.{Dead, Flip}
use Rattle.s2_duplex.specs.DuplexBoards.{BoardState, BoardPair, board_word, has_parity}

-- the faults of boards of so many words: a board is 0 or 1, and a word has 32 bits
abbrev pub IsFaultBelow : ℕ → BoardFault → Type 0
IsFaultBelow words (Dead board) = board < 2
IsFaultBelow words (Flip board index bit) = (board < 2) × (index < words) × (bit < 32)

-- the board that a fault names
abbrev pub faulty_board : BoardFault → ℕ
faulty_board (Dead board) = board
faulty_board (Flip board index bit) = board

-- the other board than a number names
abbrev pub other_board : ℕ → BoardPair → BoardState
other_board board s = if board == 0 then s.second else s.first

-- no word of a board is bad
abbrev pub has_all_parity : BoardState → Bool
has_all_parity b = list_all (has_parity b) (range_with_len 0 (length b.words))

-- a board may be lost where the other has no bad word, and a bit of a word that is bad on neither; both are in
abbrev pub is_tolerated : BoardPair → BoardFault → Bool
is_tolerated s (Dead board) = (s.first.is_in && s.second.is_in) && has_all_parity (other_board board s)
is_tolerated s (Flip board index bit) = (s.first.is_in && s.second.is_in) && (has_parity s.first index && has_parity s.second index)

-- a dead board is out, and a flip changes one data bit and no parity bit
abbrev pub faulty : BoardState → BoardFault → BoardState
faulty b (Dead board) = record b { is_in = false }
faulty b (Flip board index bit) = record b { words = slice_set b.words index (bit_xor (board_word b index) (2 ^ bit)) }

-- the fault strikes the board that it names
abbrev pub boards_struck : BoardPair → BoardFault → BoardPair
boards_struck s fault =
    if faulty_board fault == 0 then record s { first = faulty s.first fault }
    else record s { second = faulty s.second fault }

-- a fault that is not tolerated changes nothing
abbrev pub boards_faulted : BoardPair → BoardFault → BoardPair
boards_faulted s fault = if is_tolerated s fault then boards_struck s fault else s
