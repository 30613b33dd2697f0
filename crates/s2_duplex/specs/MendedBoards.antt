-- A board that is out, and how it comes back word by word.
use Rattle.std.specs.Prelude.{ℕ, ◌≡◌, ◌<◌, ◌==◌, true, Some, None, slice_index_or, if◌then◌else◌}
use Rattle.std.specs.declared.option.Option.{Option}
use Rattle.s2_base.specs.declared.map.TheConstants.{GLOBAL_WORDS}
use Rattle.s2_duplex.specs.DuplexBoards.{BoardState, BoardPair, board_word, has_parity, contents, valid_word, with_word}

-- the board that is out
abbrev pub board_out : BoardPair → Option ℕ
board_out s = if s.first.is_in then (if s.second.is_in then None else Some 1) else Some 0

-- the board of a number
abbrev pub board_of : ℕ → BoardPair → BoardState
board_of b s = if b == 0 then s.first else s.second

abbrev pub with_board : ℕ → BoardState → BoardPair → BoardPair
with_board b x s = if b == 0 then record s { first = x } else record s { second = x }

-- the valid word at an index is set in a board
abbrev pub boards_copied : ℕ → ℕ → BoardPair → BoardPair
boards_copied b i s = with_board b (with_word (board_of b s) i (valid_word s i)) s

-- a board is in
abbrev pub boards_joined : ℕ → BoardPair → BoardPair
boards_joined b s = with_board b (record (board_of b s) { is_in = true }) s

-- a board has each word of the contents, with right parity
abbrev pub IsMended : ℕ → BoardPair → Type 0
IsMended b s = (i : ℕ) → i < GLOBAL_WORDS → (board_word (board_of b s) i ≡ slice_index_or (contents s) i 0) × (has_parity (board_of b s) i ≡ true)
