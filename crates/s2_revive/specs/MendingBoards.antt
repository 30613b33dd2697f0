-- The boards of global memory, of which one that is out may mend word by word.
use Rattle.std.specs.Prelude.{ℕ, ◌≡◌, ◌<◌, ◌+◌, List, Bool, true, false, ◌==◌, nat_lt, Some, None, slice_index_or, if◌then◌else◌}
use Rattle.std.specs.declared.option.Option.{Option}
use Rattle.s2_base.specs.declared.map.TheConstants.{GLOBAL_WORDS}
use Rattle.s2_duplex.specs.DuplexBoards.{BoardPair, IsDuplex, board_word, has_parity, contents, new_boards, boards_read, boards_written, with_word}
use Rattle.s2_duplex.specs.MendedBoards.{board_out, board_of, with_board, boards_copied, boards_joined}
use Rattle.s2_revive.specs.declared.revive.Mending.{Mending}

-- the boards, and the board that mends with its cursor
pub record MendingBoards : Type 0 where
  pub pair : BoardPair
  pub mending : Option Mending

-- a board that mends is out, and below the cursor it has the words of the contents with right parity
pub record IsMending (s : BoardPair) (m : Mending) : Type 0 where
  pub out : board_out s ≡ Some m.board
  pub below : m.cursor < GLOBAL_WORDS
  pub words : (i : ℕ) → i < m.cursor → (board_word (board_of m.board s) i ≡ slice_index_or (contents s) i 0) × (has_parity (board_of m.board s) i ≡ true)

abbrev pub IsMendingIn : BoardPair → Option Mending → Type 0
IsMendingIn s None = Unit {0}
IsMendingIn s (Some m) = IsMending s m

-- the boards of global memory: they stand for a list, and one that mends has its words below the cursor
pub record AreMendingBoards (s : MendingBoards) : Type 0 where
  pub duplex : IsDuplex s.pair
  pub mending : IsMendingIn s.pair s.mending

-- the list that they stand for: a board that mends counts as out
abbrev pub memory_of : MendingBoards → List ℕ
memory_of s = contents s.pair

-- both boards in, and nothing mends
abbrev pub new_mending : List ℕ → MendingBoards
new_mending words = record { pair = new_boards words; mending = None }

-- ---- a mending begins

-- whether a number is that of the board that is out
abbrev pub is_out_board : ℕ → Option ℕ → Bool
is_out_board b None = false
is_out_board b (Some out) = out == b

-- a mending begins where the board is out and none mends
abbrev pub begins_in : ℕ → BoardPair → Option Mending → Bool
begins_in b s None = is_out_board b (board_out s)
begins_in b s (Some m) = false

abbrev pub mending_begins : ℕ → MendingBoards → Bool
mending_begins b s = begins_in b s.pair s.mending

abbrev pub mending_begun : ℕ → MendingBoards → MendingBoards
mending_begun b s = if mending_begins b s then record s { mending = Some (record { board = b; cursor = 0 }) } else s

-- the number of the board that mends
abbrev pub mending_board : Option Mending → Option ℕ
mending_board None = None
mending_board (Some m) = Some m.board

-- ---- an idle turn

-- whether the word at the cursor is not the last one
abbrev pub has_more : Mending → Bool
has_more m = nat_lt (m.cursor + 1) GLOBAL_WORDS

-- one more word is copied; with the last the board is in
abbrev pub copied_more : BoardPair → Mending → Bool → MendingBoards
copied_more s m true = record { pair = boards_copied m.board m.cursor s; mending = Some (record { board = m.board; cursor = m.cursor + 1 }) }
copied_more s m false = record { pair = boards_joined m.board (boards_copied m.board m.cursor s); mending = None }

abbrev pub idled_in : BoardPair → Option Mending → MendingBoards
idled_in s None = record { pair = s; mending = None }
idled_in s (Some m) = copied_more s m (has_more m)

abbrev pub boards_idled : MendingBoards → MendingBoards
boards_idled s = idled_in s.pair s.mending

-- the board that is in with the word at the cursor, if it is the last one
abbrev pub unless_more : ℕ → Bool → Option ℕ
unless_more b true = None
unless_more b false = Some b

abbrev pub mended_by : Option Mending → Option ℕ
mended_by None = None
mended_by (Some m) = unless_more m.board (has_more m)

-- ---- accesses

-- what a read leaves: the boards, and the number of the board of which a word was rewritten
pub record MendingRead : Type 0 where
  pub boards : MendingBoards
  pub repaired : Option ℕ

-- a read never uses the board that mends
abbrev pub mending_read : MendingBoards → ℕ → MendingRead
mending_read s i = record { boards = record s { pair = (boards_read s.pair i).boards }; repaired = (boards_read s.pair i).repaired }

-- a write below the cursor also sets the word of the board that mends, with right parity
abbrev pub also_written_if : Bool → ℕ → BoardPair → ℕ → ℕ → BoardPair
also_written_if true b s i word = with_board b (with_word (board_of b s) i word) s
also_written_if false b s i word = s

abbrev pub also_written : Option Mending → BoardPair → ℕ → ℕ → BoardPair
also_written None s i word = s
also_written (Some m) s i word = also_written_if (nat_lt i m.cursor) m.board s i word

-- a write, with the word that is to stand there
abbrev pub mending_written : MendingBoards → ℕ → ℕ → MendingBoards
mending_written s i word = record s { pair = also_written s.mending (boards_written s.pair i word) i word }
