-- The two boards of global memory as plain data, and the one list of words that they stand for.
use Rattle.std.specs.Prelude.{ℕ, ◌≡◌, ◌<◌, ◌&&◌, ◌⊎◌, List, length, map, Bool, true, false, Some, None, slice_index_or, slice_set, if◌then◌else◌}
use Rattle.std.specs.List.{range_with_len}
use Rattle.std.specs.declared.option.Option.{Option}
use Rattle.s2_base.specs.declared.map.TheConstants.{GLOBAL_WORDS}
use Rattle.s2_duplex.specs.BoardParity.{parity_of, is_same_bit}

-- a board: whether it is in, its words, and a parity bit for each word
pub record BoardState : Type 0 where
  pub is_in : Bool
  pub words : List ℕ
  pub parity : List Bool

-- the two boards, 0 and 1
pub record BoardPair : Type 0 where
  pub first : BoardState
  pub second : BoardState

-- two boards, as a pair
abbrev pub pair_of : BoardState → BoardState → BoardPair
pair_of first second = record { first = first; second = second }

-- the word of a board, be it bad or not
abbrev pub board_word : BoardState → ℕ → ℕ
board_word b i = slice_index_or b.words i 0

-- whether a word's parity bit fits; else the word is bad
abbrev pub has_parity : BoardState → ℕ → Bool
has_parity b i = is_same_bit (parity_of (board_word b i)) (slice_index_or b.parity i false)

-- a board has a valid word where it is in and the word is not bad
abbrev pub is_valid : BoardState → ℕ → Bool
is_valid b i = b.is_in && has_parity b i

-- boards that stand for a list: where a board has a valid word, it is that of the list
pub record HasWordsOf (b : BoardState) (list : List ℕ) : Type 0 where
  pub words : length b.words ≡ length list
  pub parity : length b.parity ≡ length list
  pub equal : (i : ℕ) → i < length list → is_valid b i ≡ true → board_word b i ≡ slice_index_or list i 0

-- and at each place some board has a valid word
pub record StandsFor (s : BoardPair) (list : List ℕ) : Type 0 where
  pub first : HasWordsOf s.first list
  pub second : HasWordsOf s.second list
  pub some : (i : ℕ) → i < length list → (is_valid s.first i ≡ true) ⊎ (is_valid s.second i ≡ true)

-- a valid word, of the first board where that has one
abbrev pub valid_word : BoardPair → ℕ → ℕ
valid_word s i = if is_valid s.first i then board_word s.first i else board_word s.second i

-- the list of the valid words: the contents of global memory
abbrev pub contents : BoardPair → List ℕ
contents s = map (valid_word s) (range_with_len 0 (length s.first.words))

-- the boards of global memory: they have as many words as it, and stand for a list
pub record IsDuplex (s : BoardPair) : Type 0 where
  pub size : length s.first.words ≡ GLOBAL_WORDS
  pub stands : StandsFor s (contents s)

-- a board that is in, with right parity everywhere
abbrev pub new_board : List ℕ → BoardState
new_board words = record { is_in = true; words = words; parity = map parity_of words }

-- two such boards
abbrev pub new_boards : List ℕ → BoardPair
new_boards words = record { first = new_board words; second = new_board words }

-- a word of a board set, with right parity
abbrev pub with_word : BoardState → ℕ → ℕ → BoardState
with_word b i word = record b { words = slice_set b.words i word; parity = slice_set b.parity i (parity_of word) }

-- what a read leaves: the boards, and the number of the board of which a word was rewritten
pub record BoardRead : Type 0 where
  pub boards : BoardPair
  pub repaired : Option ℕ

-- a word that is bad on one board is rewritten from the other
abbrev pub repaired_by : Bool → Bool → BoardPair → ℕ → BoardRead
repaired_by false second_fits s i = record { boards = record s { first = with_word s.first i (board_word s.second i) }; repaired = Some 0 }
repaired_by true false s i = record { boards = record s { second = with_word s.second i (board_word s.first i) }; repaired = Some 1 }
repaired_by true true s i = record { boards = s; repaired = None }

-- a read repairs where both boards are in
abbrev pub boards_read : BoardPair → ℕ → BoardRead
boards_read s i =
    if s.first.is_in && s.second.is_in then repaired_by (has_parity s.first i) (has_parity s.second i) s i
    else record { boards = s; repaired = None }

-- a word of the first board that is in
abbrev pub word_in : BoardPair → ℕ → ℕ
word_in s i = if s.first.is_in then board_word s.first i else board_word s.second i

-- a write sets a word of each board that is in
abbrev pub written_board : BoardState → ℕ → ℕ → BoardState
written_board b i word = if b.is_in then with_word b i word else b

-- a write, with the word that is to stand there
abbrev pub boards_written : BoardPair → ℕ → ℕ → BoardPair
boards_written s i word = record { first = written_board s.first i word; second = written_board s.second i word }
