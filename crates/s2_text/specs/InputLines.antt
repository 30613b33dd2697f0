-- An input as its lines. A line ends with a line feed or with the end of the input; an input that ends with a line feed, or is
-- empty, has no further line.
use Rattle.std.specs.Prelude.{ℕ, ◌≢◌, ◌==◌, ◌+◌, List, [], ◌∷◌, if◌then◌else◌}
use Rattle.s2_text.specs.declared.lines.TheConstants.{LINE_FEED}

-- bytes without a line feed
abbrev pub IsPlain : List ℕ → Type 0
IsPlain [] = Unit {0}
IsPlain (b ∷ bs) = (b ≢ LINE_FEED) × IsPlain bs

-- a line: its bytes without its line feed, and how many bytes of the input it has, its line feed among them
pub record InputLine : Type 0 where
  pub text : List ℕ
  pub size : ℕ

-- the line that is a line feed alone
abbrev pub empty_line : InputLine
empty_line = record { text = []; size = 1 }

-- lines with one more byte before the first of them
abbrev pub with_byte : ℕ → List InputLine → List InputLine
with_byte b [] = (record { text = b ∷ []; size = 1 }) ∷ []
with_byte b (line ∷ lines) = (record { text = b ∷ line.text; size = line.size + 1 }) ∷ lines

-- the lines of an input, in order
abbrev pub lines_of : List ℕ → List InputLine
lines_of [] = []
lines_of (b ∷ bs) = if b == LINE_FEED then empty_line ∷ lines_of bs else with_byte b (lines_of bs)

-- how many bytes some lines have
abbrev pub size_of : List InputLine → ℕ
size_of [] = 0
size_of (line ∷ lines) = line.size + size_of lines

-- the texts of some lines
abbrev pub texts_of : List InputLine → List (List ℕ)
texts_of [] = []
texts_of (line ∷ lines) = line.text ∷ texts_of lines
