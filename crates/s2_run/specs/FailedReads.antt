-- A read of an input that fails behind some of its lines.
use Rattle.std.specs.Prelude.{ℕ, ◌≡◌, ◌+◌, ◌≤◌, ◌⊎◌, List, [], ◌∷◌, ◌++◌, take, drop, Some}
use Rattle.std.specs.declared.option.Option.{Option}
use Rattle.s2_text.specs.declared.lines.TheConstants.{LINE_FEED}
use Rattle.s2_text.specs.InputLines.{InputLine, IsPlain, size_of}
use Rattle.s2_run.specs.declared.limits.TheConstants.{INPUT_LIMIT}

-- bytes that end with a line feed, or are none
abbrev pub IsFed : List ℕ → Type 0
IsFed bytes = (bytes ≡ []) ⊎ ((front : List ℕ) × (bytes ≡ front ++ LINE_FEED ∷ []))

-- a read failed behind some lines: they were taken whole, each with its line feed, and of the next line no more than bytes before
-- its line feed
pub record IsUnreadBehind (input : List ℕ) (before : List InputLine) (left : Option (List ℕ)) : Type 0 where
  pub fed : IsFed (take (size_of before) input)
  pub part : ℕ
  pub plain : IsPlain (take part (drop (size_of before) input))
  pub within : size_of before + part ≤ INPUT_LIMIT
  pub left_is : left ≡ Some (drop (size_of before + part) input)
