-- A program as parts, each words from an address on, as plain data.
use Rattle.std.specs.Prelude.{◌≡◌, ℕ, ◌+◌, ◌%◌, ◌^◌, ◌<◌, List, [], ◌∷◌, length}

-- the virtual address of the first word, and the words
pub record PartData : Type 0 where
  pub at : ℕ
  pub words : List ℕ

-- the virtual address of the first instruction, and the parts
pub record ProgramData : Type 0 where
  pub entry : ℕ
  pub parts : List PartData

-- how many words the parts have together
abbrev pub words_in : List PartData → ℕ
words_in [] = 0
words_in (p ∷ ps) = length p.words + words_in ps

-- each part begins at a word
abbrev pub AreAligned : List PartData → Type 0
AreAligned [] = Unit {0}
AreAligned (p ∷ ps) = (p.at % 4 ≡ 0) × AreAligned ps

-- each number is a word
abbrev pub AreWords : List ℕ → Type 0
AreWords [] = Unit {0}
AreWords (w ∷ ws) = (w < 2 ^ 32) × AreWords ws

abbrev pub FitsPart : PartData → Type 0
FitsPart p = (p.at < 2 ^ 32) × AreWords p.words

abbrev pub FitParts : List PartData → Type 0
FitParts [] = Unit {0}
FitParts (p ∷ ps) = FitsPart p × FitParts ps
