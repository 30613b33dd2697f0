-- The text that lists a program: its entry, and for each part where it begins and the line of each of its words.
use Rattle.std.specs.Prelude.{◌≡◌, ℕ, ◌+◌, ◌*◌, ◌%◌, ◌^◌, ◌<◌, ◌≤◌, List, [], ◌∷◌, ◌++◌, length, Result, Ok, Err}
use Rattle.s2_text.specs.declared.lines.TheConstants.{LINE_FEED}
use Rattle.s2_program.specs.Programs.{PartData, ProgramData, words_in}
use Rattle.s2_mnemonics.specs.declared.line.Line.{Line}
use Rattle.s2_mnemonics.specs.declared.line.Line.TheVariants.{Org}
use Rattle.s2_mnemonics.specs.LineWords.{line_text, GivesWord}
use Rattle.s2_asm.specs.declared.fault.AsmFail.{AsmFail}
use Rattle.s2_asm.specs.declared.fault.AsmFail.TheVariants.{Fault, Memory}

-- a line for each word, from an address on
abbrev pub ListsWords : ℕ → List ℕ → List Line → Type 0
ListsWords at [] [] = Unit {0}
ListsWords at [] (l ∷ ls) = ⊥
ListsWords at (w ∷ ws) [] = ⊥
ListsWords at (w ∷ ws) (l ∷ ls) = GivesWord at w l × ListsWords (at + 4) ws ls

-- for each part the line of its address, and those of its words
abbrev pub ListsParts : List PartData → List Line → Type 0
ListsParts [] ls = ls ≡ []
ListsParts (p ∷ ps) ls = (words : List Line) × (others : List Line) × (ls ≡ Org p.at ∷ (words ++ others)) × ListsWords p.at p.words words × ListsParts ps others

-- lines, each with its line feed
abbrev pub written : List Line → List ℕ
written [] = []
written (l ∷ ls) = line_text l ++ LINE_FEED ∷ written ls

-- each part begins at a word and ends below 2^32
abbrev pub HavePlaces : List PartData → Type 0
HavePlaces [] = Unit {0}
HavePlaces (p ∷ ps) = (p.at % 4 ≡ 0) × (p.at < 2 ^ 32) × (p.at + 4 * length p.words ≤ 2 ^ 32) × HavePlaces ps

-- the parts keep the limits of a text
pub record AreListable (ps : List PartData) : Type 0 where
  pub few : length ps ≤ 64
  pub small : words_in ps ≤ 540672
  pub places : HavePlaces ps

-- what assembling answers is this program, or that memory is wanting
abbrev pub IsProgramOr : ProgramData → Result ProgramData AsmFail → Type 0
IsProgramOr p (Ok q) = q ≡ p
IsProgramOr p (Err Memory) = Unit {0}
IsProgramOr p (Err (Fault fault)) = ⊥
