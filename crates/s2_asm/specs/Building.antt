-- The second pass: what a program's parts are so far, and what one line does to them.
use Rattle.std.specs.Prelude.{◌≡◌, ℕ, ◌+◌, ◌*◌, ◌<◌, ◌⊎◌, List, [], ◌∷◌, ◌++◌, length, Option, Some, None, Result, Ok, Err}
use Rattle.s2_text.specs.LineTables.{ReadsLine}
use Rattle.s2_mnemonics.specs.declared.line.Line.{Line}
use Rattle.s2_mnemonics.specs.declared.line.Line.TheVariants.{Org, Entry, Label}
use Rattle.s2_mnemonics.specs.LineWords.{LineWord}
use Rattle.s2_mnemonics.specs.TextTable.{text_rows}
use Rattle.s2_asm.specs.declared.fault.AsmFault.{AsmFault}
use Rattle.s2_asm.specs.declared.fault.AsmFail.{AsmFail}
use Rattle.s2_asm.specs.declared.fault.AsmFail.TheVariants.{Fault, Memory}
use Rattle.s2_program.specs.Programs.{PartData}
use Rattle.s2_asm.specs.declared.building.Building.{Building}
use Rattle.s2_program.specs.Programs.{ProgramData}
use Rattle.s2_asm.specs.TextMeaning.{addressed, later_fault_by, Means, NoFault, NoLater, labels_from, text_lines, Say, IsLaterFault, IsFirstFault}

-- a part as its address and its words with theirs
abbrev pub view_part : PartData → ℕ × List (ℕ × ℕ)
view_part p = (p.at, addressed p.at p.words)

abbrev pub views : List PartData → List (ℕ × List (ℕ × ℕ))
views [] = []
views (p ∷ ps) = view_part p ∷ views ps

abbrev pub opened : Option PartData → List (ℕ × List (ℕ × ℕ))
opened None = []
opened (Some p) = view_part p ∷ []

abbrev pub built : Building → List (ℕ × List (ℕ × ℕ))
built b = views b.closed.items ++ opened b.open

-- the address of the next word
abbrev pub next_of : Option PartData → Option ℕ
next_of None = None
next_of (Some p) = Some (p.at + 4 * length p.words)

abbrev pub HasPlace : Option PartData → Type 0
HasPlace None = ⊥
HasPlace (Some p) = p.at + 4 * length p.words < 0x100000000

-- a word more in the open part
abbrev pub Opens : Option PartData → ℕ → Option PartData → Type 0
Opens (Some p) w (Some q) = (q.at ≡ p.at) × (q.words ≡ p.words ++ w ∷ [])
Opens _ w _ = ⊥

pub record Same (old new : Building) : Type 0 where
  pub closed : new.closed.items ≡ old.closed.items
  pub open_part : new.open ≡ old.open

pub record Begins (old new : Building) (x : ℕ) : Type 0 where
  pub parts : built new ≡ built old ++ (x, []) ∷ []
  pub next : next_of new.open ≡ Some x
  pub entry : new.entry ≡ old.entry

pub record Writes (labels : List (List ℕ × ℕ)) (old new : Building) (n : ℕ) (l : Line) : Type 0 where
  pub at : ℕ
  pub word : ℕ
  pub next : next_of old.open ≡ Some at
  pub clean : later_fault_by labels (Some at) n (Some l) ≡ None
  pub gives : LineWord labels at l word
  pub closed : new.closed.items ≡ old.closed.items
  pub opens : Opens old.open word new.open
  pub entry : new.entry ≡ old.entry

pub record Fails (labels : List (List ℕ × ℕ)) (old : Building) (n : ℕ) (l : Line) (fault : AsmFault) : Type 0 where
  pub at : ℕ
  pub next : next_of old.open ≡ Some at
  pub is : later_fault_by labels (Some at) n (Some l) ≡ Some fault

-- what one line does
abbrev pub LineBuilds : List (List ℕ × ℕ) → Building → Building → ℕ → Line → Result (Unit {0}) AsmFail → Type 0
LineBuilds labels old new n (Org x) (Ok u) = Begins old new x
LineBuilds labels old new n (Entry x) (Ok u) = Same old new × (new.entry ≡ Some x)
LineBuilds labels old new n (Label l) (Ok u) = Same old new × (new.entry ≡ old.entry)
LineBuilds labels old new n l (Ok u) = Writes labels old new n l
LineBuilds labels old new n l (Err (Fault fault)) = Fails labels old n l fault
LineBuilds labels old new n l (Err Memory) = Unit {0}

pub record Builds (labels : List (List ℕ × ℕ)) (old new : Building) (n : ℕ) (l : Line) (result : Result (Unit {0}) AsmFail) : Type 0 where
  pub is : LineBuilds labels old new n l result

-- what one line of the text does, whatever it says
abbrev pub LaterLine : List (List ℕ × ℕ) → Building → Building → ℕ → Option Line → Result (Unit {0}) AsmFail → Type 0
LaterLine labels old new n None r = (r ≡ Ok tt) × (new ≡ old)
LaterLine labels old new n (Some l) r = Builds labels old new n l r

pub record TakesLater (labels : List (List ℕ × ℕ)) (old new : Building) (n : ℕ) (line : List ℕ) (result : Result (Unit {0}) AsmFail) : Type 0 where
  pub is : (l : Option Line) → ReadsLine text_rows line (Ok l) → LaterLine labels old new n l result

-- the entry, where no .entry line stands
abbrev pub entry_or : Option ℕ → ℕ → ℕ
entry_or None e = e
entry_or (Some x) e = x

-- what the whole assembly answers
pub record MeansOnly (text : List ℕ) (entry : ℕ) (parts : List (ℕ × List (ℕ × ℕ))) : Type 0 where
  pub means : Means text entry parts
  pub clean : NoFault [] means.0
  pub later : NoLater (labels_from None means.0) [] means.0

pub record LaterFault (text : List ℕ) (fault : AsmFault) : Type 0 where
  pub said : List (Option Line)
  pub say : Say (text_lines text) said
  pub clean : NoFault [] said
  pub is : IsLaterFault said fault

abbrev pub Assembled : List ℕ → Result ProgramData AsmFail → Type 0
Assembled text (Ok p) = MeansOnly text p.entry (views p.parts)
Assembled text (Err (Fault fault)) = IsFirstFault (text_lines text) fault ⊎ LaterFault text fault
Assembled text (Err Memory) = Unit {0}
