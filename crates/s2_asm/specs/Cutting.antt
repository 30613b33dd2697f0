-- For the parts of the passes: the front of a text up to its first line feed, and what follows; what one line does to where a text stands.
use Rattle.std.specs.Prelude.{◌≡◌, ℕ, ◌+◌, ◌%◌, ◌<◌, ◌≤◌, List, [], ◌∷◌, ◌++◌, length, Option, Some, None, Result, Ok, Err, ◌==◌, if◌then◌else◌}
use Rattle.std.specs.Ordering.{nat_cmp}
use Rattle.std.specs.Cmp.Lexicographic.{slice_cmp}
use Rattle.std.specs.BTreeMap.{BTreeMap, get}
use Rattle.arrayvec.specs.ArrayVec.{ArrayVec}
use Rattle.s2_text.specs.LineTables.{ReadsLine}
use Rattle.s2_mnemonics.specs.declared.line.Line.{Line}
use Rattle.s2_mnemonics.specs.declared.line.Line.TheVariants.{Org, Entry, Word, Label, Plain, Jump, Branch}
use Rattle.s2_mnemonics.specs.TextTable.{text_rows}
use Rattle.s2_asm.specs.declared.fault.AsmFail.{AsmFail}
use Rattle.s2_asm.specs.declared.fault.AsmFail.TheVariants.{Fault, Memory}
use Rattle.s2_asm.specs.declared.progress.Progress.{Progress}
use Rattle.s2_mnemonics.specs.LineWords.{address_in}
use Rattle.s2_asm.specs.TextMeaning.{text_lines, Say, orgs_in, words_in, after_all, labels_from, fault_of, NoFault, HasFault, IsFirstFault}

abbrev pub cut : List ℕ → List ℕ × List ℕ
cut [] = ([], [])
cut (b ∷ bytes) = if b == 10 then ([], bytes) else (b ∷ (cut bytes).0, (cut bytes).1)

abbrev pub org_in : Line → ℕ
org_in (Org x) = 1
org_in _ = 0

-- a place below 2^32
abbrev pub IsPlaced : Option ℕ → Type 0
IsPlaced None = ⊥
IsPlaced (Some a) = a < 0x100000000

-- a line that keeps the limits
abbrev pub HasRoom : ℕ → ℕ → Option ℕ → Line → Type 0
HasRoom orgs words here (Org x) = (orgs < 64) × (x % 4 ≡ 0)
HasRoom orgs words here (Entry x) = Unit {0}
HasRoom orgs words here (Label l) = IsPlaced here
HasRoom orgs words here (Word w) = (words < 540672) × IsPlaced here
HasRoom orgs words here (Plain i) = (words < 540672) × IsPlaced here
HasRoom orgs words here (Jump link to) = (words < 540672) × IsPlaced here
HasRoom orgs words here (Branch op s t to) = (words < 540672) × IsPlaced here

-- the limits that no lines without a fault pass
abbrev pub IsBelow : Option ℕ → Type 0
IsBelow None = Unit {0}
IsBelow (Some a) = (a ≤ 0x100000000) × (a % 4 ≡ 0)

pub record Bounded (p : Progress) : Type 0 where
  pub orgs : p.orgs ≤ 64
  pub words : p.words ≤ 540672
  pub here : IsBelow p.here

-- the map holds these labels
abbrev pub Holds : BTreeMap (ArrayVec ℕ) ℕ → List (List ℕ × ℕ) → Type 0
Holds map labels = (q : ArrayVec ℕ) → get (λ v w. slice_cmp nat_cmp v.items w.items) map q ≡ address_in labels q.items

-- these lines lead here
pub record Stands (p : Progress) (said : List (Option Line)) : Type 0 where
  pub orgs : p.orgs ≡ orgs_in said
  pub words : p.words ≡ words_in said
  pub here : p.here ≡ after_all None said
  pub labels : Holds p.labels (labels_from None said)

-- one line more
abbrev pub OneLine : Progress → List (Option Line) → List ℕ → Result (Unit {0}) AsmFail → Type 0
OneLine new said line (Ok u) = (l : Option Line) × ReadsLine text_rows line (Ok l) × (fault_of said l ≡ None) × Stands new (said ++ l ∷ [])
OneLine new said line (Err (Fault fault)) = HasFault said line fault
OneLine new said line (Err Memory) = Unit {0}

pub record TakesOne (old new : Progress) (line : List ℕ) (n : ℕ) (result : Result (Unit {0}) AsmFail) : Type 0 where
  pub is : (said : List (Option Line)) → Stands old said → n ≡ length said + 1 → OneLine new said line result

-- what the first pass answers
pub record PassesOne (lines : List (List ℕ)) (map : BTreeMap (ArrayVec ℕ) ℕ) : Type 0 where
  pub said : List (Option Line)
  pub say : Say lines said
  pub clean : NoFault [] said
  pub holds : Holds map (labels_from None said)

abbrev pub FirstPass : List ℕ → Result (BTreeMap (ArrayVec ℕ) ℕ) AsmFail → Type 0
FirstPass text (Ok map) = PassesOne (text_lines text) map
FirstPass text (Err (Fault fault)) = IsFirstFault (text_lines text) fault
FirstPass text (Err Memory) = Unit {0}
