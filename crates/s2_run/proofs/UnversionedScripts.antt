-- A script without a version line is read as one was before there were any.
use Rattle.std.proofs.Common.{◌≡◌, ℕ, zero, suc, ◌-◌, ◌<◌, ◌≤◌, List, [], ◌∷◌, ◌++◌, take, refl, ap, inl, inr, arith}
use Rattle.std.specs.Prelude.{Bool, true, false, ◌==◌, ◌⊎◌, codes, Some, None, Ok, Err}
use Rattle.std.specs.declared.option.Option.{Option}
use Rattle.std.specs.declared.result.Result.{Result}
use Rattle.std.proofs.lemmas.Bool.Decides.{nat_tests}
use Rattle.s2_text.specs.declared.stops.BadLine.{BadLine}
use Rattle.s2_text.specs.LineGrammar.{Reaches, IsText}
use Rattle.s2_text.specs.LineTables.{ReadsLine, IsLineOf, forms}
use Rattle.s2_text.proofs.ShortLines.{line_again, remark_again}
use Rattle.s2_script.specs.ScriptLines.{script_rows}
use Rattle.s2_script.specs.FirstLines.{first_rows, version_row}
use Rattle.s2_script.specs.declared.entry.Entry.{Entry}
use Rattle.s2_script.proofs.ScriptTests.{script_disjoint, script_no_remarks}
use Rattle.s2_text.specs.InputLines.{InputLine}
use Rattle.s2_run.specs.ScriptRuns.{ReadsFirstLine, ChoosesFrame}
use Rattle.s2_run.specs.ScriptLaws.{IsUnversioned, IsReadAlike, UnversionedScripts}
use Rattle.s2_run.proofs.FrameChoice.{said_not_bad, none_not_bad, one_reach}

abbrev OfTable : List ℕ → Type 0
OfTable text = IsLineOf (forms script_rows) text

abbrev OfFirst : List ℕ → Type 0
OfFirst text = IsLineOf (forms first_rows) text

wider : (text : List ℕ) → OfTable text → OfFirst text
wider text (inl remark) = inl remark
wider text (inr row) = inr (inr row)

-- no version line begins with another byte
version_byte : (b : ℕ) (bytes : List ℕ) → IsText version_row.form (b ∷ bytes) → b ≡ 118
version_byte b bytes (vs, fits, is) = cc

narrower : (b : ℕ) (bytes rest : List ℕ) (n : ℕ) → (b ≡ 118 → ⊥) → 0 < n → OfFirst (take n (b ∷ bytes) ++ rest) → OfTable (take n (b ∷ bytes) ++ rest)
narrower b bytes rest zero other some h = absurd (omega arith)
narrower b bytes rest (suc n) other some (inl remark) = inl remark
narrower b bytes rest (suc n) other some (inr (inl version)) = absurd (other (version_byte b (take n bytes ++ rest) version))
narrower b bytes rest (suc n) other some (inr (inr row)) = inr row

same_reach : (b : ℕ) (bytes : List ℕ) (reach : ℕ) → (b ≡ 118 → ⊥) → (OfFirst (b ∷ bytes) → ⊥) → Reaches OfTable (b ∷ bytes) reach → Reaches OfFirst (b ∷ bytes) reach
same_reach b bytes reach other outside r = record {
  outside = outside;
  within = r.within;
  before = (r.before.0, wider (take reach (b ∷ bytes) ++ r.before.0) r.before.1);
  past = λ n above most begins. r.past n above most (begins.0, narrower b bytes begins.0 n other (omega arith) begins.1);
}

abbrev bad_at : ℕ → BadLine
bad_at n = record { column = n }

by_byte : (b : ℕ) (bytes : List ℕ) (bad other : BadLine) → (1 ≤ bad.column) × Reaches OfFirst (b ∷ bytes) (bad.column - 1) → (1 ≤ other.column) × Reaches OfTable (b ∷ bytes) (other.column - 1) → (t : Bool) → (b == 118) ≡ t →
    (b ∷ [] ≡ codes "v") ⊎ (other ≡ bad)
by_byte b bytes bad other first plain true is = inl (ap (λ (n : ℕ). n ∷ []) (let e : b ≡ 118 = grind (arith, nat_tests) in e))
by_byte b bytes bad other first plain false is =
    let differs : b ≡ 118 → ⊥ = λ e. (let f : (b == 118) ≡ true = grind (arith, nat_tests) in cc) in
    let low = first.0 in
    let other_low = plain.0 in
    let back = one_reach OfFirst (b ∷ bytes) (other.column - 1) (bad.column - 1) (same_reach b bytes (other.column - 1) differs first.1.outside plain.1) first.1 in
    let same : other.column ≡ bad.column = omega arith in
    inr (ap bad_at same)

bad_alike : (text : List ℕ) (bad other : BadLine) → ReadsFirstLine text (Err bad) → ReadsLine script_rows text (Err other) → (take 1 text ≡ codes "v") ⊎ (other ≡ bad)
bad_alike [] bad other first plain = absurd (first.1.outside (inl tt))
bad_alike (b ∷ bytes) bad other first plain = by_byte b bytes bad other first plain (b == 118) refl

read_alike : (text : List ℕ) (first plain : Result (Option Entry) BadLine) → IsUnversioned text → ReadsFirstLine text first → ReadsLine script_rows text plain → IsReadAlike text first plain
read_alike text (Ok (Some entry)) plain none first p = line_again script_rows text plain script_disjoint script_no_remarks p entry first
read_alike text (Ok None) plain none (inl remark) p = remark_again script_rows text plain script_no_remarks p remark
read_alike text (Ok None) plain none (inr (frame, says)) p = absurd (none frame says)
read_alike text (Err bad) (Ok (Some entry)) none first p = absurd (said_not_bad text entry bad p first)
read_alike text (Err bad) (Ok None) none first p = absurd (none_not_bad text bad (inl p) first)
read_alike text (Err bad) (Err other) none first p = (other, refl, bad_alike text bad other first p)

frame_alike : (line : InputLine) (lines : List InputLine) (frame : ℕ) → IsUnversioned line.text → ChoosesFrame (line ∷ lines) frame → frame ≡ 1024
frame_alike line lines frame none (inl says) = absurd (none frame says)
frame_alike line lines frame none (inr h) = h.0

pub unversioned_scripts : UnversionedScripts
unversioned_scripts = record { reads = read_alike; frames = frame_alike; none = λ frame h. h }
