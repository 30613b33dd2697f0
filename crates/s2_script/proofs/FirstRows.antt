-- The rows of the first line.
use Rattle.std.proofs.Common.{◌≡◌, ℕ, List, [], ◌∷◌, map, refl, sym, ap, subst, inl, inr}
use Rattle.std.specs.Prelude.{true, Option, Some, None, Result, Ok, Err}
use Rattle.s2_text.specs.declared.stops.BadLine.{BadLine}
use Rattle.s2_text.specs.declared.stops.Stop.{Stop}
use Rattle.s2_text.specs.LineTables.{LineRow, forms, SaysIn, ReadsLine}
use Rattle.s2_text.specs.LineReading.{ReadsRows}
use Rattle.s2_text.proofs.FormTests.{are_short, are_no_remarks}
use Rattle.s2_text.proofs.DisjointForms.{are_disjoint}
use Rattle.s2_script.specs.declared.entry.Entry.{Entry}
use Rattle.s2_script.specs.declared.entry.First.{First}
use Rattle.s2_script.specs.declared.entry.First.TheVariants.{Frame, Entry as EntryOf}
use Rattle.s2_script.specs.ScriptLines.{script_rows}
use Rattle.s2_script.specs.FirstLines.{first_answer, first_found, first_rows, on_first, ReadsFirst}

pub first_disjoint : are_disjoint (forms first_rows) ≡ true
first_disjoint = refl

pub first_short : are_short (forms first_rows) ≡ true
first_short = refl

pub first_no_remarks : are_no_remarks (forms first_rows) ≡ true
first_no_remarks = refl

-- a line of the table, on the first line
pub says_on_first : (rows : List (LineRow Entry)) (e : Entry) (line : List ℕ) → SaysIn rows e line → SaysIn (map on_first rows) (EntryOf (Some e)) line
says_on_first [] e line h = absurd h
says_on_first (row ∷ rows) e line (inl h) = inl (h.0, h.1, h.2, ap (λ (x : Entry). EntryOf (Some x)) h.3)
says_on_first (row ∷ rows) e line (inr h) = inr (says_on_first rows e line h)

-- and back
pub said_on_first : (rows : List (LineRow Entry)) (x : First) (line : List ℕ) → SaysIn (map on_first rows) x line → (e : Entry) × (x ≡ EntryOf (Some e)) × SaysIn rows e line
said_on_first [] x line h = absurd h
said_on_first (row ∷ rows) x line (inl h) = (row.says h.0, h.3, inl (h.0, h.1, h.2, refl))
said_on_first (row ∷ rows) x line (inr h) = let r = said_on_first rows x line h in (r.0, r.1, inr r.2)

-- what the readers of the table answer, on the first line
pub rows_on_first : (line : List ℕ) (r : Result Entry Stop) → ReadsRows script_rows line r → ReadsRows (map on_first script_rows) line (first_found r)
rows_on_first line (Ok e) h = record { is = says_on_first script_rows e line h.is }
rows_on_first line (Err stop) h = record { is = h.is }

-- what is read of the first line, by what it is
same_entry : (x y : Entry) → EntryOf (Some x) ≡ EntryOf (Some y) → x ≡ y
same_entry x y h = cc

pub frame_or_entry : (line : List ℕ) (x : First) → SaysIn first_rows x line → ReadsFirst line (Ok x)
frame_or_entry line (Frame frame) (inl h) = h
frame_or_entry line (Frame frame) (inr h) = absurd (let r = said_on_first script_rows (Frame frame) line h in let e = r.1 in cc)
frame_or_entry line (EntryOf (Some e)) (inl h) = absurd (let s = h.3 in cc)
frame_or_entry line (EntryOf (Some e)) (inr h) =
    let r = said_on_first script_rows (EntryOf (Some e)) line h in
    subst (λ (x : Entry). SaysIn script_rows x line) (sym (same_entry e r.0 r.1)) r.2
frame_or_entry line (EntryOf None) (inl h) = absurd (let s = h.3 in cc)
frame_or_entry line (EntryOf None) (inr h) = absurd (let r = said_on_first script_rows (EntryOf None) line h in let e = r.1 in cc)

-- the answer, by what was read of its rows and of remarks
pub reads_first : (line : List ℕ) (r : Result (Option First) BadLine) → ReadsLine first_rows line r → ReadsFirst line (first_answer r)
reads_first line (Ok (Some first)) h = frame_or_entry line first h
reads_first line (Ok None) h = h
reads_first line (Err bad) h = h
