-- What a reader keeps of a line is in the ranges of its event: the row of private values gives no greater ones.
use Rattle.std.proofs.Common.{ℕ, List, [], ◌∷◌, sym, subst, inl, inr}
use Rattle.std.specs.Prelude.{IfOk, Ok, Err}
use Rattle.std.specs.declared.result.Result.{Result}
use Rattle.s2_text.specs.declared.stops.BadLine.{BadLine}
use Rattle.s2_text.specs.LineGrammar.{Value, num, name, Fits}
use Rattle.s2_text.specs.LineTables.{LineRow, ReadsRow, SaysIn}
use Rattle.s2_journal.specs.declared.note.ReportLine.{ReportLine}
use Rattle.s2_journal.specs.ReportLines.{IsLineInRange, delivered_private_row, report_rows}

-- what a row says of numbers that fit it is in range
abbrev RowInRange : LineRow ReportLine → Type 0
RowInRange row = (values : List Value) → Fits row.form values → IsLineInRange (row.says values)

abbrev RowsInRange : List (LineRow ReportLine) → Type 0
RowsInRange [] = Unit {0}
RowsInRange (row ∷ rows) = RowInRange row × RowsInRange rows

said_in_range : (rows : List (LineRow ReportLine)) → RowsInRange rows → (x : ReportLine) (line : List ℕ) → SaysIn rows x line → IsLineInRange x
said_in_range [] h x line says = absurd says
said_in_range (row ∷ rows) h x line (inl said) = subst IsLineInRange (sym said.3) (h.0 said.0 said.1)
said_in_range (row ∷ rows) h x line (inr says) = said_in_range rows h.1 x line says

private_in_range : RowInRange delivered_private_row
private_in_range [] h = absurd h
private_in_range (run ∷ []) h = absurd h.1
private_in_range (run ∷ name l ∷ rest) h = absurd h.1.0
private_in_range (run ∷ num a ∷ []) h = absurd h.1.1
private_in_range (run ∷ num a ∷ name l ∷ rest) h = absurd h.1.1.0
private_in_range (run ∷ num a ∷ num b ∷ []) h = absurd h.1.1.1
private_in_range (run ∷ num a ∷ num b ∷ name l ∷ rest) h = absurd h.1.1.1.0
private_in_range (run ∷ num a ∷ num b ∷ num c ∷ []) h = record { first = h.1.0.1; second = h.1.1.0.1; third = h.1.1.1.0.1 }
private_in_range (run ∷ num a ∷ num b ∷ num c ∷ e ∷ rest) h = absurd h.1.1.1.1

rows_in_range : RowsInRange report_rows
rows_in_range = (λ v h. tt, (λ v h. tt, (λ v h. tt, (λ v h. tt, (λ v h. tt, (λ v h. tt, (λ v h. tt, (λ v h. tt, (λ v h. tt, (λ v h. tt, (λ v h. tt, (λ v h. tt, (λ v h. tt, (λ v h. tt, (private_in_range, (λ v h. tt, (λ v h. tt, (λ v h. tt, (λ v h. tt, (λ v h. tt, (λ v h. tt, (λ v h. tt, (λ v h. tt, (λ v h. tt, (λ v h. tt, (λ v h. tt, tt))))))))))))))))))))))))))

pub read_in_range : (line : List ℕ) (result : Result ReportLine BadLine) → ReadsRow report_rows line result → IfOk result IsLineInRange
read_in_range line (Ok x) h = said_in_range report_rows rows_in_range x line h
read_in_range line (Err bad) h = tt
