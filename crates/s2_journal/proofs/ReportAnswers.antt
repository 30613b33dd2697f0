-- Lines have one answer: they are a whole report, or they go wrong at one place.
use Rattle.std.proofs.Common.{◌≡◌, ℕ, suc, ◌-◌, ◌≤◌, List, [], ◌∷◌, ◌++◌, length, Option, Some, None, Ok, Err, refl, sym, ap, ◌∙◌, subst, append_assoc, arith, inl, inr}
use Rattle.std.specs.Prelude.{nat_lt}
use Rattle.std.proofs.lemmas.Bool.Decides.{nat_tests}
use Rattle.std.proofs.lemmas.List.{append-nil}
use Rattle.s2_text.specs.declared.stops.BadLine.{BadLine}
use Rattle.s2_text.specs.LineGrammar.{IsTextOfOne, Reaches, IsBadAt}
use Rattle.s2_text.specs.LineTables.{forms, SaysIn}
use Rattle.s2_text.proofs.LiteralWords.{cases}
use Rattle.s2_text.proofs.DisjointForms.{one_answer, says_text}
use Rattle.s2_journal.specs.declared.note.ReportLine.{ReportLine}
use Rattle.s2_journal.specs.ReportLines.{report_rows}
use Rattle.s2_journal.specs.ReportOrder.{closing_count, closing_lines, order_state, order_fault, ReadsNext, Follow, GoesWrong, IsReport, IsBadReport}
use Rattle.s2_journal.proofs.ReportTests.{report_disjoint}

-- ---- one line

none_or_some : (o : Option ℕ) (n : ℕ) → o ≡ None → o ≡ Some n → ⊥
none_or_some o n a b = cc

some_once : (o : Option ℕ) (m n : ℕ) → o ≡ Some m → o ≡ Some n → m ≡ n
some_once o m n a b = cc

said_once : (x y : ReportLine) (line : List ℕ) → SaysIn report_rows x line → SaysIn report_rows y line → x ≡ y
said_once x y line a b = one_answer report_rows x y line report_disjoint a b

not_both : (x : ReportLine) (line : List ℕ) (column : ℕ) → SaysIn report_rows x line → IsBadAt (IsTextOfOne (forms report_rows)) line column → ⊥
not_both x line column says bad = bad.1.outside (says_text report_rows x line says)

reach_once : (S : List ℕ → Type 0) (line : List ℕ) (m n : ℕ) → Reaches S line m → Reaches S line n → m ≡ n
reach_once S line m n a b =
    elim (cases (nat_lt m n)) [
      | inl below ↦ absurd (a.past n (grind (arith, nat_tests)) b.within b.before)
      | inr other ↦ elim (cases (nat_lt n m)) [
        | inl above ↦ absurd (b.past m (grind (arith, nat_tests)) a.within a.before)
        | inr same ↦ (let le : n ≤ m = grind (arith, nat_tests) in let ge : m ≤ n = grind (arith, nat_tests) in omega arith)
      ]
    ]

column_once : (line : List ℕ) (m n : ℕ) → IsBadAt (IsTextOfOne (forms report_rows)) line m → IsBadAt (IsTextOfOne (forms report_rows)) line n → m ≡ n
column_once line m n a b =
    let same = reach_once (IsTextOfOne (forms report_rows)) line (m - 1) (n - 1) a.1 b.1 in
    let p = a.0 in
    let q = b.0 in
    omega arith

next_bad : (before : List ReportLine) (line : List ℕ) (x : ReportLine) (bad : BadLine) → ReadsNext before line (Ok x) → ReadsNext before line (Err bad) → ⊥
next_bad before line x bad good (inl outside) = not_both x line bad.column good.0 outside
next_bad before line x bad good (inr (y, says, fault)) =
    let same : y ≡ x = said_once y x line says good.0 in
    none_or_some (order_fault (order_state before) line x) bad.column good.1 (subst (λ (z : ReportLine). order_fault (order_state before) line z ≡ Some bad.column) same fault)

next_column : (before : List ReportLine) (line : List ℕ) (a b : BadLine) → ReadsNext before line (Err a) → ReadsNext before line (Err b) → a.column ≡ b.column
next_column before line a b (inl outside) (inl outside') = column_once line a.column b.column outside outside'
next_column before line a b (inl outside) (inr (y, says, fault)) = absurd (not_both y line a.column says outside)
next_column before line a b (inr (x, says, fault)) (inl outside) = absurd (not_both x line b.column says outside)
next_column before line a b (inr (x, says, fault)) (inr (y, says', fault')) =
    let same : y ≡ x = said_once y x line says' says in
    some_once (order_fault (order_state before) line x) a.column b.column fault (subst (λ (z : ReportLine). order_fault (order_state before) line z ≡ Some b.column) same fault')

-- ---- all lines

wrong_once : (before : List ReportLine) (lines : List (List ℕ)) (m n : ℕ) → GoesWrong before lines m → GoesWrong before lines n → m ≡ n
wrong_once before [] m n a b = a.1 ∙ sym b.1
wrong_once before (line ∷ lines) m n (bad, reads, is) (bad', reads', is') = is ∙ (next_column before line bad bad' reads reads' ∙ sym is')

-- what stands behind the lines before is what stands behind them and the first one
regrouped : (before said : List ReportLine) (x : ReportLine) (after : List (List ℕ)) (column : ℕ) → GoesWrong (before ++ x ∷ said) after column → GoesWrong ((before ++ x ∷ []) ++ said) after column
regrouped before said x after column wrong = subst (λ (s : List ReportLine). GoesWrong s after column) (sym (append_assoc before (x ∷ []) said)) wrong

one_place : (before : List ReportLine) (b b' : List (List ℕ)) (said said' : List ReportLine) (a a' : List (List ℕ)) (m n : ℕ)
    → Follow before b said → Follow before b' said' → b ++ a ≡ b' ++ a' → GoesWrong (before ++ said) a m → GoesWrong (before ++ said') a' n
    → (length b ≡ length b') × (m ≡ n)
one_place before [] [] [] [] a a' m n f f' same w w' = (refl, wrong_once (before ++ []) a m n w (subst (λ (x : List (List ℕ)). GoesWrong (before ++ []) x n) (sym same) w'))
one_place before [] [] [] (y ∷ said') a a' m n f f' same w w' = absurd f'
one_place before [] [] (x ∷ said) said' a a' m n f f' same w w' = absurd f
one_place before [] (line ∷ b') (x ∷ said) said' a a' m n f f' same w w' = absurd f
one_place before [] (line ∷ b') [] [] a a' m n f f' same w w' = absurd f'
one_place before [] (line ∷ b') [] (y ∷ said') a a' m n f f' same w w' =
    let here : GoesWrong before (line ∷ (b' ++ a')) m = subst (λ (x : List (List ℕ)). GoesWrong before x m) same (subst (λ (s : List ReportLine). GoesWrong s a m) (append-nil before) w) in
    absurd (next_bad before line y here.0 f'.0 here.1)
one_place before (line ∷ b) [] said (y ∷ said') a a' m n f f' same w w' = absurd f'
one_place before (line ∷ b) [] [] [] a a' m n f f' same w w' = absurd f
one_place before (line ∷ b) [] (x ∷ said) [] a a' m n f f' same w w' =
    let here : GoesWrong before (line ∷ (b ++ a)) n = subst (λ (z : List (List ℕ)). GoesWrong before z n) (sym same) (subst (λ (s : List ReportLine). GoesWrong s a' n) (append-nil before) w') in
    absurd (next_bad before line x here.0 f.0 here.1)
one_place before (line ∷ b) (line' ∷ b') [] said' a a' m n f f' same w w' = absurd f
one_place before (line ∷ b) (line' ∷ b') (x ∷ said) [] a a' m n f f' same w w' = absurd f'
one_place before (line ∷ b) (line' ∷ b') (x ∷ said) (y ∷ said') a a' m n f f' same w w' =
    let first : line' ≡ line = cc in
    let others : b ++ a ≡ b' ++ a' = cc in
    let says : SaysIn report_rows y line = subst (λ (t : List ℕ). SaysIn report_rows y t) first f'.0.0 in
    let is : y ≡ x = said_once y x line says f.0.0 in
    let on : Follow (before ++ x ∷ []) b' said' = subst (λ (z : ReportLine). Follow (before ++ z ∷ []) b' said') is f'.1 in
    let wrong : GoesWrong (before ++ x ∷ said') a' n = subst (λ (z : ReportLine). GoesWrong (before ++ z ∷ said') a' n) is w' in
    let h = one_place (before ++ x ∷ []) b b' said said' a a' m n f.1 on others (regrouped before said x a m w) (regrouped before said' x a' n wrong) in
    (ap suc h.0, h.1)

pub bad_once : (lines : List (List ℕ)) (line column line' column' : ℕ) → IsBadReport lines line column → IsBadReport lines line' column' → (line ≡ line') × (column ≡ column')
bad_once lines line column line' column' p q =
    let h = one_place [] p.before q.before p.said q.said p.after q.after column column' p.order q.order (sym p.parts ∙ q.parts) p.fault q.fault in
    let same = h.0 in
    let m = p.number in
    let n = q.number in
    (omega arith, h.1)

no_place : (before : List ReportLine) (lines b a : List (List ℕ)) (said said' : List ReportLine) (column : ℕ)
    → Follow before lines said → closing_count (before ++ said) ≡ closing_lines → Follow before b said' → lines ≡ b ++ a → GoesWrong (before ++ said') a column → ⊥
no_place before [] [] [] [] [] column f all f' same w = w.0 all
no_place before [] [] a (x ∷ said) said' column f all f' same w = f
no_place before [] [] (line ∷ a) [] said' column f all f' same w = absurd cc
no_place before [] [] [] [] (y ∷ said') column f all f' same w = f'
no_place before [] (line ∷ b) a said said' column f all f' same w = absurd cc
no_place before (line ∷ lines) [] [] said said' column f all f' same w = absurd cc
no_place before (line ∷ lines) [] (line' ∷ a) [] said' column f all f' same w = f
no_place before (line ∷ lines) [] (line' ∷ a) (x ∷ said) (y ∷ said') column f all f' same w = f'
no_place before (line ∷ lines) [] (line' ∷ a) (x ∷ said) [] column f all f' same w =
    let here : GoesWrong before (line ∷ lines) column = subst (λ (z : List (List ℕ)). GoesWrong before z column) (sym same) (subst (λ (s : List ReportLine). GoesWrong s (line' ∷ a) column) (append-nil before) w) in
    next_bad before line x here.0 f.0 here.1
no_place before (line ∷ lines) (line' ∷ b) a [] said' column f all f' same w = f
no_place before (line ∷ lines) (line' ∷ b) a (x ∷ said) [] column f all f' same w = f'
no_place before (line ∷ lines) (line' ∷ b) a (x ∷ said) (y ∷ said') column f all f' same w =
    let first : line' ≡ line = cc in
    let others : lines ≡ b ++ a = cc in
    let says : SaysIn report_rows y line = subst (λ (t : List ℕ). SaysIn report_rows y t) first f'.0.0 in
    let is : y ≡ x = said_once y x line says f.0.0 in
    let on : Follow (before ++ x ∷ []) b said' = subst (λ (z : ReportLine). Follow (before ++ z ∷ []) b said') is f'.1 in
    let wrong : GoesWrong (before ++ x ∷ said') a column = subst (λ (z : ReportLine). GoesWrong (before ++ z ∷ said') a column) is w in
    let whole : closing_count ((before ++ x ∷ []) ++ said) ≡ closing_lines = subst (λ (s : List ReportLine). closing_count s ≡ closing_lines) (sym (append_assoc before (x ∷ []) said)) all in
    no_place (before ++ x ∷ []) lines b a said said' column f.1 whole on others (regrouped before said' x a column wrong)

pub report_not_bad : (lines : List (List ℕ)) (said : List ReportLine) (line column : ℕ) → IsReport lines said → IsBadReport lines line column → ⊥
report_not_bad lines said line column r bad = no_place [] lines bad.before bad.after said bad.said column r.order r.whole bad.order bad.parts bad.fault
