-- Whole lines: remarks beside a table, and lines of any length, of which HELD_BYTES bytes decide.
use Rattle.std.proofs.Common.{◌≡◌, ℕ, zero, suc, ◌+◌, ◌-◌, ◌<◌, ◌≤◌, true, false, List, [], ◌∷◌, ◌++◌, length, take, min, Option, Some, None, Result, Ok, Err, refl, sym, ap, ◌∙◌, subst, arith, inl, inr}
use Rattle.std.specs.Prelude.{nat_le, ◌==◌}
use Rattle.std.proofs.lemmas.Bool.Decides.{nat_tests}
use Rattle.std.proofs.lemmas.List.{length-take, length-append, take_all}
use Rattle.s2_text.specs.declared.stops.Stop.{Stop}
use Rattle.s2_text.specs.declared.stops.BadLine.{BadLine}
use Rattle.s2_text.specs.LineGrammar.{Value, num, name, label, is_small_letter, Part, word, field, Fits, spelling, IsTextOfOne, Begins, Reaches}
use Rattle.s2_text.specs.LineTables.{LineRow, forms, SaysIn, ReadsRow, IsRemark, IsLineOf, ReadsLine}
use Rattle.s2_text.specs.LineReading.{remark_reading, ReadsRows, AnswersRow, AnswersLine}
use Rattle.s2_text.proofs.FormTests.{form_limit, is_readable, are_short, is_no_remark, are_no_remarks}
use Rattle.s2_text.proofs.LiteralWords.{cases}
use Rattle.s2_text.proofs.TextSets.{either_reaches}
use Rattle.s2_text.proofs.TextLengths.{spelling_short, uncut_reaches}
use Rattle.s2_text.proofs.DisjointForms.{are_disjoint, one_answer, says_text}

-- ---- remarks

-- no remark begins so
remark_past : (b : ℕ) (bytes : List ℕ) (n : ℕ) → (b == 35) ≡ false → 0 < n → Begins IsRemark (take n (b ∷ bytes)) → ⊥
remark_past b bytes zero other some begins = omega arith
remark_past b bytes (suc n) other some begins = (let e : b ≡ 35 = begins.1.0 in grind (arith, nat_tests))

long_past : (bytes : List ℕ) (n : ℕ) → 128 < n → n ≤ suc (length bytes) → Begins IsRemark (take n (35 ∷ bytes)) → ⊥
long_past bytes zero above most begins = omega arith
long_past bytes (suc n) above most (rest, (e, few)) = (let l : n ≤ length (take n bytes ++ rest) = grind (arith, length-append {A = ℕ}, length-take {A = ℕ}) in omega arith)

few_taken : (bytes : List ℕ) → length (take 127 bytes ++ []) ≤ 127
few_taken bytes = omega (arith, length-append (take 127 bytes) [], length-take 127 bytes)

pub remark_found : (line : List ℕ) → remark_reading line ≡ Ok tt → IsRemark line
remark_found [] e = tt
remark_found (b ∷ bytes) e =
    elim (cases (b == 35)) [
      | inl hash ↦ elim (cases (nat_le (length bytes) 127)) [
        | inl few ↦ (grind (arith, nat_tests), grind (arith, nat_tests))
        | inr many ↦ absurd (let f = rw (hash, many) at e in cc)
      ]
      | inr other ↦ absurd (let f = rw other at e in cc)
    ]

pub remark_stops : (line : List ℕ) (left : ℕ) → remark_reading line ≡ Err left → Reaches IsRemark line (length line - left)
remark_stops [] left e = absurd cc
remark_stops (b ∷ bytes) left e =
    elim (cases (b == 35)) [
      | inl hash ↦
          let is : b ≡ 35 = grind (arith, nat_tests) in
          elim (cases (nat_le (length bytes) 127)) [
            | inl few ↦ absurd (let f = rw (hash, few) at e in cc)
            | inr many ↦
                let f = rw (hash, many) at e in
                let size : length bytes - 127 ≡ left = cc in
                let over : 127 < length bytes = grind (arith, nat_tests) in
                let reach : length (b ∷ bytes) - left ≡ 128 = omega arith in
                rw reach (record {
                  outside = λ t. (let l = t.1 in omega arith);
                  within = omega arith;
                  before = ([], (is, few_taken bytes));
                  past = λ n above most begins. long_past bytes n above most (rw is at begins);
                })
          ]
      | inr other ↦
          let f = rw other at e in
          let size : suc (length bytes) ≡ left = cc in
          let reach : length (b ∷ bytes) - left ≡ 0 = omega arith in
          rw reach (record {
            outside = λ t. (let h = t.0 in grind (arith, nat_tests));
            within = omega arith;
            before = ([], tt);
            past = λ n above most begins. remark_past b bytes n other above begins;
          })
    ]

-- where both stop
line_stops : (table : List (List Part)) (line : List ℕ) (s t m : ℕ) → remark_reading line ≡ Err s → Reaches (IsTextOfOne table) line (length line - t) → m ≡ min s t → (1 ≤ length line - m + 1) × Reaches (IsLineOf table) line (length line - m + 1 - 1)
line_stops table line s t m e r is =
    let back : length line - m + 1 - 1 ≡ length line - m = omega arith in (
      omega arith,
      rw back (either_reaches IsRemark (IsTextOfOne table) line (length line - s) (length line - t) (length line - m) (remark_stops line s e) r
          (elim (cases (nat_le s t)) [
            | inl below ↦ (let le : s ≤ t = grind (arith, nat_tests) in inl (omega arith, omega arith))
            | inr above ↦ (let le : t ≤ s = grind (arith, nat_tests) in inr (omega arith, omega arith))
          ])),
    )

pub with_remarks_stops : {A : Type 0} (rows : List (LineRow A)) (line : List ℕ) (found : Result A Stop) (stop : Stop) (s m : ℕ) → ReadsRows rows line found → found ≡ Err stop → remark_reading line ≡ Err s → m ≡ min s stop.left → AnswersLine rows line (Err (record { column = length line - m + 1 }))
with_remarks_stops rows line (Ok x) stop s m reads is remark least = absurd cc
with_remarks_stops rows line (Err t) stop s m reads is remark least =
    let same : t.left ≡ stop.left = cc in
    record { is = line_stops (forms rows) line s t.left m remark reads.is.1 (least ∙ ap (λ (x : ℕ). min s x) (sym same)) }

-- ---- a table alone

pub row_found : {A : Type 0} (rows : List (LineRow A)) (line : List ℕ) (found : Result A Stop) (x : A) → ReadsRows rows line found → found ≡ Ok x → AnswersRow rows line (Ok x)
row_found rows line (Ok y) x reads is = record { is = (let e : y ≡ x = cc in subst (λ z. SaysIn rows z line) e reads.is) }
row_found rows line (Err stop) x reads is = absurd cc

pub row_stops : {A : Type 0} (rows : List (LineRow A)) (line : List ℕ) (found : Result A Stop) (stop : Stop) (column : ℕ) → ReadsRows rows line found → found ≡ Err stop → column ≡ length line - stop.left + 1 → AnswersRow rows line (Err (record { column = column }))
row_stops rows line (Ok x) stop column reads is at = absurd cc
row_stops rows line (Err t) stop column reads is at =
    let same : t.left ≡ stop.left = cc in
    let back : column - 1 ≡ length line - t.left = omega arith in
    record { is = (omega arith, (rw back reads.is.1)) }

-- ---- a line of the table is short, so that the first bytes of a line decide

record AreShort (ps : List Part) (table : List (List Part)) : Type 0 where
  readable : is_readable ps ≡ true
  few : form_limit ps ≤ 128
  more : are_short table ≡ true

short_parts : (ps : List Part) (table : List (List Part)) → are_short (ps ∷ table) ≡ true → AreShort ps table
short_parts ps table e = (let l : nat_le (form_limit ps) 128 ≡ true = grind arith in record { readable = grind arith; few = grind (arith, nat_tests); more = grind arith })

text_short : (table : List (List Part)) (t : List ℕ) → are_short table ≡ true → IsTextOfOne table t → length t ≤ 128
text_short [] t ok is = absurd is
text_short (ps ∷ table) t ok (inl (vs, fits, is)) =
    let l = short_parts ps table ok in
    let s = spelling_short ps vs l.readable fits in
    let few = l.few in
    let same : length t ≡ length (spelling ps vs) = ap (λ (x : List ℕ). length x) is in
    omega arith
text_short (ps ∷ table) t ok (inr other) = (let l = short_parts ps table ok in text_short table t l.more other)

remark_short : (t : List ℕ) → IsRemark t → length t ≤ 128
remark_short [] h = omega arith
remark_short (b ∷ bytes) h = (let l = h.1 in omega arith)

line_short : (table : List (List Part)) → are_short table ≡ true → (t : List ℕ) → IsLineOf table t → length t ≤ 128
line_short table ok t (inl r) = remark_short t r
line_short table ok t (inr e) = text_short table t ok e

whole : (line : List ℕ) → length (take 129 line) ≤ 128 → take 129 line ≡ line
whole line few = take_all 129 line (omega (arith, length-take 129 line))

pub uncut_line : {A : Type 0} (rows : List (LineRow A)) (line seen : List ℕ) (r : Result (Option A) BadLine) → are_short (forms rows) ≡ true → seen ≡ take 129 line → ReadsLine rows seen r → ReadsLine rows line r
uncut_line rows line seen (Ok (Some x)) ok is h =
    let g : SaysIn rows x (take 129 line) = subst (λ (t : List ℕ). SaysIn rows x t) is h in
    let same = whole line (text_short (forms rows) (take 129 line) ok (says_text rows x (take 129 line) g)) in
    subst (λ (t : List ℕ). SaysIn rows x t) same g
uncut_line rows line seen (Ok None) ok is h =
    let g : IsRemark (take 129 line) = subst IsRemark is h in
    subst IsRemark (whole line (remark_short (take 129 line) g)) g
uncut_line rows line seen (Err bad) ok is h =
    (h.0, uncut_reaches (IsLineOf (forms rows)) 128 line (bad.column - 1) (line_short (forms rows) ok) (subst (λ (x : List ℕ). Reaches (IsLineOf (forms rows)) x (bad.column - 1)) is h.1))

pub uncut_row : {A : Type 0} (rows : List (LineRow A)) (line seen : List ℕ) (r : Result A BadLine) → are_short (forms rows) ≡ true → seen ≡ take 129 line → ReadsRow rows seen r → ReadsRow rows line r
uncut_row rows line seen (Ok x) ok is h =
    let g : SaysIn rows x (take 129 line) = subst (λ (t : List ℕ). SaysIn rows x t) is h in
    let same = whole line (text_short (forms rows) (take 129 line) ok (says_text rows x (take 129 line) g)) in
    subst (λ (t : List ℕ). SaysIn rows x t) same g
uncut_row rows line seen (Err bad) ok is h =
    (h.0, uncut_reaches (IsTextOfOne (forms rows)) 128 line (bad.column - 1) (λ t s. text_short (forms rows) t ok s) (subst (λ (x : List ℕ). Reaches (IsTextOfOne (forms rows)) x (bad.column - 1)) is h.1))

-- ---- what is spelled as in the table is read, and a remark is read as one

form_other : (ps : List Part) (vs : List Value) → is_no_remark ps ≡ true → Fits ps vs → IsRemark (spelling ps vs) → ⊥
form_other [] vs other fits remark = absurd cc
form_other (word [] ∷ ps) vs other fits remark = absurd cc
form_other (word (w ∷ ws) ∷ ps) vs other fits remark = (let e = remark.0 in grind (arith, nat_tests))
form_other (field label ∷ ps) [] other fits remark = absurd fits
form_other (field label ∷ ps) (num v ∷ vs) other fits remark = absurd fits.0
form_other (field label ∷ ps) (name [] ∷ vs) other fits remark = (let e = fits.0 in absurd cc)
form_other (field label ∷ ps) (name (b ∷ l) ∷ vs) other fits remark = (let e = fits.0 in let is : is_small_letter b ≡ true = grind arith in let h = remark.0 in grind (arith, nat_tests))
form_other (field f ∷ ps) vs other fits remark = absurd cc

says_other : {A : Type 0} (rows : List (LineRow A)) (x : A) (line : List ℕ) → are_no_remarks (forms rows) ≡ true → SaysIn rows x line → IsRemark line → ⊥
says_other [] x line ok says remark = says
says_other (row ∷ rows) x line ok (inl s) remark = form_other row.form s.0 (grind arith) s.1 (subst IsRemark s.2 remark)
says_other (row ∷ rows) x line ok (inr s) remark = says_other rows x line (grind arith) s remark

pub line_again : {A : Type 0} (rows : List (LineRow A)) (line : List ℕ) (r : Result (Option A) BadLine) → are_disjoint (forms rows) ≡ true → are_no_remarks (forms rows) ≡ true → ReadsLine rows line r → (x : A) → SaysIn rows x line → r ≡ Ok (Some x)
line_again rows line (Ok (Some y)) ok others reads x says = (let e : y ≡ x = one_answer rows y x line ok reads says in rw e refl)
line_again rows line (Ok None) ok others reads x says = absurd (says_other rows x line others says reads)
line_again rows line (Err bad) ok others reads x says = absurd (reads.1.outside (inr (says_text rows x line says)))

pub remark_again : {A : Type 0} (rows : List (LineRow A)) (line : List ℕ) (r : Result (Option A) BadLine) → are_no_remarks (forms rows) ≡ true → ReadsLine rows line r → IsRemark line → r ≡ Ok None
remark_again rows line (Ok (Some y)) others reads remark = absurd (says_other rows y line others reads remark)
remark_again rows line (Ok None) others reads remark = refl
remark_again rows line (Err bad) others reads remark = absurd (reads.1.outside (inl remark))

pub row_again : {A : Type 0} (rows : List (LineRow A)) (line : List ℕ) (r : Result A BadLine) → are_disjoint (forms rows) ≡ true → ReadsRow rows line r → (x : A) → SaysIn rows x line → r ≡ Ok x
row_again rows line (Ok y) ok reads x says = (let e : y ≡ x = one_answer rows y x line ok reads says in rw e refl)
row_again rows line (Err bad) ok reads x says = absurd (reads.1.outside (says_text rows x line says))
