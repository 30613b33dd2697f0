-- Tables: from the readers of single rows to the reader of the table.
use Rattle.std.proofs.Common.{◌≡◌, ℕ, ◌-◌, ◌++◌, true, List, [], ◌∷◌, length, Result, Ok, Err, refl, ap, ◌∙◌, ◌⊎◌, inl, inr}
use Rattle.s2_text.specs.declared.stops.Stop.{Stop}
use Rattle.s2_text.specs.LineGrammar.{Value, Part, IsText, IsTextOfOne}
use Rattle.s2_text.specs.LineReading.{form_reading, IsReading, answer_of, ReadsForm, IsExact, further_of, ReadsRows}
use Rattle.s2_text.proofs.FormTests.{is_readable}
use Rattle.s2_text.specs.LineTables.{SaysBy, LineRow, forms, SaysIn}
use Rattle.s2_text.proofs.TextSets.{form_found, form_stops, left_fits, either_exact, reaches_same}

weaker : {A : Type 0} (P Q : A → List ℕ → Type 0) (S : List ℕ → Type 0) (line : List ℕ) (r : Result A Stop) → ((x : A) → P x line → Q x line) → IsExact P S line r → IsExact Q S line r
weaker P Q S line (Ok x) to h = to x h
weaker P Q S line (Err stop) to h = h

by_values : {A : Type 0} (says : List Value → A) (ps : List Part) (line : List ℕ) (r : Result A Stop) (read : Result (List Value) ℕ) → is_readable ps ≡ true → form_reading ps [] line ≡ read → IsReading (λ x. x) r (answer_of says read) → IsExact (SaysBy ps says) (IsText ps) line r
by_values says ps line (Ok x) (Ok vs) ok e gives = (let f = form_found ps line vs ok e in (vs, f.0, f.1, cc))
by_values says ps line (Ok x) (Err left) ok e gives = absurd cc
by_values says ps line (Err stop) (Ok vs) ok e gives = absurd cc
by_values says ps line (Err stop) (Err left) ok e gives = (let f : form_reading ps [] line ≡ Err stop.left = e ∙ (let g : left ≡ stop.left = cc in ap (λ (n : ℕ). Err n) g) in (left_fits ps line stop.left ok f, form_stops ps line stop.left ok f))

pub rows_more : {A : Type 0} (row : LineRow A) (rows : List (LineRow A)) (line : List ℕ) (r q out : Result A Stop) → ReadsForm row line r → ReadsRows rows line q → out ≡ further_of r q → is_readable row.form ≡ true → ReadsRows (row ∷ rows) line out
rows_more row rows line r q out gives more is ok =
    let one = weaker (SaysBy row.form row.says) (SaysIn (row ∷ rows)) (IsText row.form) line r (λ x h. inl h) (by_values row.says row.form line r (form_reading row.form [] line) ok refl gives) in
    let others = weaker (SaysIn rows) (SaysIn (row ∷ rows)) (IsTextOfOne (forms rows)) line q (λ x h. inr h) more.is in
    rw is (record { is = either_exact (SaysIn (row ∷ rows)) (IsText row.form) (IsTextOfOne (forms rows)) line r q one others })

pub rows_last : {A : Type 0} (row : LineRow A) (line : List ℕ) (r : Result A Stop) → ReadsForm row line r → is_readable row.form ≡ true → ReadsRows (row ∷ []) line r
rows_last row line (Ok x) gives ok = record { is = inl (by_values row.says row.form line (Ok x) (form_reading row.form [] line) ok refl gives) }
rows_last row line (Err stop) gives ok =
    let h = by_values row.says row.form line (Err stop) (form_reading row.form [] line) ok refl gives in
    record { is = (h.0, reaches_same (IsText row.form) (IsTextOfOne (row.form ∷ [])) line (length line - stop.left) (λ t x. inl x) (λ t x. elim x [ inl y ↦ y | inr z ↦ absurd z ]) h.1) }

-- ---- two tables

text_left : (a b : List (List Part)) (line : List ℕ) → IsTextOfOne a line → IsTextOfOne (a ++ b) line
text_left [] b line t = absurd t
text_left (ps ∷ a) b line (inl t) = inl t
text_left (ps ∷ a) b line (inr t) = inr (text_left a b line t)

text_right : (a b : List (List Part)) (line : List ℕ) → IsTextOfOne b line → IsTextOfOne (a ++ b) line
text_right [] b line t = t
text_right (ps ∷ a) b line t = inr (text_right a b line t)

text_either : (a b : List (List Part)) (line : List ℕ) → IsTextOfOne (a ++ b) line → IsTextOfOne a line ⊎ IsTextOfOne b line
text_either [] b line t = inr t
text_either (ps ∷ a) b line (inl t) = inl (inl t)
text_either (ps ∷ a) b line (inr t) = elim (text_either a b line t) [ inl x ↦ inl (inr x) | inr y ↦ inr y ]

forms_append : {A : Type 0} (a b : List (LineRow A)) → forms (a ++ b) ≡ forms a ++ forms b
forms_append [] b = refl
forms_append (row ∷ a) b = ap (λ (t : List (List Part)). row.form ∷ t) (forms_append a b)

pub says_left : {A : Type 0} (rows more : List (LineRow A)) (x : A) (line : List ℕ) → SaysIn rows x line → SaysIn (rows ++ more) x line
says_left [] more x line s = absurd s
says_left (row ∷ rows) more x line (inl s) = inl s
says_left (row ∷ rows) more x line (inr s) = inr (says_left rows more x line s)

pub says_right : {A : Type 0} (rows more : List (LineRow A)) (x : A) (line : List ℕ) → SaysIn more x line → SaysIn (rows ++ more) x line
says_right [] more x line s = s
says_right (row ∷ rows) more x line s = inr (says_right rows more x line s)

same_set : {A : Type 0} (Says : A → List ℕ → Type 0) (S T : List ℕ → Type 0) (line : List ℕ) (r : Result A Stop) → ((t : List ℕ) → S t → T t) → ((t : List ℕ) → T t → S t) → IsExact Says S line r → IsExact Says T line r
same_set Says S T line (Ok x) to from h = h
same_set Says S T line (Err stop) to from h = (h.0, reaches_same S T line (length line - stop.left) to from h.1)

pub rows_join : {A : Type 0} (a b : List (LineRow A)) (line : List ℕ) (r q out : Result A Stop) → ReadsRows a line r → ReadsRows b line q → out ≡ further_of r q → ReadsRows (a ++ b) line out
rows_join a b line r q out left right is =
    let one = weaker (SaysIn a) (SaysIn (a ++ b)) (IsTextOfOne (forms a)) line r (λ x h. says_left a b x line h) left.is in
    let others = weaker (SaysIn b) (SaysIn (a ++ b)) (IsTextOfOne (forms b)) line q (λ x h. says_right a b x line h) right.is in
    let both = either_exact (SaysIn (a ++ b)) (IsTextOfOne (forms a)) (IsTextOfOne (forms b)) line r q one others in
    let same = forms_append a b in
    rw is (record {
      is = same_set (SaysIn (a ++ b)) (λ (t : List ℕ). IsTextOfOne (forms a) t ⊎ IsTextOfOne (forms b) t) (IsTextOfOne (forms (a ++ b))) line (further_of r q)
          (λ t x. rw same (elim x [ inl y ↦ text_left (forms a) (forms b) t y | inr z ↦ text_right (forms a) (forms b) t z ]))
          (λ t x. text_either (forms a) (forms b) t (rw same at x))
          both;
    })
