-- Two forms with no text in common: they spelling the same fields up to a byte that differs.
use Rattle.std.proofs.Common.{◌≡◌, ℕ, zero, suc, Bool, true, false, List, [], ◌∷◌, ◌++◌, length, Result, Ok, Err, refl, sym, ap, ◌∙◌, subst, append_assoc, arith, inl, inr}
use Rattle.std.specs.Prelude.{◌&&◌, ◌||◌, not, ◌==◌, if◌then◌else◌}
use Rattle.std.proofs.lemmas.Bool.Decides.{nat_tests}
use Rattle.std.proofs.lemmas.List.{append-nil}
use Rattle.s2_text.specs.LineGrammar.{Value, Field, number, hex, letter, signed, label, Part, word, field, field_text, FitsField, Fits, spelling}
use Rattle.s2_text.specs.LineGrammar.{IsTextOfOne}
use Rattle.s2_text.specs.LineReading.{field_reading}
use Rattle.s2_text.proofs.FormTests.{is_readable}
use Rattle.s2_text.specs.LineTables.{LineRow, forms, SaysIn}
use Rattle.s2_text.proofs.TextSets.{same_numbers}
use Rattle.s2_text.proofs.LiteralWords.{cases}
use Rattle.s2_text.proofs.LineFields.{FieldMatch, FieldMismatch, field_again, field_reads}
use Rattle.s2_text.proofs.WholeForms.{readable_parts, spelling_plain}

abbrev pub same_field : Field → Field → Bool
same_field (number low high) (number least most) = (low == least) && (high == most)
same_field (number low high) _ = false
same_field (hex n) (hex m) = n == m
same_field (hex n) _ = false
same_field (letter a) _ = false
same_field signed signed = true
same_field signed _ = false
same_field label label = true
same_field label _ = false

-- the rest of a word, and what is left of each shape behind the bytes that they share
abbrev pub words_apart : List ℕ → List ℕ → Bool
words_apart [] ws = false
words_apart (v ∷ vs) [] = false
words_apart (v ∷ vs) (w ∷ ws) = if v == w then words_apart vs ws else true

abbrev pub same_words : List ℕ → List ℕ → Bool
same_words [] [] = true
same_words [] (w ∷ ws) = false
same_words (v ∷ vs) [] = false
same_words (v ∷ vs) (w ∷ ws) = (v == w) && same_words vs ws

-- nothing stands there
abbrev pub is_none : List ℕ → Bool
is_none [] = true
is_none (b ∷ bytes) = false

abbrev pub ends : List Part → Bool
ends [] = true
ends (p ∷ ps) = false

-- reading a field at the front of a word: it stops inside of the word, it takes a front of it, and what it leaves
abbrev pub refuses : Result (Value × List ℕ) ℕ → Bool
refuses (Ok x) = false
refuses (Err zero) = false
refuses (Err (suc n)) = true

abbrev pub took : Result (Value × List ℕ) ℕ → Bool
took (Ok x) = true
took (Err n) = false

abbrev pub left_of : Result (Value × List ℕ) ℕ → List ℕ
left_of (Ok x) = x.1
left_of (Err n) = []

-- a word is over where a line ends, and the other goes on
abbrev pub is_over : List ℕ → List ℕ → List Part → Bool
is_over v w qs = is_none w && ends qs && not (is_none v)

-- fields and words alike, and then two words that differ at a byte, or a word that a field can't begin with
abbrev pub apart : List Part → List Part → Bool
apart (word v ∷ ps) (word w ∷ qs) = if same_words v w then apart ps qs else (words_apart v w || is_over v w qs)
apart (field f ∷ ps) (field g ∷ qs) = same_field f g && apart ps qs
apart (field f ∷ ps) (word w ∷ qs) = if refuses (field_reading f w) then true else (took (field_reading f w) && (not (is_none (left_of (field_reading f w))) || ends qs) && apart ps (word (left_of (field_reading f w)) ∷ qs))
apart _ _ = false

same_is : (f g : Field) → same_field f g ≡ true → f ≡ g
same_is (number low high) (number least most) e = (let a : low ≡ least = grind (arith, nat_tests) in let b : high ≡ most = grind (arith, nat_tests) in cc)
same_is (number low high) _ e = absurd cc
same_is (hex n) (hex m) e = (let a : n ≡ m = grind (arith, nat_tests) in cc)
same_is (hex n) _ e = absurd cc
same_is (letter a) _ e = absurd cc
same_is signed signed e = refl
same_is signed _ e = absurd cc
same_is label label e = refl
same_is label _ e = absurd cc

words_are : (v w : List ℕ) → same_words v w ≡ true → v ≡ w
words_are [] [] e = refl
words_are [] (w ∷ ws) e = absurd cc
words_are (v ∷ vs) [] e = absurd cc
words_are (v ∷ vs) (w ∷ ws) e = (let a : v ≡ w = grind (arith, nat_tests) in let b = words_are vs ws (grind arith) in cc)

differ : (v w x y : List ℕ) → words_apart v w ≡ true → v ++ x ≡ w ++ y → ⊥
differ [] w x y e same = absurd cc
differ (v ∷ vs) [] x y e same = absurd cc
differ (v ∷ vs) (w ∷ ws) x y e same =
    elim (cases (v == w)) [
      | inl eq ↦ differ vs ws x y (rw eq at e) (let p : vs ++ x ≡ ws ++ y = cc in p)
      | inr ne ↦ (let p : v ≡ w = cc in grind (arith, nat_tests))
    ]

cancel : (w x y : List ℕ) → w ++ x ≡ w ++ y → x ≡ y
cancel [] x y e = e
cancel (w ∷ ws) x y e = cancel ws x y (let p : ws ++ x ≡ ws ++ y = cc in p)

ok_pair : (r : Result (Value × List ℕ) ℕ) (p q : Value × List ℕ) → r ≡ Ok p → r ≡ Ok q → p ≡ q
ok_pair r p q a b = cc

two_things : (r : Result (Value × List ℕ) ℕ) (p : Value × List ℕ) (e : ℕ) → r ≡ Ok p → r ≡ Err e → ⊥
two_things r p e a b = cc

field_same : (f : Field) (u v : Value) (x y : List ℕ) → field_reading f (field_text f u ++ x) ≡ Ok (u, x) → field_reading f (field_text f v ++ y) ≡ Ok (v, y) → field_text f u ++ x ≡ field_text f v ++ y → x ≡ y
field_same f u v x y a b e =
    ap (λ (z : Value × List ℕ). z.1) (ok_pair (field_reading f (field_text f u ++ x)) (u, x) (v, y) a (ap (λ (z : List ℕ). field_reading f z) e ∙ b))

over : (v w : List ℕ) (ps qs : List Part) (us vs : List Value) → is_over v w qs ≡ true → Fits qs vs → v ++ spelling ps us ≡ w ++ spelling qs vs → ⊥
over [] w ps qs us vs e b same = grind arith
over (c ∷ v) [] ps [] us [] e b same = cc
over (c ∷ v) [] ps [] us (x ∷ vs) e b same = absurd b
over (c ∷ v) [] ps (q ∷ qs) us vs e b same = absurd cc
over (c ∷ v) (d ∷ w) ps qs us vs e b same = absurd cc

by_rest : (f : Field) (w : List ℕ) (qs : List Part) (u : Value) (us vs : List Value) (ps : List Part) (v : Value) (rest : List ℕ) → field_reading f w ≡ Ok (v, rest) → w ≡ field_text f v ++ rest
    → ((b : ℕ) (more new : List ℕ) → rest ≡ b ∷ more → field_reading f (field_text f v ++ b ∷ new) ≡ Ok (v, b ∷ new))
    → (not (is_none rest) || ends qs) ≡ true → field_reading f (w ++ spelling qs vs) ≡ Ok (u, spelling ps us) → rest ++ spelling qs vs ≡ spelling ps us
by_rest f w [] u us vs ps v [] taken parts near e read =
    let at : field_reading f (w ++ []) ≡ Ok (v, []) = ap (λ (z : List ℕ). field_reading f z) (append-nil w) ∙ taken in
    ap (λ (z : Value × List ℕ). z.1) (ok_pair (field_reading f (w ++ [])) (v, []) (u, spelling ps us) at read)
by_rest f w (q ∷ qs) u us vs ps v [] taken parts near e read = absurd cc
by_rest f w qs u us vs ps v (b ∷ more) taken parts near e read =
    let at : field_reading f (w ++ spelling qs vs) ≡ Ok (v, b ∷ (more ++ spelling qs vs)) =
    ap (λ (z : List ℕ). field_reading f (z ++ spelling qs vs)) parts ∙ (ap (λ (z : List ℕ). field_reading f z) (append_assoc (field_text f v) (b ∷ more) (spelling qs vs)) ∙ near b more (more ++ spelling qs vs) refl) in
    ap (λ (z : Value × List ℕ). z.1) (ok_pair (field_reading f (w ++ spelling qs vs)) (v, b ∷ (more ++ spelling qs vs)) (u, spelling ps us) at read)

by_back : (f : Field) (w : List ℕ) (qs : List Part) (u : Value) (us vs : List Value) (ps : List Part) (front back : List ℕ) → field_reading f w ≡ Err (length back) → w ≡ front ++ back
    → ((b : ℕ) (more new : List ℕ) → back ≡ b ∷ more → field_reading f (front ++ b ∷ new) ≡ Err (suc (length new)))
    → apart (field f ∷ ps) (word w ∷ qs) ≡ true → field_reading f (w ++ spelling qs vs) ≡ Ok (u, spelling ps us) → ⊥
by_back f w qs u us vs ps front [] stopped parts near e read = (let g = rw stopped at e in absurd cc)
by_back f w qs u us vs ps front (b ∷ more) stopped parts near e read =
    let at : field_reading f (w ++ spelling qs vs) ≡ Err (suc (length (more ++ spelling qs vs))) =
    ap (λ (z : List ℕ). field_reading f (z ++ spelling qs vs)) parts ∙ (ap (λ (z : List ℕ). field_reading f z) (append_assoc front (b ∷ more) (spelling qs vs)) ∙ near b more (more ++ spelling qs vs) refl) in
    two_things (field_reading f (w ++ spelling qs vs)) (u, spelling ps us) (suc (length (more ++ spelling qs vs))) read at

took_front : (f : Field) (w : List ℕ) (qs : List Part) (u : Value) (us vs : List Value) (t : FieldMatch f w) (ps : List Part) → (not (is_none t.rest) || ends qs) ≡ true → Fits qs vs → field_reading f (w ++ spelling qs vs) ≡ Ok (u, spelling ps us) → t.rest ++ spelling qs vs ≡ spelling ps us
took_front f w qs u us vs t ps e b read = by_rest f w qs u us vs ps t.value t.rest t.read t.parts t.near e read

stopped_front : (f : Field) (w : List ℕ) (qs : List Part) (u : Value) (us vs : List Value) (t : FieldMismatch f w) (ps : List Part) → apart (field f ∷ ps) (word w ∷ qs) ≡ true → Fits qs vs → field_reading f (w ++ spelling qs vs) ≡ Ok (u, spelling ps us) → ⊥
stopped_front f w qs u us vs t ps e b read = by_back f w qs u us vs ps t.front t.back t.read t.parts t.near e read

pub apart_texts : (ps qs : List Part) (us vs : List Value) → is_readable ps ≡ true → is_readable qs ≡ true → apart ps qs ≡ true → Fits ps us → Fits qs vs → spelling ps us ≡ spelling qs vs → ⊥
apart_texts [] qs us vs ok too e a b same = absurd cc
apart_texts (word v ∷ ps) [] us vs ok too e a b same = absurd cc
apart_texts (word v ∷ ps) (word w ∷ qs) us vs ok too e a b same =
    elim (cases (same_words v w)) [
      | inl eq ↦
          let is : v ≡ w = words_are v w eq in
          apart_texts ps qs us vs ok too (rw eq at e) a b (cancel v (spelling ps us) (spelling qs vs) (same ∙ ap (λ (z : List ℕ). z ++ spelling qs vs) (sym is)))
      | inr ne ↦ elim (cases (words_apart v w)) [
        | inl far ↦ differ v w (spelling ps us) (spelling qs vs) far same
        | inr near ↦ over v w ps qs us vs (rw (ne, near) at e) b same
      ]
    ]
apart_texts (word v ∷ ps) (field g ∷ qs) us vs ok too e a b same = absurd cc
apart_texts (field f ∷ ps) [] us vs ok too e a b same = absurd cc
apart_texts (field f ∷ ps) (word w ∷ qs) [] vs ok too e a b same = absurd a
apart_texts (field f ∷ ps) (word w ∷ qs) (u ∷ us) vs ok too e a b same =
    let s = readable_parts f ps ok in
    let read : field_reading f (w ++ spelling qs vs) ≡ Ok (u, spelling ps us) =
    ap (λ (z : List ℕ). field_reading f z) (sym same) ∙ field_again f u (spelling ps us) s.here a.0 (spelling_plain ps us s.next) in
    elim (field_reads f w s.here) [
      | inl t ↦
          let t_e : (if refuses (field_reading f w) then true else (took (field_reading f w) && (not (is_none (left_of (field_reading f w))) || ends qs) && apart ps (word (left_of (field_reading f w)) ∷ qs))) ≡ true = e in
          let e2 = rw t.read at t_e in
          let tail : t.rest ++ spelling qs vs ≡ spelling ps us = took_front f w qs u us vs t ps (grind arith) b read in
          apart_texts ps (word t.rest ∷ qs) us vs s.others too (grind arith) a.1 b (sym tail)
      | inr t ↦ stopped_front f w qs u us vs t ps e b read
    ]
apart_texts (field f ∷ ps) (field g ∷ qs) [] vs ok too e a b same = absurd a
apart_texts (field f ∷ ps) (field g ∷ qs) (u ∷ us) [] ok too e a b same = absurd b
apart_texts (field f ∷ ps) (field g ∷ qs) (u ∷ us) (v ∷ vs) ok too e a b same =
    let s = readable_parts f ps ok in
    let t = readable_parts g qs too in
    let here : same_field f g ≡ true = grind arith in
    let on : apart ps qs ≡ true = grind arith in
    let is : f ≡ g = same_is f g here in
    let fits : FitsField f v = subst (λ (h : Field). FitsField h v) (sym is) b.0 in
    let text : field_text g v ++ spelling qs vs ≡ field_text f v ++ spelling qs vs = ap (λ (h : Field). field_text h v ++ spelling qs vs) (sym is) in
    apart_texts ps qs us vs s.others t.others on a.1 b.1
    (field_same f u v (spelling ps us) (spelling qs vs)
    (field_again f u (spelling ps us) s.here a.0 (spelling_plain ps us s.next))
    (field_again f v (spelling qs vs) s.here fits (spelling_plain qs vs t.next))
    (same ∙ text))

-- ---- whole tables

abbrev pub apart_from_all : List Part → List (List Part) → Bool
apart_from_all ps [] = true
apart_from_all ps (qs ∷ table) = (apart ps qs || apart qs ps) && apart_from_all ps table

-- every two lines of the table have no text in common, and each is a form
abbrev pub are_disjoint : List (List Part) → Bool
are_disjoint [] = true
are_disjoint (ps ∷ table) = is_readable ps && apart_from_all ps table && are_disjoint table

not_in : (ps : List Part) (us : List Value) {A : Type 0} (rows : List (LineRow A)) (x : A) → is_readable ps ≡ true → are_disjoint (forms rows) ≡ true → apart_from_all ps (forms rows) ≡ true → Fits ps us → SaysIn rows x (spelling ps us) → ⊥
not_in ps us [] x ok tables e fits says = says
not_in ps us (row ∷ rows) x ok tables e fits (inl s) =
    elim (cases (apart ps row.form)) [
      | inl far ↦ apart_texts ps row.form us s.0 ok (grind arith) far fits s.1 s.2
      | inr near ↦ apart_texts row.form ps s.0 us (grind arith) ok (grind arith) s.1 fits (sym s.2)
    ]
not_in ps us (row ∷ rows) x ok tables e fits (inr s) = not_in ps us rows x ok (grind arith) (grind arith) fits s

-- What a line says is one thing.
pub one_answer : {A : Type 0} (rows : List (LineRow A)) (x y : A) (line : List ℕ) → are_disjoint (forms rows) ≡ true → SaysIn rows x line → SaysIn rows y line → x ≡ y
one_answer [] x y line ok a b = absurd a
one_answer (row ∷ rows) x y line ok (inl a) (inl b) =
    let n : a.0 ≡ b.0 = same_numbers row.form a.0 b.0 (grind arith) a.1 b.1 (sym a.2 ∙ b.2) in
    a.3 ∙ (ap row.says n ∙ sym b.3)
one_answer (row ∷ rows) x y line ok (inl a) (inr b) = absurd (not_in row.form a.0 rows y (grind arith) (grind arith) (grind arith) a.1 (subst (λ (t : List ℕ). SaysIn rows y t) a.2 b))
one_answer (row ∷ rows) x y line ok (inr a) (inl b) = absurd (not_in row.form b.0 rows x (grind arith) (grind arith) (grind arith) b.1 (subst (λ (t : List ℕ). SaysIn rows x t) b.2 a))
one_answer (row ∷ rows) x y line ok (inr a) (inr b) = one_answer rows x y line (grind arith) a b

pub says_text : {A : Type 0} (rows : List (LineRow A)) (x : A) (line : List ℕ) → SaysIn rows x line → IsTextOfOne (forms rows) line
says_text [] x line h = h
says_text (row ∷ rows) x line (inl s) = inl (s.0, s.1, s.2)
says_text (row ∷ rows) x line (inr s) = inr (says_text rows x line s)
