-- Whole forms: what is read is a text, a text is read, and where reading stops.
use Rattle.std.proofs.Common.{◌≡◌, ℕ, suc, true, List, [], ◌∷◌, ◌++◌, length, Result, Ok, Err, refl, sym, ap, ◌∙◌, append_assoc, arith, ◌⊎◌, inl, inr}
use Rattle.std.proofs.lemmas.List.{append-nil}
use Rattle.s2_text.specs.LineGrammar.{Value, Field, Part, word, field, field_text, Fits, spelling}
use Rattle.s2_text.specs.LineReading.{word_reading, field_reading, form_reading}
use Rattle.s2_text.proofs.FormTests.{is_readable_field, starts_apart, is_readable}
use Rattle.s2_text.proofs.LiteralWords.{word_found, word_again, word_stops}
use Rattle.s2_text.proofs.Decimals.{plain}
use Rattle.s2_text.proofs.LineFields.{FieldMatch, field_again, field_reads}

-- the tests of a form
pub record ReadableParts (f : Field) (ps : List Part) : Type 0 where
  pub here : is_readable_field f ≡ true
  pub next : starts_apart ps ≡ true
  pub others : is_readable ps ≡ true

pub readable_parts : (f : Field) (ps : List Part) → is_readable (field f ∷ ps) ≡ true → ReadableParts f ps
readable_parts f ps e = record { here = grind arith; next = grind arith; others = grind arith }

pub spelling_plain : (ps : List Part) (vs : List Value) → starts_apart ps ≡ true → plain (spelling ps vs) ≡ true
spelling_plain [] vs e = refl
spelling_plain (word [] ∷ ps) vs e = absurd cc
spelling_plain (word (w ∷ ws) ∷ ps) vs e = e
spelling_plain (field f ∷ ps) vs e = absurd cc

-- a text is read, as its values
pub text_again : (ps : List Part) (vs done : List Value) → is_readable ps ≡ true → Fits ps vs → form_reading ps done (spelling ps vs) ≡ Ok (done ++ vs)
text_again [] [] done ok fits = rw (append-nil done) refl
text_again [] (v ∷ vs) done ok fits = absurd fits
text_again (word w ∷ ps) vs done ok fits = rw (word_again w (spelling ps vs)) (text_again ps vs done ok fits)
text_again (field f ∷ ps) [] done ok fits = absurd fits
text_again (field f ∷ ps) (v ∷ vs) done ok fits =
    let s = readable_parts f ps ok in
    rw (field_again f v (spelling ps vs) s.here fits.0 (spelling_plain ps vs s.next))
    (text_again ps vs (done ++ v ∷ []) s.others fits.1 ∙ (rw (append_assoc done (v ∷ []) vs) refl))

-- some text of the form
pub some_values : (ps : List Part) → is_readable ps ≡ true → (vs : List Value) × Fits ps vs
some_values [] ok = ([], tt)
some_values (word w ∷ ps) ok = some_values ps ok
some_values (field f ∷ ps) ok =
    let s = readable_parts f ps ok in
    let vs = some_values ps s.others in
    elim (field_reads f [] s.here) [
      | inl t ↦ (t.value ∷ vs.0, (t.fits, vs.1))
      | inr t ↦ (t.some ∷ vs.0, (t.fits, vs.1))
    ]

pub record FormMatch (ps : List Part) (done : List Value) (bytes : List ℕ) : Type 0 where
  pub values : List Value
  pub read : form_reading ps done bytes ≡ Ok (done ++ values)
  pub fits : Fits ps values
  pub text : bytes ≡ spelling ps values

pub record FormMismatch (ps : List Part) (done : List Value) (bytes : List ℕ) : Type 0 where
  pub front : List ℕ
  pub back : List ℕ
  pub read : form_reading ps done bytes ≡ Err (length back)
  pub parts : bytes ≡ front ++ back
  pub some : List Value
  pub fits : Fits ps some
  pub rest : List ℕ
  pub text : spelling ps some ≡ front ++ rest
  pub near : (b : ℕ) (more new : List ℕ) → back ≡ b ∷ more → form_reading ps done (front ++ b ∷ new) ≡ Err (suc (length new))

-- only the next byte after a value matters
same_after : (f : Field) (bytes : List ℕ) (t : FieldMatch f bytes) (front back : List ℕ) (b : ℕ) (more new : List ℕ) → t.rest ≡ front ++ back → back ≡ b ∷ more → field_reading f (field_text f t.value ++ (front ++ b ∷ new)) ≡ Ok (t.value, front ++ b ∷ new)
same_after f bytes t [] back b more new e h = t.near b more new (e ∙ h)
same_after f bytes t (c ∷ front) back b more new e h = t.near c (front ++ back) (front ++ b ∷ new) e

scan_word : (w : List ℕ) (ps : List Part) (done : List Value) (bytes : List ℕ) → is_readable ps ≡ true
    → ((rest : List ℕ) → FormMatch ps done rest ⊎ FormMismatch ps done rest)
    → (r : Result (List ℕ) ℕ) → word_reading w bytes ≡ r → FormMatch (word w ∷ ps) done bytes ⊎ FormMismatch (word w ∷ ps) done bytes
scan_word w ps done bytes ok on (Ok rest) e =
    let parts : bytes ≡ w ++ rest = word_found w bytes rest e in
    elim (on rest) [
      | inl t ↦ inl (record { values = t.values; read = rw e t.read; fits = t.fits; text = parts ∙ ap (λ (x : List ℕ). w ++ x) t.text })
      | inr s ↦ inr (record {
        front = w ++ s.front;
        back = s.back;
        read = rw e s.read;
        parts = parts ∙ (ap (λ (x : List ℕ). w ++ x) s.parts ∙ sym (append_assoc w s.front s.back));
        some = s.some;
        fits = s.fits;
        rest = s.rest;
        text = ap (λ (x : List ℕ). w ++ x) s.text ∙ sym (append_assoc w s.front s.rest);
        near = λ b more new h. rw (append_assoc w s.front (b ∷ new), word_again w (s.front ++ b ∷ new)) (s.near b more new h);
      })
    ]
scan_word w ps done bytes ok on (Err left) e =
    let s = word_stops w bytes left e in
    let vs = some_values ps ok in
    inr (record {
      front = s.front;
      back = s.back;
      read = rw (e, s.size) refl;
      parts = s.parts;
      some = vs.0;
      fits = vs.1;
      rest = s.rest ++ spelling ps vs.0;
      text = ap (λ (x : List ℕ). x ++ spelling ps vs.0) s.some ∙ append_assoc s.front s.rest (spelling ps vs.0);
      near = λ b more new h. rw (s.near b more new h) refl;
    })

regrouped : (r : Result (List Value) ℕ) (done vs : List Value) (v : Value) → r ≡ Ok ((done ++ v ∷ []) ++ vs) → r ≡ Ok (done ++ v ∷ vs)
regrouped r done vs v e = rw append_assoc at e

pub scans : (ps : List Part) (done : List Value) (bytes : List ℕ) → is_readable ps ≡ true → FormMatch ps done bytes ⊎ FormMismatch ps done bytes
scans [] done [] ok = inl (record { values = []; read = rw (append-nil done) refl; fits = tt; text = refl })
scans [] done (b ∷ bytes) ok = inr (record {
  front = [];
  back = b ∷ bytes;
  read = refl;
  parts = refl;
  some = [];
  fits = tt;
  rest = [];
  text = refl;
  near = λ c more new h. refl;
})
scans (word w ∷ ps) done bytes ok = scan_word w ps done bytes ok (λ rest. scans ps done rest ok) (word_reading w bytes) refl
scans (field f ∷ ps) done bytes ok =
    let s = readable_parts f ps ok in
    elim (field_reads f bytes s.here) [
      | inl t ↦ elim (scans ps (done ++ t.value ∷ []) t.rest s.others) [
        | inl u ↦ inl (record {
          values = t.value ∷ u.values;
          read = rw t.read (regrouped (form_reading ps (done ++ t.value ∷ []) t.rest) done u.values t.value u.read);
          fits = (t.fits, u.fits);
          text = t.parts ∙ ap (λ (x : List ℕ). field_text f t.value ++ x) u.text;
        })
        | inr u ↦ inr (record {
          front = field_text f t.value ++ u.front;
          back = u.back;
          read = rw t.read u.read;
          parts = t.parts ∙ (ap (λ (x : List ℕ). field_text f t.value ++ x) u.parts ∙ sym (append_assoc (field_text f t.value) u.front u.back));
          some = t.value ∷ u.some;
          fits = (t.fits, u.fits);
          rest = u.rest;
          text = ap (λ (x : List ℕ). field_text f t.value ++ x) u.text ∙ sym (append_assoc (field_text f t.value) u.front u.rest);
          near = λ b more new h. rw (append_assoc (field_text f t.value) u.front (b ∷ new), same_after f bytes t u.front u.back b more new u.parts h) (u.near b more new h);
        })
      ]
      | inr t ↦
          let vs = some_values ps s.others in
          inr (record {
            front = t.front;
            back = t.back;
            read = rw t.read refl;
            parts = t.parts;
            some = t.some ∷ vs.0;
            fits = (t.fits, vs.1);
            rest = t.rest ++ spelling ps vs.0;
            text = ap (λ (x : List ℕ). x ++ spelling ps vs.0) t.text ∙ append_assoc t.front t.rest (spelling ps vs.0);
            near = λ b more new h. rw (t.near b more new h) refl;
          })
    ]
