-- From what reading a form says to the sets of texts.
use Rattle.std.proofs.Common.{◌≡◌, ℕ, suc, ◌+◌, ◌-◌, ◌<◌, ◌≤◌, true, List, [], ◌∷◌, ◌++◌, length, take, Result, Ok, Err, refl, sym, ap, ◌∙◌, subst, append_assoc, arith, ◌⊎◌, inl, inr, length-append}
use Rattle.std.proofs.Math.Seq.{take-append_seam, take-append-add}
use Rattle.s2_text.specs.LineGrammar.{Value, Part, Fits, spelling, IsText, Begins, Reaches}
use Rattle.s2_text.specs.LineReading.{form_reading, further_of, IsExact}
use Rattle.s2_text.proofs.FormTests.{is_readable}
use Rattle.s2_text.specs.declared.stops.Stop.{Stop}
use Rattle.std.specs.Prelude.{nat_le}
use Rattle.std.proofs.lemmas.Bool.Decides.{nat_tests}
use Rattle.s2_text.proofs.LiteralWords.{cases}
use Rattle.s2_text.proofs.WholeForms.{text_again, FormMismatch, scans}

-- a value and an error are two things
apart : {A : Type 0} (r : Result A ℕ) (x : A) (e : ℕ) → r ≡ Ok x → r ≡ Err e → ⊥
apart r x e p q = cc

ok_is : {A : Type 0} (r : Result A ℕ) (x y : A) → r ≡ Ok x → r ≡ Ok y → x ≡ y
ok_is r x y p q = cc

err_is : {A : Type 0} (r : Result A ℕ) (x y : ℕ) → r ≡ Err x → r ≡ Err y → x ≡ y
err_is r x y p q = cc

-- What was read is a text of the form, with these values.
pub form_found : (ps : List Part) (line : List ℕ) (vs : List Value) → is_readable ps ≡ true → form_reading ps [] line ≡ Ok vs → Fits ps vs × (line ≡ spelling ps vs)
form_found ps line vs ok e =
    elim (scans ps [] line ok) [
      | inl t ↦
          let same : t.values ≡ vs = ok_is (form_reading ps [] line) t.values vs t.read e in
          (subst (λ (x : List Value). Fits ps x) same t.fits, t.text ∙ ap (λ (x : List Value). spelling ps x) same)
      | inr s ↦ absurd (apart (form_reading ps [] line) vs (length s.back) e s.read)
    ]

-- Texts of the form are read.
pub form_again : (ps : List Part) (vs : List Value) → is_readable ps ≡ true → Fits ps vs → form_reading ps [] (spelling ps vs) ≡ Ok vs
form_again ps vs ok fits = text_again ps vs [] ok fits

-- the front of a line that is longer than front, and what stands at its end
take_past : (front back : List ℕ) (n : ℕ) → length front < n → n ≤ length (front ++ back) → (b : ℕ) × (more : List ℕ) × (rest : List ℕ) × (back ≡ b ∷ more) × (take n (front ++ back) ≡ front ++ b ∷ rest)
take_past front [] n above most = absurd (omega (arith, length-append front []))
take_past front (b ∷ more) n above most =
    let m : ℕ = n - suc (length front) in
    let is : n ≡ length front + suc m = omega arith in
    (b, more, take m more, refl, ap (λ (k : ℕ). take k (front ++ b ∷ more)) is ∙ take-append-add front (b ∷ more) (suc m))

past_lemma : (ps : List Part) (line : List ℕ) (ok : is_readable ps ≡ true) (s : FormMismatch ps [] line) (n : ℕ) → length s.front < n → n ≤ length line → Begins (IsText ps) (take n line) → ⊥
past_lemma ps line ok s n above most (rest, (vs, fits, text)) =
    let most2 : n ≤ length (s.front ++ s.back) = subst (λ (x : List ℕ). n ≤ length x) s.parts most in
    let t = take_past s.front s.back n above most2 in
    let taken : take n line ≡ s.front ++ t.0 ∷ t.2 = ap (λ (x : List ℕ). take n x) s.parts ∙ t.4 in
    let whole : s.front ++ t.0 ∷ (t.2 ++ rest) ≡ spelling ps vs =
    sym (append_assoc s.front (t.0 ∷ t.2) rest) ∙ (ap (λ (x : List ℕ). x ++ rest) (sym taken) ∙ text) in
    let refused = s.near t.0 t.1 (t.2 ++ rest) t.3 in
    let read : form_reading ps [] (s.front ++ t.0 ∷ (t.2 ++ rest)) ≡ Ok vs = ap (λ (x : List ℕ). form_reading ps [] x) whole ∙ text_again ps vs [] ok fits in
    apart (form_reading ps [] (s.front ++ t.0 ∷ (t.2 ++ rest))) vs (suc (length (t.2 ++ rest))) read refused

-- no more is left than there was
pub left_fits : (ps : List Part) (line : List ℕ) (left : ℕ) → is_readable ps ≡ true → form_reading ps [] line ≡ Err left → left ≤ length line
left_fits ps line left ok e =
    elim (scans ps [] line ok) [
      | inl t ↦ absurd (apart (form_reading ps [] line) t.values left t.read e)
      | inr s ↦
          let size : length s.back ≡ left = err_is (form_reading ps [] line) (length s.back) left s.read e in
          let total : length line ≡ length s.front + length s.back = ap (λ (x : List ℕ). length x) s.parts ∙ length-append s.front s.back in
          omega arith
    ]

-- Where reading stopped is the end of the longest prefix that is a prefix of a text of the form.
pub form_stops : (ps : List Part) (line : List ℕ) (left : ℕ) → is_readable ps ≡ true → form_reading ps [] line ≡ Err left → Reaches (IsText ps) line (length line - left)
form_stops ps line left ok e =
    elim (scans ps [] line ok) [
      | inl t ↦ absurd (apart (form_reading ps [] line) t.values left t.read e)
      | inr s ↦
          let size : length s.back ≡ left = err_is (form_reading ps [] line) (length s.back) left s.read e in
          let total : length line ≡ length s.front + length s.back = ap (λ (x : List ℕ). length x) s.parts ∙ length-append s.front s.back in
          let reach : length line - left ≡ length s.front = omega arith in
          let taken : take (length s.front) line ≡ s.front = ap (λ (x : List ℕ). take (length s.front) x) s.parts ∙ take-append_seam s.front s.back in
          rw reach (record {
            outside = λ t. apart (form_reading ps [] line) t.0 left (ap (λ (x : List ℕ). form_reading ps [] x) t.2 ∙ text_again ps t.0 [] ok t.1) e;
            within = omega arith;
            before = (s.rest, (s.some, s.fits, ap (λ (x : List ℕ). x ++ s.rest) taken ∙ sym s.text));
            past = λ n above most begins. past_lemma ps line ok s n above most begins;
          })
    ]

-- Two sets: the longer reach counts.
pub either_reaches : (S T : List ℕ → Type 0) (line : List ℕ) (m n k : ℕ) → Reaches S line m → Reaches T line n → ((m ≡ k) × (n ≤ k)) ⊎ ((n ≡ k) × (m ≤ k)) → Reaches (λ (t : List ℕ). S t ⊎ T t) line k
either_reaches S T line m n k s t longer = record {
  outside = λ w. elim w [ inl a ↦ s.outside a | inr b ↦ t.outside b ];
  within = elim longer [ inl h ↦ (let w = s.within in let e = h.0 in omega arith) | inr h ↦ (let w = t.within in let e = h.0 in omega arith) ];
  before = elim longer [
    | inl h ↦ (let b = subst (λ (x : ℕ). Begins S (take x line)) h.0 s.before in (b.0, inl b.1))
    | inr h ↦ (let b = subst (λ (x : ℕ). Begins T (take x line)) h.0 t.before in (b.0, inr b.1))
  ];
  past = λ p above most begins. elim begins.1 [
    | inl a ↦ s.past p (elim longer [ inl h ↦ (let e = h.0 in omega arith) | inr h ↦ (let e = h.1 in omega arith) ]) most (begins.0, a)
    | inr b ↦ t.past p (elim longer [ inl h ↦ (let e = h.1 in omega arith) | inr h ↦ (let e = h.0 in omega arith) ]) most (begins.0, b)
  ];
}

-- the same set in other words
pub reaches_same : (S T : List ℕ → Type 0) (line : List ℕ) (k : ℕ) → ((t : List ℕ) → S t → T t) → ((t : List ℕ) → T t → S t) → Reaches S line k → Reaches T line k
reaches_same S T line k to from r = record {
  outside = λ t. r.outside (from line t);
  within = r.within;
  before = (r.before.0, to _ r.before.1);
  past = λ n above most begins. r.past n above most (begins.0, from _ begins.1);
}

-- ---- several lines

pub either_exact : {A : Type 0} (Says : A → List ℕ → Type 0) (S T : List ℕ → Type 0) (line : List ℕ) (r q : Result A Stop) → IsExact Says S line r → IsExact Says T line q → IsExact Says (λ (t : List ℕ). S t ⊎ T t) line (further_of r q)
either_exact Says S T line (Ok e) q a b = a
either_exact Says S T line (Err s) (Ok e) a b = b
either_exact Says S T line (Err s) (Err t) a b =
    let m : ℕ = length line - s.left in
    let n : ℕ = length line - t.left in
    elim (cases (nat_le s.left t.left)) [
      | inl below ↦
          let le : s.left ≤ t.left = grind (arith, nat_tests) in
          rw below (a.0, either_reaches S T line m n m a.1 b.1 (inl (refl, omega arith)))
      | inr above ↦
          let le : t.left ≤ s.left = grind (arith, nat_tests) in
          rw above (b.0, either_reaches S T line m n n a.1 b.1 (inr (refl, omega arith)))
    ]

-- ---- one spelling

pub same_numbers : (ps : List Part) (vs ws : List Value) → is_readable ps ≡ true → Fits ps vs → Fits ps ws → spelling ps vs ≡ spelling ps ws → vs ≡ ws
same_numbers ps vs ws ok a b e = ok_is (form_reading ps [] (spelling ps vs)) vs ws (form_again ps vs ok a) (ap (λ (x : List ℕ). form_reading ps [] x) e ∙ form_again ps ws ok b)
