-- Forms without names: the values of their texts are numbers.
use Rattle.std.proofs.Common.{◌≡◌, ℕ, Bool, true, false, List, [], ◌∷◌, ap, subst, ◌∙◌, refl}
use Rattle.std.specs.Prelude.{if◌then◌else◌}
use Rattle.s2_text.specs.LineGrammar.{Value, num, name, Field, number, hex, letter, signed, label, Part, word, field, FitsField, Fits, nums}
use Rattle.s2_text.specs.LineTables.{SaysBy}

abbrev is_number_field : Field → Bool
is_number_field (number low high) = true
is_number_field (hex n) = true
is_number_field (letter allowed) = true
is_number_field signed = true
is_number_field label = false

abbrev pub is_number_form : List Part → Bool
is_number_form [] = true
is_number_form (word w ∷ ps) = is_number_form ps
is_number_form (field f ∷ ps) = if is_number_field f then is_number_form ps else false

-- x is what some numbers in range say
abbrev pub SaysNumbers : {A : Type 0} → List Part → (List Value → A) → A → Type 0
SaysNumbers ps says x = (ns : List ℕ) × Fits ps (nums ns) × (x ≡ says (nums ns))

field_number : (f : Field) (v : Value) → is_number_field f ≡ true → FitsField f v → (n : ℕ) × (v ≡ num n)
field_number f (num n) e fits = (n, refl)
field_number (number low high) (name l) e fits = absurd fits
field_number (hex n) (name l) e fits = absurd fits
field_number (letter allowed) (name l) e fits = absurd fits
field_number signed (name l) e fits = absurd fits
field_number label (name l) e fits = absurd cc

both : (a b : Bool) → (if a then b else false) ≡ true → (a ≡ true) × (b ≡ true)
both true b e = (refl, e)
both false b e = absurd cc

numbers_again : (ps : List Part) (vs : List Value) → is_number_form ps ≡ true → Fits ps vs → (ns : List ℕ) × (vs ≡ nums ns)
numbers_again [] [] e fits = ([], refl)
numbers_again [] (v ∷ vs) e fits = absurd fits
numbers_again (word w ∷ ps) vs e fits = numbers_again ps vs e fits
numbers_again (field f ∷ ps) [] e fits = absurd fits
numbers_again (field f ∷ ps) (v ∷ vs) e fits =
    let h = both (is_number_field f) (is_number_form ps) e in
    let first = field_number f v h.0 fits.0 in
    let others = numbers_again ps vs h.1 fits.1 in
    let one = first.1 in
    let more = others.1 in
    (first.0 ∷ others.0, cc)

-- what a line of such a form says
pub numbers_said : {A : Type 0} (ps : List Part) (says : List Value → A) (x : A) (line : List ℕ) → is_number_form ps ≡ true → SaysBy ps says x line → SaysNumbers ps says x
numbers_said ps says x line e (vs, fits, spelled, is) =
    let again = numbers_again ps vs e fits in
    (again.0, subst (Fits ps) again.1 fits, is ∙ ap says again.1)
