-- Texts of a form are short, and what stands past the longest doesn't matter.
use Rattle.std.proofs.Common.{◌≡◌, ℕ, zero, suc, ◌-◌, ◌<◌, ◌≤◌, true, List, [], ◌∷◌, ◌++◌, length, take, refl, sym, ap, subst, arith, length-append, inl, inr}
use Rattle.std.proofs.lemmas.List.{length-take, take-take, take_all}
use Rattle.s2_text.specs.LineGrammar.{Value, num, name, Field, number, hex, letter, signed, label, is_name, are_name_bytes, signed_text, Part, word, field, field_text, FitsField, Fits, spelling, Begins, Reaches}
use Rattle.s2_text.proofs.FormTests.{field_limit, form_limit, is_readable, is_readable_field}
use Rattle.s2_text.specs.HexText.{hex_text}
use Rattle.std.specs.Prelude.{nat_lt}
use Rattle.s2_text.proofs.LiteralWords.{cases}
use Rattle.s2_text.proofs.Decimals.{digits_few}
use Rattle.s2_text.proofs.LineFields.{is_range}
use Rattle.s2_text.proofs.WholeForms.{readable_parts}

-- so many digits are so long
pub hex_long : (n v : ℕ) → length (hex_text n v) ≡ n
hex_long zero v = refl
hex_long (suc n) v = ap suc (hex_long n v)

signed_short : (v : ℕ) → v < 65536 → length (signed_text v) ≤ 21
signed_short v fits =
    elim (cases (nat_lt v 32768)) [
      | inl below ↦ (let h = digits_few v (omega arith) in rw below (omega arith))
      | inr above ↦ (let h = digits_few (65536 - v) (omega arith) in rw above (omega arith))
    ]

label_short : (n : ℕ) (l : List ℕ) → are_name_bytes n l ≡ true → length l ≤ n
label_short n [] fits = omega arith
label_short zero (b ∷ l) fits = absurd cc
label_short (suc n) (b ∷ l) fits = (let h = label_short n l (grind arith) in omega arith)

name_short : (l : List ℕ) → is_name l ≡ true → length l ≤ 16
name_short [] fits = omega arith
name_short (b ∷ l) fits = (let h = label_short 15 l (grind arith) in omega arith)

field_short : (f : Field) (v : Value) → is_readable_field f ≡ true → FitsField f v → length (field_text f v) ≤ field_limit f
field_short (number low high) (num v) ok fits = (let r = is_range low high ok in let h = r.fits in let m = fits.1 in digits_few v (omega arith))
field_short (hex n) (num v) ok fits = omega (arith, hex_long n v)
field_short (letter allowed) (num v) ok fits = omega arith
field_short signed (num v) ok fits = signed_short v fits
field_short label (num v) ok fits = absurd fits
field_short (number low high) (name l) ok fits = absurd fits
field_short (hex n) (name l) ok fits = absurd fits
field_short (letter allowed) (name l) ok fits = absurd fits
field_short signed (name l) ok fits = absurd fits
field_short label (name l) ok fits = name_short l fits

pub spelling_short : (ps : List Part) (vs : List Value) → is_readable ps ≡ true → Fits ps vs → length (spelling ps vs) ≤ form_limit ps
spelling_short [] vs ok fits = omega arith
spelling_short (word w ∷ ps) vs ok fits = (let h = spelling_short ps vs ok fits in omega (arith, length-append w (spelling ps vs)))
spelling_short (field f ∷ ps) [] ok fits = absurd fits
spelling_short (field f ∷ ps) (v ∷ vs) ok fits =
    let s = readable_parts f ps ok in
    let h = spelling_short ps vs s.others fits.1 in
    let g = field_short f v s.here fits.0 in
    omega (arith, length-append (field_text f v) (spelling ps vs))

pub uncut_reaches : (S : List ℕ → Type 0) (limit : ℕ) (line : List ℕ) (k : ℕ) → ((t : List ℕ) → S t → length t ≤ limit) → Reaches S (take (suc limit) line) k → Reaches S line k
uncut_reaches S limit line k short r =
    let n : ℕ = suc limit in
    let size = length-take n line in
    let within : k ≤ length (take n line) = r.within in
    record {
      outside = λ s. (let l = short line s in let same : take n line ≡ line = take_all n line (omega arith) in r.outside (rw same s));
      within = omega (arith, size);
      before = (let same : take k (take n line) ≡ take k line = take-take k n line (omega (arith, size)) in subst (λ (x : List ℕ). Begins S x) same r.before);
      past = λ m above most begins.
          let l = short (take m line ++ begins.0) begins.1 in
          let few : m ≤ limit = omega (arith, length-append (take m line) begins.0, length-take m line) in
          let same : take m (take n line) ≡ take m line = take-take m n line (omega arith) in
          r.past m above (omega (arith, size)) (subst (λ (x : List ℕ). Begins S x) (sym same) begins);
    }
