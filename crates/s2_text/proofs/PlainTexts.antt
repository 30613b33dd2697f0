-- Texts without a line feed: numbers, names, and the texts of forms; and such a text, with its line feed, is a line.
use Rattle.std.proofs.Common.{◌≡◌, ℕ, zero, suc, ◌+◌, ◌-◌, ◌/◌, ◌%◌, ◌^◌, ◌<◌, ◌≤◌, Bool, true, false, cond, List, [], ◌∷◌, ◌++◌, refl, sym, ap, arith, ◌∙◌, subst, inl, inr}
use Rattle.std.specs.Prelude.{◌==◌, ◌&&◌, not, nat_lt}
use Rattle.std.specs.Fmt.{decimal}
use Rattle.std.proofs.lemmas.Bool.{cases_lt, ne_eqb}
use Rattle.std.proofs.lemmas.Bool.Decides.{nat_tests}
use Rattle.s2_text.specs.HexText.{hex_digit, hex_text}
use Rattle.s2_text.specs.LineGrammar.{Value, num, name, Field, number, hex, letter, signed, label, is_name, are_name_bytes, is_name_byte, is_small_letter, signed_text, Part, word, field, field_text, FitsField, Fits, spelling, IsTextOfOne}
use Rattle.s2_text.specs.InputLines.{InputLine, IsPlain, empty_line, with_byte, lines_of, texts_of}
use Rattle.s2_text.proofs.LiteralWords.{cases}
use Rattle.s2_text.proofs.Decimals.{AreDigits, digit_range, decimal_digits, digits_one}

pub plain_append : (a b : List ℕ) → IsPlain a → IsPlain b → IsPlain (a ++ b)
plain_append [] b p q = q
plain_append (x ∷ a) b p q = (p.0, plain_append a b p.1 q)

-- ---- numbers and names

no_feed : (b : ℕ) → 45 ≤ b → b ≡ 10 → ⊥
no_feed b high is = absurd (omega arith)

digits_plain : (ds : List ℕ) → AreDigits ds → IsPlain ds
digits_plain [] h = tt
digits_plain (d ∷ ds) h = let low = (digit_range d h.0).0 in (no_feed d (omega arith), digits_plain ds h.1)

pub decimal_plain : (n : ℕ) → n < 2 ^ 64 → IsPlain (decimal n)
decimal_plain n fits =
    elim (cases_lt 0 n) [
      | inl some ↦ (let h = decimal_digits n (omega arith) fits in subst IsPlain (sym h.is) (no_feed (48 + h.first) (omega arith), digits_plain h.others h.digits))
      | inr none ↦ subst IsPlain (sym (digits_one n (omega arith))) (no_feed (48 + n) (omega arith), tt)
    ]

hex_high : (d : ℕ) (t : Bool) → 45 ≤ cond t (48 + d) (87 + d)
hex_high d true = omega arith
hex_high d false = omega arith

pub hex_plain : (n v : ℕ) → IsPlain (hex_text n v)
hex_plain zero v = tt
hex_plain (suc n) v = (no_feed (hex_digit (v / 16 ^ n % 16)) (hex_high (v / 16 ^ n % 16) (nat_lt (v / 16 ^ n % 16) 10)), hex_plain n v)

signed_plain : (v : ℕ) → v < 65536 → IsPlain (signed_text v)
signed_plain v fits =
    elim (cases (nat_lt v 32768)) [
      | inl below ↦ rw below (decimal_plain v (omega arith))
      | inr above ↦ rw above (no_feed 45 (omega arith), decimal_plain (65536 - v) (omega arith))
    ]

name_byte_high : (b : ℕ) → is_name_byte b ≡ true → 45 ≤ b
name_byte_high b e = grind (arith, nat_tests)

letter_high : (b : ℕ) → is_small_letter b ≡ true → 45 ≤ b
letter_high b e = grind (arith, nat_tests)

both : (a b : Bool) → (a && b) ≡ true → (a ≡ true) × (b ≡ true)
both true b e = (refl, e)
both false b e = absurd cc

names_plain : (n : ℕ) (l : List ℕ) → are_name_bytes n l ≡ true → IsPlain l
names_plain n [] e = tt
names_plain zero (b ∷ l) e = absurd cc
names_plain (suc n) (b ∷ l) e = let h = both (is_name_byte b) (are_name_bytes n l) e in (no_feed b (name_byte_high b h.0), names_plain n l h.1)

name_plain : (l : List ℕ) → is_name l ≡ true → IsPlain l
name_plain [] e = absurd cc
name_plain (b ∷ l) e = let h = both (is_small_letter b) (are_name_bytes 15 l) e in (no_feed b (letter_high b h.0), names_plain 15 l h.1)

-- ---- forms whose texts have no line feed

abbrev is_plain_word : List ℕ → Bool
is_plain_word [] = true
is_plain_word (b ∷ bs) = not (b == 10) && is_plain_word bs

abbrev is_plain_field : Field → Bool
is_plain_field (number low high) = nat_lt high (2 ^ 64)
is_plain_field (hex n) = true
is_plain_field (letter allowed) = false
is_plain_field signed = true
is_plain_field label = true

abbrev pub is_plain_form : List Part → Bool
is_plain_form [] = true
is_plain_form (word w ∷ ps) = is_plain_word w && is_plain_form ps
is_plain_form (field f ∷ ps) = is_plain_field f && is_plain_form ps

abbrev pub are_plain_forms : List (List Part) → Bool
are_plain_forms [] = true
are_plain_forms (ps ∷ table) = is_plain_form ps && are_plain_forms table

other_byte : (b : ℕ) → not (b == 10) ≡ true → b ≡ 10 → ⊥
other_byte b e is = absurd (grind (arith, nat_tests))

word_plain : (w : List ℕ) → is_plain_word w ≡ true → IsPlain w
word_plain [] e = tt
word_plain (b ∷ bs) e = let h = both (not (b == 10)) (is_plain_word bs) e in (other_byte b h.0, word_plain bs h.1)

field_plain : (f : Field) (v : Value) → is_plain_field f ≡ true → FitsField f v → IsPlain (field_text f v)
field_plain (number low high) (num v) e fits = let most = fits.1 in let room : high < 2 ^ 64 = grind (arith, nat_tests) in decimal_plain v (omega arith)
field_plain (hex n) (num v) e fits = hex_plain n v
field_plain (letter allowed) (num v) e fits = absurd cc
field_plain signed (num v) e fits = signed_plain v fits
field_plain label (num v) e fits = absurd fits
field_plain (number low high) (name l) e fits = absurd fits
field_plain (hex n) (name l) e fits = absurd fits
field_plain (letter allowed) (name l) e fits = absurd fits
field_plain signed (name l) e fits = absurd fits
field_plain label (name l) e fits = name_plain l fits

pub spelling_plain : (ps : List Part) (vs : List Value) → is_plain_form ps ≡ true → Fits ps vs → IsPlain (spelling ps vs)
spelling_plain [] vs e fits = tt
spelling_plain (word w ∷ ps) vs e fits = let h = both (is_plain_word w) (is_plain_form ps) e in plain_append w (spelling ps vs) (word_plain w h.0) (spelling_plain ps vs h.1 fits)
spelling_plain (field f ∷ ps) [] e fits = absurd fits
spelling_plain (field f ∷ ps) (v ∷ vs) e fits = let h = both (is_plain_field f) (is_plain_form ps) e in plain_append (field_text f v) (spelling ps vs) (field_plain f v h.0 fits.0) (spelling_plain ps vs h.1 fits.1)

-- a text of a table of such forms
pub text_plain : (table : List (List Part)) (t : List ℕ) → are_plain_forms table ≡ true → IsTextOfOne table t → IsPlain t
text_plain [] t e is = absurd is
text_plain (ps ∷ table) t e (inl (vs, fits, is)) = subst IsPlain (sym is) (spelling_plain ps vs (both (is_plain_form ps) (are_plain_forms table) e).0 fits)
text_plain (ps ∷ table) t e (inr other) = text_plain table t (both (is_plain_form ps) (are_plain_forms table) e).1 other

-- ---- the first line of an input

-- a byte that is no line feed joins the first line
pub byte_joins : (b : ℕ) (bs : List ℕ) → (b ≡ 10 → ⊥) → lines_of (b ∷ bs) ≡ with_byte b (lines_of bs)
byte_joins b bs other = ap (λ (t : Bool). cond t (empty_line ∷ lines_of bs) (with_byte b (lines_of bs))) (ne_eqb b 10 other)

pub with_text : (b : ℕ) (lines : List InputLine) (text : List ℕ) (others : List (List ℕ)) → texts_of lines ≡ text ∷ others → texts_of (with_byte b lines) ≡ (b ∷ text) ∷ others
with_text b [] text others e = absurd cc
with_text b (line ∷ lines) text others e = cc

pub first_text : (text rest : List ℕ) → IsPlain text → texts_of (lines_of (text ++ 10 ∷ rest)) ≡ text ∷ texts_of (lines_of rest)
first_text [] rest plain = refl
first_text (b ∷ text) rest plain =
    ap texts_of (byte_joins b (text ++ 10 ∷ rest) plain.0)
    ∙ with_text b (lines_of (text ++ 10 ∷ rest)) text (texts_of (lines_of rest)) (first_text text rest plain.1)
