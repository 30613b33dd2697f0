-- One field: what is read is its text, what is its text is read, and where reading stops.
use Rattle.std.proofs.Common.{◌≡◌, ℕ, zero, suc, ◌+◌, ◌-◌, ◌*◌, ◌/◌, ◌%◌, ◌^◌, ◌<◌, ◌≤◌, Bool, true, false, cond, List, [], ◌∷◌, ◌++◌, length, Result, Ok, Err, Option, Some, None, refl, sym, ap, ◌∙◌, subst, append_assoc, arith, ◌⊎◌, inl, inr, lit<, add-zero, add-one, length-append}
use Rattle.std.specs.Prelude.{nat_le, nat_lt, ◌==◌, IsTrue}
use Rattle.std.specs.Fmt.{decimal}
use Rattle.std.proofs.lemmas.Fmt.{decimal_digit}
use Rattle.std.proofs.lemmas.Bool.Decides.{nat_tests}
use Rattle.std.proofs.lemmas.List.{append-nil}
use Rattle.std.proofs.Math.Nat.{div-div-eq-div-mul, lt-div-mul-add}
use Rattle.std.proofs.lemmas.Nat.{div-mul-add}
use Rattle.s2_text.specs.LineGrammar.{Value, num, name, Field, number, hex, letter, signed, label, is_small_letter, is_name_byte, are_name_bytes, is_name, signed_text, is_one_of, field_text, FitsField}
use Rattle.s2_text.specs.HexText.{hex_text, hex_digit}
use Rattle.s2_text.specs.LineReading.{as_number, as_name, signed_reading, name_from, name_reading, goes_on, digits_from, number_reading, letter_reading, field_reading, is_hex, hex_value, hex_reading}
use Rattle.s2_text.proofs.FormTests.{is_readable_field}
use Rattle.s2_text.proofs.LiteralWords.{cases}
use Rattle.s2_text.proofs.Decimals.{value_from, decimal_on, decimal_digits, digits_again, plain, Run, run, longer, digit_range, goes_on_true, true_goes_on, value_grows}

-- A value was read, and of what follows only the next byte matters.
pub record Match {V : Type 0} (reader : List ℕ → Result (V × List ℕ) ℕ) (spelled : V → List ℕ) (Proper : V → Type 0) (bytes : List ℕ) : Type 0 where
  pub value : V
  pub rest : List ℕ
  pub read : reader bytes ≡ Ok (value, rest)
  pub parts : bytes ≡ spelled value ++ rest
  pub fits : Proper value
  pub near : (b : ℕ) (more new : List ℕ) → rest ≡ b ∷ more → reader (spelled value ++ b ∷ new) ≡ Ok (value, b ∷ new)

-- Reading stopped at back: what was read so far is a front of some text, and of back only the first byte matters.
pub record Mismatch {V : Type 0} (reader : List ℕ → Result (V × List ℕ) ℕ) (spelled : V → List ℕ) (Proper : V → Type 0) (bytes : List ℕ) : Type 0 where
  pub front : List ℕ
  pub back : List ℕ
  pub read : reader bytes ≡ Err (length back)
  pub parts : bytes ≡ front ++ back
  pub some : V
  pub fits : Proper some
  pub rest : List ℕ
  pub text : spelled some ≡ front ++ rest
  pub near : (b : ℕ) (more new : List ℕ) → back ≡ b ∷ more → reader (front ++ b ∷ new) ≡ Err (suc (length new))

abbrev pub ReadsBy : {V : Type 0} → (List ℕ → Result (V × List ℕ) ℕ) → (V → List ℕ) → (V → Type 0) → List ℕ → Type 0
ReadsBy reader spelled Proper bytes = Match reader spelled Proper bytes ⊎ Mismatch reader spelled Proper bytes

abbrev pub FieldMatch : Field → List ℕ → Type 0
FieldMatch f bytes = Match (field_reading f) (field_text f) (FitsField f) bytes

abbrev pub FieldMismatch : Field → List ℕ → Type 0
FieldMismatch f bytes = Mismatch (field_reading f) (field_text f) (FitsField f) bytes

abbrev pub Reads : Field → List ℕ → Type 0
Reads f bytes = FieldMatch f bytes ⊎ FieldMismatch f bytes

-- a field whose values are numbers
as_numbers : (f : Field) (reader : List ℕ → Result (ℕ × List ℕ) ℕ) (spelled : ℕ → List ℕ) (Proper : ℕ → Type 0) (bytes : List ℕ)
    → ((bs : List ℕ) → field_reading f bs ≡ as_number (reader bs)) → ((v : ℕ) → field_text f (num v) ≡ spelled v) → ((v : ℕ) → Proper v → FitsField f (num v))
    → ReadsBy reader spelled Proper bytes → Reads f bytes
as_numbers f reader spelled Proper bytes same text fit (inl t) = inl (record {
  value = num t.value;
  rest = t.rest;
  read = rw (same bytes, t.read) refl;
  parts = rw (text t.value) t.parts;
  fits = fit t.value t.fits;
  near = λ b more new h. rw (text t.value, same (spelled t.value ++ b ∷ new), t.near b more new h) refl;
})
as_numbers f reader spelled Proper bytes same text fit (inr s) = inr (record {
  front = s.front;
  back = s.back;
  read = rw (same bytes, s.read) refl;
  parts = s.parts;
  some = num s.some;
  fits = fit s.some s.fits;
  rest = s.rest;
  text = rw (text s.some) s.text;
  near = λ b more new h. rw (same (s.front ++ b ∷ new), s.near b more new h) refl;
})

as_names : (f : Field) (reader : List ℕ → Result (List ℕ × List ℕ) ℕ) (spelled : List ℕ → List ℕ) (Proper : List ℕ → Type 0) (bytes : List ℕ)
    → ((bs : List ℕ) → field_reading f bs ≡ as_name (reader bs)) → ((v : List ℕ) → field_text f (name v) ≡ spelled v) → ((v : List ℕ) → Proper v → FitsField f (name v))
    → ReadsBy reader spelled Proper bytes → Reads f bytes
as_names f reader spelled Proper bytes same text fit (inl t) = inl (record {
  value = name t.value;
  rest = t.rest;
  read = rw (same bytes, t.read) refl;
  parts = rw (text t.value) t.parts;
  fits = fit t.value t.fits;
  near = λ b more new h. rw (text t.value, same (spelled t.value ++ b ∷ new), t.near b more new h) refl;
})
as_names f reader spelled Proper bytes same text fit (inr s) = inr (record {
  front = s.front;
  back = s.back;
  read = rw (same bytes, s.read) refl;
  parts = s.parts;
  some = name s.some;
  fits = fit s.some s.fits;
  rest = s.rest;
  text = rw (text s.some) s.text;
  near = λ b more new h. rw (same (s.front ++ b ∷ new), s.near b more new h) refl;
})

abbrev pub InRange : ℕ → ℕ → ℕ → Type 0
InRange low high v = (low ≤ v) × (v ≤ high)

pub record IsRange (low high : ℕ) : Type 0 where
  pub order : low ≤ high
  pub fits : high < 2 ^ 64
  pub room : (low ≤ 1) ⊎ (10 * low ≤ high)

pub is_range : (low high : ℕ) → is_readable_field (number low high) ≡ true → IsRange low high
is_range low high e = record {
  order = grind (arith, nat_tests);
  fits = grind (arith, nat_tests);
  room = grind (arith, nat_tests);
}

-- where the first byte is refused
stop_here : (low high b : ℕ) (bytes : List ℕ) → low ≤ high → ((new : List ℕ) → number_reading low high (b ∷ new) ≡ Err (suc (length new))) → Mismatch (number_reading low high) decimal (InRange low high) (b ∷ bytes)
stop_here low high b bytes order refused = record {
  front = [];
  back = b ∷ bytes;
  read = refused bytes;
  parts = refl;
  some = high;
  fits = (order, omega arith);
  rest = decimal high;
  text = refl;
  near = λ c more new h. (let g : c ≡ b = cc in rw g (refused new));
}

from_one : (low high b : ℕ) (bytes : List ℕ) → IsRange low high → (b == 48) ≡ false → goes_on high 0 b ≡ true → Run high (b - 48) bytes → ReadsBy (number_reading low high) decimal (InRange low high) (b ∷ bytes)
from_one low high b bytes range other first r =
    let g = goes_on_true high 0 b first in
    let d = digit_range b g.0 in
    let n : ℕ = value_from (b - 48) r.ds in
    let one : 1 ≤ b - 48 = grind (arith, nat_tests) in
    let grows : b - 48 ≤ n = value_grows r.ds (b - 48) in
    let most : n ≤ high = r.most in
    let fits : n < 2 ^ 64 = (let h = range.fits in omega arith) in
    let back : 48 + (b - 48) ≡ b = omega arith in
    let spelled : decimal n ≡ b ∷ r.ds =
    decimal_on r.ds (b - 48) one r.digits fits ∙ (rw (decimal_digit (b - 48) (omega arith), back) refl) in
    elim (cases (nat_lt n low)) [
      | inl less ↦
          let below : n < low = grind (arith, nat_tests) in
          let room : 10 * low ≤ high = elim range.room [ inl small ↦ absurd (omega arith) | inr big ↦ big ] in
          let s = longer low high low n (omega arith) below (omega arith) room range.fits in
          inr (record {
            front = b ∷ r.ds;
            back = r.rest;
            read = rw (other, first, r.read, less) refl;
            parts = ap (λ (t : List ℕ). b ∷ t) r.parts;
            some = s.number;
            fits = (s.least, s.most);
            rest = s.zeros;
            text = s.text ∙ (rw spelled refl);
            near = λ c more new h. rw (other, first, r.near c more new h, less) refl;
          })
      | inr enough ↦
          let least : low ≤ n = grind (arith, nat_tests) in
          inl (record {
            value = n;
            rest = r.rest;
            read = rw (other, first, r.read, enough) refl;
            parts = ap (λ (t : List ℕ). b ∷ t) r.parts ∙ (rw spelled refl);
            fits = (least, most);
            near = λ c more new h. rw (spelled, other, first, r.near c more new h, enough) refl;
          })
    ]

pub number_reads : (low high : ℕ) (bytes : List ℕ) → IsRange low high → ReadsBy (number_reading low high) decimal (InRange low high) bytes
number_reads low high [] range = inr (record {
  front = [];
  back = [];
  read = refl;
  parts = refl;
  some = high;
  fits = (range.order, omega arith);
  rest = decimal high;
  text = refl;
  near = λ c more new h. absurd cc;
})
number_reads low high (b ∷ bytes) range =
    elim (cases (b == 48)) [
      | inl nought ↦ elim (cases (low == 0)) [
        | inl from ↦
            let is : b ≡ 48 = grind (arith, nat_tests) in
            let spelled : decimal 0 ≡ 48 ∷ [] = decimal_digit 0 (omega arith) in
            inl (record {
              value = 0;
              rest = bytes;
              read = rw (nought, from) refl;
              parts = rw (spelled, is) refl;
              fits = (grind (arith, nat_tests), omega arith);
              near = λ c more new h. rw (spelled, from) refl;
            })
        | inr above ↦ inr (stop_here low high b bytes range.order (λ new. rw (nought, above) refl))
      ]
      | inr other ↦ elim (cases (goes_on high 0 b)) [
        | inl first ↦
            let g = goes_on_true high 0 b first in
            from_one low high b bytes range other first (run high bytes (b - 48) (omega (arith, g.1)))
        | inr wrong ↦ inr (stop_here low high b bytes range.order (λ new. rw (other, wrong) refl))
      ]
    ]

pub number_again : (low high v : ℕ) (rest : List ℕ) → IsRange low high → low ≤ v → v ≤ high → plain rest ≡ true → number_reading low high (decimal v ++ rest) ≡ Ok (v, rest)
number_again low high zero rest range least most end =
    let from : (low == 0) ≡ true = grind (arith, nat_tests) in
    rw (decimal_digit 0 (omega arith), from) refl
number_again low high (suc u) rest range least most end =
    let fits = range.fits in
    let v : ℕ = suc u in
    let h = decimal_digits v (omega arith) (omega arith) in
    let other : ((48 + h.first) == 48) ≡ false = (let l = h.low in grind (arith, nat_tests)) in
    let back : (48 + h.first) - 48 ≡ h.first = omega arith in
    let value : value_from h.first h.others ≡ v = h.value in
    let grows : h.first ≤ value_from h.first h.others = value_grows h.others h.first in
    let starts : goes_on high 0 (48 + h.first) ≡ true =
    (let l = h.low in let k = h.high in true_goes_on high 0 (48 + h.first) (grind (arith, nat_tests)) (omega arith)) in
    let on : digits_from high h.first (h.others ++ rest) ≡ (v, rest) =
    digits_again high h.first h.others rest h.digits (omega arith) end ∙ (rw value refl) in
    let enough : nat_lt v low ≡ false = grind (arith, nat_tests) in
    rw (h.is, other, starts, back, on, enough) refl

-- ---- hex

hex_range : (b : ℕ) → is_hex b ≡ true → (hex_value b < 16) × (hex_digit (hex_value b) ≡ b)
hex_range b e = (grind (arith, nat_tests), grind (arith, nat_tests))

range_hex : (d : ℕ) → d < 16 → (is_hex (hex_digit d) ≡ true) × (hex_value (hex_digit d) ≡ d)
range_hex d e = (grind (arith, nat_tests), grind (arith, nat_tests))

div_step : (w n : ℕ) → w / 16 ^ n / 16 ≡ w / 16 ^ suc n
div_step w n = div-div-eq-div-mul w (16 ^ n) 16 ∙ (ap (λ (k : ℕ). w / k) (grind arith))

pub hex_again : (n w : ℕ) (rest : List ℕ) → hex_reading n (w / 16 ^ n) (hex_text n w ++ rest) ≡ Ok (w, rest)
hex_again zero w rest = grind arith
hex_again (suc n) w rest =
    let q : ℕ = w / 16 ^ n in
    let h = range_hex (q % 16) (omega arith) in
    let high : w / 16 ^ suc n ≡ q / 16 = sym (div_step w n) in
    let join : q / 16 * 16 + q % 16 ≡ q = omega arith in
    rw (h.0, h.1, high, join) (hex_again n w rest)

-- n digits more, after those that make v
pub record HexMatch (n v : ℕ) (bytes : List ℕ) : Type 0 where
  pub value : ℕ
  pub rest : List ℕ
  pub read : hex_reading n v bytes ≡ Ok (value, rest)
  pub parts : bytes ≡ hex_text n value ++ rest
  pub high : value / 16 ^ n ≡ v

pub record HexMismatch (n v : ℕ) (bytes : List ℕ) : Type 0 where
  pub front : List ℕ
  pub back : List ℕ
  pub read : hex_reading n v bytes ≡ Err (length back)
  pub parts : bytes ≡ front ++ back
  pub some : ℕ
  pub high : some / 16 ^ n ≡ v
  pub rest : List ℕ
  pub text : hex_text n some ≡ front ++ rest
  pub near : (b : ℕ) (more new : List ℕ) → back ≡ b ∷ more → hex_reading n v (front ++ b ∷ new) ≡ Err (suc (length new))

power_positive : (n : ℕ) → 0 < 16 ^ n
power_positive zero = lit< tt
power_positive (suc n) = (let h = power_positive n in grind arith)

shifted : (v n : ℕ) → v * 16 ^ n / 16 ^ n ≡ v
shifted v n = (let e = div-mul-add v (16 ^ n) 0 (power_positive n) in rw add-zero at e)

hex_first : (n v w b : ℕ) → w / 16 ^ n ≡ v * 16 + hex_value b → is_hex b ≡ true → (hex_digit (w / 16 ^ n % 16) ≡ b) × (w / 16 ^ suc n ≡ v)
hex_first n v w b e digit =
    let h = hex_range b digit in
    let low : w / 16 ^ n % 16 ≡ hex_value b = rw e (omega (arith, h.0)) in
    let high : w / 16 ^ n / 16 ≡ v = rw e (omega (arith, h.0)) in
    (rw low h.1, sym (div_step w n) ∙ high)

pub hex_reads : (n v : ℕ) (bytes : List ℕ) → HexMatch n v bytes ⊎ HexMismatch n v bytes
hex_reads zero v bytes = inl (record { value = v; rest = bytes; read = refl; parts = refl; high = grind arith })
hex_reads (suc n) v [] = inr (record {
  front = [];
  back = [];
  read = refl;
  parts = refl;
  some = v * 16 ^ suc n;
  high = shifted v (suc n);
  rest = hex_text (suc n) (v * 16 ^ suc n);
  text = refl;
  near = λ b more new h. absurd cc;
})
hex_reads (suc n) v (b ∷ bytes) =
    elim (cases (is_hex b)) [
      | inl digit ↦ elim (hex_reads n (v * 16 + hex_value b) bytes) [
        | inl t ↦
            let f = hex_first n v t.value b t.high digit in
            inl (record {
              value = t.value;
              rest = t.rest;
              read = rw digit t.read;
              parts = ap (λ (x : List ℕ). b ∷ x) t.parts ∙ (rw f.0 refl);
              high = f.1;
            })
        | inr s ↦
            let f = hex_first n v s.some b s.high digit in
            inr (record {
              front = b ∷ s.front;
              back = s.back;
              read = rw digit s.read;
              parts = ap (λ (x : List ℕ). b ∷ x) s.parts;
              some = s.some;
              high = f.1;
              rest = s.rest;
              text = rw (f.0, s.text) refl;
              near = λ c more new h. rw digit (s.near c more new h);
            })
      ]
      | inr other ↦ inr (record {
        front = [];
        back = b ∷ bytes;
        read = rw other refl;
        parts = refl;
        some = v * 16 ^ suc n;
        high = shifted v (suc n);
        rest = hex_text (suc n) (v * 16 ^ suc n);
        text = refl;
        near = λ c more new h. (let g : c ≡ b = cc in rw (g, other) refl);
      })
    ]

below_of : (w k : ℕ) → 0 < k → w / k ≡ 0 → w < k
below_of w k h e = (let l : w < w / k * k + k = lt-div-mul-add h in let m = rw e at l in omega arith)

pub below_power : (w n : ℕ) → w / 16 ^ n ≡ 0 → w < 16 ^ n
below_power w n e = below_of w (16 ^ n) (power_positive n) e

pub power_below : (w n : ℕ) → w < 16 ^ n → w / 16 ^ n ≡ 0
power_below w n h = grind arith

-- ---- letters

letter_reads : (allowed bytes : List ℕ) → is_readable_field (letter allowed) ≡ true → ReadsBy (letter_reading allowed) (λ (v : ℕ). v ∷ []) (λ (v : ℕ). IsTrue (is_one_of allowed v)) bytes
letter_reads [] bytes ok = absurd cc
letter_reads (a ∷ others) [] ok = inr (record {
  front = [];
  back = [];
  read = refl;
  parts = refl;
  some = a;
  fits = grind (arith, nat_tests);
  rest = a ∷ [];
  text = refl;
  near = λ b more new h. absurd cc;
})
letter_reads (a ∷ others) (b ∷ bytes) ok =
    elim (cases (is_one_of (a ∷ others) b)) [
      | inl one ↦ inl (record {
        value = b;
        rest = bytes;
        read = rw one refl;
        parts = refl;
        fits = one;
        near = λ c more new h. rw one refl;
      })
      | inr none ↦ inr (record {
        front = [];
        back = b ∷ bytes;
        read = rw none refl;
        parts = refl;
        some = a;
        fits = grind (arith, nat_tests);
        rest = a ∷ [];
        text = refl;
        near = λ c more new h. (let g : c ≡ b = cc in rw (g, none) refl);
      })
    ]

-- ---- signed numbers

range_below : IsRange 1 32768
range_below = record { order = omega arith; fits = omega arith; room = inl (omega arith) }

range_above : IsRange 0 32767
range_above = record { order = omega arith; fits = omega arith; room = inl (omega arith) }

-- a decimal begins with a digit
pub record Starts (v : ℕ) : Type 0 where
  pub first : ℕ
  pub others : List ℕ
  pub is : decimal v ≡ first ∷ others
  pub other : (first == 45) ≡ false

pub starts : (v : ℕ) → v < 2 ^ 64 → Starts v
starts zero fits = record { first = 48; others = []; is = decimal_digit 0 (omega arith); other = refl }
starts (suc u) fits =
    let h = decimal_digits (suc u) (omega arith) fits in
    record { first = 48 + h.first; others = h.others; is = h.is; other = grind (arith, nat_tests) }

unsigned_again : (v : ℕ) (rest : List ℕ) → v < 2 ^ 64 → number_reading 0 32767 (decimal v ++ rest) ≡ Ok (v, rest) → signed_reading (decimal v ++ rest) ≡ Ok (v, rest)
unsigned_again v rest fits read =
    let s = starts v fits in
    let r = rw s.is at read in
    rw (s.is, s.other, r) refl

pub signed_again : (v : ℕ) (rest : List ℕ) → v < 65536 → plain rest ≡ true → signed_reading (signed_text v ++ rest) ≡ Ok (v, rest)
signed_again v rest fits end =
    elim (cases (nat_lt v 32768)) [
      | inl below ↦
          let less : v < 32768 = grind (arith, nat_tests) in
          let read = number_again 0 32767 v rest range_above (omega arith) (omega arith) end in
          rw below (unsigned_again v rest (omega arith) read)
      | inr above ↦
          let more : 32768 ≤ v = grind (arith, nat_tests) in
          let read = number_again 1 32768 (65536 - v) rest range_below (omega arith) (omega arith) end in
          let back : 65536 - (65536 - v) ≡ v = omega arith in
          rw (above, read, back) refl
    ]

text_below : (n : ℕ) → 1 ≤ n → n ≤ 32768 → signed_text (65536 - n) ≡ 45 ∷ decimal n
text_below n least most =
    let above : nat_lt (65536 - n) 32768 ≡ false = grind (arith, nat_tests) in
    let back : 65536 - (65536 - n) ≡ n = omega arith in
    rw (above, back) refl

text_above : (n : ℕ) → n ≤ 32767 → signed_text n ≡ decimal n
text_above n most = (let below : nat_lt n 32768 ≡ true = grind (arith, nat_tests) in rw below refl)

-- behind the sign
behind : (b : ℕ) (bytes : List ℕ) → (b == 45) ≡ true → ReadsBy (number_reading 1 32768) decimal (InRange 1 32768) bytes → ReadsBy signed_reading signed_text (λ (v : ℕ). v < 65536) (b ∷ bytes)
behind b bytes sign (inl t) =
    let is : b ≡ 45 = grind (arith, nat_tests) in
    let text = text_below t.value t.fits.0 t.fits.1 in
    inl (record {
      value = 65536 - t.value;
      rest = t.rest;
      read = rw (sign, t.read) refl;
      parts = ap (λ (x : List ℕ). b ∷ x) t.parts ∙ (rw (text, is) refl);
      fits = (let l = t.fits.0 in omega arith);
      near = λ c more new h. rw (text, t.near c more new h) refl;
    })
behind b bytes sign (inr s) =
    let is : b ≡ 45 = grind (arith, nat_tests) in
    inr (record {
      front = 45 ∷ s.front;
      back = s.back;
      read = rw (sign, s.read) refl;
      parts = ap (λ (x : List ℕ). b ∷ x) s.parts ∙ (rw is refl);
      some = 65536 - s.some;
      fits = (let l = s.fits.0 in omega arith);
      rest = s.rest;
      text = text_below s.some s.fits.0 s.fits.1 ∙ ap (λ (x : List ℕ). 45 ∷ x) s.text;
      near = λ c more new h. rw (s.near c more new h) refl;
    })

-- with no sign
unsigned_took : (b : ℕ) (bytes : List ℕ) → (b == 45) ≡ false → Match (number_reading 0 32767) decimal (InRange 0 32767) (b ∷ bytes) → Match signed_reading signed_text (λ (v : ℕ). v < 65536) (b ∷ bytes)
unsigned_took b bytes other t =
    let text = text_above t.value t.fits.1 in
    record {
      value = t.value;
      rest = t.rest;
      read = rw (other, t.read) refl;
      parts = rw text t.parts;
      fits = (let l = t.fits.1 in omega arith);
      near = λ c more new h. rw text (unsigned_again t.value (c ∷ new) (let l = t.fits.1 in omega arith) (t.near c more new h));
    }

unsigned_near : (b : ℕ) (bytes front back : List ℕ) (c : ℕ) (more new : List ℕ) → (b == 45) ≡ false → b ∷ bytes ≡ front ++ back → back ≡ c ∷ more → number_reading 0 32767 (front ++ c ∷ new) ≡ Err (suc (length new)) → signed_reading (front ++ c ∷ new) ≡ Err (suc (length new))
unsigned_near b bytes [] back c more new other parts h near = (let g : c ≡ b = cc in rw (g, other) (rw g at near))
unsigned_near b bytes (d ∷ front) back c more new other parts h near = (let g : d ≡ b = cc in rw (g, other) (rw g at near))

unsigned_stopped : (b : ℕ) (bytes : List ℕ) → (b == 45) ≡ false → Mismatch (number_reading 0 32767) decimal (InRange 0 32767) (b ∷ bytes) → Mismatch signed_reading signed_text (λ (v : ℕ). v < 65536) (b ∷ bytes)
unsigned_stopped b bytes other s = record {
  front = s.front;
  back = s.back;
  read = rw (other, s.read) refl;
  parts = s.parts;
  some = s.some;
  fits = (let l = s.fits.1 in omega arith);
  rest = s.rest;
  text = text_above s.some s.fits.1 ∙ s.text;
  near = λ c more new h. unsigned_near b bytes s.front s.back c more new other s.parts h (s.near c more new h);
}

signed_reads : (bytes : List ℕ) → ReadsBy signed_reading signed_text (λ (v : ℕ). v < 65536) bytes
signed_reads [] = inr (record {
  front = [];
  back = [];
  read = refl;
  parts = refl;
  some = 0;
  fits = omega arith;
  rest = signed_text 0;
  text = refl;
  near = λ b more new h. absurd cc;
})
signed_reads (b ∷ bytes) =
    elim (cases (b == 45)) [
      | inl sign ↦ behind b bytes sign (number_reads 1 32768 bytes range_below)
      | inr other ↦ elim (number_reads 0 32767 (b ∷ bytes) range_above) [
        | inl t ↦ inl (unsigned_took b bytes other t)
        | inr s ↦ inr (unsigned_stopped b bytes other s)
      ]
    ]

-- ---- labels

-- the letters and digits at the front: it is only the next byte that ends them
record Tail (n : ℕ) (bytes : List ℕ) : Type 0 where
  taken : List ℕ
  rest : List ℕ
  read : name_from n bytes ≡ (taken, rest)
  parts : bytes ≡ taken ++ rest
  fits : are_name_bytes n taken ≡ true
  near : (b : ℕ) (more new : List ℕ) → rest ≡ b ∷ more → name_from n (taken ++ b ∷ new) ≡ (taken, b ∷ new)

name_tail : (n : ℕ) (bytes : List ℕ) → Tail n bytes
name_tail zero bytes = record { taken = []; rest = bytes; read = refl; parts = refl; fits = refl; near = λ b more new h. refl }
name_tail (suc n) [] = record { taken = []; rest = []; read = refl; parts = refl; fits = refl; near = λ b more new h. absurd cc }
name_tail (suc n) (b ∷ bytes) =
    elim (cases (is_name_byte b)) [
      | inl one ↦
          let t = name_tail n bytes in
          record {
            taken = b ∷ t.taken;
            rest = t.rest;
            read = rw (one, t.read) refl;
            parts = ap (λ (x : List ℕ). b ∷ x) t.parts;
            fits = rw (one, t.fits) refl;
            near = λ c more new h. rw (one, t.near c more new h) refl;
          }
      | inr other ↦ record {
        taken = [];
        rest = b ∷ bytes;
        read = rw other refl;
        parts = refl;
        fits = refl;
        near = λ c more new h. (let g : c ≡ b = cc in rw (g, other) refl);
      }
    ]

tail_again : (n : ℕ) (l rest : List ℕ) → are_name_bytes n l ≡ true → plain rest ≡ true → name_from n (l ++ rest) ≡ (l, rest)
tail_again zero [] rest fits end = refl
tail_again zero (b ∷ l) rest fits end = absurd cc
tail_again (suc n) [] [] fits end = refl
tail_again (suc n) [] (b ∷ rest) fits end = (let other : is_name_byte b ≡ false = grind arith in rw other refl)
tail_again (suc n) (b ∷ l) rest fits end =
    let one : is_name_byte b ≡ true = grind arith in
    let on : are_name_bytes n l ≡ true = grind arith in
    rw (one, tail_again n l rest on end) refl

name_again : (l rest : List ℕ) → is_name l ≡ true → plain rest ≡ true → name_reading (l ++ rest) ≡ Ok (l, rest)
name_again [] rest fits end = absurd cc
name_again (b ∷ l) rest fits end =
    let one : is_small_letter b ≡ true = grind arith in
    let on : are_name_bytes 15 l ≡ true = grind arith in
    rw (one, tail_again 15 l rest on end) refl

name_reads : (bytes : List ℕ) → ReadsBy name_reading (λ (l : List ℕ). l) (λ (l : List ℕ). IsTrue (is_name l)) bytes
name_reads [] = inr (record {
  front = [];
  back = [];
  read = refl;
  parts = refl;
  some = 97 ∷ [];
  fits = refl;
  rest = 97 ∷ [];
  text = refl;
  near = λ b more new h. absurd cc;
})
name_reads (b ∷ bytes) =
    elim (cases (is_small_letter b)) [
      | inl one ↦
          let t = name_tail 15 bytes in
          inl (record {
            value = b ∷ t.taken;
            rest = t.rest;
            read = rw (one, t.read) refl;
            parts = ap (λ (x : List ℕ). b ∷ x) t.parts;
            fits = rw (one, t.fits) refl;
            near = λ c more new h. rw (one, t.near c more new h) refl;
          })
      | inr none ↦ inr (record {
        front = [];
        back = b ∷ bytes;
        read = rw none refl;
        parts = refl;
        some = 97 ∷ [];
        fits = refl;
        rest = 97 ∷ [];
        text = refl;
        near = λ c more new h. (let g : c ≡ b = cc in rw (g, none) refl);
      })
    ]

-- ---- any field

pub field_again : (f : Field) (v : Value) (rest : List ℕ) → is_readable_field f ≡ true → FitsField f v → plain rest ≡ true → field_reading f (field_text f v ++ rest) ≡ Ok (v, rest)
field_again (number low high) (num v) rest ok fits end = rw (number_again low high v rest (is_range low high ok) fits.0 fits.1 end) refl
field_again (hex n) (num v) rest ok fits end = (let e : v / 16 ^ n ≡ 0 = power_below v n fits in let a = rw e at (hex_again n v rest) in rw a refl)
field_again (letter allowed) (num v) rest ok fits end = rw fits refl
field_again signed (num v) rest ok fits end = rw (signed_again v rest fits end) refl
field_again label (num v) rest ok fits end = absurd fits
field_again (number low high) (name l) rest ok fits end = absurd fits
field_again (hex n) (name l) rest ok fits end = absurd fits
field_again (letter allowed) (name l) rest ok fits end = absurd fits
field_again signed (name l) rest ok fits end = absurd fits
field_again label (name l) rest ok fits end = rw (name_again l rest fits end) refl

hex_field : (n : ℕ) (bytes : List ℕ) → ReadsBy (hex_reading n 0) (hex_text n) (λ (v : ℕ). v < 16 ^ n) bytes
hex_field n bytes =
    elim (hex_reads n 0 bytes) [
      | inl t ↦ inl (record {
        value = t.value;
        rest = t.rest;
        read = t.read;
        parts = t.parts;
        fits = below_power t.value n t.high;
        near = λ b more new h. (rw t.high at (hex_again n t.value (b ∷ new)));
      })
      | inr s ↦ inr (record {
        front = s.front;
        back = s.back;
        read = s.read;
        parts = s.parts;
        some = s.some;
        fits = below_power s.some n s.high;
        rest = s.rest;
        text = s.text;
        near = s.near;
      })
    ]

pub field_reads : (f : Field) (bytes : List ℕ) → is_readable_field f ≡ true → Reads f bytes
field_reads (number low high) bytes ok = as_numbers (number low high) (number_reading low high) decimal (InRange low high) bytes (λ bs. refl) (λ v. refl) (λ v h. h) (number_reads low high bytes (is_range low high ok))
field_reads (hex n) bytes ok = as_numbers (hex n) (hex_reading n 0) (hex_text n) (λ (v : ℕ). v < 16 ^ n) bytes (λ bs. refl) (λ v. refl) (λ v h. h) (hex_field n bytes)
field_reads (letter allowed) bytes ok = as_numbers (letter allowed) (letter_reading allowed) (λ (v : ℕ). v ∷ []) (λ (v : ℕ). IsTrue (is_one_of allowed v)) bytes (λ bs. refl) (λ v. refl) (λ v h. h) (letter_reads allowed bytes ok)
field_reads signed bytes ok = as_numbers signed signed_reading signed_text (λ (v : ℕ). v < 65536) bytes (λ bs. refl) (λ v. refl) (λ v h. h) (signed_reads bytes)
field_reads label bytes ok = as_names label name_reading (λ (l : List ℕ). l) (λ (l : List ℕ). IsTrue (is_name l)) bytes (λ bs. refl) (λ v. refl) (λ v h. h) (name_reads bytes)

-- ---- for the code

power_most : (i n : ℕ) → i ≤ n → 16 ^ i ≤ 16 ^ n
power_most i zero h = (let e : i ≡ 0 = omega arith in rw e (omega arith))
power_most i (suc n) h =
    elim (cases (nat_le i n)) [
      | inl below ↦ (let b = power_most i n (grind (arith, nat_tests)) in grind arith)
      | inr above ↦ (let e : i ≡ suc n = grind (arith, nat_tests) in rw e (omega arith))
    ]

pub hex_room : (i count value digit : ℕ) → i < count → count ≤ 8 → value < 16 ^ i → digit < 16 → value * 16 + digit < 2 ^ 32
hex_room i count value digit below most fits small = (let p = power_most i 7 (omega arith) in omega arith)

later : (count i : ℕ) → i < count → count - i ≡ suc (count - (i + 1))
later count i below = omega arith

pub next_digit : (count i v b : ℕ) (bytes : List ℕ) → i < count → is_hex b ≡ true → hex_reading (count - i) v (b ∷ bytes) ≡ hex_reading (count - (i + 1)) (v * 16 + hex_value b) bytes
next_digit count i v b bytes below digit = rw (later count i below, digit) refl

pub no_digit : (count i v b : ℕ) (bytes : List ℕ) → i < count → is_hex b ≡ false → hex_reading (count - i) v (b ∷ bytes) ≡ Err (suc (length bytes))
no_digit count i v b bytes below other = rw (later count i below, other) refl

pub power_next : (i v d : ℕ) → v < 16 ^ i → d < 16 → v * 16 + d < 16 ^ (i + 1)
power_next i v d small digit = rw add-one (grind arith)

pub ruleset hexes = (hex_room, next_digit, no_digit, power_next)

abbrev some : ℕ → Option ℕ
some x = Some x

pub some_hex : (b d : ℕ) → some d ≡ cond (is_hex b) (some (hex_value b)) None → (is_hex b ≡ true) × (hex_value b ≡ d)
some_hex b d e =
    elim (cases (is_hex b)) [
      | inl digit ↦ (digit, (let f = rw digit at e in cc))
      | inr other ↦ absurd (let f = rw other at e in cc)
    ]

-- reading on in a name
pub tail_next : (i b : ℕ) (bytes : List ℕ) → i < 15 → is_name_byte b ≡ true → name_from (15 - i) (b ∷ bytes) ≡ (b ∷ (name_from (15 - (i + 1)) bytes).0, (name_from (15 - (i + 1)) bytes).1)
tail_next i b bytes below one = rw (later 15 i below, one) refl

pub tail_other : (i b : ℕ) (bytes : List ℕ) → i < 15 → is_name_byte b ≡ false → name_from (15 - i) (b ∷ bytes) ≡ ([], b ∷ bytes)
tail_other i b bytes below other = rw (later 15 i below, other) refl

pub tail_none : (n : ℕ) (bytes : List ℕ) → length bytes ≡ 0 → name_from n bytes ≡ ([], bytes)
tail_none zero bytes e = refl
tail_none (suc n) [] e = refl
tail_none (suc n) (b ∷ bytes) e = absurd (omega arith)

pub tail_over : (n : ℕ) (bytes : List ℕ) → n ≡ 0 → name_from n bytes ≡ ([], bytes)
tail_over n bytes e = rw e refl

pub ruleset names = (tail_next, tail_other, tail_none, tail_over, append_assoc, append-nil, length-append)
