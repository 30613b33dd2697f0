-- Whole texts that are one number.
use Rattle.std.proofs.Common.{◌≡◌, ℕ, ◌+◌, ◌/◌, ◌^◌, ◌<◌, ◌≤◌, List, [], ◌∷◌, ◌++◌, length, Result, Ok, Err, refl, sym, ap, ◌∙◌, subst, arith, inl, inr, length-append}
use Rattle.std.specs.Fmt.{decimal}
use Rattle.std.proofs.lemmas.List.{append-nil}
use Rattle.s2_text.specs.DecimalText.{IsDecimalText}
use Rattle.s2_text.specs.HexText.{hex_text, IsHexText}
use Rattle.s2_text.specs.LineReading.{number_reading, hex_reading}
use Rattle.s2_text.proofs.LineFields.{IsRange, number_reads, number_again, hex_reads, hex_again, below_power, power_below}
use Rattle.s2_text.proofs.TextLengths.{hex_long}

range : (max : ℕ) → max < 2 ^ 64 → IsRange 0 max
range max fits = record { order = omega arith; fits = fits; room = inl (omega arith) }

ok_pair : (r : Result (ℕ × List ℕ) ℕ) (p q : ℕ × List ℕ) → r ≡ Ok p → r ≡ Ok q → p ≡ q
ok_pair r p q a b = cc

apart : (r : Result (ℕ × List ℕ) ℕ) (p : ℕ × List ℕ) (e : ℕ) → r ≡ Ok p → r ≡ Err e → ⊥
apart r p e a b = cc

pub dec_found : (max n : ℕ) (bytes rest : List ℕ) → max < 2 ^ 64 → number_reading 0 max bytes ≡ Ok (n, rest) → length rest ≡ 0 → IsDecimalText bytes max n
dec_found max n bytes (b ∷ rest) fits e empty = absurd (omega arith)
dec_found max n bytes [] fits e empty =
    elim (number_reads 0 max bytes (range max fits)) [
      | inl t ↦
          let p = ok_pair (number_reading 0 max bytes) (t.value, t.rest) (n, []) t.read e in
          let v : t.value ≡ n = ap (λ (z : ℕ × List ℕ). z.0) p in
          let r : t.rest ≡ [] = ap (λ (z : ℕ × List ℕ). z.1) p in
          record {
            most = subst (λ (x : ℕ). x ≤ max) v t.fits.1;
            is = t.parts ∙ (ap (λ (x : List ℕ). decimal t.value ++ x) r ∙ (append-nil (decimal t.value) ∙ ap (λ (x : ℕ). decimal x) v));
          }
      | inr s ↦ absurd (apart (number_reading 0 max bytes) (n, []) (length s.back) e s.read)
    ]

dec_again : (max n : ℕ) (bytes : List ℕ) → max < 2 ^ 64 → IsDecimalText bytes max n → number_reading 0 max bytes ≡ Ok (n, [])
dec_again max n bytes fits d = ap (λ (x : List ℕ). number_reading 0 max x) (d.is ∙ sym (append-nil (decimal n))) ∙ number_again 0 max n [] (range max fits) (omega arith) d.most refl

pub dec_refused : (max left : ℕ) (bytes : List ℕ) → max < 2 ^ 64 → number_reading 0 max bytes ≡ Err left → (n : ℕ) → IsDecimalText bytes max n → ⊥
dec_refused max left bytes fits e n d = apart (number_reading 0 max bytes) (n, []) left (dec_again max n bytes fits d) e

pub dec_longer : (max m : ℕ) (bytes rest : List ℕ) → max < 2 ^ 64 → number_reading 0 max bytes ≡ Ok (m, rest) → (length rest ≡ 0 → ⊥) → (n : ℕ) → IsDecimalText bytes max n → ⊥
dec_longer max m bytes rest fits e some n d =
    some (ap (λ (z : ℕ × List ℕ). length z.1) (ok_pair (number_reading 0 max bytes) (m, rest) (n, []) e (dec_again max n bytes fits d)))

pub ruleset whole = (dec_found, dec_refused, dec_longer)

-- nothing is behind as many digits as there are bytes
nothing : (bytes text rest : List ℕ) → bytes ≡ text ++ rest → length text ≡ length bytes → rest ≡ []
nothing bytes text [] e same = refl
nothing bytes text (b ∷ rest) e same = absurd (let l : length bytes ≡ length text + length (b ∷ rest) = ap (λ (x : List ℕ). length x) e ∙ length-append text (b ∷ rest) in omega arith)

pub hex_found : (v : ℕ) (bytes rest : List ℕ) → 1 ≤ length bytes → length bytes ≤ 8 → hex_reading (length bytes) 0 bytes ≡ Ok (v, rest) → IsHexText bytes v
hex_found v bytes rest some few e =
    elim (hex_reads (length bytes) 0 bytes) [
      | inl t ↦
          let p = ok_pair (hex_reading (length bytes) 0 bytes) (t.value, t.rest) (v, rest) t.read e in
          let value : t.value ≡ v = ap (λ (z : ℕ × List ℕ). z.0) p in
          let none : t.rest ≡ [] = nothing bytes (hex_text (length bytes) t.value) t.rest t.parts (hex_long (length bytes) t.value) in
          let fits : t.value < 16 ^ length bytes = below_power t.value (length bytes) t.high in
          record {
            some = some;
            few = few;
            fits = subst (λ (x : ℕ). x < 16 ^ length bytes) value fits;
            is = t.parts ∙ (ap (λ (x : List ℕ). hex_text (length bytes) t.value ++ x) none ∙ (append-nil (hex_text (length bytes) t.value) ∙ ap (λ (x : ℕ). hex_text (length bytes) x) value));
          }
      | inr s ↦ absurd (apart (hex_reading (length bytes) 0 bytes) (v, rest) (length s.back) e s.read)
    ]

pub hex_refused : (left : ℕ) (bytes : List ℕ) → hex_reading (length bytes) 0 bytes ≡ Err left → (v : ℕ) → IsHexText bytes v → ⊥
hex_refused left bytes e v h =
    let n : ℕ = length bytes in
    let zero : v / 16 ^ n ≡ 0 = power_below v n h.fits in
    let read : hex_reading n (v / 16 ^ n) (hex_text n v ++ []) ≡ Ok (v, []) = hex_again n v [] in
    let here : hex_text n v ++ [] ≡ bytes = append-nil (hex_text n v) ∙ sym h.is in
    apart (hex_reading n 0 bytes) (v, []) left (subst (λ (x : List ℕ). hex_reading n 0 x ≡ Ok (v, [])) here (subst (λ (x : ℕ). hex_reading n x (hex_text n v ++ []) ≡ Ok (v, [])) zero read)) e

pub no_hex : (bytes : List ℕ) → length bytes ≡ 0 → (v : ℕ) → IsHexText bytes v → ⊥
no_hex bytes e v h = (let some = h.some in omega arith)

pub long_hex : (bytes : List ℕ) → 8 < length bytes → (v : ℕ) → IsHexText bytes v → ⊥
long_hex bytes e v h = (let few = h.few in omega arith)

pub ruleset whole_hex = (hex_found, hex_refused, no_hex, long_hex)
