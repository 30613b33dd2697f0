-- Decimal numbers: their digits, and reading them.
use Rattle.std.proofs.Common.{◌≡◌, ℕ, zero, suc, ◌+◌, ◌-◌, ◌*◌, ◌/◌, ◌%◌, ◌^◌, ◌<◌, ◌≤◌, Bool, true, false, cond, List, [], ◌∷◌, ◌++◌, length, refl, sym, ap, ◌∙◌, subst, append_assoc, arith, ◌⊎◌, inl, inr}
use Rattle.std.specs.Prelude.{nat_le, not}
use Rattle.std.specs.Fmt.{decimal}
use Rattle.std.proofs.lemmas.Fmt.{decimal_digit, decimal_step, decimal_by_steps, length-decimal-le}
use Rattle.std.proofs.lemmas.Bool.Decides.{nat_tests}
use Rattle.std.proofs.lemmas.List.{append-nil, length-append}
use Rattle.s2_text.specs.LineGrammar.{is_digit, is_name_byte}
use Rattle.s2_text.specs.LineReading.{goes_on, digits_from}
use Rattle.s2_text.proofs.LiteralWords.{cases}

abbrev pub AreDigits : List ℕ → Type 0
AreDigits [] = Unit {0}
AreDigits (d ∷ ds) = (is_digit d ≡ true) × AreDigits ds

-- the number that the digits make of v
abbrev pub value_from : ℕ → List ℕ → ℕ
value_from v [] = v
value_from v (d ∷ ds) = value_from (v * 10 + (d - 48)) ds

pub digit_range : (d : ℕ) → is_digit d ≡ true → (48 ≤ d) × (d ≤ 57)
digit_range d e = (grind (arith, nat_tests), grind (arith, nat_tests))

pub range_digit : (d : ℕ) → 48 ≤ d → d ≤ 57 → is_digit d ≡ true
range_digit d a b = grind (arith, nat_tests)

pub goes_on_true : (high v b : ℕ) → goes_on high v b ≡ true → (is_digit b ≡ true) × (v * 10 + (b - 48) ≤ high)
goes_on_true high v b e = (grind (arith, nat_tests), grind (arith, nat_tests))

pub true_goes_on : (high v b : ℕ) → is_digit b ≡ true → v * 10 + (b - 48) ≤ high → goes_on high v b ≡ true
true_goes_on high v b d le = grind (arith, nat_tests)

pub value_grows : (ds : List ℕ) (v : ℕ) → v ≤ value_from v ds
value_grows [] v = omega arith
value_grows (d ∷ ds) v = omega (arith, value_grows ds (v * 10 + (d - 48)))

pub value_append : (xs ys : List ℕ) (v : ℕ) → value_from v (xs ++ ys) ≡ value_from (value_from v xs) ys
value_append [] ys v = refl
value_append (x ∷ xs) ys v = value_append xs ys (v * 10 + (x - 48))

pub digits_append : (xs ys : List ℕ) → AreDigits xs → AreDigits ys → AreDigits (xs ++ ys)
digits_append [] ys a b = b
digits_append (x ∷ xs) ys a b = (a.0, digits_append xs ys a.1 b)

-- one digit more
pub decimal_more : (v d : ℕ) → 1 ≤ v → is_digit d ≡ true → v * 10 + (d - 48) < 2 ^ 64 → decimal (v * 10 + (d - 48)) ≡ decimal v ++ d ∷ []
decimal_more v d one digit fits =
    let r = digit_range d digit in
    let n : ℕ = v * 10 + (d - 48) in
    let high : n / 10 ≡ v = omega arith in
    let low : 48 + n % 10 ≡ d = omega arith in
    decimal_step n (omega arith) fits ∙ (rw (high, low) refl)

-- more digits
pub decimal_on : (ds : List ℕ) (v : ℕ) → 1 ≤ v → AreDigits ds → value_from v ds < 2 ^ 64 → decimal (value_from v ds) ≡ decimal v ++ ds
decimal_on [] v one digits fits = sym (append-nil (decimal v))
decimal_on (d ∷ ds) v one digits fits =
    let w : ℕ = v * 10 + (d - 48) in
    let grows : w ≤ value_from w ds = value_grows ds w in
    decimal_on ds w (omega arith) digits.1 fits
    ∙ (rw (decimal_more v d one digits.0 (omega arith)) (append_assoc (decimal v) (d ∷ []) ds))

-- a number from 1 on is a digit from 1 on, and digits
pub record HasDigits (n : ℕ) (text : List ℕ) : Type 0 where
  pub first : ℕ
  pub others : List ℕ
  pub is : text ≡ (48 + first) ∷ others
  pub low : 1 ≤ first
  pub high : first ≤ 9
  pub digits : AreDigits others
  pub value : value_from first others ≡ n

pub decimal_digits : (n : ℕ) → 1 ≤ n → n < 2 ^ 64 → HasDigits n (decimal n)
decimal_digits n one fits =
    let P : ℕ → List ℕ → Type 0 = λ m text. 1 ≤ m → HasDigits m text in
    decimal_by_steps P
    (λ m small at. record { first = m; others = []; is = refl; low = at; high = omega arith; digits = tt; value = refl })
    (λ m text ten before at.
    let h = before (omega arith) in
    record {
      first = h.first;
      others = h.others ++ (48 + m % 10) ∷ [];
      is = ap (λ (t : List ℕ). t ++ (48 + m % 10) ∷ []) h.is;
      low = h.low;
      high = h.high;
      digits = digits_append h.others ((48 + m % 10) ∷ []) h.digits (range_digit (48 + m % 10) (omega arith) (omega arith), tt);
      value = value_append h.others ((48 + m % 10) ∷ []) h.first ∙ (rw h.value (omega arith));
    })
    n fits one

-- what comes next is neither a digit nor a small letter
abbrev pub plain : List ℕ → Bool
plain [] = true
plain (b ∷ bs) = not (is_name_byte b)

pub digits_again : (high v : ℕ) (ds rest : List ℕ) → AreDigits ds → value_from v ds ≤ high → plain rest ≡ true → digits_from high v (ds ++ rest) ≡ (value_from v ds, rest)
digits_again high v [] [] digits most end = refl
digits_again high v [] (b ∷ bs) digits most end = (let other : goes_on high v b ≡ false = grind (arith, nat_tests) in rw other refl)
digits_again high v (d ∷ ds) rest digits most end =
    let w : ℕ = v * 10 + (d - 48) in
    let grows : w ≤ value_from w ds = value_grows ds w in
    let same : goes_on high v d ≡ true = true_goes_on high v d digits.0 (omega arith) in
    rw same (digits_again high w ds rest digits.1 most end)

-- what is read on from v: some digits, and it is only the next byte that ends them
pub record Run (high v : ℕ) (bytes : List ℕ) : Type 0 where
  pub ds : List ℕ
  pub rest : List ℕ
  pub read : digits_from high v bytes ≡ (value_from v ds, rest)
  pub parts : bytes ≡ ds ++ rest
  pub digits : AreDigits ds
  pub most : value_from v ds ≤ high
  pub near : (b : ℕ) (more new : List ℕ) → rest ≡ b ∷ more → digits_from high v (ds ++ b ∷ new) ≡ (value_from v ds, b ∷ new)

pub run : (high : ℕ) (bytes : List ℕ) (v : ℕ) → v ≤ high → Run high v bytes
run high [] v most = record { ds = []; rest = []; read = refl; parts = refl; digits = tt; most = most; near = λ b more new h. absurd cc }
run high (b ∷ bytes) v most =
    elim (cases (goes_on high v b)) [
      | inl same ↦
          let g = goes_on_true high v b same in
          let s = run high bytes (v * 10 + (b - 48)) g.1 in
          record {
            ds = b ∷ s.ds;
            rest = s.rest;
            read = rw same s.read;
            parts = ap (λ (t : List ℕ). b ∷ t) s.parts;
            digits = (g.0, s.digits);
            most = s.most;
            near = λ c more new h. rw same (s.near c more new h);
          }
      | inr other ↦ record {
        ds = [];
        rest = b ∷ bytes;
        read = rw other refl;
        parts = refl;
        digits = tt;
        most = most;
        near = λ c more new h. (let g : c ≡ b = cc in rw (g, other) refl);
      }
    ]

-- a number below low that is a front of one in the range
pub record Longer (low high n : ℕ) : Type 0 where
  pub number : ℕ
  pub zeros : List ℕ
  pub least : low ≤ number
  pub most : number ≤ high
  pub text : decimal number ≡ decimal n ++ zeros

pub longer : (low high fuel n : ℕ) → 1 ≤ n → n < low → low ≤ n + fuel → 10 * low ≤ high → high < 2 ^ 64 → Longer low high n
longer low high zero n one below enough room fits = absurd (omega arith)
longer low high (suc fuel) n one below enough room fits =
    let m : ℕ = n * 10 + (48 - 48) in
    let step : decimal m ≡ decimal n ++ 48 ∷ [] = decimal_more n 48 one refl (omega arith) in
    elim (cases (nat_le low m)) [
      | inl done ↦ record { number = m; zeros = 48 ∷ []; least = grind (arith, nat_tests); most = omega arith; text = step }
      | inr more ↦
          let less : m < low = grind (arith, nat_tests) in
          let s = longer low high fuel m (omega arith) less (omega arith) room fits in
          record {
            number = s.number;
            zeros = 48 ∷ s.zeros;
            least = s.least;
            most = s.most;
            text = s.text ∙ (rw step (append_assoc (decimal n) (48 ∷ []) s.zeros));
          }
    ]

-- ---- for the code

pub digits_one : (n : ℕ) → n < 10 → decimal n ≡ (48 + n) ∷ []
digits_one n small = decimal_digit n small

pub digits_step : (n : ℕ) → 10 ≤ n → n < 2 ^ 64 → decimal n ≡ decimal (n / 10) ++ (48 + n % 10) ∷ []
digits_step n ten fits = decimal_step n ten fits

pub digits_length : (n : ℕ) → 10 ≤ n → n < 2 ^ 64 → length (decimal n) ≡ length (decimal (n / 10)) + 1
digits_length n ten fits = ap (λ (x : List ℕ). length x) (decimal_step n ten fits) ∙ length-append (decimal (n / 10)) ((48 + n % 10) ∷ [])

pub digits_few : (n : ℕ) → n < 2 ^ 64 → length (decimal n) ≤ 20
digits_few n fits = length-decimal-le 20 n (omega arith) (omega arith) fits

pub ruleset writing = (digits_one, digits_step, digits_length, digits_few, append_assoc, length-append)
