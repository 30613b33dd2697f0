-- A flipped bit changes the parity of a word.
use Rattle.std.proofs.Common.{◌≡◌, ℕ, zero, suc, ◌+◌, ◌*◌, ◌/◌, ◌%◌, ◌^◌, ◌<◌, ◌≤◌, ◌≢◌, refl, ap, inl, inr, ◌∙◌, arith}
use Rattle.std.specs.Prelude.{Bool, true, false, not, ◌==◌}
use Rattle.std.specs.Int.{bit_at}
use Rattle.std.specs.Int.Bits.{bit_xor}
use Rattle.std.specs.Int.RustNames.{count_ones}
use Rattle.std.proofs.Math.Pow.{pow-lt}
use Rattle.std.proofs.lemmas.Bool.{cases_lt, cases_eq}
use Rattle.std.proofs.lemmas.Bool.Decides.{nat_tests}
use Rattle.std.proofs.lemmas.Nat.{ones_cat, xor_lt}
use Rattle.std.proofs.lemmas.Nat.Bits.{bit_at_xor, bit_at-pow_same, bit_at-pow_other, bit_at_lowest, bit_at-suc}
use Rattle.s2_duplex.specs.BoardParity.{parity_of}

-- how many of the low bits are set
abbrev ones_below : ℕ → ℕ → ℕ
ones_below zero word = 0
ones_below (suc n) word = ones_below n word + bit_at word n

-- they are the bits that are set, where the word has no others
ones_front : (n word : ℕ) → ones_below (suc n) word ≡ word % 2 + ones_below n (word / 2)
ones_front zero word = let e = bit_at_lowest word in omega arith
ones_front (suc n) word = let rest = ones_front n word in let e = bit_at-suc word n in omega arith

ones_bit : (r : ℕ) → r < 2 → count_ones r ≡ r
unfolding count_ones
ones_bit zero h = refl
ones_bit (suc zero) h = refl
ones_bit (suc (suc r)) h = absurd (omega arith)

ones_step : (w : ℕ) → count_ones w ≡ count_ones (w / 2) + w % 2
ones_step w = ap count_ones (let e : w ≡ w / 2 * 2 ^ 1 + w % 2 = omega arith in e) ∙ (ones_cat 1 (w / 2) (w % 2) (omega arith) ∙ ap (λ (x : ℕ). count_ones (w / 2) + x) (ones_bit (w % 2) (omega arith)))

ones_are : (n word : ℕ) → word < 2 ^ n → ones_below n word ≡ count_ones word
unfolding count_ones
ones_are zero word h = let e : 0 ≡ word = omega arith in ap count_ones e
ones_are (suc n) word h =
    let twice : 2 ^ suc n ≡ 2 * 2 ^ n = omega arith in
    let rest = ones_are n (word / 2) (omega arith) in
    let front = ones_front n word in
    let step = ones_step word in
    omega arith

-- a flipped bit above them changes no count, and one among them changes it by one
flip_other : (n word bit : ℕ) → n ≤ bit → ones_below n (bit_xor word (2 ^ bit)) ≡ ones_below n word
flip_other zero word bit h = refl
flip_other (suc n) word bit h =
    let rest = flip_other n word bit (omega arith) in
    let ne : n ≢ bit = λ e. omega arith in
    let here = bit_at_xor word (2 ^ bit) n in
    let none = bit_at-pow_other bit n ne in
    let small = bit_low word n in
    omega arith
  where
    bit_low : (w i : ℕ) → bit_at w i < 2
    bit_low w i = omega arith

flip_odd : (n word bit : ℕ) → bit < n → (ones_below n (bit_xor word (2 ^ bit)) + ones_below n word) % 2 ≡ 1
flip_odd zero word bit h = absurd (omega arith)
flip_odd (suc n) word bit h = elim (cases_lt bit n) [
  | inl less ↦
      let rest = flip_odd n word bit less in
      let ne : n ≢ bit = λ e. omega arith in
      let here = bit_at_xor word (2 ^ bit) n in
      let none = bit_at-pow_other bit n ne in
      omega arith
  | inr more ↦
      let same : n ≡ bit = omega arith in
      let rest = flip_other n word bit (omega arith) in
      let here = bit_at_xor word (2 ^ bit) n in
      let one : bit_at (2 ^ bit) n ≡ 1 = ap (λ (x : ℕ). bit_at (2 ^ bit) x) same ∙ bit_at-pow_same bit in
      omega arith
]

below_power : (n : ℕ) → n < 2 ^ n
below_power zero = omega arith
below_power (suc n) = let twice : 2 ^ suc n ≡ 2 * 2 ^ n = omega arith in let rest = below_power n in omega arith

odd_sum : (a b : ℕ) → (a + b) % 2 ≡ 1 → (a % 2 == 1) ≡ not (b % 2 == 1)
odd_sum a b e = elim (cases_eq (b % 2) 1) [
  | inl one ↦ (let x : a % 2 ≢ 1 = λ y. omega arith in not_is (a % 2 == 1) (b % 2 == 1) (grind (arith, nat_tests)) (grind (arith, nat_tests)))
  | inr none ↦ (let x : a % 2 ≡ 1 = omega arith in is_not (a % 2 == 1) (b % 2 == 1) (grind (arith, nat_tests)) (grind (arith, nat_tests)))
]
  where
    not_is : (x y : Bool) → x ≡ false → y ≡ true → x ≡ not y
    not_is x y h g = cc

    is_not : (x y : Bool) → x ≡ true → y ≡ false → x ≡ not y
    is_not x y h g = cc

pub flip_parity : (word bit : ℕ) → parity_of (bit_xor word (2 ^ bit)) ≡ not (parity_of word)
flip_parity word bit = odd_sum (count_ones (bit_xor word (2 ^ bit))) (count_ones word) odd
  where
    word_below : word < 2 ^ (word + bit + 1)
    word_below = let p = below_power (word + bit + 1) in omega arith

    bit_below : 2 ^ bit < 2 ^ (word + bit + 1)
    bit_below = pow-lt {i = bit} {j = word + bit + 1} (omega arith)

    odd : (count_ones (bit_xor word (2 ^ bit)) + count_ones word) % 2 ≡ 1
    odd =
        let flipped = ones_are (word + bit + 1) (bit_xor word (2 ^ bit)) (xor_lt (word + bit + 1) word (2 ^ bit) word_below bit_below) in
        let same = ones_are (word + bit + 1) word word_below in
        let sum = flip_odd (word + bit + 1) word bit (omega arith) in
        omega arith
