-- A word and the ticks that it shows.
use Rattle.std.proofs.Common.{◌≡◌, ℕ, zero, suc, ◌+◌, ◌-◌, ◌*◌, ◌/◌, ◌%◌, ◌^◌, ◌<◌, ◌≤◌, List, ◌∷◌, take, refl, sym, ap, subst, ◌∙◌, arith}
use Rattle.std.specs.Prelude.{Bool, true, false, ◌==◌, bit_or}
use Rattle.std.specs.Int.RustNames.{count_ones}
use Rattle.std.proofs.lemmas.Nat.{ones_cat, or_shifted, mod-pow-add, mul-mod_first, pow-add}
use Rattle.std.proofs.lemmas.Bool.Decides.{nat_tests}
use Rattle.std.proofs.Math.Nat.{pow-suc, mul_assoc, mul-mod_left}
use Rattle.s2_clock.specs.TickWindow.{bits_shown, miss_of, misses_in, window_after, window_fired}

bit_miss : (r : ℕ) (b : Bool) → (r == 0) ≡ b → r < 2 → miss_of b ≡ r
bit_miss r true e h = grind (arith, nat_tests)
bit_miss r false e h = let ne : r ≡ 0 → ⊥ = grind (arith, nat_tests) in omega arith

-- a bit's count is the bit
ones_bit : (r : ℕ) → r < 2 → count_ones r ≡ r
unfolding count_ones
ones_bit zero h = refl
ones_bit (suc zero) h = refl
ones_bit (suc (suc r)) h = absurd (omega arith)

ones_step : (w : ℕ) → count_ones w ≡ count_ones (w / 2) + w % 2
ones_step w = ap count_ones (let e : w ≡ w / 2 * 2 ^ 1 + w % 2 = omega arith in e) ∙ (ones_cat 1 (w / 2) (w % 2) (omega arith) ∙ ap (λ (x : ℕ). count_ones (w / 2) + x) (ones_bit (w % 2) (omega arith)))

pub misses-bits_shown : (n w : ℕ) → w < 2 ^ n → misses_in (bits_shown n w) ≡ count_ones w
unfolding bits_shown count_ones
misses-bits_shown zero w h = let e : 0 ≡ w = omega arith in ap count_ones e
misses-bits_shown (suc n) w h =
    let low : w / 2 < 2 ^ n = (let p = pow-suc 2 n in omega arith) in
    let rest = misses-bits_shown n (w / 2) low in
    let first = bit_miss (w % 2) (w % 2 == 0) refl (omega arith) in
    let all = ones_step w in
    omega arith

take-bits_shown : (m n w : ℕ) → m ≤ n → take m (bits_shown n w) ≡ bits_shown m w
unfolding bits_shown
take-bits_shown zero n w h = refl
take-bits_shown (suc m) zero w h = absurd (omega arith)
take-bits_shown (suc m) (suc n) w h = ap (λ (l : List Bool). (w % 2 == 0) ∷ l) (take-bits_shown m n (w / 2) (omega arith))

pow_next : (n : ℕ) → n + 1 ≡ suc n
pow_next n = omega arith

low_half : (n w : ℕ) → w % 2 ^ suc n ≡ (w / 2 % 2 ^ n) * 2 + w % 2
low_half n w = subst (λ (k : ℕ). w % 2 ^ k ≡ (w / 2 % 2 ^ n) * 2 + w % 2) (pow_next n) (mod-pow-add w n 1)

bits_shown-low : (n w : ℕ) → bits_shown n (w % 2 ^ n) ≡ bits_shown n w
unfolding bits_shown
bits_shown-low zero w = refl
bits_shown-low (suc n) w =
    let e = low_half n w in
    let a : w % 2 ^ suc n % 2 ≡ w % 2 = omega arith in
    let b : w % 2 ^ suc n / 2 ≡ w / 2 % 2 ^ n = omega arith in
    ap (λ (r : ℕ). (r == 0) ∷ bits_shown n (w % 2 ^ suc n / 2)) a ∙ (ap (λ (q : ℕ). (w % 2 == 0) ∷ bits_shown n q) b ∙ ap (λ (l : List Bool). (w % 2 == 0) ∷ l) (bits_shown-low n (w / 2)))

bit_fired : (fired : Bool) → (miss_of fired == 0) ≡ fired
bit_fired true = refl
bit_fired false = refl

miss_low : (fired : Bool) → miss_of fired < 2
miss_low true = omega arith
miss_low false = omega arith

bits_step : (n x : ℕ) → bits_shown (suc n) x ≡ (x % 2 == 0) ∷ bits_shown n (x / 2)
unfolding bits_shown
bits_step n x = refl

-- the word after one more tick
pub bits_shown-shifted : (w : ℕ) (fired : Bool) → bits_shown 64 (bit_or (w * 2 % 2 ^ 64) (miss_of fired)) ≡ window_after fired (bits_shown 64 w)
bits_shown-shifted w fired =
    let x : ℕ = w % 2 ^ 63 * 2 + miss_of fired in
    let low = miss_low fired in
    let shift : w * 2 % 2 ^ 64 ≡ w % 2 ^ 63 * 2 ^ 1 = omega arith in
    let is : bit_or (w * 2 % 2 ^ 64) (miss_of fired) ≡ x = ap (λ (y : ℕ). bit_or y (miss_of fired)) shift ∙ or_shifted (w % 2 ^ 63) 1 (miss_of fired) low in
    let bit : (x % 2 == 0) ≡ fired = ap (λ (r : ℕ). r == 0) (let e : x % 2 ≡ miss_of fired = omega arith in e) ∙ bit_fired fired in
    let half : x / 2 ≡ w % 2 ^ 63 = omega arith in
    ap (λ (y : ℕ). bits_shown 64 y) is ∙ (bits_step 63 x ∙ (ap (λ (b : Bool). b ∷ bits_shown 63 (x / 2)) bit ∙ (ap (λ (h : ℕ). fired ∷ bits_shown 63 h) half ∙
    ap (λ (l : List Bool). fired ∷ l) (bits_shown-low 63 w ∙ sym (take-bits_shown 63 64 w (omega arith))))))

-- the word after so many firings
or_nothing : (x : ℕ) → bit_or x 0 ≡ x
or_nothing x = let same : x ≡ x * 2 ^ 0 = omega arith in let sum : x * 2 ^ 0 + 0 ≡ x = omega arith in ap (λ (y : ℕ). bit_or y 0) same ∙ (or_shifted x 0 0 (omega arith) ∙ sum)

pub bits_shown-fired : (n w : ℕ) → bits_shown 64 (w * 2 ^ n % 2 ^ 64) ≡ window_fired n (bits_shown 64 w)
bits_shown-fired zero w = let one : w * 2 ^ 0 ≡ w = omega arith in ap (λ (x : ℕ). bits_shown 64 (x % 2 ^ 64)) one ∙ bits_shown-low 64 w
bits_shown-fired (suc n) w =
    let half : ℕ = w * 2 ^ n % 2 ^ 64 in
    let more : w * 2 ^ suc n ≡ w * 2 ^ n * 2 = ap (λ (y : ℕ). w * y) (pow-suc 2 n) ∙ sym (mul_assoc w (2 ^ n) 2) in
    let twice : w * 2 ^ suc n % 2 ^ 64 ≡ half * 2 % 2 ^ 64 = ap (λ (y : ℕ). y % 2 ^ 64) more ∙ sym (mul-mod_first (w * 2 ^ n) 2 (2 ^ 64)) in
    ap (λ (x : ℕ). bits_shown 64 x) (twice ∙ sym (or_nothing (half * 2 % 2 ^ 64))) ∙ (bits_shown-shifted half true ∙ ap (window_after true) (bits_shown-fired n w))

pub bits_shown-long : (n w : ℕ) → 64 ≤ n → bits_shown 64 0 ≡ window_fired n (bits_shown 64 w)
bits_shown-long n w h =
    let all : n ≡ (n - 64) + 64 = omega arith in
    let parts : w * 2 ^ n ≡ w * 2 ^ (n - 64) * 2 ^ 64 = ap (λ (k : ℕ). w * 2 ^ k) all ∙ (ap (λ (y : ℕ). w * y) (pow-add 2 (n - 64) 64) ∙ sym (mul_assoc w (2 ^ (n - 64)) (2 ^ 64))) in
    let none : w * 2 ^ n % 2 ^ 64 ≡ 0 = ap (λ (y : ℕ). y % 2 ^ 64) parts ∙ mul-mod_left (w * 2 ^ (n - 64)) (2 ^ 64) in
    ap (λ (x : ℕ). bits_shown 64 x) (sym none) ∙ bits_shown-fired n w
