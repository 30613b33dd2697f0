-- What has no set bit but those of a mask: by its bits, and by its fields.
use Rattle.std.proofs.Common.{◌≡◌, ℕ, ◌+◌, ◌-◌, ◌*◌, ◌/◌, ◌^◌, ◌<◌, ◌≤◌, sym, ap, ◌∙◌, arith}
use Rattle.std.specs.Prelude.{◌==◌, bit_and, min, max, if◌then◌else◌}
use Rattle.std.specs.Int.{bit_at, bit_not, w32}
use Rattle.std.proofs.lemmas.Nat.{pow_pos, and_block, and_mask, and_shr, shr_high}
use Rattle.std.proofs.lemmas.Nat.Bits.{bit_at_and, bit_at_or, bit_at_not, bit_at-lt, same_from_bits}
use Rattle.std.proofs.Math.Nat.{mod-eq_of_lt}
use Rattle.s2_cp0.specs.ControlRegisters.{IsWithin}
use Rattle.s2_cp0.specs.ControlRegisterAccess.{replaced_bits}

-- one bit, as a number: the lesser of two is the first where it is below the second
least_below : (a b : ℕ) → min a b ≡ a → a ≤ b
least_below a b e = omega arith

least : (a b : ℕ) → a ≤ b → min a b ≡ a
least a b below = omega arith

-- bit by bit: where a word has a bit, the mask has it
pub bit_within : (word mask i : ℕ) → IsWithin word mask → bit_at word i ≤ bit_at mask i
bit_within word mask i within = least_below _ _ (sym (bit_at_and word mask i) ∙ ap (λ (x : ℕ). bit_at x i) within)

-- and back: a word is within a mask that has each of its bits
pub within_bits : (word mask : ℕ) → ((i : ℕ) → bit_at word i ≤ bit_at mask i) → IsWithin word mask
within_bits word mask each = same_from_bits _ _ (λ i. bit_at_and word mask i ∙ least _ _ (each i))

-- one bit of what a mask leaves, and one of two words joined, is below the mask's
masked_below : (a b m k : ℕ) → a ≡ min b m → m ≤ k → a ≤ k
masked_below a b m k e le = omega arith

chosen_below : (a b c o n m k l : ℕ) → a ≡ max b c → b ≡ min o n → c ≡ min m l → o ≤ k → l ≤ k → a ≤ k
chosen_below a b c o n m k l e f g old part = omega arith

-- what a part of a mask leaves of a word is within the mask
pub within_and : (word part mask : ℕ) → IsWithin part mask → IsWithin (bit_and word part) mask
within_and word part mask within = within_bits _ _ (λ i. masked_below _ _ _ _ (bit_at_and word part i) (bit_within part mask i within))

-- bits of a mask within the kept ones may come from any word
pub within_replaced : (old new mask kept : ℕ) → IsWithin mask kept → IsWithin old kept → IsWithin (replaced_bits old new mask) kept
within_replaced old new mask kept part within =
    let others = bit_and old (bit_not w32 mask) in
    within_bits _ _ (λ i. chosen_below _ _ _ _ _ _ _ _ (bit_at_or others (bit_and new mask) i) (bit_at_and old (bit_not w32 mask) i) (bit_at_and new mask i) (bit_within old kept i within) (bit_within mask kept i part))

-- two fields, the lower one of k bits, each within its part of the mask
pub within_block : (k high low above below : ℕ) → low < 2 ^ k → below < 2 ^ k → IsWithin high above → IsWithin low below → IsWithin (high * 2 ^ k + low) (above * 2 ^ k + below)
within_block k high low above below fits room upper lower = and_block k high above low below fits room ∙ ap (λ (x : ℕ). x * 2 ^ k + bit_and low below) upper ∙ ap (λ (x : ℕ). high * 2 ^ k + x) lower

-- a field of k bits, all of which the mask has
pub within_ones : (k word : ℕ) → word < 2 ^ k → IsWithin word (2 ^ k - 1)
within_ones k word fits = and_mask word k ∙ mod-eq_of_lt fits

-- the low k bits of a word, all of which the mask has, may become any others
pub within_low : (k mask word low : ℕ) → low < 2 ^ k → IsWithin word (mask * 2 ^ k + (2 ^ k - 1)) → IsWithin (word / 2 ^ k * 2 ^ k + low) (mask * 2 ^ k + (2 ^ k - 1))
within_low k mask word low fits within =
    let ones : 2 ^ k - 1 < 2 ^ k = omega (arith, pow_pos k) in
    let upper : IsWithin (word / 2 ^ k) mask = ap (λ (x : ℕ). bit_and (word / 2 ^ k) x) (sym (shr_high mask k (2 ^ k - 1) ones)) ∙ sym (and_shr word (mask * 2 ^ k + (2 ^ k - 1)) k) ∙ ap (λ (x : ℕ). x / 2 ^ k) within in
    within_block k (word / 2 ^ k) low mask (2 ^ k - 1) fits ones upper (within_ones k low fits)

-- one bit of two words joined is of the one that the mask chooses
chosen_bit : (a b c o q n m : ℕ) → a ≡ max b c → b ≡ min o q → q ≡ 1 - m → c ≡ min n m → m < 2 → o < 2 → n < 2 → a ≡ (if m == 1 then n else o)
chosen_bit a b c o q n m e f g h first second third = grind arith

-- each bit of a word whose bits of a mask come from another
pub bit_at-replaced_bits : (old new mask i : ℕ) → mask < 2 ^ 32 → i < 32 → bit_at (replaced_bits old new mask) i ≡ (if bit_at mask i == 1 then bit_at new i else bit_at old i)
bit_at-replaced_bits old new mask i fits low =
    let others = bit_and old (bit_not w32 mask) in
    chosen_bit _ _ _ _ _ _ _ (bit_at_or others (bit_and new mask) i) (bit_at_and old (bit_not w32 mask) i) (bit_at_not w32 mask i fits low) (bit_at_and new mask i) (bit_at-lt mask i) (bit_at-lt old i) (bit_at-lt new i)
