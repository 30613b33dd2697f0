-- A test of all numbers of a range.
use Rattle.std.proofs.Common.{◌≡◌, ℕ, zero, suc, ◌+◌, ◌<◌, sym, ap, refl, ◌∙◌, arith}
use Rattle.std.specs.Prelude.{Bool, true, false, ◌&&◌}
use Rattle.std.specs.List.{list_all, range_with_len}

both_true : (a b : Bool) → (a && b) ≡ true → (a ≡ true) × (b ≡ true)
both_true true b h = (refl, h)
both_true false b h = absurd cc

and_true : (a b : Bool) → a ≡ true → b ≡ true → (a && b) ≡ true
and_true true b h g = g
and_true false b h g = absurd cc

and_false : (a b : Bool) → b ≡ false → (a && b) ≡ false
and_false true b h = h
and_false false b h = refl

first_false : (a b : Bool) → a ≡ false → (a && b) ≡ false
first_false false b h = refl
first_false true b h = absurd cc

from_zero : (a k : ℕ) → a + suc k ≡ (a + 1) + k
from_zero a k = omega arith

-- each passes where all do
pub range_passes : (test : ℕ → Bool) (a n k : ℕ) → list_all test (range_with_len a n) ≡ true → k < n → test (a + k) ≡ true
range_passes test a zero k h low = absurd (omega arith)
range_passes test a (suc n) zero h low = ap test (let e : a + 0 ≡ a = omega arith in e) ∙ (both_true (test a) _ h).0
range_passes test a (suc n) (suc k) h low = ap test (from_zero a k) ∙ range_passes test (a + 1) n k (both_true (test a) _ h).1 (omega arith)

-- all pass where each does
pub all_pass : (test : ℕ → Bool) (a n : ℕ) → ((k : ℕ) → k < n → test (a + k) ≡ true) → list_all test (range_with_len a n) ≡ true
all_pass test a zero each = refl
all_pass test a (suc n) each =
    and_true (test a) _ (ap test (let e : a ≡ a + 0 = omega arith in e) ∙ each 0 (omega arith)) (all_pass test (a + 1) n (λ k low. ap test (sym (from_zero a k)) ∙ each (suc k) (omega arith)))

-- not all pass where one does not
pub one_fails : (test : ℕ → Bool) (a n k : ℕ) → k < n → test (a + k) ≡ false → list_all test (range_with_len a n) ≡ false
one_fails test a zero k low h = absurd (omega arith)
one_fails test a (suc n) zero low h = first_false (test a) _ (ap test (let e : a ≡ a + 0 = omega arith in e) ∙ h)
one_fails test a (suc n) (suc k) low h = and_false (test a) _ (one_fails test (a + 1) n k (omega arith) (ap test (sym (from_zero a k)) ∙ h))
