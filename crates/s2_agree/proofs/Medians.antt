-- The lower median of two and of three counts, without a sorted list, and its bounds.
use Rattle.std.proofs.Common.{◌⊎◌, inl, inr, ◌≡◌, ℕ, zero, suc, ◌<◌, ◌≤◌, ◌≢◌, min, max, List, [], ◌∷◌, slice_index, refl, sym, subst, arith}
use Rattle.std.specs.Prelude.{Bool, true, false, nat_le, if◌then◌else◌}
use Rattle.std.proofs.lemmas.Bool.Decides.{nat_tests}
use Rattle.s2_agree.specs.AgreedCount.{inserted, lower_median, agreed_count}
use Rattle.s2_agree.specs.CountBounds.{TwoCountsFit, IsCountWithin}

-- the middle of three numbers
abbrev pub middle_of : ℕ → ℕ → ℕ → ℕ
middle_of a b c = max (min a b) (min (max a b) c)

-- the middle of a number and two in ascending order
middle_in_order : (a b c : ℕ) → b ≤ c → slice_index (inserted a (b ∷ c ∷ [])) 1 ≡ middle_of a b c
middle_in_order a b c h = by_tests (nat_le a b) (nat_le a c) refl refl
  where
    by_tests : (x y : Bool) → nat_le a b ≡ x → nat_le a c ≡ y → slice_index (if x then a ∷ b ∷ c ∷ [] else (b ∷ (if y then a ∷ c ∷ [] else (c ∷ a ∷ [])))) 1 ≡ middle_of a b c
    by_tests true y ex ey = grind (arith, nat_tests)
    by_tests false true ex ey = grind (arith, nat_tests)
    by_tests false false ex ey = grind (arith, nat_tests)

middle_swapped : (a b c : ℕ) → middle_of a b c ≡ middle_of a c b
middle_swapped a b c = grind arith

median_two : (a b : ℕ) → lower_median (a ∷ b ∷ []) ≡ min a b
median_two a b = by_test (nat_le a b) refl
  where
    by_test : (x : Bool) → nat_le a b ≡ x → slice_index (if x then a ∷ b ∷ [] else (b ∷ a ∷ [])) 0 ≡ min a b
    by_test true ex = grind (arith, nat_tests)
    by_test false ex = grind (arith, nat_tests)

median_three : (a b c : ℕ) → lower_median (a ∷ b ∷ c ∷ []) ≡ middle_of a b c
median_three a b c = by_test (nat_le b c) refl
  where
    by_test : (x : Bool) → nat_le b c ≡ x → slice_index (inserted a (if x then b ∷ c ∷ [] else (c ∷ b ∷ []))) 1 ≡ middle_of a b c
    by_test true ex = middle_in_order a b c (grind (arith, nat_tests))
    by_test false ex = let h : c ≤ b = grind (arith, nat_tests) in subst (λ (m : ℕ). slice_index (inserted a (c ∷ b ∷ [])) 1 ≡ m) (middle_swapped a c b) (middle_in_order a c b h)

-- a number within two bounds
abbrev In : ℕ → ℕ → ℕ → Type 0
In low n high = (low ≤ n) × (n ≤ high)

-- of two numbers, both are within; of three, two are
median_two_within : (low high a b : ℕ) → In low a high → In low b high → In low (lower_median (a ∷ b ∷ [])) high
median_two_within low high a b x y = subst (λ (m : ℕ). In low m high) (sym (median_two a b)) (omega arith, omega arith)

data TwoIn (low high a b c : ℕ) : Type 0 where
  first : In low a high → In low b high → TwoIn low high a b c
  outer : In low a high → In low c high → TwoIn low high a b c
  last : In low b high → In low c high → TwoIn low high a b c

middle_within : (low high a b c : ℕ) → TwoIn low high a b c → In low (middle_of a b c) high
middle_within low high a b c (first x y) = (omega arith, omega arith)
middle_within low high a b c (outer x y) = (omega arith, omega arith)
middle_within low high a b c (last x y) = (omega arith, omega arith)

median_three_within : (low high a b c : ℕ) → TwoIn low high a b c → In low (lower_median (a ∷ b ∷ c ∷ [])) high
median_three_within low high a b c t = subst (λ (m : ℕ). In low m high) (sym (median_three a b c)) (middle_within low high a b c t)

-- the places of two counts among three
places_of_three : (P : ℕ → Type 0) (p q : ℕ) → p < 3 → q < 3 → p ≢ q → P p → P q → (P 0 × P 1) ⊎ ((P 0 × P 2) ⊎ (P 1 × P 2))
places_of_three P zero zero hp hq ne x y = absurd (ne refl)
places_of_three P zero (suc zero) hp hq ne x y = inl (x, y)
places_of_three P zero (suc (suc zero)) hp hq ne x y = inr (inl (x, y))
places_of_three P (suc zero) zero hp hq ne x y = inl (y, x)
places_of_three P (suc zero) (suc zero) hp hq ne x y = absurd (ne refl)
places_of_three P (suc zero) (suc (suc zero)) hp hq ne x y = inr (inr (x, y))
places_of_three P (suc (suc zero)) zero hp hq ne x y = inr (inl (y, x))
places_of_three P (suc (suc zero)) (suc zero) hp hq ne x y = inr (inr (y, x))
places_of_three P (suc (suc zero)) (suc (suc zero)) hp hq ne x y = absurd (ne refl)
places_of_three P (suc (suc (suc p))) q hp hq ne x y = absurd (omega arith)
places_of_three P p (suc (suc (suc q))) hp hq ne x y = absurd (omega arith)

places_of_two : (P : ℕ → Type 0) (p q : ℕ) → p < 2 → q < 2 → p ≢ q → P p → P q → P 0 × P 1
places_of_two P zero zero hp hq ne x y = absurd (ne refl)
places_of_two P zero (suc zero) hp hq ne x y = (x, y)
places_of_two P (suc zero) zero hp hq ne x y = (y, x)
places_of_two P (suc zero) (suc zero) hp hq ne x y = absurd (ne refl)
places_of_two P (suc (suc p)) q hp hq ne x y = absurd (omega arith)
places_of_two P p (suc (suc q)) hp hq ne x y = absurd (omega arith)

median_within : (seen : List ℕ) (delivered accepted : ℕ) → TwoCountsFit seen delivered accepted → In delivered (lower_median seen) accepted
median_within [] delivered accepted h = absurd (let x = h.first_in in omega arith)
median_within (a ∷ []) delivered accepted h = absurd (let x = h.first_in in let y = h.second_in in let z = h.apart in omega arith)
median_within (a ∷ b ∷ []) delivered accepted h =
    let t = places_of_two (λ (i : ℕ). In delivered (slice_index (a ∷ b ∷ []) i) accepted) h.first h.second h.first_in h.second_in h.apart (h.first_from, h.first_to) (h.second_from, h.second_to) in
    median_two_within delivered accepted a b t.0 t.1
median_within (a ∷ b ∷ c ∷ []) delivered accepted h =
    let t = places_of_three (λ (i : ℕ). In delivered (slice_index (a ∷ b ∷ c ∷ []) i) accepted) h.first h.second h.first_in h.second_in h.apart (h.first_from, h.first_to) (h.second_from, h.second_to) in
    median_three_within delivered accepted a b c (elim t [ inl x ↦ first x.0 x.1 | inr y ↦ elim y [ inl x ↦ outer x.0 x.1 | inr x ↦ last x.0 x.1 ] ])
median_within (a ∷ b ∷ c ∷ d ∷ seen) delivered accepted h = absurd (let x = h.at_most_three in omega arith)

-- so the agreed count is within
pub agreed_within : (seen : List ℕ) (delivered accepted : ℕ) → TwoCountsFit seen delivered accepted → IsCountWithin (agreed_count seen delivered) delivered accepted
agreed_within seen delivered accepted h =
    let m = median_within seen delivered accepted h in record { from = omega arith; to = omega arith }
