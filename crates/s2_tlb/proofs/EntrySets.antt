-- The sets of the entries: what they are at first, what a write leaves of them, and that they meet in the entries
-- that match.
use Rattle.std.proofs.Common.{◌≡◌, ℕ, ◌*◌, ◌/◌, ◌%◌, ◌^◌, ◌<◌, List, length, refl, sym, ap, inl, inr, ◌∙◌, arith, get_or-set_other, length-set, w64}
use Rattle.std.specs.Prelude.{Bool, true, false, ◌&&◌, ◌||◌, ◌==◌, min, max, slice_index_or, slice_set, bit_and, bit_or, replicate}
use Rattle.std.specs.Int.{bit_at, bit_not}
use Rattle.std.proofs.lemmas.Bool.{cases_eq, eq-eqb, ne_eqb, eqb-true, and_parts, false_from_ne_true}
use Rattle.std.proofs.lemmas.List.{get_or-set_same, get_or-replicate}
use Rattle.std.proofs.lemmas.Nat.{and_le_r}
use Rattle.std.proofs.lemmas.Nat.Bits.{bit_at-zero, bit_at_and, bit_at_or, bit_at_ones, bit_at_set_same, bit_at_set_other, bit_at_clear_same, bit_at_clear_other}
use Rattle.s2_base.specs.declared.masks.TheConstants.{ENTRY_HI_BITS}
use Rattle.s2_tlb.specs.declared.index.EntryIndex.{EntryIndex}
use Rattle.s2_tlb.specs.TranslationEntries.{virtual_page, entry_at, entry_matches, entry_is_global, address_space, zero_entries, AreTranslationEntries}
use Rattle.s2_tlb.specs.EntryIndex.{flag, AreSetsOf, IsIndexOf}

pub flag_zero : (b : Bool) → flag b ≡ 0 → b ≡ false
flag_zero true e = absurd (omega arith)
flag_zero false e = refl

pub flag_one : (b : Bool) → flag b ≡ 1 → b ≡ true
flag_one true e = refl
flag_one false e = absurd (omega arith)

flag_same : (a b : ℕ) → b ≡ a → flag (a == b) ≡ 1
flag_same a b e = ap flag (eq-eqb a b (sym e))

flag_other : (a b : ℕ) → (b ≡ a → ⊥) → flag (a == b) ≡ 0
flag_other a b ne = ap flag (ne_eqb a b (λ e. ne (sym e)))

-- the sets of a field that is 0 in each entry
pub zero_sets : (field : ℕ × ℕ → ℕ) → field (0, 0) ≡ 0 → AreSetsOf field (slice_set (replicate 64 0) 0 18446744073709551615) zero_entries
zero_sets field e = record {
  bits = λ v i h k. elim (cases_eq v 0) [
    | inl same ↦
        ap (λ (q : ℕ). bit_at (slice_index_or (slice_set (replicate 64 0) 0 18446744073709551615) q 0) i) same ∙
        (ap (λ (w : ℕ). bit_at w i) (get_or-set_same (replicate 64 0) 0 18446744073709551615 0 (omega arith)) ∙
        (bit_at_ones 64 i k ∙ sym (here i k v ∙ flag_same 0 v same)))
    | inr ne ↦
        ap (λ (w : ℕ). bit_at w i) (get_or-set_other (replicate 64 0) 0 v 18446744073709551615 0 ne ∙ get_or-replicate 64 v 0 0 h) ∙
        (bit_at-zero i ∙ sym (here i k v ∙ flag_other 0 v ne))
  ];
}
  where
    here : (i : ℕ) → i < 64 → (v : ℕ) → flag (field (entry_at zero_entries i) == v) ≡ flag (0 == v)
    here i k v = ap (λ (x : ℕ × ℕ). flag (field x == v)) (get_or-replicate 64 i (0, 0) (0, 0) k) ∙ ap (λ (x : ℕ). flag (x == v)) e

-- entry i leaves the set of one value, and comes into that of another
abbrev cleared : List ℕ → ℕ → ℕ → List ℕ
cleared sets from i = slice_set sets from (bit_and (slice_index_or sets from 0) (bit_not w64 (1 * 2 ^ i % 2 ^ 64)))

abbrev added : List ℕ → ℕ → ℕ → List ℕ
added sets to i = slice_set sets to (bit_or (slice_index_or sets to 0) (1 * 2 ^ i % 2 ^ 64))

module _ (sets : List ℕ) (at i : ℕ) (within : at < length sets) (low : i < 64) where
  cleared_here : bit_at (slice_index_or (cleared sets at i) at 0) i ≡ 0
  cleared_here = ap (λ (w : ℕ). bit_at w i) (get_or-set_same sets at _ 0 within) ∙ bit_at_clear_same w64 (slice_index_or sets at 0) i low

  cleared_value : (v j : ℕ) → (v ≡ at → ⊥) → bit_at (slice_index_or (cleared sets at i) v 0) j ≡ bit_at (slice_index_or sets v 0) j
  cleared_value v j ne = ap (λ (w : ℕ). bit_at w j) (get_or-set_other sets at v _ 0 ne)

  cleared_bit : (v j : ℕ) → j < 64 → (j ≡ i → ⊥) → bit_at (slice_index_or (cleared sets at i) v 0) j ≡ bit_at (slice_index_or sets v 0) j
  cleared_bit v j k ne = elim (cases_eq v at) [
    | inl same ↦
        ap (λ (q : ℕ). bit_at (slice_index_or (cleared sets at i) q 0) j) same ∙
        (ap (λ (w : ℕ). bit_at w j) (get_or-set_same sets at _ 0 within) ∙
        (bit_at_clear_other w64 (slice_index_or sets at 0) i low j k ne ∙ ap (λ (q : ℕ). bit_at (slice_index_or sets q 0) j) (sym same)))
    | inr apart ↦ cleared_value v j apart
  ]

  added_here : bit_at (slice_index_or (added sets at i) at 0) i ≡ 1
  added_here = ap (λ (w : ℕ). bit_at w i) (get_or-set_same sets at _ 0 within) ∙ bit_at_set_same w64 (slice_index_or sets at 0) i low

  added_value : (v j : ℕ) → (v ≡ at → ⊥) → bit_at (slice_index_or (added sets at i) v 0) j ≡ bit_at (slice_index_or sets v 0) j
  added_value v j ne = ap (λ (w : ℕ). bit_at w j) (get_or-set_other sets at v _ 0 ne)

  added_bit : (v j : ℕ) → (j ≡ i → ⊥) → bit_at (slice_index_or (added sets at i) v 0) j ≡ bit_at (slice_index_or sets v 0) j
  added_bit v j ne = elim (cases_eq v at) [
    | inl same ↦
        ap (λ (q : ℕ). bit_at (slice_index_or (added sets at i) q 0) j) same ∙
        (ap (λ (w : ℕ). bit_at w j) (get_or-set_same sets at _ 0 within) ∙
        (bit_at_set_other w64 (slice_index_or sets at 0) i low j ne ∙ ap (λ (q : ℕ). bit_at (slice_index_or sets q 0) j) (sym same)))
    | inr apart ↦ added_value v j apart
  ]

module _ (field : ℕ × ℕ → ℕ) (sets : List ℕ) (entries : List (ℕ × ℕ)) (entry : ℕ × ℕ) (i from to : ℕ) (size : length sets ≡ 64) (count : length entries ≡ 64) (low : i < 64) (below : from < 64) (within : to < 64) (was : field (entry_at entries i) ≡ from) (is : field entry ≡ to) (are : AreSetsOf field sets entries) where
  size_cleared : length (cleared sets from i) ≡ 64
  size_cleared = length-set sets from _ ∙ size

  moved_here : (v : ℕ) → v < 64 → bit_at (slice_index_or (added (cleared sets from i) to i) v 0) i ≡ flag (to == v)
  moved_here v h =
      let sized = size_cleared in
      elim (cases_eq v to) [
        | inl same ↦
            ap (λ (q : ℕ). bit_at (slice_index_or (added (cleared sets from i) to i) q 0) i) same ∙
            (added_here (cleared sets from i) to i (omega arith) low ∙ sym (flag_same to v same))
        | inr ne ↦
            added_value (cleared sets from i) to i (omega arith) low v i ne ∙ elim (cases_eq v from) [
              | inl left ↦
                  ap (λ (q : ℕ). bit_at (slice_index_or (cleared sets from i) q 0) i) left ∙
                  (cleared_here sets from i (omega arith) low ∙ sym (flag_other to v ne))
              | inr apart ↦
                  cleared_value sets from i (omega arith) low v i apart ∙
                  (are.bits v i h low ∙ (ap (λ (x : ℕ). flag (x == v)) was ∙ (flag_other from v apart ∙ sym (flag_other to v ne))))
            ]
      ]

  pub moved : AreSetsOf field (added (cleared sets from i) to i) (slice_set entries i entry)
  moved = record {
    bits = λ v j h k.
        let sized = size_cleared in
        elim (cases_eq j i) [
          | inl same ↦
              ap (λ (q : ℕ). bit_at (slice_index_or (added (cleared sets from i) to i) v 0) q) same ∙
              (moved_here v h ∙
              (ap (λ (x : ℕ). flag (x == v)) (sym is) ∙
              ap (λ (x : ℕ × ℕ). flag (field x == v)) (sym (ap (entry_at (slice_set entries i entry)) same ∙ get_or-set_same entries i entry (0, 0) (omega arith)))))
          | inr ne ↦
              added_bit (cleared sets from i) to i (omega arith) low v j ne ∙
              (cleared_bit sets from i (omega arith) low v j k ne ∙
              (are.bits v j h k ∙ ap (λ (x : ℕ × ℕ). flag (field x == v)) (sym (get_or-set_other entries i j entry (0, 0) ne))))
        ];
  }

-- sets meet in the entries of both, and join in those of one
both : (a b i : ℕ) (x y : Bool) → bit_at a i ≡ flag x → bit_at b i ≡ flag y → bit_at (bit_and a b) i ≡ flag (x && y)
both a b i x y e f = bit_at_and a b i ∙ (ap (λ (m : ℕ). min m (bit_at b i)) e ∙ (ap (λ (m : ℕ). min (flag x) m) f ∙ table x y))
  where
    table : (x y : Bool) → min (flag x) (flag y) ≡ flag (x && y)
    table true true = refl
    table true false = refl
    table false true = refl
    table false false = refl

either : (a b i : ℕ) (x y : Bool) → bit_at a i ≡ flag x → bit_at b i ≡ flag y → bit_at (bit_or a b) i ≡ flag (y || x)
either a b i x y e f = bit_at_or a b i ∙ (ap (λ (m : ℕ). max m (bit_at b i)) e ∙ (ap (λ (m : ℕ). max (flag x) m) f ∙ table x y))
  where
    table : (x y : Bool) → max (flag x) (flag y) ≡ flag (y || x)
    table true true = refl
    table true false = refl
    table false true = refl
    table false false = refl

-- numbers of four digits of base 64 are equal where their digits are
abbrev same_digits : ℕ → ℕ → Bool
same_digits p q = (((p % 64 == q % 64) && (p / 64 % 64 == q / 64 % 64)) && (p / 4096 % 64 == q / 4096 % 64)) && (p / 262144 % 64 == q / 262144 % 64)

from_digits : (p q : ℕ) → p < 1048576 → q < 1048576 → p % 64 ≡ q % 64 → p / 64 % 64 ≡ q / 64 % 64 → p / 4096 % 64 ≡ q / 4096 % 64 → p / 262144 % 64 ≡ q / 262144 % 64 → p ≡ q
from_digits p q h k a b c d = omega arith

by_digits : (p q : ℕ) → p < 1048576 → q < 1048576 → same_digits p q ≡ (p == q)
by_digits p q h k = elim (cases_eq p q) [
  | inl same ↦ ap (same_digits p) (sym same) ∙ (all p ∙ sym (eq-eqb p q same))
  | inr ne ↦
      false_from_ne_true (same_digits p q) (λ e.
      let first = and_parts _ _ e in
      let second = and_parts _ _ first.0 in
      let third = and_parts _ _ second.0 in
      ne (from_digits p q h k (eqb-true _ _ third.0) (eqb-true _ _ third.1) (eqb-true _ _ second.1) (eqb-true _ _ first.1))) ∙ sym (ne_eqb p q ne)
]
  where
    all : (p : ℕ) → same_digits p p ≡ true
    all p =
        let a = eq-eqb (p % 64) (p % 64) refl in
        let b = eq-eqb (p / 64 % 64) (p / 64 % 64) refl in
        let c = eq-eqb (p / 4096 % 64) (p / 4096 % 64) refl in
        let d = eq-eqb (p / 262144 % 64) (p / 262144 % 64) refl in
        simp (a, b, c, d)

pub met : (index : EntryIndex) (entries : List (ℕ × ℕ)) (page space : ℕ) → page < 1048576 → space < 64 → AreTranslationEntries entries → IsIndexOf index entries → (i : ℕ) → i < 64
    → bit_at (bit_and (bit_and (bit_and (bit_and (slice_index_or index.low (page % 64) 0) (slice_index_or index.second (page / 64 % 64) 0)) (slice_index_or index.third (page / 4096 % 64) 0)) (slice_index_or index.high (page / 262144 % 64) 0)) (bit_or (slice_index_or index.space space 0) (slice_index_or index.global 1 0))) i
    ≡ flag (entry_matches (entry_at entries i) page space)
met index entries page space h k are has i low =
    let hi = (are.each i low).hi in
    let within = and_le_r (entry_at entries i).0 ENTRY_HI_BITS in
    both _ _ i (same_digits (virtual_page (entry_at entries i).0) page) (entry_is_global (entry_at entries i) || (address_space (entry_at entries i).0 == space)) (both _ _ i _ _ (both _ _ i _ _ (both _ _ i _ _ (has.low.bits (page % 64) i (omega arith) low) (has.second.bits (page / 64 % 64) i (omega arith) low)) (has.third.bits (page / 4096 % 64) i (omega arith) low)) (has.high.bits (page / 262144 % 64) i (omega arith) low)) (either _ _ i _ _ (has.space.bits space i k low) (has.global.bits 1 i (omega arith) low)) ∙
    ap (λ (b : Bool). flag (b && (entry_is_global (entry_at entries i) || (address_space (entry_at entries i).0 == space)))) (by_digits (virtual_page (entry_at entries i).0) page (omega arith) h)
