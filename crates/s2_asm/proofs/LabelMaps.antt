-- A map of labels beside the list of labels: one label more.
use Rattle.std.proofs.Common.{◌≡◌, ℕ, Bool, true, false, List, [], ◌∷◌, ◌++◌, Option, Some, None, refl, sym, ap, ◌∙◌, arith, inl, inr}
use Rattle.std.proofs.Common.{Ordering, Less, Equal, Greater, is_eq}
use Rattle.std.specs.Prelude.{◌==◌, ◌&&◌}
use Rattle.std.proofs.lemmas.Bool.Decides.{nat_tests}
use Rattle.std.specs.Ordering.{nat_cmp}
use Rattle.std.specs.Cmp.Lexicographic.{slice_cmp}
use Rattle.std.specs.BTreeMap.{BTreeMap, is_at, Updates}
use Rattle.std.proofs.lemmas.Map.Lookups.{exact_bytes}
use Rattle.arrayvec.specs.ArrayVec.{ArrayVec}
use Rattle.std.proofs.lemmas.List.{append-nil}
use Rattle.s2_text.proofs.LiteralWords.{cases}
use Rattle.s2_mnemonics.specs.declared.line.Line.TheVariants.{Label}
use Rattle.s2_asm.specs.TextMeaning.{is_there, is_known}
use Rattle.s2_asm.specs.Cutting.{Holds}
use Rattle.s2_mnemonics.specs.LineWords.{is_same_name, address_in}

same_byte : (b : ℕ) → (b == b) ≡ true
same_byte b = grind (arith, nat_tests)

equal_byte : (a b : ℕ) → (a == b) ≡ true → a ≡ b
equal_byte a b e = grind (arith, nat_tests)

both : (a b : Bool) → (a && b) ≡ true → (a ≡ true) × (b ≡ true)
both true b e = (refl, e)
both false b e = absurd cc

nat_same : (b : ℕ) → nat_cmp b b ≡ Equal
nat_same b = grind arith

-- the same name
same_self : (l : List ℕ) → is_at (slice_cmp nat_cmp l) l ≡ true
same_self [] = refl
same_self (b ∷ l) = rw (nat_same b) (same_self l)

equal_of : (r : Ordering) → is_eq r ≡ true → r ≡ Equal
equal_of Less e = absurd cc
equal_of Equal e = refl
equal_of Greater e = absurd cc

pub same_is : (k q : List ℕ) → is_at (slice_cmp nat_cmp k) q ≡ true → k ≡ q
same_is k q e = exact_bytes k q (equal_of (slice_cmp nat_cmp k q) e)

same_other : (k q : List ℕ) → is_at (slice_cmp nat_cmp k) q ≡ false → is_at (slice_cmp nat_cmp q) k ≡ false
same_other k q e =
    elim (cases (is_at (slice_cmp nat_cmp q) k)) [
      | inl same ↦ absurd (let s : k ≡ q = sym (same_is q k same) in let t = rw s at e in let u = same_self q in cc)
      | inr other ↦ other
    ]

-- it is found by its bytes
name_self : (l : List ℕ) → is_same_name l l ≡ true
name_self [] = refl
name_self (b ∷ l) = let e = same_byte b in let on = name_self l in grind arith

name_is : (k q : List ℕ) → is_same_name k q ≡ true → k ≡ q
name_is [] [] e = refl
name_is [] (b ∷ q) e = absurd cc
name_is (a ∷ k) [] e = absurd cc
name_is (a ∷ k) (b ∷ q) e = let h = both (a == b) (is_same_name k q) e in let s = equal_byte a b h.0 in let t = name_is k q h.1 in cc

name_at : (k q : List ℕ) → is_at (slice_cmp nat_cmp k) q ≡ is_same_name k q
name_at k q =
    elim (cases (is_at (slice_cmp nat_cmp k) q)) [
      | inl same ↦ same ∙ (let s = same_is k q same in rw s (sym (name_self q)))
      | inr other ↦ elim (cases (is_same_name k q)) [
        | inl same ↦ absurd (let s = name_is k q same in let t = rw s at other in let u = same_self q in cc)
        | inr different ↦ other ∙ sym different
      ]
    ]

address_there : (list : List (List ℕ × ℕ)) (k : List ℕ) (v : ℕ) → address_in list k ≡ None → address_in (list ++ (k, v) ∷ []) k ≡ Some v
address_there [] k v none = rw (name_self k) refl
address_there (here ∷ list) k v none =
    elim (cases (is_same_name k here.0)) [
      | inl same ↦ absurd (let t = rw same at none in cc)
      | inr other ↦ rw other (address_there list k v (rw other at none))
    ]

address_other : (list : List (List ℕ × ℕ)) (k q : List ℕ) (v : ℕ) → is_same_name q k ≡ false → address_in (list ++ (k, v) ∷ []) q ≡ address_in list q
address_other [] k q v other = rw other refl
address_other (here ∷ list) k q v other =
    elim (cases (is_same_name q here.0)) [
      | inl same ↦ rw same refl
      | inr less ↦ rw less (address_other list k q v other)
    ]

pub added : (old new : BTreeMap (ArrayVec ℕ) ℕ) (k : ArrayVec ℕ) (v : ℕ) (list : List (List ℕ × ℕ)) → Updates (λ v w. slice_cmp nat_cmp v.items w.items) old new k (Some v) → Holds old list → address_in list k.items ≡ None → Holds new (list ++ (k.items, v) ∷ [])
added old new k v list updates holds none q =
    elim (cases (is_at (slice_cmp nat_cmp k.items) q.items)) [
      | inl same ↦
          let s : k.items ≡ q.items = same_is k.items q.items same in
          updates.0 q ∙ (rw same (sym (address_there list k.items v none) ∙ ap (λ (l : List ℕ). address_in (list ++ (k.items, v) ∷ []) l) s))
      | inr other ↦ updates.0 q ∙ (rw other (holds q ∙ sym (address_other list k.items q.items v (sym (name_at q.items k.items) ∙ same_other k.items q.items other))))
    ]

pub not_there : (o : Option ℕ) → is_there o ≡ false → o ≡ None
not_there None e = refl
not_there (Some a) e = absurd cc

pub unknown : (list : List (List ℕ × ℕ)) (name : ArrayVec ℕ) → is_known list (Label name) ≡ false → address_in list name.items ≡ None
unknown list name e = not_there (address_in list name.items) e

pub nothing_more : (list : List (List ℕ × ℕ)) → list ++ [] ≡ list
nothing_more list = append-nil list
