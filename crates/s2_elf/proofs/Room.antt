-- The bytes that may be loaded from an address on are those before the end of the memory that it lies in.
use Rattle.std.proofs.Common.{◌≡◌, ℕ, ◌+◌, ◌%◌, ◌<◌, ◌≤◌, zero, suc, Bool, true, false, leb, inl, inr, sym, ap, zero-add, ◌∙◌, arith}
use Rattle.std.specs.List.{list_all, range_with_len}
use Rattle.std.proofs.lemmas.Bool.{cases_lt, cases_Bool, cond-true, cond-false, and_from, and_left, and_right, le-leb, lt-leb}
use Rattle.std.proofs.lemmas.Bool.Decides.{nat_tests}
use Rattle.s2_base.specs.Map.{place_at, is_between}
use Rattle.s2_elf.specs.Files.{is_memory, is_loadable}
use Rattle.s2_elf.specs.Placing.{room_from, room_at}

-- a test that holds below r and fails at r holds of the n numbers from a on where a + n is at most r
pub all_up_to : (p : ℕ → Bool) (r a n : ℕ) → ((k : ℕ) → k < r → p k ≡ true) → p r ≡ false → a ≤ r
    → list_all p (range_with_len a n) ≡ leb (a + n) r
all_up_to p r a zero below fails h = sym (le-leb (a + zero) r (omega arith))
all_up_to p r a (suc n) below fails h =
    elim (cases_lt a r) [
      | inl less ↦
          let e : a + 1 + n ≡ a + suc n = omega arith in
          rw (below a less) (all_up_to p r (a + 1) n below fails (omega arith) ∙ ap (λ m. leb m r) e)
      | inr past ↦
          let e : a ≡ r = omega arith in
          let here : p a ≡ false = ap p e ∙ fails in
          rw here (sym (lt-leb (a + suc n) r (omega arith)))
    ]

-- an address of memory lies in that memory up to its end
pub memory_below : (pa k : ℕ) → k < room_from pa → is_memory (place_at (pa + k)) ≡ true
memory_below pa k h = grind (arith, nat_tests)

-- and no memory stands at its end
pub no_memory_at_end : (pa : ℕ) → is_memory (place_at (pa + room_from pa)) ≡ false
no_memory_at_end pa = grind (arith, nat_tests)

-- each memory ends below the last of the low 29 bits
pub room_fits : (pa : ℕ) → pa < 536870912 → pa + room_from pa < 536870912
room_fits pa h = grind (arith, nat_tests)

-- a sum that stays below the modulus
pub mod_of_sum : (va k : ℕ) → va % 536870912 + k < 536870912 → (va + k) % 536870912 ≡ va % 536870912 + k
mod_of_sum va k h = omega arith

-- and its first address stays below the end of the unmapped segments
between_of_sum : (va k : ℕ) → is_between 0x80000000 va 0xC0000000 ≡ true → va % 536870912 + k < 536870912
    → is_between 0x80000000 (va + k) 0xC0000000 ≡ true
between_of_sum va k within h = grind (arith, nat_tests)

-- the room at an address of the unmapped segments, and at another one
room_inside : (va : ℕ) → is_between 0x80000000 va 0xC0000000 ≡ true → room_at va ≡ room_from (va % 536870912)
room_inside va within = cond-true (is_between 0x80000000 va 0xC0000000) (room_from (va % 536870912)) 0 within

room_outside : (va : ℕ) → is_between 0x80000000 va 0xC0000000 ≡ false → room_at va ≡ 0
room_outside va outside = cond-false (is_between 0x80000000 va 0xC0000000) (room_from (va % 536870912)) 0 outside

-- the bytes before the end may be loaded
pub loadable_below : (va k : ℕ) → k < room_at va → is_loadable (va + k) ≡ true
loadable_below va k h =
    elim (cases_Bool (is_between 0x80000000 va 0xC0000000)) [
      | inl within ↦
          let room = room_inside va within in
          let fits = room_fits (va % 536870912) (omega arith) in
          let sum = mod_of_sum va k (omega (arith, room, fits)) in
          let memory = memory_below (va % 536870912) k (omega (arith, room)) in
          and_from (is_between 0x80000000 (va + k) 0xC0000000) (is_memory (place_at ((va + k) % 536870912)))
          (between_of_sum va k within (omega (arith, room, fits))) (ap (λ pa. is_memory (place_at pa)) sum ∙ memory)
      | inr outside ↦ absurd (omega (arith, room_outside va outside))
    ]

-- and the byte at the end may not
pub not_loadable_at_end : (va : ℕ) → is_loadable (va + room_at va) ≡ false
not_loadable_at_end va =
    elim (cases_Bool (is_between 0x80000000 va 0xC0000000)) [
      | inl within ↦
          let room = room_inside va within in
          let fits = room_fits (va % 536870912) (omega arith) in
          let sum = mod_of_sum va (room_at va) (omega (arith, room, fits)) in
          let end = sum ∙ ap (λ n. va % 536870912 + n) room in
          and_right (is_between 0x80000000 (va + room_at va) 0xC0000000) (is_memory (place_at ((va + room_at va) % 536870912)))
          (ap (λ pa. is_memory (place_at pa)) end ∙ no_memory_at_end (va % 536870912))
      | inr outside ↦
          let here : va + room_at va ≡ va = omega (arith, room_outside va outside) in
          and_left (is_between 0x80000000 (va + room_at va) 0xC0000000) (is_memory (place_at ((va + room_at va) % 536870912)))
          (ap (λ n. is_between 0x80000000 n 0xC0000000) here ∙ outside)
    ]

-- so a segment may be loaded where its size is at most the room at its first byte
pub all_loadable : (va n : ℕ) → list_all (λ k. is_loadable (va + k)) (range_with_len 0 n) ≡ leb n (room_at va)
all_loadable va n =
    all_up_to (λ k. is_loadable (va + k)) (room_at va) 0 n (loadable_below va) (not_loadable_at_end va) (omega arith)
    ∙ ap (λ m. leb m (room_at va)) (zero-add n)
