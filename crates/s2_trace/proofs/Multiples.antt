-- Multiples of a distance.
use Rattle.std.proofs.Common.{◌≡◌, ◌≢◌, ℕ, ◌+◌, ◌*◌, ◌/◌, ◌%◌, ◌<◌, ◌≤◌, true, ap, arith, ⊎_elim}
use Rattle.std.proofs.lemmas.Bool.{cases_lt}
use Rattle.std.proofs.lemmas.Bool.Decides.{nat_tests}
use Rattle.std.proofs.Math.Nat.{mul-le-mul_right}
use Rattle.s2_trace.specs.Timeline.{to_checkpoint, is_checkpoint, slot_of}

pub below_of_products : (a b e : ℕ) → a * e < b * e → a < b
below_of_products a b e h = ⊎_elim (λ (less : a < b). less) (λ (more : b ≤ a). absurd (let p : b * e ≤ a * e = mul-le-mul_right e more in omega arith)) (cases_lt a b)

pub at_multiple : (e run : ℕ) → 0 < e → run % e ≡ 0 → run / e * e ≡ run
at_multiple e run some none = omega arith

-- the next multiple
pub next_multiple : (e run j : ℕ) → 0 < e → run < j * e → run + to_checkpoint e run ≤ j * e
next_multiple e run j some past =
    let less : run / e < j = below_of_products (run / e) j e (omega arith) in
    let product : (run / e + 1) * e ≤ j * e = mul-le-mul_right e (omega arith) in
    omega arith

pub some_to_checkpoint : (e run : ℕ) → 0 < e → 0 < to_checkpoint e run
some_to_checkpoint e run some = omega arith

pub quotient_of_multiple : (e run j : ℕ) → 0 < e → run ≡ j * e → run / e ≡ j
quotient_of_multiple e run j some is =
    let most : run / e < j + 1 = below_of_products (run / e) (j + 1) e (omega arith) in
    let least : j < run / e + 1 = below_of_products j (run / e + 1) e (omega arith) in
    omega arith

pub rest_of_multiple : (e run j : ℕ) → 0 < e → run ≡ j * e → run % e ≡ 0
rest_of_multiple e run j some is =
    let product : run / e * e ≡ j * e = ap (λ (k : ℕ). k * e) (quotient_of_multiple e run j some is) in
    omega arith

pub is_kept : (e floor run : ℕ) → floor < run → run % e ≡ 0 → is_checkpoint e floor run ≡ true
is_kept e floor run past none = grind (arith, nat_tests)

pub kept_above : (e floor run : ℕ) → is_checkpoint e floor run ≡ true → floor < run
kept_above e floor run h = grind (arith, nat_tests)

pub kept_at_multiple : (e floor run : ℕ) → is_checkpoint e floor run ≡ true → run % e ≡ 0
kept_at_multiple e floor run h = grind (arith, nat_tests)

-- two multiples of which fewer than 16 lie between have different places
pub other_place : (e run j : ℕ) → 0 < e → run % e ≡ 0 → j * e < run → run < (j + 16) * e → j % 16 ≢ slot_of e run
other_place e run j some none before within same =
    let here = at_multiple e run some none in
    let less : j < run / e = below_of_products j (run / e) e (omega arith) in
    let near : run / e < j + 16 = below_of_products (run / e) (j + 16) e (omega arith) in
    omega arith
