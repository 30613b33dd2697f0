-- The good processor that is furthest behind.
use Rattle.std.proofs.Common.{◌≡◌, ℕ, zero, suc, ◌<◌, ◌≤◌, ◌≢◌, List, refl, ap, inl, inr, arith}
use Rattle.std.specs.Prelude.{Bool, true, false, not, ◌==◌, ◌&&◌, ◌||◌, nat_lt, Some, None, ◌⊎◌, if◌then◌else◌}
use Rattle.std.specs.declared.option.Option.{Option}
use Rattle.std.proofs.lemmas.Bool.Decides.{nat_tests}
use Rattle.s2_triplex.specs.ModuleState.{ModuleState}
use Rattle.s2_triplex.specs.ReferenceMachine.{one_behind, run_at, slowest}
use Rattle.s2_triplex.specs.TriplexState.{is_good}

-- one of two processors is good
pub either_good : (t : Option ℕ) (p q : ℕ) → p ≢ q → (is_good t p ≡ true) ⊎ (is_good t q ≡ true)
either_good None p q h = inl refl
either_good (Some t) p q h = either_by t p q (t == p) refl h
  where
    either_by : (t p q : ℕ) (b : Bool) → (t == p) ≡ b → p ≢ q → (not b ≡ true) ⊎ (not (t == q) ≡ true)
    either_by t p q true e h = inr (let s : (t == q) ≡ false = grind (arith, nat_tests) in ap not s)
    either_by t p q false e h = inl refl

pub record IsBehind (t : Option ℕ) (ms : List ModuleState) (p q b : ℕ) : Type 0 where
  pub low : p < 3 → q < 3 → b < 3
  pub good : is_good t b ≡ true
  pub first : is_good t p ≡ true → run_at ms b ≤ run_at ms p
  pub second : is_good t q ≡ true → run_at ms b ≤ run_at ms q

behind_by : (t : Option ℕ) (ms : List ModuleState) (p q : ℕ) (gp gq less : Bool) → is_good t p ≡ gp → is_good t q ≡ gq → nat_lt (run_at ms q) (run_at ms p) ≡ less → (gp ≡ true) ⊎ (gq ≡ true) →
    IsBehind t ms p q (if gq && (not gp || less) then q else p)
behind_by t ms p q true true true ep eq el h = record { low = λ a b. b; good = eq; first = λ g. grind (arith, nat_tests); second = λ g. omega arith }
behind_by t ms p q true true false ep eq el h = record { low = λ a b. a; good = ep; first = λ g. omega arith; second = λ g. grind (arith, nat_tests) }
behind_by t ms p q true false less ep eq el h = record { low = λ a b. a; good = ep; first = λ g. omega arith; second = λ g. absurd cc }
behind_by t ms p q false true less ep eq el h = record { low = λ a b. b; good = eq; first = λ g. absurd cc; second = λ g. omega arith }
behind_by t ms p q false false less ep eq el h = absurd (elim h [ inl a ↦ cc | inr b ↦ cc ])

behind_is : (t : Option ℕ) (ms : List ModuleState) (p q : ℕ) → (is_good t p ≡ true) ⊎ (is_good t q ≡ true) → IsBehind t ms p q (one_behind t ms p q)
behind_is t ms p q h = behind_by t ms p q (is_good t p) (is_good t q) (nat_lt (run_at ms q) (run_at ms p)) refl refl refl h

pub record IsSlowest (t : Option ℕ) (ms : List ModuleState) (p : ℕ) : Type 0 where
  pub low : p < 3
  pub good : is_good t p ≡ true
  pub least : (q : ℕ) → q < 3 → is_good t q ≡ true → run_at ms p ≤ run_at ms q

pub slowest_is : (t : Option ℕ) (ms : List ModuleState) → IsSlowest t ms (slowest t ms)
slowest_is t ms =
    let a = behind_is t ms 0 1 (either_good t 0 1 (omega arith)) in
    let b = behind_is t ms (one_behind t ms 0 1) 2 (inl a.good) in
    record { low = b.low (a.low (omega arith) (omega arith)) (omega arith); good = b.good; least = least_by a b }
  where
    least_by : IsBehind t ms 0 1 (one_behind t ms 0 1) → IsBehind t ms (one_behind t ms 0 1) 2 (slowest t ms) → (q : ℕ) → q < 3 → is_good t q ≡ true → run_at ms (slowest t ms) ≤ run_at ms q
    least_by a b zero h g = let x = a.first g in let y = b.first a.good in omega arith
    least_by a b (suc zero) h g = let x = a.second g in let y = b.first a.good in omega arith
    least_by a b (suc (suc zero)) h g = b.second g
    least_by a b (suc (suc (suc q))) h g = absurd (omega arith)
