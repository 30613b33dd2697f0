-- The first request.
use Rattle.std.proofs.Common.{◌≡◌, ℕ, zero, suc, ◌+◌, ◌-◌, ◌<◌, refl, ap, ◌∙◌, inl, inr, arith}
use Rattle.std.specs.Prelude.{Bool, true, false}
use Rattle.std.proofs.lemmas.Bool.{cases_lt}
use Rattle.s2_plant_laws.specs.NextRequest.{NextRequest, RequestComes, RequestIsLastWork}

later : (asks : ℕ → Bool) (most : ℕ) → asks 0 ≡ false → NextRequest (λ i. asks (suc i)) most → NextRequest asks (suc most)
later asks most none h = record {
  cycles = suc h.cycles;
  within = let w = h.within in omega arith;
  asks_then = h.asks_then;
  works_before = before;
}
  where
    before : (i : ℕ) → i < suc h.cycles → asks i ≡ false
    before zero lt = none
    before (suc i) lt = h.works_before i (omega arith)

first_by : (asks : ℕ → Bool) (most : ℕ) (b : Bool) → asks 0 ≡ b → (b ≡ false → NextRequest asks most) → NextRequest asks most
first_by asks most true is rest = record { cycles = 0; within = omega arith; asks_then = is; works_before = λ i h. absurd (omega arith) }
first_by asks most false is rest = rest refl

pub request_comes : RequestComes
request_comes asks zero h = record { cycles = 0; within = omega arith; asks_then = h; works_before = λ i lt. absurd (omega arith) }
request_comes asks (suc most) h = first_by asks (suc most) (asks 0) refl (λ none. later asks most none (request_comes (λ i. asks (suc i)) most h))

pub request_is_last_work : RequestIsLastWork
request_is_last_work asks most from run next low high = (forth, back)
  where
    forth : asks (run - from) ≡ true → run + 1 ≡ from + (next.cycles + 1)
    forth is = elim (cases_lt (run - from) next.cycles) [ inl lt ↦ absurd (let no = next.works_before (run - from) lt in cc) | inr ge ↦ omega arith ]

    back : run + 1 ≡ from + (next.cycles + 1) → asks (run - from) ≡ true
    back e = ap asks (let s : run - from ≡ next.cycles = omega arith in s) ∙ next.asks_then
