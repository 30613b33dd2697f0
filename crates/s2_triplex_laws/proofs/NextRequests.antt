-- The next request from a replica: there is one within a frame, and the replica asks at no cycle before it.
use Rattle.std.proofs.Common.{◌≡◌, ℕ, zero, suc, ◌+◌, ◌-◌, ◌%◌, ◌/◌, ◌*◌, ◌^◌, ◌<◌, ◌≤◌, refl, sym, ap, subst, inl, inr, ◌∙◌, arith, mod-lt}
use Rattle.std.specs.Prelude.{Bool, true, false, ◌==◌, ◌&&◌, nat_lt, ◌⊎◌, ◌↔◌}
use Rattle.std.proofs.Math.Nat.{mod-add-div', mul-mod_left}
use Rattle.std.proofs.lemmas.Bool.{cases_lt}
use Rattle.std.proofs.lemmas.Bool.Decides.{nat_tests}
use Rattle.s2_machine.specs.declared.ask.Ask.{Ask}
use Rattle.s2_machine.specs.declared.ask.Ask.TheVariants.{Local, Outside}
use Rattle.s2_clock.specs.Frames.{IsFrame}
use Rattle.s2_plant_laws.specs.NextRequest.{NextRequest}
use Rattle.s2_triplex.specs.TriplexCores.{TriplexCore, IsTriplexCore}
use Rattle.s2_triplex.specs.ModuleState.{Replica, ask_unless_due, replica_ask, after_local_cycles, is_frame_end}
use Rattle.s2_triplex.specs.ModuleFiring.{is_outside}
use Rattle.s2_triplex_laws.specs.TriplexInvariant.{asks_from}
use Rattle.s2_triplex_laws.proofs.LocalCycles.{Quiet, frame_after_cycles, run_after_cycles}

not_outside : (a : Ask) → is_outside a ≡ false → a ≡ Local
not_outside Local h = refl
not_outside (Outside r) h = absurd cc

pub quiet_asks : (k : TriplexCore) (n : ℕ) (s : Replica) → Quiet k n s → (i : ℕ) → i < n → asks_from k s i ≡ false
quiet_asks k n s q i h = ap is_outside (q i h)

due_asks : (k : TriplexCore) (s : Replica) (due : Bool) → due ≡ true → is_outside (ask_unless_due k s due) ≡ true
due_asks k s true h = refl
due_asks k s false h = absurd cc

pub due_after : (k : TriplexCore) (n : ℕ) (s : Replica) → 0 < n → (after_local_cycles k n s).due ≡ is_frame_end s.frame (after_local_cycles k n s).cpu.run
due_after k zero s h = absurd (omega arith)
due_after k (suc n) s h = ap (λ (frame : ℕ). is_frame_end frame (after_local_cycles k (suc n) s).cpu.run) (frame_after_cycles k n s)

zero_is : (n : ℕ) → n ≡ 0 → (n == 0) ≡ true
zero_is n h = grind (arith, nat_tests)

pub ends_at : (frame n : ℕ) → 0 < n → n % frame ≡ 0 → is_frame_end frame n ≡ true
ends_at frame n low h = by_tests (nat_lt 0 n) (n % frame == 0) (grind (arith, nat_tests)) (zero_is (n % frame) h)
  where
    by_tests : (a b : Bool) → a ≡ true → b ≡ true → (a && b) ≡ true
    by_tests true b x y = y
    by_tests false b x y = absurd cc

-- at the frame's end a request is asked
at_most : (k : TriplexCore) (c : IsTriplexCore k) (s : Replica) (most : ℕ) → s.cpu.run + s.frame < 2 ^ 64 → most ≤ s.frame → ((s.due ≡ true) × (most ≡ 0)) ⊎ ((0 < most) × ((s.cpu.run + most) % s.frame ≡ 0)) → Quiet k most s → asks_from k s most ≡ true
at_most k c s most room small (inl h) q = subst (λ (n : ℕ). asks_from k s n ≡ true) (sym h.1) (due_asks k s s.due h.0)
at_most k c s most room small (inr h) q =
    let low : 0 < most = h.0 in
    let run = run_after_cycles k c most s q (omega arith) in
    let whole = h.1 in
    due_asks k (after_local_cycles k most s) (after_local_cycles k most s).due (due_after k most s h.0 ∙ (ap (is_frame_end s.frame) run ∙ ends_at s.frame (s.cpu.run + most) (omega arith) whole))

search_from : (k : TriplexCore) (s : Replica) (most left n : ℕ) → n + left ≡ most → most ≤ s.frame → Quiet k n s → (Quiet k most s → asks_from k s most ≡ true) → NextRequest (asks_from k s) s.frame
search_from k s most zero n e small q end =
    let same : n ≡ most = omega arith in
    record { cycles = n; within = omega arith; asks_then = subst (λ (i : ℕ). asks_from k s i ≡ true) (sym same) (end (subst (λ (i : ℕ). Quiet k i s) same q)); works_before = quiet_asks k n s q }
search_from k s most (suc left) n e small q end = by_ask (asks_from k s n) refl (λ more. search_from k s most left (suc n) (omega arith) small more end)
  where
    more_by : asks_from k s n ≡ false → Quiet k (suc n) s
    more_by is i h = elim (cases_lt i n) [
      | inl less ↦ q i less
      | inr past ↦ (let same : i ≡ n = omega arith in subst (λ (j : ℕ). replica_ask k (after_local_cycles k j s) ≡ Local) (sym same) (not_outside (replica_ask k (after_local_cycles k n s)) is))
    ]

    by_ask : (b : Bool) → asks_from k s n ≡ b → (Quiet k (suc n) s → NextRequest (asks_from k s) s.frame) → NextRequest (asks_from k s) s.frame
    by_ask true is next = record { cycles = n; within = omega arith; asks_then = is; works_before = quiet_asks k n s q }
    by_ask false is next = next (more_by is)

-- the cycles up to the next multiple of the frame
pub up_to_end : (frame n : ℕ) → 0 < frame → (0 < frame - n % frame) × (frame - n % frame ≤ frame) × ((n + (frame - n % frame)) % frame ≡ 0)
up_to_end frame n low =
    let small = mod-lt n low in
    let whole = mod-add-div' n frame in
    let next : n + (frame - n % frame) ≡ suc (n / frame) * frame = omega arith in
    (omega arith, omega arith, ap (λ (m : ℕ). m % frame) next ∙ mul-mod_left (suc (n / frame)) frame)

pub next_request : (k : TriplexCore) (c : IsTriplexCore k) (s : Replica) → IsFrame s.frame → s.cpu.run + s.frame < 2 ^ 64 → NextRequest (asks_from k s) s.frame
next_request k c s f room = by_due s.due refl
  where
    by_due : (b : Bool) → s.due ≡ b → NextRequest (asks_from k s) s.frame
    by_due true is = search_from k s 0 0 0 refl (omega arith) (λ i h. absurd (omega arith)) (at_most k c s 0 room (omega arith) (inl (is, refl)))
    by_due false is =
        let frame_low = f.low in
        let e = up_to_end s.frame s.cpu.run (omega arith) in
        search_from k s (s.frame - s.cpu.run % s.frame) (s.frame - s.cpu.run % s.frame) 0 (omega arith) e.1 (λ i h. absurd (omega arith))
        (at_most k c s (s.frame - s.cpu.run % s.frame) room e.1 (inr (e.0, e.2)))

-- a request is asked exactly at its end
pub asks_iff : (k : TriplexCore) (frame : ℕ) (s : Replica) (next : NextRequest (asks_from k s) frame) (n : ℕ) → Quiet k n s → (asks_from k s n ≡ true) ↔ (n ≡ next.cycles)
asks_iff k frame s next n q = (λ is. at_end is (cases_lt n next.cycles) (cases_lt next.cycles n), λ same. subst (λ (i : ℕ). asks_from k s i ≡ true) (sym same) next.asks_then)
  where
    clash : (b : Bool) → b ≡ true → b ≡ false → ⊥
    clash b x y = cc

    at_end : asks_from k s n ≡ true → (n < next.cycles) ⊎ (next.cycles ≤ n) → (next.cycles < n) ⊎ (n ≤ next.cycles) → n ≡ next.cycles
    at_end is (inl less) y = absurd (clash (asks_from k s n) is (next.works_before n less))
    at_end is (inr low) (inl more) = absurd (clash (asks_from k s next.cycles) next.asks_then (quiet_asks k n s q next.cycles more))
    at_end is (inr low) (inr high) = omega arith
