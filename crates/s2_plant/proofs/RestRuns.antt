-- Runs of ticks of rest: where they lead, and how long they last.
use Rattle.std.proofs.Common.{◌≡◌, ℕ, zero, suc, ◌+◌, ◌-◌, ◌%◌, ◌^◌, ◌<◌, ◌≤◌, List, [], ◌∷◌, length, refl, sym, ap, subst, ◌∙◌, arith, inl, inr}
use Rattle.std.specs.Prelude.{Bool, true, false, not, min, nat_lt, nat_le, is_some, is_none, ◌&&◌, ◌||◌, ◌⊎◌, Some, None, Ok, Err, if◌then◌else◌}
use Rattle.std.proofs.lemmas.Bool.Decides.{nat_tests}
use Rattle.std.proofs.Math.Nat.{min-le_left, min-le_right, min-eq_left, min-eq_right}
use Rattle.std.specs.declared.option.Option.{Option}
use Rattle.std.specs.Option.{option_map_or}
use Rattle.s2_ports.specs.declared.requests.Posted.{Posted}
use Rattle.s2_ports.specs.declared.requests.Request.{Request}
use Rattle.s2_clock.specs.declared.watch.Slow.{Slow}
use Rattle.s2_clock.specs.ClockWatch.{is_firing, slow_of, windows_run}
use Rattle.s2_voter.specs.declared.verdicts.Verdict.TheVariants.{Waiting, Split}
use Rattle.s2_voter.specs.VoterState.{VoterState, IsVoter, IsAge, is_member}
use Rattle.s2_voter.specs.VoterCalls.{older, ticked_voter}
use Rattle.s2_voter.specs.VoterRests.{aged_by, aged_voter, rest_of, ticks_to_decision}
use Rattle.s2_voter.specs.Verdicts.{agreed_request, done_with, is_due, is_timed_out, is_unlatched, verdict_of}
use Rattle.s2_voter.proofs.Agreement.{verdict_decided}
use Rattle.s2_module.specs.ModuleRests.{idle_firings, module_idled_by}
use Rattle.s2_triplex.specs.R2000Triplex.{r2000_triplex}
use Rattle.s2_triplex.specs.ModuleState.{ModuleState}
use Rattle.s2_triplex.specs.TriplexState.{TriplexState, module_at, three_of}
use Rattle.s2_triplex.specs.CopyHolds.{idled_if, is_holding}
use Rattle.s2_triplex.specs.StepTurns.{next_after_tick, tick_answer}
use Rattle.s2_plant.specs.StepParts.{blank_turn, port_of}
use Rattle.s2_plant.specs.TickRuns.{IsSkip, after_ticks, answer_after}
use Rattle.s2_plant.specs.TickRests.{any_of, idled_by_if, is_latching_at, is_quiet, is_resting, is_still, is_stirring, is_stirring_at, is_waiting, rest_ahead, still_ahead, rest_at, rest_firings, rested, rested_modules}
use Rattle.s2_plant.proofs.RestTicks.{rest_next, rest_tick, rest_answer}

-- modules
pub idle_more : (f : Bool) (n : ℕ) (m : ModuleState) → idled_if f (idled_by_if f n m) ≡ idled_by_if f (suc n) m
idle_more false n m = refl
idle_more true n m = let e : ((m.fires + n) % 256 + 1) % 256 ≡ (m.fires + suc n) % 256 = omega arith in ap (λ (x : ℕ). record m { fires = x }) e

idle_none : (f : Bool) (m : ModuleState) → m.fires < 256 → idled_by_if f 0 m ≡ m
idle_none false m h = refl
idle_none true m h = let e : (m.fires + 0) % 256 ≡ m.fires = omega arith in ap (λ (x : ℕ). record m { fires = x }) e

pub port_kept : (f : Bool) (n : ℕ) (m : ModuleState) → (idled_by_if f n m).port ≡ m.port
port_kept true n m = refl
port_kept false n m = refl

and_false : (b : Bool) → (b && false) ≡ false
and_false true = refl
and_false false = refl

stir_before : (m : ModuleState) (n : ℕ) (u s l : Bool) → nat_lt m.fires 254 ≡ l → n < (if u || s then 2 ^ 64 - 1 else if l then 0 else 256 - m.fires) → ((not u && nat_lt ((m.fires + n) % 256) 254) && not s) ≡ false
stir_before m n true s l e h = refl
stir_before m n false true l e h = and_false (nat_lt ((m.fires + n) % 256) 254)
stir_before m n false false true e h = absurd (omega arith)
stir_before m n false false false e h =
    let high : 254 ≤ m.fires = grind (arith, nat_tests) in
    let same : (m.fires + n) % 256 ≡ m.fires + n = omega arith in
    let up : nat_lt (m.fires + n) 254 ≡ false = grind (arith, nat_tests) in
    ap (λ (x : ℕ). nat_lt x 254 && true) same ∙ ap (λ (b : Bool). b && true) up

at_rest : (m : ModuleState) (f member : Bool) (n : ℕ) → n < (if f && member then idle_firings m else 2 ^ 64 - 1) → (f && is_stirring (idled_by_if f n m) member) ≡ false
at_rest m false member n h = refl
at_rest m true false n h = refl
at_rest m true true n h = stir_before m n m.muted (is_some m.port) (nat_lt m.fires 254) refl h

stir_after : (m : ModuleState) (n : ℕ) (u s l : Bool) → nat_lt m.fires 254 ≡ l → m.fires < 256 → n ≡ (if u || s then 2 ^ 64 - 1 else if l then 0 else 256 - m.fires) → n < 2 ^ 64 - 1 → ((not u && nat_lt ((m.fires + n) % 256) 254) && not s) ≡ true
stir_after m n true s l e r h few = absurd (omega arith)
stir_after m n false true l e r h few = absurd (omega arith)
stir_after m n false false true e r h few =
    let same : (m.fires + n) % 256 ≡ m.fires = omega arith in
    ap (λ (x : ℕ). nat_lt x 254 && true) same ∙ ap (λ (b : Bool). b && true) e
stir_after m n false false false e r h few =
    let same : (m.fires + n) % 256 ≡ 0 = omega arith in
    ap (λ (x : ℕ). nat_lt x 254 && true) same

rest_over : (m : ModuleState) (f member : Bool) (n : ℕ) → m.fires < 256 → n ≡ (if f && member then idle_firings m else 2 ^ 64 - 1) → n < 2 ^ 64 - 1 → (f && is_stirring (idled_by_if f n m) member) ≡ true
rest_over m false member n r h few = absurd (omega arith)
rest_over m true false n r h few = absurd (omega arith)
rest_over m true true n r h few = stir_after m n m.muted (is_some m.port) (nat_lt m.fires 254) refl r h few

-- the voter's age
age_by : (timer a n : ℕ) (t u : Bool) → nat_lt (a + n) timer ≡ t → nat_lt (a + suc n) timer ≡ u → older timer (Some (if t then a + n else timer)) ≡ Some (if u then a + suc n else timer)
age_by timer a n true true e f = (let s : a + n + 1 ≡ a + suc n = omega arith in ap (λ (b : Bool). Some (if b then a + n + 1 else a + n)) e ∙ ap (λ (x : ℕ). Some x) s)
age_by timer a n true false e f = (let s : a + n + 1 ≡ timer = grind (arith, nat_tests) in ap (λ (b : Bool). Some (if b then a + n + 1 else a + n)) e ∙ ap (λ (x : ℕ). Some x) s)
age_by timer a n false true e f = absurd (grind (arith, nat_tests))
age_by timer a n false false e f = (let end : nat_lt timer timer ≡ false = grind (arith, nat_tests) in ap (λ (b : Bool). Some (if b then timer + 1 else timer)) end)

age_more : (timer n : ℕ) (age : Option ℕ) → older timer (aged_by timer n age) ≡ aged_by timer (suc n) age
age_more timer n None = refl
age_more timer n (Some a) = age_by timer a n (nat_lt (a + n) timer) (nat_lt (a + suc n) timer) refl refl

age_none_by : (timer a : ℕ) (t : Bool) → nat_lt (a + 0) timer ≡ t → a ≤ timer → (if t then a + 0 else timer) ≡ a
age_none_by timer a true e h = omega arith
age_none_by timer a false e h = let up : timer ≤ a + 0 = grind (arith, nat_tests) in omega arith

age_none : (timer : ℕ) (age : Option ℕ) → IsAge timer age → aged_by timer 0 age ≡ age
age_none timer None h = refl
age_none timer (Some a) h = ap (λ (x : ℕ). Some x) (age_none_by timer a (nat_lt (a + 0) timer) refl h)

age_there : (timer n : ℕ) (age : Option ℕ) → is_some (aged_by timer n age) ≡ is_some age
age_there timer n None = refl
age_there timer n (Some a) = refl

age_most : (timer a n : ℕ) (t : Bool) → nat_lt (a + n) timer ≡ t → (if t then a + n else timer) ≤ timer
age_most timer a n true e = let low : a + n < timer = grind (arith, nat_tests) in omega arith
age_most timer a n false e = omega arith

age_in : (timer n : ℕ) (age : Option ℕ) → IsAge timer (aged_by timer n age)
age_in timer n None = tt
age_in timer n (Some a) = age_most timer a n (nat_lt (a + n) timer) refl

voter_kept : (n : ℕ) (v : VoterState) → IsVoter v → IsVoter (aged_voter n v)
voter_kept n v k = record { members = k.members; latches = k.latches; latched = k.latched; aged = age_there v.timer n v.age ∙ k.aged; age = age_in v.timer n v.age; timer = k.timer }

timed_before : (timer n : ℕ) (age : Option ℕ) → n < rest_of timer age → is_timed_out timer (aged_by timer (suc n) age) ≡ false
timed_before timer n None h = refl
timed_before timer n (Some a) h =
    let low : nat_lt (a + suc n) timer ≡ true = grind (arith, nat_tests) in
    let not_yet : nat_le timer (a + suc n) ≡ false = grind (arith, nat_tests) in
    ap (λ (b : Bool). nat_le timer (if b then a + suc n else timer)) low ∙ not_yet

timed_after : (timer n : ℕ) (age : Option ℕ) → IsAge timer age → n ≡ rest_of timer age → n < 2 ^ 64 - 1 → is_timed_out timer (aged_by timer (suc n) age) ≡ true
timed_after timer n None k h few = absurd (omega arith)
timed_after timer n (Some a) k h few =
    let up : nat_lt (a + suc n) timer ≡ false = grind (arith, nat_tests) in
    let out : nat_le timer timer ≡ true = grind (arith, nat_tests) in
    ap (λ (b : Bool). nat_le timer (if b then a + suc n else timer)) up ∙ out

pub waiting_if : (w : VoterState) (b : Bool) → is_due w ≡ b → is_waiting (verdict_of w) ≡ is_waiting (if b then option_map_or (done_with w) (agreed_request w.latches) Split else Waiting)
waiting_if w b e = ap is_waiting (verdict_decided w) ∙ ap (λ (x : Bool). is_waiting (if x then option_map_or (done_with w) (agreed_request w.latches) Split else Waiting)) e

due_waits : (w : VoterState) (o : Option Request) → is_waiting (option_map_or (done_with w) o Split) ≡ false
due_waits w None = refl
due_waits w (Some r) = refl

-- who is not latched
pub unlatched_due : (a b c t : Bool) → (a || (b || c)) ≡ true → t ≡ false → ((not a && (not b && (not c && true))) || t) ≡ false
unlatched_due true b c t h e = e
unlatched_due false true c t h e = e
unlatched_due false false true t h e = e
unlatched_due false false false t h e = absurd cc

all_due : (a b c t : Bool) → (a || (b || c)) ≡ false → ((not a && (not b && (not c && true))) || t) ≡ true
all_due true b c t h = absurd cc
all_due false true c t h = absurd cc
all_due false false true t h = absurd cc
all_due false false false t h = refl

timed_due : (a t : Bool) → t ≡ true → (a || t) ≡ true
timed_due true t h = refl
timed_due false t h = h

waits_before : (v : VoterState) (n : ℕ) (u : Bool) → (is_unlatched v 0 || (is_unlatched v 1 || is_unlatched v 2)) ≡ u → n < (if u then rest_of v.timer v.age else 0) → is_waiting (verdict_of (ticked_voter (aged_voter n v))) ≡ true
waits_before v n false e h = absurd (omega arith)
waits_before v n true e h =
    let w : VoterState = ticked_voter (aged_voter n v) in
    let timed : is_timed_out v.timer w.age ≡ false = ap (is_timed_out v.timer) (age_more v.timer n v.age) ∙ timed_before v.timer n v.age h in
    waiting_if w false (unlatched_due (is_unlatched v 0) (is_unlatched v 1) (is_unlatched v 2) (is_timed_out v.timer w.age) e timed)

waits_over : (v : VoterState) (n : ℕ) (u : Bool) → (is_unlatched v 0 || (is_unlatched v 1 || is_unlatched v 2)) ≡ u → IsAge v.timer v.age → n ≡ (if u then rest_of v.timer v.age else 0) → n < 2 ^ 64 - 1 → is_waiting (verdict_of (ticked_voter (aged_voter n v))) ≡ false
waits_over v n false e k h few =
    let w : VoterState = ticked_voter (aged_voter n v) in
    waiting_if w true (all_due (is_unlatched v 0) (is_unlatched v 1) (is_unlatched v 2) (is_timed_out v.timer w.age) e) ∙ due_waits w (agreed_request w.latches)
waits_over v n true e k h few =
    let w : VoterState = ticked_voter (aged_voter n v) in
    let timed : is_timed_out v.timer w.age ≡ true = ap (is_timed_out v.timer) (age_more v.timer n v.age) ∙ timed_after v.timer n v.age k h few in
    waiting_if w true (timed_due (not (is_unlatched v 0) && (not (is_unlatched v 1) && (not (is_unlatched v 2) && true))) (is_timed_out v.timer w.age) timed) ∙ due_waits w (agreed_request w.latches)

-- least numbers
min_below : (n a b : ℕ) → n < min a b → (n < a) × (n < b)
min_below n a b h = let x = min-le_left a b in let y = min-le_right a b in (omega arith, omega arith)

min_is : (a b : ℕ) → (min a b ≡ a) ⊎ (min a b ≡ b)
min_is a b = by_test (nat_le a b) refl
  where
    by_test : (t : Bool) → nat_le a b ≡ t → (min a b ≡ a) ⊎ (min a b ≡ b)
    by_test true e = let low : a ≤ b = grind (arith, nat_tests) in inl (min-eq_left low)
    by_test false e = let low : b ≤ a = grind (arith, nat_tests) in inr (min-eq_right low)

-- tests
three_none : (a b c : Bool) → a ≡ false → b ≡ false → c ≡ false → not (a || (b || c)) ≡ true
three_none true b c x y z = absurd cc
three_none false true c x y z = absurd cc
three_none false false true x y z = absurd cc
three_none false false false x y z = refl

first_one : (a b c : Bool) → a ≡ true → not (a || (b || c)) ≡ false
first_one a b c h = ap (λ (x : Bool). not (x || (b || c))) h

second_one : (a b c : Bool) → b ≡ true → not (a || (b || c)) ≡ false
second_one true b c h = refl
second_one false b c h = ap (λ (x : Bool). not (x || c)) h

third_one : (a b c : Bool) → c ≡ true → not (a || (b || c)) ≡ false
third_one true b c h = refl
third_one false true c h = refl
third_one false false c h = ap not h

not_of : (b : Bool) → b ≡ false → not b ≡ true
not_of b h = ap not h

all_four : (a b c e : Bool) → a ≡ true → b ≡ true → c ≡ true → e ≡ true → (a && (b && (c && e))) ≡ true
all_four true true true e x y z w = w
all_four true true false e x y z w = absurd cc
all_four true false c e x y z w = absurd cc
all_four false b c e x y z w = absurd cc

first_fails : (a b c e : Bool) → a ≡ false → (a && (b && (c && e))) ≡ false
first_fails a b c e h = ap (λ (x : Bool). x && (b && (c && e))) h

second_fails : (a b c e : Bool) → b ≡ false → (a && (b && (c && e))) ≡ false
second_fails true b c e h = ap (λ (x : Bool). x && (c && e)) h
second_fails false b c e h = refl

third_fails : (a b c e : Bool) → c ≡ false → (a && (b && (c && e))) ≡ false
third_fails true true c e h = ap (λ (x : Bool). x && e) h
third_fails true false c e h = refl
third_fails false b c e h = refl

fourth_fails : (a b c e : Bool) → e ≡ false → (a && (b && (c && e))) ≡ false
fourth_fails true true true e h = h
fourth_fails true true false e h = refl
fourth_fails true false c e h = refl
fourth_fails false b c e h = refl

both_none : (a b : Bool) → (a || b) ≡ false → (a ≡ false) × (b ≡ false)
both_none true b h = absurd cc
both_none false b h = (refl, h)

one_of : (a b : Bool) → (a || b) ≡ true → (a ≡ true) ⊎ (b ≡ true)
one_of true b h = inl refl
one_of false b h = inr h

module _ (d : TriplexState) (mask : ℕ) where
  -- the requests that would be latched are as before
  latching_same : (n : ℕ) → any_of (is_latching_at (aged_voter n d.voter) (rested_modules mask n d.modules)) ≡ any_of (is_latching_at d.voter d.modules)
  latching_same n =
      let test : Option Posted → Option Posted → Option Posted → Bool = λ a b c. (is_unlatched d.voter 0 && is_some a) || ((is_unlatched d.voter 1 && is_some b) || (is_unlatched d.voter 2 && is_some c)) in
      let is : ℕ → Option Posted = λ p. (idled_by_if (is_firing mask p) n (module_at d.modules p)).port in
      ap (λ (o : Option Posted). test o (is 1) (is 2)) (port_kept (is_firing mask 0) n (module_at d.modules 0))
      ∙ (ap (λ (o : Option Posted). test (port_of d.modules 0) o (is 2)) (port_kept (is_firing mask 1) n (module_at d.modules 1))
      ∙ ap (λ (o : Option Posted). test (port_of d.modules 0) (port_of d.modules 1) o) (port_kept (is_firing mask 2) n (module_at d.modules 2)))

  still_by : (n : ℕ) (stop : Bool) → (is_holding d.reintegration || any_of (is_latching_at d.voter d.modules)) ≡ stop → n < (if stop then 0 else min (rest_firings mask d.voter d.modules) (ticks_to_decision d.voter)) → is_still (rested d mask n) mask ≡ true
  still_by n true e h = absurd (omega arith)
  still_by n false e h =
      let free = both_none (is_holding d.reintegration) (any_of (is_latching_at d.voter d.modules)) e in
      let low = min_below n (rest_firings mask d.voter d.modules) (ticks_to_decision d.voter) h in
      let first = min_below n (rest_at mask d.voter d.modules 0) (min (rest_at mask d.voter d.modules 1) (rest_at mask d.voter d.modules 2)) low.0 in
      let others = min_below n (rest_at mask d.voter d.modules 1) (rest_at mask d.voter d.modules 2) first.1 in
      all_four _ _ _ _ (not_of (is_holding d.reintegration) free.0)
      (three_none _ _ _ (at_rest (module_at d.modules 0) (is_firing mask 0) (is_member d.voter 0) n first.0) (at_rest (module_at d.modules 1) (is_firing mask 1) (is_member d.voter 1) n others.0) (at_rest (module_at d.modules 2) (is_firing mask 2) (is_member d.voter 2) n others.1))
      (not_of _ (latching_same n ∙ free.1))
      (waits_before d.voter n (is_unlatched d.voter 0 || (is_unlatched d.voter 1 || is_unlatched d.voter 2)) refl low.1)

  resting_if : (n : ℕ) (b : Bool) → n < (if b then still_ahead d mask else 0) → (b && is_still (rested d mask n) mask) ≡ true
  resting_if n true h = still_by n (is_holding d.reintegration || any_of (is_latching_at d.voter d.modules)) refl h
  resting_if n false h = absurd (omega arith)

  pub resting_at : (n : ℕ) → n < rest_ahead d mask → is_resting (rested d mask n) mask ≡ true
  resting_at n h = resting_if n (is_none d.boards.mending) h

  module _ (kept : IsVoter d.voter) (r0 : (module_at d.modules 0).fires < 256) (r1 : (module_at d.modules 1).fires < 256) (r2 : (module_at d.modules 2).fires < 256) where
    over_by : (n : ℕ) (stop : Bool) → (is_holding d.reintegration || any_of (is_latching_at d.voter d.modules)) ≡ stop → n ≡ (if stop then 0 else min (rest_firings mask d.voter d.modules) (ticks_to_decision d.voter)) → n < 2 ^ 64 - 1 → is_still (rested d mask n) mask ≡ false
    over_by n true e h few =
        let free : Bool = not (is_holding d.reintegration) in
        let stirs : ℕ → Bool = is_stirring_at mask (aged_voter n d.voter) (rested_modules mask n d.modules) in
        let latches : Bool = any_of (is_latching_at (aged_voter n d.voter) (rested_modules mask n d.modules)) in
        let waits : Bool = is_waiting (verdict_of (ticked_voter (aged_voter n d.voter))) in
        elim (one_of (is_holding d.reintegration) (any_of (is_latching_at d.voter d.modules)) e) [
          | inl x ↦ first_fails free (not (any_of stirs)) (not latches) waits (ap not x)
          | inr x ↦ third_fails free (not (any_of stirs)) (not latches) waits (ap not (latching_same n ∙ x))
        ]
    over_by n false e h few =
        let free : Bool = not (is_holding d.reintegration) in
        let stirs : ℕ → Bool = is_stirring_at mask (aged_voter n d.voter) (rested_modules mask n d.modules) in
        let latches : Bool = any_of (is_latching_at (aged_voter n d.voter) (rested_modules mask n d.modules)) in
        let waits : Bool = is_waiting (verdict_of (ticked_voter (aged_voter n d.voter))) in
        elim (min_is (rest_firings mask d.voter d.modules) (ticks_to_decision d.voter)) [
          | inl x ↦ elim (min_is (rest_at mask d.voter d.modules 0) (min (rest_at mask d.voter d.modules 1) (rest_at mask d.voter d.modules 2))) [
            | inl y ↦ second_fails free (not (any_of stirs)) (not latches) waits (first_one (stirs 0) (stirs 1) (stirs 2) (rest_over (module_at d.modules 0) (is_firing mask 0) (is_member d.voter 0) n r0 (h ∙ (x ∙ y)) few))
            | inr y ↦ elim (min_is (rest_at mask d.voter d.modules 1) (rest_at mask d.voter d.modules 2)) [
              | inl z ↦ second_fails free (not (any_of stirs)) (not latches) waits (second_one (stirs 0) (stirs 1) (stirs 2) (rest_over (module_at d.modules 1) (is_firing mask 1) (is_member d.voter 1) n r1 (h ∙ (x ∙ (y ∙ z))) few))
              | inr z ↦ second_fails free (not (any_of stirs)) (not latches) waits (third_one (stirs 0) (stirs 1) (stirs 2) (rest_over (module_at d.modules 2) (is_firing mask 2) (is_member d.voter 2) n r2 (h ∙ (x ∙ (y ∙ z))) few))
            ]
          ]
          | inr x ↦ fourth_fails free (not (any_of stirs)) (not latches) waits
              (waits_over d.voter n (is_unlatched d.voter 0 || (is_unlatched d.voter 1 || is_unlatched d.voter 2)) refl kept.age (h ∙ x) few)
        ]

    over_if : (n : ℕ) (b : Bool) → n ≡ (if b then still_ahead d mask else 0) → n < 2 ^ 64 - 1 → (b && is_still (rested d mask n) mask) ≡ false
    over_if n true h few = over_by n (is_holding d.reintegration || any_of (is_latching_at d.voter d.modules)) refl h few
    over_if n false h few = refl

    pub resting_over : (n : ℕ) → n ≡ rest_ahead d mask → n < 2 ^ 64 - 1 → is_resting (rested d mask n) mask ≡ false
    resting_over n h few = over_if n (is_none d.boards.mending) h few

-- three modules
three_kept : (modules : List ModuleState) → length modules ≡ 3 → module_at modules 0 ∷ module_at modules 1 ∷ module_at modules 2 ∷ [] ≡ modules
three_kept [] h = absurd (omega arith)
three_kept (a ∷ []) h = absurd (omega arith)
three_kept (a ∷ b ∷ []) h = absurd (omega arith)
three_kept (a ∷ b ∷ c ∷ []) h = refl
three_kept (a ∷ b ∷ c ∷ e ∷ xs) h = absurd (omega arith)

quiet_if : (o : Option Slow) (b : Bool) → o ≡ None → b ≡ true → (is_none o && b) ≡ true
quiet_if None b e h = h
quiet_if (Some s) b e h = absurd cc

module _ (d : TriplexState) (mask : ℕ) (kept : IsVoter d.voter) (size : length d.posted ≡ 3) (three : length d.modules ≡ 3) (r0 : (module_at d.modules 0).fires < 256) (r1 : (module_at d.modules 1).fires < 256) (r2 : (module_at d.modules 2).fires < 256) (running : d.halt ≡ None) where
  starts : d ≡ rested d mask 0
  starts =
      let with : List ModuleState → VoterState → ℕ → TriplexState = λ ms v t. record d { modules = ms; voter = v; ticks = t } in
      let at : ℕ → ModuleState = λ p. module_at d.modules p in
      let t0 : d.ticks + 0 ≡ d.ticks = omega arith in
      sym (ap (λ (m : ModuleState). with (m ∷ idled_by_if (is_firing mask 1) 0 (at 1) ∷ idled_by_if (is_firing mask 2) 0 (at 2) ∷ []) (aged_voter 0 d.voter) (d.ticks + 0)) (idle_none (is_firing mask 0) (at 0) r0)
      ∙ (ap (λ (m : ModuleState). with (at 0 ∷ m ∷ idled_by_if (is_firing mask 2) 0 (at 2) ∷ []) (aged_voter 0 d.voter) (d.ticks + 0)) (idle_none (is_firing mask 1) (at 1) r1)
      ∙ (ap (λ (m : ModuleState). with (at 0 ∷ at 1 ∷ m ∷ []) (aged_voter 0 d.voter) (d.ticks + 0)) (idle_none (is_firing mask 2) (at 2) r2)
      ∙ (ap (λ (ms : List ModuleState). with ms (aged_voter 0 d.voter) (d.ticks + 0)) (three_kept d.modules three)
      ∙ (ap (λ (a : Option ℕ). with d.modules (record d.voter { age = a }) (d.ticks + 0)) (age_none d.voter.timer d.voter.age kept.age)
      ∙ ap (with d.modules d.voter) t0)))))

  goes_on : (n : ℕ) → slow_of mask d.tainted (windows_run mask d.tainted n d.windows) ≡ None → is_resting (rested d mask n) mask ≡ true → next_after_tick r2000_triplex (rested d mask n) mask ≡ rested d mask (suc n)
  unfolding rest_next
  goes_on n fair rest =
      let with : List ModuleState → VoterState → ℕ → TriplexState = λ ms v t. record d { modules = ms; voter = v; ticks = t; windows = windows_run mask d.tainted (suc n) d.windows } in
      let was : ℕ → ModuleState = λ p. idled_if (is_firing mask p) (idled_by_if (is_firing mask p) n (module_at d.modules p)) in
      let is : ℕ → ModuleState = λ p. idled_by_if (is_firing mask p) (suc n) (module_at d.modules p) in
      let v = ticked_voter (aged_voter n d.voter) in
      let t1 : d.ticks + n + 1 ≡ d.ticks + suc n = omega arith in
      rest_tick (rested d mask n) mask (voter_kept n d.voter kept) size fair rest
      ∙ (ap (λ (m : ModuleState). with (m ∷ was 1 ∷ was 2 ∷ []) v (d.ticks + n + 1)) (idle_more (is_firing mask 0) n (module_at d.modules 0))
      ∙ (ap (λ (m : ModuleState). with (is 0 ∷ m ∷ was 2 ∷ []) v (d.ticks + n + 1)) (idle_more (is_firing mask 1) n (module_at d.modules 1))
      ∙ (ap (λ (m : ModuleState). with (is 0 ∷ is 1 ∷ m ∷ []) v (d.ticks + n + 1)) (idle_more (is_firing mask 2) n (module_at d.modules 2))
      ∙ (ap (λ (a : Option ℕ). with (is 0 ∷ is 1 ∷ is 2 ∷ []) (record d.voter { age = a }) (d.ticks + n + 1)) (age_more d.voter.timer n d.voter.age)
      ∙ ap (with (is 0 ∷ is 1 ∷ is 2 ∷ []) (aged_voter (suc n) d.voter)) t1))))

  leads : (n : ℕ) → ((j : ℕ) → j < n → slow_of mask d.tainted (windows_run mask d.tainted j d.windows) ≡ None) → n ≤ rest_ahead d mask → after_ticks r2000_triplex mask n d ≡ rested d mask n
  unfolding after_ticks
  leads zero fair low = starts
  leads (suc n) fair low =
      ap (λ (e : TriplexState). next_after_tick r2000_triplex e mask) (leads n (λ j h. fair j (omega arith)) (omega arith)) ∙ goes_on n (fair n (omega arith)) (resting_at d mask n (omega arith))

  quiet_at : (n : ℕ) → ((j : ℕ) → j < suc n → slow_of mask d.tainted (windows_run mask d.tainted j d.windows) ≡ None) → n < rest_ahead d mask → (is_quiet (after_ticks r2000_triplex mask n d) mask ≡ true) × (answer_after r2000_triplex mask n d ≡ Ok blank_turn)
  quiet_at n fair low =
      let to = leads n (λ j h. fair j (omega arith)) (omega arith) in
      let rest = resting_at d mask n low in
      let here = fair n (omega arith) in (
        ap (λ (e : TriplexState). is_quiet e mask) to ∙ quiet_if (slow_of mask d.tainted (windows_run mask d.tainted n d.windows)) (is_resting (rested d mask n) mask) here rest,
        ap (λ (e : TriplexState). tick_answer r2000_triplex e mask) to ∙ rest_answer (rested d mask n) mask (voter_kept n d.voter kept) size here rest running,
      )

  slow_stops : (o : Option Slow) (b : Bool) → (o ≡ None → ⊥) → (is_none o && b) ≡ false
  slow_stops None b h = absurd (h refl)
  slow_stops (Some s) b h = refl

  rest_stops : (o : Option Slow) (b : Bool) → b ≡ false → (is_none o && b) ≡ false
  rest_stops None b h = h
  rest_stops (Some s) b h = refl

  -- so many at once
  pub skipped : (limit n : ℕ) (e : TriplexState) → limit < 2 ^ 64 - 1 → n ≤ min (rest_ahead d mask) limit → ((j : ℕ) → j < n → slow_of mask d.tainted (windows_run mask d.tainted j d.windows) ≡ None)
      → (n < min (rest_ahead d mask) limit → slow_of mask d.tainted (windows_run mask d.tainted n d.windows) ≡ None → ⊥) → e ≡ rested d mask n → IsSkip d mask limit n e
  skipped limit n e few most fair stops is =
      let l = min-le_left (rest_ahead d mask) limit in
      let r = min-le_right (rest_ahead d mask) limit in
      record {
        within = omega arith;
        quiet = λ j h. (quiet_at j (λ i k. fair i (omega arith)) (omega arith)).0;
        silent = λ j h. (quiet_at j (λ i k. fair i (omega arith)) (omega arith)).1;
        stops = λ h. ap (λ (x : TriplexState). is_quiet x mask) (leads n fair (omega arith)) ∙ over (nat_lt n (min (rest_ahead d mask) limit)) refl h;
        machine = is ∙ sym (leads n fair (omega arith));
      }
    where
      over : (t : Bool) → nat_lt n (min (rest_ahead d mask) limit) ≡ t → n < limit → is_quiet (rested d mask n) mask ≡ false
      over true h low = let less : n < min (rest_ahead d mask) limit = grind (arith, nat_tests) in slow_stops (slow_of mask d.tainted (windows_run mask d.tainted n d.windows)) (is_resting (rested d mask n) mask) (stops less)
      over false h low =
          let all : min (rest_ahead d mask) limit ≤ n = grind (arith, nat_tests) in
          let l = min-le_left (rest_ahead d mask) limit in
          elim (min_is (rest_ahead d mask) limit) [
            | inl x ↦ (let here : n ≡ rest_ahead d mask = omega arith in rest_stops (slow_of mask d.tainted (windows_run mask d.tainted n d.windows)) (is_resting (rested d mask n) mask) (resting_over d mask kept r0 r1 r2 n here (omega arith)))
            | inr x ↦ absurd (omega arith)
          ]

-- the parts after them
pub rested_is : (d : TriplexState) (mask n : ℕ) (ms : List ModuleState) (v : VoterState) (w : List (List Bool)) → ms ≡ rested_modules mask n d.modules → v ≡ aged_voter n d.voter → w ≡ windows_run mask d.tainted n d.windows
    → record d { modules = ms; voter = v; ticks = d.ticks + n; windows = w } ≡ rested d mask n
rested_is d mask n ms v w a b c =
    ap (λ (x : List ModuleState). record d { modules = x; voter = v; ticks = d.ticks + n; windows = w }) a
    ∙ (ap (λ (x : VoterState). record d { modules = rested_modules mask n d.modules; voter = x; ticks = d.ticks + n; windows = w }) b
    ∙ ap (λ (x : List (List Bool)). record d { modules = rested_modules mask n d.modules; voter = aged_voter n d.voter; ticks = d.ticks + n; windows = x }) c)

-- and the machine that they are parts of
pub skipped_at : (d now : TriplexState) (mask limit n bound : ℕ) (ms : List ModuleState) (v : VoterState) (w : List (List Bool)) → d ≡ now → IsVoter now.voter → now.halt ≡ None
    → length d.posted ≡ 3 → length d.modules ≡ 3 → (module_at d.modules 0).fires < 256 → (module_at d.modules 1).fires < 256 → (module_at d.modules 2).fires < 256
    → limit < 2 ^ 64 - 1 → bound ≡ min (rest_ahead now mask) limit → n ≤ bound → ((j : ℕ) → j < n → slow_of mask d.tainted (windows_run mask d.tainted j d.windows) ≡ None)
    → (n < bound → slow_of mask d.tainted w ≡ None → ⊥) → ms ≡ rested_modules mask n d.modules → v ≡ aged_voter n d.voter → w ≡ windows_run mask d.tainted n d.windows
    → IsSkip now mask limit n (record d { modules = ms; voter = v; ticks = d.ticks + n; windows = w })
skipped_at d now mask limit n bound ms v w same kept running size three r0 r1 r2 few least most fair stops a b c =
    let e : TriplexState = record d { modules = ms; voter = v; ticks = d.ticks + n; windows = w } in
    let voter : IsVoter d.voter = subst (λ (x : TriplexState). IsVoter x.voter) (sym same) kept in
    let runs : d.halt ≡ None = ap (λ (x : TriplexState). x.halt) same ∙ running in
    let here : bound ≡ min (rest_ahead d mask) limit = least ∙ ap (λ (x : TriplexState). min (rest_ahead x mask) limit) (sym same) in
    let within : n ≤ min (rest_ahead d mask) limit = subst (λ (x : ℕ). n ≤ x) here most in
    subst (λ (x : TriplexState). IsSkip x mask limit n e) same
    (skipped d mask voter size three r0 r1 r2 runs limit n e few within fair
    (λ h s. stops (subst (λ (x : ℕ). n < x) (sym here) h) (ap (slow_of mask d.tainted) c ∙ s)) (rested_is d mask n ms v w a b c))
