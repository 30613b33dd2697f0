-- Runs of ticks: what they keep, and how one follows another.
use Rattle.std.proofs.Common.{◌≡◌, ◌≢◌, ℕ, zero, suc, ◌+◌, ◌-◌, ◌^◌, ◌<◌, ◌≤◌, List, [], ◌∷◌, refl, sym, ap, subst, ◌∙◌, arith}
use Rattle.std.specs.Prelude.{Bool, true, false, nat_lt, is_none, ◌&&◌, Some, None, Ok, Err, if◌then◌else◌}
use Rattle.std.proofs.lemmas.Bool.Decides.{nat_tests}
use Rattle.std.specs.declared.option.Option.{Option}
use Rattle.std.specs.declared.result.Result.{Result}
use Rattle.s2_voter.specs.declared.verdicts.Verdict.{Verdict}
use Rattle.s2_voter.specs.declared.verdicts.Verdict.TheVariants.{Waiting, Done, Split}
use Rattle.s2_join.specs.declared.item.Item.{Item}
use Rattle.s2_join.specs.declared.item.Item.TheVariants.{Local, Saved}
use Rattle.s2_join.specs.CopyOrder.{is_last_item}
use Rattle.s2_journal.specs.declared.note.Note.{Note}
use Rattle.s2_journal.specs.declared.note.Reason.{Reason}
use Rattle.s2_triplex.specs.R2000Triplex.{r2000_triplex}
use Rattle.s2_triplex.specs.TriplexState.{TriplexState, Reintegration}
use Rattle.s2_triplex.specs.TickFirings.{after_firings}
use Rattle.s2_triplex.specs.VoterDecision.{StepResult, after_verdict, no_effects, tick_verdict, voted, is_sync_verdict}
use Rattle.s2_triplex.specs.CopyHolds.{hold_begun, hold_begun_if, is_holding, after_idle_tick, item_copied, saved_word_copied, copied, after_hold_tick}
use Rattle.s2_triplex.specs.TickStep.{after_working_tick, ticked}
use Rattle.s2_triplex.specs.StepRefusals.{tick_refusal}
use Rattle.s2_triplex.specs.StepTurns.{Turn, hold_turn, next_after_tick, next_unless_refused, tick_answer, tick_turn, unless_refused, working_turn}
use Rattle.s2_plant.specs.StepParts.{blank_turn}
use Rattle.s2_plant.specs.StepPromises.{IsPlant, TickPromises}
use Rattle.s2_plant.specs.TickRuns.{IsSkip, IsTickRun, after_ticks, answer_after, answer_of, has_no_notes, is_silent}
use Rattle.s2_plant.proofs.PlantSteps.{plant_ticked}
use Rattle.s2_plant.proofs.PlantPromises.{tick_promises}

-- a tick is counted, and its turn tells whether the program has halted
abbrev Same : TriplexState → TriplexState → Type 0
Same d e = (d.ticks ≡ e.ticks) × (d.halt ≡ e.halt)

verdict_ticks : (d : TriplexState) (v : Verdict) → (after_verdict r2000_triplex d v).next.ticks ≡ d.ticks
verdict_ticks d Waiting = refl
verdict_ticks d Split = refl
verdict_ticks d (Done r differ late) = refl

begun_ticks : (d : TriplexState) (o : Option Reintegration) → (hold_begun d o).ticks ≡ d.ticks
begun_ticks d None = refl
begun_ticks d (Some j) = refl

begun_if_ticks : (b : Bool) (d : TriplexState) → (hold_begun_if b d).ticks ≡ d.ticks
begun_if_ticks true d = begun_ticks d d.reintegration
begun_if_ticks false d = refl

saved_same : (b : Bool) (d : TriplexState) (j : Reintegration) → Same (saved_word_copied b d j) d
saved_same true d j = (refl, refl)
saved_same false d j = (refl, refl)

item_same : (d : TriplexState) (j : Reintegration) (items : List Item) → Same (item_copied d j items) d
item_same d j [] = (refl, refl)
item_same d j (Local i ∷ left) = (refl, refl)
item_same d j (Saved n ∷ left) = saved_same (is_last_item (Saved n)) d j

copied_same : (d : TriplexState) (o : Option Reintegration) → Same (copied d o) d
copied_same d None = (refl, refl)
copied_same d (Some j) = item_same d j j.copying.left

abbrev pub Tells : TriplexState → TriplexState → Turn → Type 0
Tells d e t = (e.ticks ≡ d.ticks + 1) × (e.halt ≡ t.halt)

tick_tells_by : (d : TriplexState) (mask : ℕ) (b : Bool) → Tells d (if b then (let s : StepResult = record { next = after_hold_tick d mask; effects = no_effects } in s) else after_working_tick r2000_triplex d mask).next (if b then hold_turn d else working_turn r2000_triplex d mask)
tick_tells_by d mask true = copied_same (after_idle_tick d mask) d.reintegration
tick_tells_by d mask false = (begun_if_ticks (is_sync_verdict (tick_verdict r2000_triplex d mask)) (voted r2000_triplex d mask).next ∙ verdict_ticks (after_firings r2000_triplex d mask) (tick_verdict r2000_triplex d mask), refl)

taken_by : (d : TriplexState) (mask : ℕ) (r : Option Reason) (t : Turn) → unless_refused r (tick_turn r2000_triplex d mask) ≡ Ok t → Tells d (next_unless_refused r (ticked r2000_triplex d mask).next d) t
taken_by d mask (Some reason) t h = absurd cc
taken_by d mask None t h =
    let same : tick_turn r2000_triplex d mask ≡ t = cc in
    let tells = tick_tells_by d mask (is_holding d.reintegration) in
    (tells.0, tells.1 ∙ ap (λ (x : Turn). x.halt) same)

pub tick_taken : (d : TriplexState) (mask : ℕ) (t : Turn) → tick_answer r2000_triplex d mask ≡ Ok t → Tells d (next_after_tick r2000_triplex d mask) t
tick_taken d mask t h = taken_by d mask (tick_refusal d mask) t h

-- ticks that make nothing known keep all, and the program runs on
pub record IsGoing (d : TriplexState) (mask n : ℕ) : Type 0 where
  pub kept : IsPlant (after_ticks r2000_triplex mask n d)
  pub running : (after_ticks r2000_triplex mask n d).halt ≡ None
  pub ticks : (after_ticks r2000_triplex mask n d).ticks ≡ d.ticks + n

pub going : (d : TriplexState) (mask n : ℕ) → IsPlant d → d.halt ≡ None → d.ticks + n ≤ 2 ^ 40 → ((j : ℕ) → j < n → answer_after r2000_triplex mask j d ≡ Ok blank_turn) → IsGoing d mask n
unfolding after_ticks
going d mask zero k runs room silent = record { kept = k; running = runs; ticks = omega arith }
going d mask (suc n) k runs room silent =
    let before = going d mask n k runs (omega arith) (λ j h. silent j (omega arith)) in
    let tells = tick_taken (after_ticks r2000_triplex mask n d) mask blank_turn (silent n (omega arith)) in
    record {
      kept = plant_ticked (after_ticks r2000_triplex mask n d) mask before.kept before.running (omega (arith, before.ticks));
      running = tells.1;
      ticks = omega (arith, tells.0, before.ticks);
    }

-- and one more keeps all
pub run_kept : (d : TriplexState) (mask limit before : ℕ) (e : TriplexState) (last : Result Turn Reason) → IsTickRun d mask limit before e last → IsPlant d → d.halt ≡ None → d.ticks + limit ≤ 2 ^ 40 → IsPlant e
unfolding after_ticks
run_kept d mask limit before e last run k runs room =
    let within = run.within in
    let to = going d mask before k runs (omega arith) run.silent in
    subst IsPlant (sym run.machine) (plant_ticked (after_ticks r2000_triplex mask before d) mask to.kept to.running (omega (arith, to.ticks)))

pub run_tells : (d : TriplexState) (mask limit before : ℕ) (e : TriplexState) (last : Result Turn Reason) → IsTickRun d mask limit before e last → IsPlant d → d.halt ≡ None → d.ticks + limit ≤ 2 ^ 40
    → (j : ℕ) → j ≤ before → TickPromises (after_ticks r2000_triplex mask j d) mask (after_ticks r2000_triplex mask (suc j) d) (answer_after r2000_triplex mask j d)
unfolding after_ticks
run_tells d mask limit before e last run k runs room j low =
    let within = run.within in
    let to = going d mask j k runs (omega arith) (λ i h. run.silent i (omega arith)) in
    tick_promises (after_ticks r2000_triplex mask j d) mask to.kept to.running (omega (arith, to.ticks))

-- ticks after ticks
pub after_more : (mask b j : ℕ) (d : TriplexState) → after_ticks r2000_triplex mask j (after_ticks r2000_triplex mask b d) ≡ after_ticks r2000_triplex mask (b + j) d
unfolding after_ticks
after_more mask b zero d = let same : b ≡ b + 0 = omega arith in ap (λ (n : ℕ). after_ticks r2000_triplex mask n d) same
after_more mask b (suc j) d =
    let next : suc (b + j) ≡ b + suc j = omega arith in
    ap (λ (e : TriplexState). next_after_tick r2000_triplex e mask) (after_more mask b j d) ∙ ap (λ (n : ℕ). after_ticks r2000_triplex mask n d) next

silent_both : (d : TriplexState) (mask b q j : ℕ) (t : Bool) → nat_lt j b ≡ t → j < b + q → ((i : ℕ) → i < b → answer_after r2000_triplex mask i d ≡ Ok blank_turn)
    → ((i : ℕ) → i < q → answer_after r2000_triplex mask i (after_ticks r2000_triplex mask b d) ≡ Ok blank_turn) → answer_after r2000_triplex mask j d ≡ Ok blank_turn
silent_both d mask b q j true is low first more = let less : j < b = grind (arith, nat_tests) in first j less
silent_both d mask b q j false is low first more =
    let up : b ≤ j = grind (arith, nat_tests) in
    let parts : j ≡ b + (j - b) = omega arith in
    ap (λ (n : ℕ). answer_after r2000_triplex mask n d) parts
    ∙ (ap (λ (e : TriplexState). tick_answer r2000_triplex e mask) (sym (after_more mask b (j - b) d)) ∙ more (j - b) (omega arith))

pub run_joined : (d p : TriplexState) (mask n b q : ℕ) (e : TriplexState) (last : Result Turn Reason) → b < n → ((i : ℕ) → i < b → answer_after r2000_triplex mask i d ≡ Ok blank_turn)
    → p ≡ after_ticks r2000_triplex mask b d → IsTickRun p mask (n - b) q e last → IsTickRun d mask n (b + q) e last
run_joined d p mask n b q e last low silent is run =
    let more : IsTickRun (after_ticks r2000_triplex mask b d) mask (n - b) q e last = subst (λ (x : TriplexState). IsTickRun x mask (n - b) q e last) is run in
    let within = more.within in
    let next : b + suc q ≡ suc (b + q) = omega arith in
    record {
      within = omega arith;
      silent = λ j h. silent_both d mask b q j (nat_lt j b) refl h silent more.silent;
      answer = more.answer ∙ ap (λ (x : TriplexState). tick_answer r2000_triplex x mask) (after_more mask b q d);
      machine = more.machine ∙ (after_more mask b (suc q) d ∙ ap (λ (i : ℕ). after_ticks r2000_triplex mask i d) next);
    }

-- an answer that makes nothing known
silent_turn : (notes : List Note) (out halt : Option ℕ) → (has_no_notes notes && (is_none out && is_none halt)) ≡ true → let t : Turn = record { notes = notes; out = out; halt = halt } in t ≡ blank_turn
silent_turn [] None None h = refl
silent_turn [] None (Some v) h = absurd cc
silent_turn [] (Some v) halt h = absurd cc
silent_turn (note ∷ notes) out halt h = absurd cc

pub silent_is : (r : Result Turn Reason) → is_silent r ≡ true → r ≡ Ok blank_turn
silent_is (Ok t) h = ap (λ (x : Turn). let r : Result Turn Reason = Ok x in r) (silent_turn t.notes t.out t.halt h)
silent_is (Err reason) h = absurd cc

pub not_silent : (r : Result Turn Reason) → is_silent r ≡ false → r ≢ Ok blank_turn
not_silent r h e = let yes : is_silent r ≡ true = ap is_silent e in cc

-- the silent ticks with one more
pub silent_more : (d p : TriplexState) (mask n b q : ℕ) (e : TriplexState) (last : Result Turn Reason) → IsTickRun d mask n q e last → last ≡ Ok blank_turn → (i : ℕ) → i < q + 1 → answer_after r2000_triplex mask i d ≡ Ok blank_turn
silent_more d p mask n b q e last run is i low = by_test (nat_lt i q) refl
  where
    by_test : (t : Bool) → nat_lt i q ≡ t → answer_after r2000_triplex mask i d ≡ Ok blank_turn
    by_test true h = let less : i < q = grind (arith, nat_tests) in run.silent i less
    by_test false h = let same : i ≡ q = grind (arith, nat_tests) in ap (λ (n : ℕ). answer_after r2000_triplex mask n d) same ∙ (sym run.answer ∙ is)

-- ticks that were skipped keep all
pub skip_kept : (d : TriplexState) (mask limit n : ℕ) (e : TriplexState) → IsSkip d mask limit n e → IsPlant d → d.halt ≡ None → d.ticks + limit ≤ 2 ^ 40 → IsPlant e
skip_kept d mask limit n e skip k runs room =
    let within = skip.within in
    subst IsPlant (sym skip.machine) (going d mask n k runs (omega arith) skip.silent).kept

-- silent ticks, and then ticks that were skipped
pub record AreSilent (d : TriplexState) (mask limit n : ℕ) (e : TriplexState) : Type 0 where
  pub within : n < limit
  pub silent : (j : ℕ) → j < n → answer_after r2000_triplex mask j d ≡ Ok blank_turn
  pub machine : e ≡ after_ticks r2000_triplex mask n d

pub skip_joined : (d p : TriplexState) (mask limit b k : ℕ) (e : TriplexState) → b < limit → ((i : ℕ) → i < b → answer_after r2000_triplex mask i d ≡ Ok blank_turn)
    → p ≡ after_ticks r2000_triplex mask b d → IsSkip p mask (limit - b - 1) k e → AreSilent d mask limit (b + k) e
skip_joined d p mask limit b k e low silent is skip =
    let more : IsSkip (after_ticks r2000_triplex mask b d) mask (limit - b - 1) k e = subst (λ (x : TriplexState). IsSkip x mask (limit - b - 1) k e) is skip in
    let within = more.within in
    record {
      within = omega arith;
      silent = λ j h. silent_both d mask b k j (nat_lt j b) refl h silent more.silent;
      machine = more.machine ∙ after_more mask b k d;
    }

-- the turn of a tick that makes nothing known
pub turn_blank : (refused : Option Reason) (turn : Turn) → answer_of refused turn ≡ Ok blank_turn → turn ≡ blank_turn
turn_blank None turn e = cc
turn_blank (Some reason) turn e = absurd cc
