-- Ticks of rest: every firing counts alone, and the voter waits.
use Rattle.std.proofs.Common.{◌≡◌, ℕ, zero, suc, ◌+◌, ◌-◌, ◌%◌, ◌^◌, ◌<◌, ◌≤◌, List, [], ◌∷◌, length, refl, sym, ap, subst, ◌∙◌, arith, inl, inr}
use Rattle.std.specs.Prelude.{Bool, true, false, not, min, nat_lt, nat_le, is_some, is_none, ◌&&◌, ◌||◌, ◌⊎◌, Some, None, Ok, Err, if◌then◌else◌}
use Rattle.std.proofs.lemmas.Bool.Decides.{nat_tests}
use Rattle.std.proofs.Math.Nat.{min-le_left, min-le_right, min-eq_left, min-eq_right}
use Rattle.std.specs.declared.option.Option.{Option}
use Rattle.std.specs.Option.{option_map_or}
use Rattle.std.specs.declared.result.Result.{Result}
use Rattle.s2_ports.specs.declared.requests.Posted.{Posted}
use Rattle.s2_ports.specs.declared.requests.Request.{Request}
use Rattle.s2_clock.specs.ClockWatch.{is_firing, slow_of, windows_after, windows_run}
use Rattle.s2_voter.specs.declared.verdicts.Verdict.{Verdict}
use Rattle.s2_voter.specs.declared.verdicts.Verdict.TheVariants.{Waiting, Done, Split}
use Rattle.s2_voter.specs.VoterState.{VoterState, IsVoter, IsAge, is_member, latch_of, has_two_latches}
use Rattle.s2_voter.specs.VoterCalls.{older, started_age, ticked_voter}
use Rattle.s2_voter.specs.VoterRests.{aged_by, aged_voter, rest_of, ticks_to_decision}
use Rattle.s2_voter.specs.Verdicts.{agreed_request, done_with, is_due, is_timed_out, is_unlatched, verdict_of}
use Rattle.s2_voter.proofs.Agreement.{verdict_decided}
use Rattle.s2_module.specs.ModuleRests.{idle_firings, module_idled_by}
use Rattle.s2_revive.specs.MendingBoards.{mended_by}
use Rattle.s2_revive.specs.declared.revive.Mending.{Mending}
use Rattle.s2_triplex.specs.TriplexCores.{TriplexCore}
use Rattle.s2_triplex.specs.R2000Triplex.{r2000_triplex}
use Rattle.s2_triplex.specs.ModuleState.{ModuleState, replica_ask, replica_of}
use Rattle.s2_triplex.specs.ModuleFiring.{after_work_unless_waiting, is_outside, is_posting, is_working, module_idled, module_ticked}
use Rattle.s2_triplex.specs.TriplexState.{TriplexState, module_at, posted_at, three_of}
use Rattle.s2_triplex.specs.TickFirings.{after_firings, latch_taken, latched_from}
use Rattle.s2_triplex.specs.VoterDecision.{StepEffects, after_verdict, no_effects, is_idle_verdict, is_sync_verdict}
use Rattle.s2_triplex.specs.CopyHolds.{hold_begun_if, idled_if, is_holding}
use Rattle.s2_triplex.specs.TickStep.{after_working_tick, idled_after}
use Rattle.s2_triplex.specs.StepTurns.{mended_notes, next_after_tick, tick_answer, turn_notes}
use Rattle.s2_plant.specs.StepParts.{blank_turn, fired_modules, port_of, posting_ticks}
use Rattle.s2_plant.specs.TickRuns.{after_ticks, answer_after, is_any_posting}
use Rattle.s2_plant.specs.TickRests.{any_of, idled_by_if, is_latching_at, is_quiet, is_resting, is_still, is_stirring, is_stirring_at, is_waiting, rest_ahead, rest_at, rest_firings, rested, rested_modules}
use Rattle.s2_plant.proofs.QuietTicks.{idle_rests, lawful_answer, lawful_next, postings_stay}

-- tests
and_first : (a b : Bool) → (a && b) ≡ true → a ≡ true
and_first true b h = refl
and_first false b h = absurd cc

and_second : (a b : Bool) → (a && b) ≡ true → b ≡ true
and_second true b h = h
and_second false b h = absurd cc

both : (a b : Bool) → a ≡ true → b ≡ true → (a && b) ≡ true
both true b e f = f
both false b e f = absurd cc

none_is : (o : Option Mending) → is_none o ≡ true → o ≡ None
none_is None h = refl
none_is (Some m) h = absurd cc

not_true : (b : Bool) → not b ≡ true → b ≡ false
not_true true h = absurd cc
not_true false h = refl

or_first : (a b : Bool) → (a || b) ≡ false → a ≡ false
or_first true b h = absurd cc
or_first false b h = refl

or_second : (a b : Bool) → (a || b) ≡ false → b ≡ false
or_second true b h = absurd cc
or_second false b h = h

none_of_three : (a b c : Bool) → a ≡ false → b ≡ false → c ≡ false → (a || (b || c)) ≡ false
none_of_three true b c x y z = absurd cc
none_of_three false true c x y z = absurd cc
none_of_three false false c x y z = z

-- a firing that counts alone
still_by : (k : TriplexCore) (seen : ℕ) (m : ModuleState) (w : Bool) (o : Option Posted) → (w && not (is_some o)) ≡ false → (if w then after_work_unless_waiting k seen (module_idled m) o else module_idled m) ≡ module_idled m
still_by k seen m false o h = refl
still_by k seen m true (Some posted) h = refl
still_by k seen m true None h = absurd cc

pub still : (k : TriplexCore) (seen : ℕ) (m : ModuleState) (member fires : Bool) → (fires && is_stirring m member) ≡ false → module_ticked k seen member fires m ≡ idled_if fires m
still k seen m member false h = refl
still k seen m member true h = still_by k seen m (is_working m member) m.port h

posts_none : (f w s x : Bool) → (f && (w && not s)) ≡ false → (f && (w && (not s && x))) ≡ false
posts_none false w s x h = refl
posts_none true false s x h = refl
posts_none true true true x h = refl
posts_none true true false x h = absurd cc

-- the voter of such a tick
kept_latch : (m : Bool) (l o : Option Posted) → ((m && is_none l) && is_some o) ≡ false → latch_taken m l o ≡ l
kept_latch m (Some x) o h = refl
kept_latch true None None h = refl
kept_latch true None (Some y) h = absurd cc
kept_latch false None o h = refl

age_kept : (timer : ℕ) (two : Bool) (age : Option ℕ) → is_some age ≡ two → started_age two (older timer age) ≡ older timer age
age_kept timer two (Some a) h = refl
age_kept timer true None h = absurd cc
age_kept timer false None h = refl

same_latches : (latches : List (Option Posted)) → length latches ≡ 3 → (m : List Bool) (a : Option ℕ) (timer : ℕ) → (let v : VoterState = record { members = m; latches = latches; age = a; timer = timer } in three_of (latch_of v)) ≡ latches
same_latches [] h m a timer = absurd (omega arith)
same_latches (x ∷ []) h m a timer = absurd (omega arith)
same_latches (x ∷ y ∷ []) h m a timer = absurd (omega arith)
same_latches (x ∷ y ∷ z ∷ []) h m a timer = refl
same_latches (x ∷ y ∷ z ∷ t ∷ xs) h m a timer = absurd (omega arith)

waited_voter : (v : VoterState) (modules : List ModuleState) → IsVoter v → any_of (is_latching_at v modules) ≡ false → latched_from (port_of modules) v ≡ ticked_voter v
waited_voter v modules kept none =
    let t : ℕ → Bool = is_latching_at v modules in
    let a : t 0 ≡ false = or_first (t 0) (t 1 || t 2) none in
    let rest : (t 1 || t 2) ≡ false = or_second (t 0) (t 1 || t 2) none in
    let b : t 1 ≡ false = or_first (t 1) (t 2) rest in
    let c : t 2 ≡ false = or_second (t 1) (t 2) rest in
    let with : List (Option Posted) → VoterState = λ latches. record { members = v.members; latches = latches; age = started_age (has_two_latches latches) (older v.timer v.age); timer = v.timer } in
    let at : ℕ → Option Posted = λ p. latch_taken (is_member v p) (latch_of v p) (port_of modules p) in
    ap (λ (o : Option Posted). with (o ∷ at 1 ∷ at 2 ∷ [])) (kept_latch (is_member v 0) (latch_of v 0) (port_of modules 0) a)
    ∙ (ap (λ (o : Option Posted). with (latch_of v 0 ∷ o ∷ at 2 ∷ [])) (kept_latch (is_member v 1) (latch_of v 1) (port_of modules 1) b)
    ∙ (ap (λ (o : Option Posted). with (latch_of v 0 ∷ latch_of v 1 ∷ o ∷ [])) (kept_latch (is_member v 2) (latch_of v 2) (port_of modules 2) c)
    ∙ (ap with (same_latches v.latches kept.latches v.members v.age v.timer)
    ∙ ap (λ (x : Option ℕ). let w : VoterState = record v { age = x } in w) (age_kept v.timer (has_two_latches v.latches) v.age kept.aged))))

waits_is : (v : Verdict) → is_waiting v ≡ true → v ≡ Waiting
waits_is Waiting h = refl
waits_is (Done request differ late) h = absurd cc
waits_is Split h = absurd cc

-- a tick of rest
unfoldable pub rest_next : TriplexState → ℕ → TriplexState
rest_next d mask = record d { modules = three_of (λ p. idled_if (is_firing mask p) (module_at d.modules p)); voter = ticked_voter d.voter; ticks = d.ticks + 1; windows = windows_after mask d.tainted d.windows }

module _ (d : TriplexState) (mask : ℕ) (kept : IsVoter d.voter) (size : length d.posted ≡ 3) (fair : slow_of mask d.tainted d.windows ≡ None) (rest : is_resting d mask ≡ true) where
  unmended : d.boards.mending ≡ None
  unmended = none_is d.boards.mending (and_first (is_none d.boards.mending) _ rest)

  rest_still : is_still d mask ≡ true
  rest_still = and_second (is_none d.boards.mending) _ rest

  free : is_holding d.reintegration ≡ false
  free = not_true (is_holding d.reintegration) (and_first (not (is_holding d.reintegration)) _ rest_still)

  rest_work : (not (any_of (is_stirring_at mask d.voter d.modules)) && (not (any_of (is_latching_at d.voter d.modules)) && is_waiting (verdict_of (ticked_voter d.voter)))) ≡ true
  rest_work = and_second (not (is_holding d.reintegration)) _ rest_still

  none_stir : any_of (is_stirring_at mask d.voter d.modules) ≡ false
  none_stir = not_true _ (and_first (not (any_of (is_stirring_at mask d.voter d.modules))) _ rest_work)

  rest_voter : (not (any_of (is_latching_at d.voter d.modules)) && is_waiting (verdict_of (ticked_voter d.voter))) ≡ true
  rest_voter = and_second (not (any_of (is_stirring_at mask d.voter d.modules))) _ rest_work

  none_latch : any_of (is_latching_at d.voter d.modules) ≡ false
  none_latch = not_true _ (and_first (not (any_of (is_latching_at d.voter d.modules))) _ rest_voter)

  waits : verdict_of (ticked_voter d.voter) ≡ Waiting
  waits = waits_is _ (and_second (not (any_of (is_latching_at d.voter d.modules))) _ rest_voter)

  still_at : (p : ℕ) → is_stirring_at mask d.voter d.modules p ≡ false → module_ticked r2000_triplex d.accepted (is_member d.voter p) (is_firing mask p) (module_at d.modules p) ≡ idled_if (is_firing mask p) (module_at d.modules p)
  still_at p h = still r2000_triplex d.accepted (module_at d.modules p) (is_member d.voter p) (is_firing mask p) h

  zero_still : is_stirring_at mask d.voter d.modules 0 ≡ false
  zero_still = or_first _ _ none_stir

  one_still : is_stirring_at mask d.voter d.modules 1 ≡ false
  one_still = or_first _ _ (or_second (is_stirring_at mask d.voter d.modules 0) _ none_stir)

  two_still : is_stirring_at mask d.voter d.modules 2 ≡ false
  two_still = or_second (is_stirring_at mask d.voter d.modules 1) _ (or_second (is_stirring_at mask d.voter d.modules 0) _ none_stir)

  modules_are : fired_modules r2000_triplex d.accepted mask d.voter d.modules ≡ three_of (λ p. idled_if (is_firing mask p) (module_at d.modules p))
  modules_are =
      let was : ℕ → ModuleState = λ p. module_ticked r2000_triplex d.accepted (is_member d.voter p) (is_firing mask p) (module_at d.modules p) in
      let is : ℕ → ModuleState = λ p. idled_if (is_firing mask p) (module_at d.modules p) in
      ap (λ (m : ModuleState). m ∷ was 1 ∷ was 2 ∷ []) (still_at 0 zero_still)
      ∙ (ap (λ (m : ModuleState). is 0 ∷ m ∷ was 2 ∷ []) (still_at 1 one_still) ∙ ap (λ (m : ModuleState). is 0 ∷ is 1 ∷ m ∷ []) (still_at 2 two_still))

  port_same : (p : ℕ) (f : Bool) (m : ModuleState) → (idled_if f m).port ≡ m.port
  port_same p true m = refl
  port_same p false m = refl

  ports_are : any_of (is_latching_at d.voter (three_of (λ p. idled_if (is_firing mask p) (module_at d.modules p)))) ≡ any_of (is_latching_at d.voter d.modules)
  ports_are =
      let test : Option Posted → Option Posted → Option Posted → Bool = λ a b c. (is_unlatched d.voter 0 && is_some a) || ((is_unlatched d.voter 1 && is_some b) || (is_unlatched d.voter 2 && is_some c)) in
      let is : ℕ → Option Posted = λ p. (idled_if (is_firing mask p) (module_at d.modules p)).port in
      ap (λ (o : Option Posted). test o (is 1) (is 2)) (port_same 0 (is_firing mask 0) (module_at d.modules 0))
      ∙ (ap (λ (o : Option Posted). test (port_of d.modules 0) o (is 2)) (port_same 1 (is_firing mask 1) (module_at d.modules 1))
      ∙ ap (λ (o : Option Posted). test (port_of d.modules 0) (port_of d.modules 1) o) (port_same 2 (is_firing mask 2) (module_at d.modules 2)))

  none_posts : is_any_posting r2000_triplex mask d.voter d.modules ≡ false
  none_posts =
      let outside : ℕ → Bool = λ p. is_outside (replica_ask r2000_triplex (replica_of (module_at d.modules p))) in
      let at : (p : ℕ) → is_stirring_at mask d.voter d.modules p ≡ false → (is_firing mask p && is_posting r2000_triplex (module_at d.modules p) (is_member d.voter p)) ≡ false = λ p h.
      posts_none (is_firing mask p) (is_working (module_at d.modules p) (is_member d.voter p)) (is_some (module_at d.modules p).port) (outside p) h in
      none_of_three _ _ _ (at 0 zero_still) (at 1 one_still) (at 2 two_still)

  firings_rest : after_firings r2000_triplex d mask ≡ rest_next d mask
  unfolding rest_next
  firings_rest =
      let with : List ModuleState → VoterState → List ℕ → TriplexState = λ ms v posted. record d { modules = ms; voter = v; ticks = d.ticks + 1; posted = posted; windows = windows_after mask d.tainted d.windows } in
      let idle = three_of (λ p. idled_if (is_firing mask p) (module_at d.modules p)) in
      let posted = posting_ticks r2000_triplex (d.ticks + 1) mask d.voter d.modules d.posted in
      ap (λ (ms : List ModuleState). with ms (latched_from (port_of ms) d.voter) posted) modules_are
      ∙ (ap (λ (v : VoterState). with idle v posted) (waited_voter d.voter idle kept (ports_are ∙ none_latch))
      ∙ ap (with idle (ticked_voter d.voter)) (postings_stay r2000_triplex mask d.voter d.modules none_posts (d.ticks + 1) d.posted size))

  verdict_rests : verdict_of (after_firings r2000_triplex d mask).voter ≡ Waiting
  unfolding rest_next
  verdict_rests = ap (λ (e : TriplexState). verdict_of e.voter) firings_rest ∙ waits

  pub rest_tick : next_after_tick r2000_triplex d mask ≡ rest_next d mask
  rest_tick = lawful_next d mask fair free
      ∙ (ap (λ (v : Verdict). idled_after (is_idle_verdict v) (hold_begun_if (is_sync_verdict v) (after_verdict r2000_triplex (after_firings r2000_triplex d mask) v).next)) verdict_rests
      ∙ (idle_rests true (after_firings r2000_triplex d mask) unmended ∙ firings_rest))

  pub rest_answer : d.halt ≡ None → tick_answer r2000_triplex d mask ≡ Ok blank_turn
  rest_answer running =
      lawful_answer d mask fair free
      ∙ (ap (λ (v : Verdict). Ok (record {
        notes = turn_notes (is_idle_verdict v) (d.ticks + 1) (mended_by d.boards.mending) (after_verdict r2000_triplex (after_firings r2000_triplex d mask) v).effects;
        out = (after_verdict r2000_triplex (after_firings r2000_triplex d mask) v).effects.out;
        halt = (hold_begun_if (is_sync_verdict v) (after_verdict r2000_triplex (after_firings r2000_triplex d mask) v).next).halt;
      })) verdict_rests
      ∙ (ap (λ (o : Option Mending). Ok (record { notes = mended_notes (d.ticks + 1) (mended_by o); out = None; halt = d.halt })) unmended
      ∙ ap (λ (h : Option ℕ). Ok (record { notes = []; out = None; halt = h })) running))
