-- The skew at the verdict of a tick, after a decision, and after an act.
use Rattle.std.proofs.Common.{◌≡◌, ℕ, zero, suc, ◌+◌, ◌<◌, ◌≤◌, List, refl, sym, ap, subst, inl, inr, ◌∙◌, arith}
use Rattle.std.specs.Prelude.{Bool, true, false, not, ◌&&◌, ◌||◌, ◌⊎◌, Some, None, is_some, is_none, if◌then◌else◌}
use Rattle.std.specs.List.{list_all}
use Rattle.std.specs.declared.option.Option.{Option}
use Rattle.s2_ports.specs.declared.requests.Request.{Request}
use Rattle.s2_ports.specs.declared.requests.Posted.{Posted}
use Rattle.s2_clock.specs.declared.numbers.TheConstants.{MISSES_ALLOWED, REFRESH_PERIOD}
use Rattle.s2_clock.specs.Frames.{IsFrame}
use Rattle.s2_clock.specs.TickWindow.{misses_in}
use Rattle.s2_clock.specs.ClockWatch.{window_at}
use Rattle.s2_voter.specs.Timers.{timer_of}
use Rattle.s2_voter.specs.VoterState.{is_member, latch_of}
use Rattle.s2_voter.specs.Verdicts.{processors, is_unlatched, is_timed_out, is_due}
use Rattle.s2_plant_laws.specs.FrameNumbers.{skew_of}
use Rattle.s2_plant_laws.specs.WorkSpan.{span}
use Rattle.s2_plant_laws.specs.ClockPace.{ClockData}
use Rattle.s2_plant_laws.specs.BoundedSkew.{clock_at, are_two_latched, since_resume, AllBounded, BoundedSkew, IsBeforeTimer, ClockAtResume, IsActOn}
use Rattle.s2_plant_laws.specs.NextRequest.{NextRequest}
use Rattle.s2_plant_laws.specs.WaitingTime.{VerdictWaits}
use Rattle.s2_plant_laws.proofs.Spans.{frame_skew}
use Rattle.s2_plant_laws.proofs.SkewBounds.{resume_bounds_skew}
use Rattle.s2_plant_laws.proofs.TickBounds.{all_after_tick, tick_bounds_skew, verdict_bounds_wait, act_bounds_skew}
use Rattle.s2_plant_laws.proofs.VoterTimer.{voter_timer}
use Rattle.s2_plant_laws.proofs.Waits.{skew_below_timer}
use Rattle.s2_triplex.specs.TriplexCores.{TriplexCore, IsTriplexCore}
use Rattle.s2_triplex.specs.ModuleState.{ModuleState, Replica, replica_of, with_replica, replica_ask}
use Rattle.s2_triplex.specs.ModuleAnswer.{finished_replica, is_asking}
use Rattle.s2_triplex.specs.TriplexState.{TriplexState, module_at, posted_at}
use Rattle.s2_triplex.specs.TickFirings.{after_firings}
use Rattle.s2_triplex.specs.VotedAccess.{VotedAccess}
use Rattle.s2_triplex.specs.VoterDecision.{answered_if, stays_member, after_decision}
use Rattle.s2_triplex.specs.StepRefusals.{tick_refusal}
use Rattle.s2_triplex_laws.specs.LatchAgreement.{IsGood, LatchAgreement, AllLatched}
use Rattle.s2_triplex_laws.specs.ReplicaEquality.{ReplicaEquality, Masking, posting_ticks}
use Rattle.s2_triplex_laws.specs.TriplexInvariant.{clock_data, clock_of, skew_data, asks_from, TriplexInvariant, CanStep}
use Rattle.s2_triplex_laws.proofs.ReferenceGoesOn.{run_of_reached}
use Rattle.s2_triplex_laws.proofs.Firings.{good_member, StepGoesOn}
use Rattle.s2_triplex_laws.proofs.Acts.{ActEffect}
use Rattle.s2_triplex_laws.proofs.NextRequests.{next_request}
use Rattle.s2_triplex_laws.proofs.ClockSteps.{asks_of, clock_is, latched_is, all_ask, tick_of_clocks}

-- the span of the work up to the next request
pub skew_fits : (frame j : ℕ) → IsFrame frame → 1 ≤ j → j ≤ frame + 1 → span j ≤ j + skew_of frame
skew_fits frame j f low most = (frame_skew frame j f low most).1

-- the next request, from an equal start, with an equal frame
abbrev pub next_from : (k : TriplexCore) (f g : ℕ) (s t : Replica) → g ≡ f → t ≡ s → NextRequest (asks_from k s) f → NextRequest (asks_from k t) g
next_from k f g s t same e n = record {
  cycles = n.cycles;
  within = subst (λ (m : ℕ). n.cycles ≤ m) (sym same) n.within;
  asks_then = subst (λ (x : Replica). asks_from k x n.cycles ≡ true) (sym e) n.asks_then;
  works_before = λ i h. subst (λ (x : Replica). asks_from k x i ≡ false) (sym e) (n.works_before i h);
}

-- a state that has gone on from the same start
pub goes_on_keeps : (k : TriplexCore) (d e : TriplexState) (a : ReplicaEquality k d) (next : NextRequest (asks_from k a.start) d.frame) → LatchAgreement k e → StepGoesOn k d e a →
    BoundedSkew (timer_of e.frame) (next.cycles + 1) (skew_data e) → TriplexInvariant k e
goes_on_keeps k d e a next h o p = record {
  masking = record { agreement = h; replicas = o.replicas };
  next = next_from k d.frame e.frame a.start o.replicas.start o.continues.frame o.continues.start next;
  skew = p;
}

-- the state at the verdict of a tick
pub record AtVerdict (e : TriplexState) (j : ℕ) : Type 0 where
  pub waits : VerdictWaits (timer_of e.frame) j (skew_of e.frame) (skew_data e)
  pub each : AllBounded j e.resumed e.resumed_run (since_resume (skew_data e)) e.tainted (skew_data e).clocks
  pub before : IsBeforeTimer (timer_of e.frame) e.voter.age → BoundedSkew (timer_of e.frame) j (skew_data e)

pub at_verdict : (k : TriplexCore) (d : TriplexState) (mask : ℕ) (s : CanStep k d) → tick_refusal d mask ≡ None → AtVerdict (after_firings k d mask) (s.invariant.next.cycles + 1)
at_verdict k d mask s lawful =
    let h = s.invariant.masking.agreement in
    let a = s.invariant.masking.replicas in
    let j = s.invariant.next.cycles + 1 in
    let within = s.invariant.next.within in
    let skew = s.invariant.skew in
    let e = after_firings k d mask in
    let asks = all_ask k s.core d a s.invariant.next in
    let t = tick_of_clocks k s.core d mask h a lawful in
    record {
      waits = verdict_bounds_wait (timer_of d.frame) j (skew_of d.frame) (asks_of k d) mask (skew_data d) (skew_data e) (skew_fits d.frame j h.frame (omega arith) (omega arith)) (skew_below_timer d.frame) asks t skew;
      each = all_after_tick (timer_of d.frame) j (since_resume (skew_data d)) (asks_of k d) mask (skew_data d) (skew_data e) (let p = skew.past in omega arith) asks t skew;
      before = λ before. tick_bounds_skew (timer_of d.frame) j (asks_of k d) mask (skew_data d) (skew_data e) asks t before skew;
    }

-- whether a decision is due
or_true : (a b : Bool) → (a || b) ≡ true → (a ≡ true) ⊎ (b ≡ true)
or_true true b h = inl refl
or_true false b h = inr h

pub or_false : (a b : Bool) → (a || b) ≡ false → b ≡ false
or_false true b h = absurd cc
or_false false b h = h

and_true : (a b : Bool) → (a && b) ≡ true → (a ≡ true) × (b ≡ true)
and_true true b h = (refl, h)
and_true false b h = absurd cc

timed_out_at : (timer : ℕ) (age : Option ℕ) → is_timed_out timer age ≡ true → (a : ℕ) × (age ≡ Some a) × (timer ≤ a)
timed_out_at timer None h = absurd cc
timed_out_at timer (Some a) h = (a, refl, voter_timer.late timer a h)

abbrev pub has_latch : TriplexState → ℕ → Bool
has_latch d p = not (is_unlatched d.voter p)

all_latches : (d : TriplexState) (p : ℕ) → p < 3 → list_all (has_latch d) processors ≡ true → has_latch d p ≡ true
all_latches d zero hp h = (and_true (has_latch d 0) _ h).0
all_latches d (suc zero) hp h = (and_true (has_latch d 1) _ (and_true (has_latch d 0) _ h).1).0
all_latches d (suc (suc zero)) hp h = (and_true (has_latch d 2) _ (and_true (has_latch d 1) _ (and_true (has_latch d 0) _ h).1).1).0
all_latches d (suc (suc (suc p))) hp h = absurd (omega arith)

member_latch : (member : Bool) (latch : Option Posted) → member ≡ true → not (member && is_none latch) ≡ true → is_some latch ≡ true
member_latch true (Some l) e h = refl
member_latch true None e h = absurd cc
member_latch false latch e h = absurd cc

pub due_latched : (k : TriplexCore) (d : TriplexState) (j : ℕ) → LatchAgreement k d → VerdictWaits (timer_of d.frame) j (skew_of d.frame) (skew_data d) → is_due d.voter ≡ true → AllLatched d
due_latched k d j h t due p hp g = elim (or_true (list_all (has_latch d) processors) (is_timed_out d.voter.timer d.voter.age) due) [
  | inl all ↦ member_latch (is_member d.voter p) (latch_of d.voter p) (good_member k d p hp g h) (all_latches d p hp all)
  | inr old ↦ (let a = timed_out_at d.voter.timer d.voter.age old in
      ap (λ (l : Option Posted). is_some l) (h.good p hp g).latch ∙ (ap (λ (c : ClockData). c.full) (sym (clock_is d p hp)) ∙ t.all p a.0 hp g a.1 (subst (λ (n : ℕ). n ≤ a.0) h.timer a.2)))
]

-- after a decision
pub none_posted : (port : Option Posted) → posting_ticks port ≡ 0 → is_some port ≡ false
none_posted (Some p) h = absurd (omega arith)
none_posted None h = refl

answered_fires : (k : TriplexCore) (r : Request) (word lines : ℕ) (m : ModuleState) (b : Bool) →
    (if b then with_replica m (finished_replica k r.kind word lines (replica_of m)) else m).fires ≡ m.fires
answered_fires k r word lines m true = refl
answered_fires k r word lines m false = refl

fires_if : (b : Bool) (k : TriplexCore) (r : Request) (word lines : ℕ) (m : ModuleState) → (answered_if b k r word lines m).fires ≡ m.fires
fires_if true k r word lines m = answered_fires k r word lines m (is_asking (replica_ask k (replica_of m)) r)
fires_if false k r word lines m = refl

pub decision_fires : (k : TriplexCore) (d : TriplexState) (r : Request) (e : VotedAccess) (named : ℕ → Bool) (p : ℕ) → p < 3 → (module_at (after_decision k d r e named).modules p).fires ≡ (module_at d.modules p).fires
decision_fires k d r e named zero h = fires_if (stays_member d named 0) k r e.word _ (module_at d.modules 0)
decision_fires k d r e named (suc zero) h = fires_if (stays_member d named 1) k r e.word _ (module_at d.modules 1)
decision_fires k d r e named (suc (suc zero)) h = fires_if (stays_member d named 2) k r e.word _ (module_at d.modules 2)
decision_fires k d r e named (suc (suc (suc p))) h = absurd (omega arith)

-- a state that has just resumed
pub record FairClock (e : TriplexState) (p : ℕ) : Type 0 where
  pub fires : (module_at e.modules p).fires < REFRESH_PERIOD
  pub fair : misses_in (window_at e.windows p) ≤ MISSES_ALLOWED

clock_at_resume : (k : TriplexCore) (c : IsTriplexCore k) (e : TriplexState) (a : ReplicaEquality k e) → e.resumed ≡ e.ticks → (p : ℕ) → p < 3 → IsGood e p → FairClock e p → ClockAtResume e.resumed_run (clock_of e p)
clock_at_resume k c e a now p hp g fair =
    let x = a.each p hp g in
    let run = run_of_reached k c e a p hp g in
    let at = a.at in
    let spent = x.spent in
    record { run = omega arith; fires = fair.fires; full = none_posted (module_at e.modules p).port (omega arith); fair = fair.fair }

pub resumed_invariant : (k : TriplexCore) (c : IsTriplexCore k) (e : TriplexState) (m : Masking k e) → e.resumed ≡ e.ticks → e.voter.age ≡ None → ((p : ℕ) → p < 3 → IsGood e p → FairClock e p) → TriplexInvariant k e
resumed_invariant k c e m now age each =
    let a = m.replicas in
    let at = a.at in
    let low = a.low in
    let room = a.room in
    let frame = a.frame in
    let high = m.agreement.frame.high in
    let fits = subst IsFrame (sym a.frame) m.agreement.frame in
    let next = next_from k a.start.frame e.frame a.start a.start (sym a.frame) refl (next_request k c a.start fits (omega arith)) in
    record {
      masking = m;
      next = next;
      skew = resume_bounds_skew (timer_of e.frame) (next.cycles + 1) (skew_data e) (omega arith) (record {
        now = now;
        each = λ p hp g. subst (λ (x : ClockData). ClockAtResume e.resumed_run x) (sym (clock_is e p hp)) (clock_at_resume k c e a now p hp g (each p hp g));
        age = age;
      });
    }

-- an act
clock_stays : (d e : TriplexState) (p : ℕ) → p < 3 → module_at e.modules p ≡ module_at d.modules p → e.posted ≡ d.posted → e.windows ≡ d.windows → clock_at (skew_data e).clocks p ≡ clock_at (skew_data d).clocks p
clock_stays d e p hp m n w =
    clock_is e p hp ∙
    (ap (λ (x : ModuleState). clock_data x (posted_at e.posted p) (window_at e.windows p)) m ∙
    (ap (λ (x : List ℕ). clock_data (module_at d.modules p) (posted_at x p) (window_at e.windows p)) n ∙
    (ap (λ (x : List (List Bool)). clock_data (module_at d.modules p) (posted_at d.posted p) (window_at x p)) w ∙ sym (clock_is d p hp))))

-- an act leaves the age, or takes it with a latch
abbrev pub KeepsAge : TriplexState → TriplexState → Type 0
KeepsAge d e = (e.voter.age ≡ d.voter.age) ⊎ ((e.voter.age ≡ None) × (are_two_latched (skew_data e).latched ≡ false))

pub act_keeps_skew : (k : TriplexCore) (d e : TriplexState) (j : ℕ) → ActEffect d e → e.posted ≡ d.posted → e.windows ≡ d.windows → LatchAgreement k e → KeepsAge d e → BoundedSkew (timer_of d.frame) j (skew_data d) → BoundedSkew (timer_of e.frame) j (skew_data e)
act_keeps_skew k d e j acts n w h age skew =
    let on : IsActOn (skew_data d) (skew_data e) = record {
      ticks = acts.ticks;
      resumed = acts.resumed;
      run = acts.resumed_run;
      good = acts.good;
      clocks = λ p hp g. clock_stays d e p hp (acts.modules p hp g) n w;
      age = elim age [
        | inl same ↦ inl same
        | inr lost ↦ inr (record {
          age = lost.0;
          few = lost.1;
          three = refl;
          latches = λ p hp g. latched_is e p hp ∙ (ap (λ (l : Option Posted). is_some l) (h.good p hp g).latch ∙ sym (ap (λ (z : ClockData). z.full) (clock_is e p hp)));
        })
      ];
    } in
    subst (λ (f : ℕ). BoundedSkew (timer_of f) j (skew_data e)) (sym acts.frame) (act_bounds_skew (timer_of d.frame) j (skew_data d) (skew_data e) on skew)
