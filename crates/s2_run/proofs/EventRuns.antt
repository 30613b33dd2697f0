-- The events of lawful steps: those delivered are the first that were accepted, and none is passed over by a synchronisation.
use Rattle.std.proofs.Common.{◌≡◌, ◌+◌, ◌^◌, ◌<◌, ◌≤◌, List, [], ◌∷◌, ◌++◌, length, append_assoc, append-nil, length-append, refl, sym, ap, arith, ◌∙◌, subst, inl, inr}
use Rattle.std.specs.Prelude.{Bool, true, false, None, if◌then◌else◌}
use Rattle.s2_ports.specs.Events.{comes_from_outside}
use Rattle.s2_ports.specs.declared.events.Event.{Event}
use Rattle.s2_ports.specs.declared.requests.Request.{Request}
use Rattle.s2_machine.specs.declared.deliveries.Delivery.{Delivery}
use Rattle.s2_triplex.specs.R2000Triplex.{r2000_triplex}
use Rattle.s2_triplex.specs.TriplexCores.{TriplexCore}
use Rattle.s2_triplex.specs.TriplexState.{TriplexState}
use Rattle.s2_triplex.specs.WaitingEvents.{AreFromOutside, from_outside}
use Rattle.s2_triplex.specs.StepRefusals.{tick_refusal}
use Rattle.s2_triplex.specs.StepTurns.{Turn}
use Rattle.s2_triplex.specs.TriplexSteps.{TriplexStep, clock_tick, script_act, step_refusal, stepped, step_turn}
use Rattle.s2_triplex_laws.specs.StepNotes.{deliveries_in}
use Rattle.s2_triplex_laws.specs.EventOrder.{events_of}
use Rattle.s2_triplex_laws.specs.PromptEvents.{KeepsSeen, NonePosted, PostersSaw, DeliversUpTo, accepted_in}
use Rattle.s2_triplex_laws.specs.TriplexStates.{IsTriplexState}
use Rattle.s2_triplex_laws.proofs.R2000Boards.{r2000_triplex_core}
use Rattle.s2_triplex_laws.proofs.PrivateBounds.{act_waiting, tick_waiting}
use Rattle.s2_triplex_laws.proofs.PromptEvents.{keeps_same, keeps_twice, steps_keep_seen, steps_in_order, syncs_are_prompt}
use Rattle.s2_run.specs.ScriptRuns.{Stage}
use Rattle.s2_run.specs.MaskedRuns.{printed_deliveries, state_after, delivered_events, accepted_events, EventsInOrder, IsSyncStage, IsPromptSync}
use Rattle.s2_run.proofs.LawfulScripts.{IsReady, IsLawful, AreLawful, act_call, after_append}

-- lists
events_append : (xs ys : List Delivery) → events_of (xs ++ ys) ≡ events_of xs ++ events_of ys
events_append [] ys = refl
events_append (x ∷ xs) ys = ap (λ (es : List Event). x.event ∷ es) (events_append xs ys)

-- those of them that come from outside
from_append : (xs ys : List Event) → from_outside (xs ++ ys) ≡ from_outside xs ++ from_outside ys
from_append [] ys = refl
from_append (x ∷ xs) ys = by_test (comes_from_outside x) (from_append xs ys)
  where
    by_test : (b : Bool) → from_outside (xs ++ ys) ≡ from_outside xs ++ from_outside ys → (if b then x ∷ from_outside (xs ++ ys) else from_outside (xs ++ ys)) ≡ (if b then x ∷ from_outside xs else from_outside xs) ++ from_outside ys
    by_test true h = ap (λ (es : List Event). x ∷ es) h
    by_test false h = h

told_append : (xs ys : List Delivery) → from_outside (events_of (xs ++ ys)) ≡ from_outside (events_of xs) ++ from_outside (events_of ys)
told_append xs ys = ap from_outside (events_append xs ys) ∙ from_append (events_of xs) (events_of ys)

printed_append : (a b : List Stage) → printed_deliveries (a ++ b) ≡ printed_deliveries a ++ printed_deliveries b
printed_append [] b = refl
printed_append (s ∷ a) b =
    ap (λ (ds : List Delivery). deliveries_in s.turn.notes ++ ds) (printed_append a b) ∙ sym (append_assoc (deliveries_in s.turn.notes) (printed_deliveries a) (printed_deliveries b))

delivered_append : (a b : List Stage) → delivered_events (a ++ b) ≡ delivered_events a ++ delivered_events b
delivered_append a b = ap (λ (ds : List Delivery). from_outside (events_of ds)) (printed_append a b) ∙ told_append (printed_deliveries a) (printed_deliveries b)

accepted_append : (a b : List Stage) (d : TriplexState) → accepted_events d (a ++ b) ≡ accepted_events d a ++ accepted_events (state_after d a) b
accepted_append [] b d = refl
accepted_append (s ∷ a) b d =
    ap (λ (es : List Event). accepted_in d s.step ++ es) (accepted_append a b s.state) ∙ sym (append_assoc (accepted_in d s.step) (accepted_events s.state a) (accepted_events (state_after s.state a) b))

longer_front : (xs ys us vs : List Event) → xs ++ ys ≡ us ++ vs → length us ≤ length xs → (more : List Event) × (xs ≡ us ++ more)
longer_front xs ys [] vs e h = (xs, refl)
longer_front [] ys (u ∷ us) vs e h = absurd (omega arith)
longer_front (x ∷ xs) ys (u ∷ us) vs e h =
    let head : x ≡ u = cc in
    let tail : xs ++ ys ≡ us ++ vs = cc in
    let r = longer_front xs ys us vs tail (omega arith) in
    (r.0, ap (λ (es : List Event). x ∷ es) r.1 ∙ ap (λ (y : Event). y ∷ (us ++ r.0)) head)

-- a stage
stage_next : (k : TriplexCore) → k ≡ r2000_triplex → (d : TriplexState) (stage : Stage) → IsLawful d stage → stepped k d stage.step ≡ stage.state
stage_next k is d stage x = ap (λ (y : TriplexCore). stepped y d stage.step) is ∙ sym x.state_is

stage_events : (k : TriplexCore) → k ≡ r2000_triplex → (d : TriplexState) (stage : Stage) → IsLawful d stage → AreFromOutside d.inbox → from_outside (events_of (deliveries_in stage.turn.notes)) ++ stage.state.inbox ≡ d.inbox ++ accepted_in d stage.step
stage_events k is d stage x outside =
    subst (λ (t : Turn). from_outside (events_of (deliveries_in t.notes)) ++ stage.state.inbox ≡ d.inbox ++ accepted_in d stage.step) (ap (λ (y : TriplexCore). step_turn y d stage.step) is ∙ sym x.turn_is)
    (subst (λ (e : TriplexState). from_outside (events_of (deliveries_in (step_turn k d stage.step).notes)) ++ e.inbox ≡ d.inbox ++ accepted_in d stage.step) (stage_next k is d stage x) (steps_in_order k d stage.step outside).events)

stage_accepts : (k : TriplexCore) → k ≡ r2000_triplex → (d : TriplexState) (stage : Stage) → IsLawful d stage → AreFromOutside d.inbox → stage.state.accepted ≡ d.accepted + length (accepted_in d stage.step)
stage_accepts k is d stage x outside = subst (λ (e : TriplexState). e.accepted ≡ d.accepted + length (accepted_in d stage.step)) (stage_next k is d stage x) (steps_in_order k d stage.step outside).accepted

stage_keeps : (k : TriplexCore) → k ≡ r2000_triplex → (d : TriplexState) (stage : Stage) → IsLawful d stage → KeepsSeen d stage.state
stage_keeps k is d stage x = subst (λ (e : TriplexState). KeepsSeen d e) (stage_next k is d stage x) (steps_keep_seen k d stage.step x.lawful)

-- the events that wait come from outside
step_waits : (k : TriplexCore) (d : TriplexState) (step : TriplexStep) → IsReady d step → AreFromOutside d.inbox → AreFromOutside (stepped k d step).inbox
step_waits k d (clock_tick mask) ready outside = tick_waiting k d mask outside
step_waits k d (script_act act) ready outside = act_waiting d act (act_call act ready) outside

stage_waits : (k : TriplexCore) → k ≡ r2000_triplex → (d : TriplexState) (stage : Stage) → IsLawful d stage → AreFromOutside d.inbox → AreFromOutside stage.state.inbox
stage_waits k is d stage x outside = subst (λ (e : TriplexState). AreFromOutside e.inbox) (stage_next k is d stage x) (step_waits k d stage.step x.ready outside)

-- stages
stages_order : (k : TriplexCore) → k ≡ r2000_triplex → (stages : List Stage) (d : TriplexState) → AreLawful d stages → AreFromOutside d.inbox → delivered_events stages ++ (state_after d stages).inbox ≡ d.inbox ++ accepted_events d stages
stages_order k is [] d x outside = sym (append-nil d.inbox)
stages_order k is (s ∷ stages) d x outside =
    let now = from_outside (events_of (deliveries_in s.turn.notes)) in
    let end = (state_after s.state stages).inbox in
    ap (λ (es : List Event). es ++ end) (told_append (deliveries_in s.turn.notes) (printed_deliveries stages))
    ∙ (append_assoc now (delivered_events stages) end
    ∙ (ap (λ (es : List Event). now ++ es) (stages_order k is stages s.state x.1 (stage_waits k is d s x.0 outside))
    ∙ (sym (append_assoc now s.state.inbox (accepted_events s.state stages))
    ∙ (ap (λ (es : List Event). es ++ accepted_events s.state stages) (stage_events k is d s x.0 outside)
    ∙ append_assoc d.inbox (accepted_in d s.step) (accepted_events s.state stages)))))

stages_accept : (k : TriplexCore) → k ≡ r2000_triplex → (stages : List Stage) (d : TriplexState) → AreLawful d stages → AreFromOutside d.inbox → (state_after d stages).accepted ≡ d.accepted + length (accepted_events d stages)
stages_accept k is [] d x outside = omega arith
stages_accept k is (s ∷ stages) d x outside =
    let one = stage_accepts k is d s x.0 outside in
    let more = stages_accept k is stages s.state x.1 (stage_waits k is d s x.0 outside) in
    let both = length-append (accepted_in d s.step) (accepted_events s.state stages) in
    omega arith

stages_keep : (k : TriplexCore) → k ≡ r2000_triplex → (stages : List Stage) (d : TriplexState) → AreLawful d stages → KeepsSeen d (state_after d stages)
stages_keep k is [] d x = keeps_same d
stages_keep k is (s ∷ stages) d x = keeps_twice d s.state (state_after s.state stages) (stage_keeps k is d s x.0) (stages_keep k is stages s.state x.1)

-- from a start at which no event was accepted
pub record IsEventless (d : TriplexState) : Type 0 where
  pub inbox : d.inbox ≡ []
  pub accepted : d.accepted ≡ 0

pub events_in_order : (first : TriplexState) (stages : List Stage) → IsEventless first → AreLawful first stages → (state_after first stages).delivered + length (state_after first stages).inbox ≡ (state_after first stages).accepted → EventsInOrder first stages (state_after first stages)
events_in_order first stages start x wait =
    let d = state_after first stages in
    let outside : AreFromOutside first.inbox = subst AreFromOutside (sym start.inbox) tt in
    let order : delivered_events stages ++ d.inbox ≡ accepted_events first stages = stages_order r2000_triplex refl stages first x outside ∙ ap (λ (es : List Event). es ++ accepted_events first stages) start.inbox in
    let count = stages_accept r2000_triplex refl stages first x outside in
    let none = start.accepted in
    let all : length (delivered_events stages) + length d.inbox ≡ length (accepted_events first stages) = sym (length-append (delivered_events stages) d.inbox) ∙ ap (λ (es : List Event). length es) order in
    record { order = order; accepted = omega arith; delivered = omega arith }

-- a synchronisation
pub sync_is_prompt : (first : TriplexState) (before between : List Stage) (sync : Stage) (r : Request) → AreLawful (state_after first before) between → IsLawful (state_after first (before ++ between)) sync → IsTriplexState r2000_triplex (state_after first (before ++ between)) →
    EventsInOrder first before (state_after first before) → EventsInOrder first (before ++ between) (state_after first (before ++ between)) → EventsInOrder first ((before ++ between) ++ sync ∷ []) sync.state →
    NonePosted (state_after first before) r → IsSyncStage (state_after first (before ++ between)) sync r → IsPromptSync first before between sync
sync_is_prompt first before between sync r went x state start middle all none is =
    let f = state_after first before in
    let g = state_after first (before ++ between) in
    let kept : KeepsSeen f g = subst (λ (e : TriplexState). KeepsSeen f e) (sym (after_append before between first)) (stages_keep r2000_triplex refl between f went) in
    let saw : PostersSaw g r f.accepted = kept.saw r f.accepted (omega arith) (λ p hp good posted port same. absurd (none p hp good posted port same)) in
    let room : g.ticks < 2 ^ 40 = subst (IsReady g) is.step x.ready in
    let lawful : tick_refusal g is.mask ≡ None = subst (λ (s : TriplexStep). step_refusal g s ≡ None) is.step x.lawful in
    let to : stepped r2000_triplex g (clock_tick is.mask) ≡ sync.state = ap (stepped r2000_triplex g) (sym is.step) ∙ sym x.state_is in
    let step : DeliversUpTo g sync.state f.accepted = subst (λ (e : TriplexState). DeliversUpTo g e f.accepted) to
    (syncs_are_prompt r2000_triplex g is.mask r f.accepted (record { core = r2000_triplex_core; invariant = state.invariant; halt = x.running }) room lawful is.decides kept.accepted saw) in
    let whole : (before ++ between) ++ sync ∷ [] ≡ before ++ (between ++ sync ∷ []) = append_assoc before between (sync ∷ []) in
    let a = start.accepted in
    let b = middle.delivered in
    let c = all.delivered in
    elim step [
      | inl reached ↦ inr (longer_front (delivered_events (before ++ (between ++ sync ∷ []))) sync.state.inbox (accepted_events first before) (accepted_events f (between ++ sync ∷ []))
          (ap (λ (ss : List Stage). delivered_events ss ++ sync.state.inbox) (sym whole) ∙ (all.order ∙ (ap (accepted_events first) whole ∙ accepted_append before (between ++ sync ∷ []) first)))
          (let same : length (delivered_events (before ++ (between ++ sync ∷ []))) ≡ sync.state.delivered = ap (λ (ss : List Stage). length (delivered_events ss)) (sym whole) ∙ all.delivered in omega arith))
      | inr eight ↦ inl (
          let split : length (delivered_events ((before ++ between) ++ sync ∷ [])) ≡ length (delivered_events (before ++ between)) + length (delivered_events (sync ∷ [])) =
          ap (λ (es : List Event). length es) (delivered_append (before ++ between) (sync ∷ [])) ∙ length-append (delivered_events (before ++ between)) (delivered_events (sync ∷ [])) in
          let one : length (delivered_events (sync ∷ [])) ≡ length (from_outside (events_of (deliveries_in sync.turn.notes))) =
          ap (λ (ds : List Delivery). length (from_outside (events_of ds))) (append-nil (deliveries_in sync.turn.notes)) in
          omega arith)
    ]
