-- No event waits past the first frame's end that the good processors ask for after it was accepted, unless as many
-- are delivered there as may be.
use Rattle.std.specs.Prelude.{ℕ, ◌≡◌, ◌<◌, ◌≤◌, ◌+◌, ◌^◌, ◌⊎◌, List, [], ◌++◌, length, true, false, Some, None}
use Rattle.std.specs.declared.option.Option.{Option}
use Rattle.s2_ports.specs.declared.events.Event.{Event}
use Rattle.s2_ports.specs.declared.requests.Request.{Request}
use Rattle.s2_ports.specs.declared.requests.Posted.{Posted}
use Rattle.s2_agree.specs.declared.counts.TheConstants.{DELIVERY_LIMIT}
use Rattle.s2_voter.specs.declared.verdicts.Verdict.TheVariants.{Done}
use Rattle.s2_machine.specs.Cores.{is_sync}
use Rattle.s2_triplex.specs.TriplexCores.{TriplexCore}
use Rattle.s2_triplex.specs.TriplexState.{TriplexState, module_at}
use Rattle.s2_triplex.specs.WaitingEvents.{AreFromOutside, from_outside}
use Rattle.s2_triplex.specs.VoterDecision.{tick_verdict}
use Rattle.s2_triplex.specs.CopyHolds.{is_holding}
use Rattle.s2_triplex.specs.TickStep.{ticked}
use Rattle.s2_triplex.specs.StepRefusals.{tick_refusal}
use Rattle.s2_triplex.specs.TriplexSteps.{TriplexStep, clock_tick, script_act, step_refusal, stepped, step_turn}
use Rattle.s2_triplex_laws.specs.LatchAgreement.{IsGood}
use Rattle.s2_triplex_laws.specs.StepNotes.{deliveries_in}
use Rattle.s2_triplex_laws.specs.EventOrder.{events_of, accepted_by}
use Rattle.s2_triplex_laws.specs.TriplexInvariant.{CanStep}

-- the port of no good processor holds a request
abbrev pub NonePosted : TriplexState → Request → Type 0
NonePosted d r = (p : ℕ) → p < 3 → IsGood d p → (posted : Posted) → (module_at d.modules p).port ≡ Some posted → posted.request ≡ r → ⊥

-- each good processor whose port holds it had seen so many events when it posted it
abbrev pub PostersSaw : TriplexState → Request → ℕ → Type 0
PostersSaw d r count = (p : ℕ) → p < 3 → IsGood d p → (posted : Posted) → (module_at d.modules p).port ≡ Some posted → posted.request ≡ r → count ≤ posted.seen

-- what a step keeps: no event is forgotten that was accepted, and where the good processors that have posted a request
-- had seen so many of the accepted events, so had those that have posted it after the step
pub record KeepsSeen (d e : TriplexState) : Type 0 where
  pub accepted : d.accepted ≤ e.accepted
  pub saw : (r : Request) (count : ℕ) → count ≤ d.accepted → PostersSaw d r count → PostersSaw e r count

-- each step that is not refused
abbrev pub StepsKeepSeen : Type 0
StepsKeepSeen = (k : TriplexCore) (d : TriplexState) (step : TriplexStep) → step_refusal d step ≡ None → KeepsSeen d (stepped k d step)

-- a tick decides a synchronisation
pub record DecidesSync (k : TriplexCore) (d : TriplexState) (mask : ℕ) (r : Request) : Type 0 where
  pub differ : Option ℕ
  pub late : Option ℕ
  pub free : is_holding d.reintegration ≡ false
  pub done : tick_verdict k d mask ≡ Done r differ late
  pub sync : is_sync r.kind ≡ true

-- so many events are delivered after a step, or it delivered as many as may be
abbrev pub DeliversUpTo : TriplexState → TriplexState → ℕ → Type 0
DeliversUpTo d e count = (count ≤ e.delivered) ⊎ (e.delivered ≡ d.delivered + DELIVERY_LIMIT)

-- a synchronisation that is decided delivers the events that all good processors had seen that have posted it
abbrev pub SyncsArePrompt : Type 0
SyncsArePrompt = (k : TriplexCore) (d : TriplexState) (mask : ℕ) (r : Request) (count : ℕ) → CanStep k d → d.ticks < 2 ^ 40 → tick_refusal d mask ≡ None → DecidesSync k d mask r → count ≤ d.accepted → PostersSaw d r count →
    DeliversUpTo d (ticked k d mask).next count

-- the event that a step brings, where there is room for it
abbrev pub accepted_in : TriplexState → TriplexStep → List Event
accepted_in d (clock_tick mask) = []
accepted_in d (script_act act) = accepted_by d act

-- the events from outside that a step tells as delivered, and then those that wait, are those that waited and the one that it
-- brings; and that one is counted
pub record StepOrder (k : TriplexCore) (d : TriplexState) (step : TriplexStep) : Type 0 where
  pub events : from_outside (events_of (deliveries_in (step_turn k d step).notes)) ++ (stepped k d step).inbox ≡ d.inbox ++ accepted_in d step
  pub accepted : (stepped k d step).accepted ≡ d.accepted + length (accepted_in d step)

abbrev pub StepsDeliverInOrder : Type 0
StepsDeliverInOrder = (k : TriplexCore) (d : TriplexState) (step : TriplexStep) → AreFromOutside d.inbox → StepOrder k d step
