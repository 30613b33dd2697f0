-- The order of events: each accepted event is delivered once, in the order in which they were accepted, and not
-- later than at the first frame's end that all good processors ask for after it.
use Rattle.std.specs.Prelude.{ℕ, ◌≡◌, ◌<◌, ◌≤◌, ◌+◌, List, [], ◌∷◌, ◌++◌, length, min, nat_lt, true, Some, if◌then◌else◌}
use Rattle.std.specs.declared.option.Option.{Option}
use Rattle.s2_ports.specs.declared.events.Event.{Event}
use Rattle.s2_ports.specs.declared.requests.Request.{Request}
use Rattle.s2_ports.specs.declared.requests.Posted.{Posted}
use Rattle.s2_agree.specs.declared.counts.TheConstants.{DELIVERY_LIMIT}
use Rattle.s2_voter.specs.declared.verdicts.Verdict.TheVariants.{Done}
use Rattle.s2_voter.specs.VoterState.{latch_of}
use Rattle.s2_voter.specs.Verdicts.{verdict_of}
use Rattle.s2_machine.specs.Cores.{is_sync}
use Rattle.s2_machine.specs.declared.deliveries.Delivery.{Delivery}
use Rattle.s2_script.specs.declared.entry.Act.{Act}
use Rattle.s2_script.specs.declared.entry.Act.TheVariants.{Event as EventAct, Poke, PokeLocal, Drive, Mute, Remove, Revive, Board, Mend}
use Rattle.s2_triplex.specs.declared.numbers.TheConstants.{INBOX_EVENTS}
use Rattle.s2_triplex.specs.TriplexCores.{TriplexCore}
use Rattle.s2_triplex.specs.TriplexState.{TriplexState}
use Rattle.s2_triplex.specs.WaitingEvents.{AreFromOutside, from_outside}
use Rattle.s2_triplex.specs.VoterDecision.{after_verdict}
use Rattle.s2_triplex.specs.TickStep.{ticked}
use Rattle.s2_triplex.specs.ActStep.{acted}
use Rattle.s2_triplex_laws.specs.LatchAgreement.{IsGood, AllLatched}
use Rattle.s2_triplex_laws.specs.ReplicaEquality.{Masking}

-- the events of some deliveries
abbrev pub events_of : List Delivery → List Event
events_of [] = []
events_of (d ∷ ds) = d.event ∷ events_of ds

-- the events from outside that a tick delivers, and then those that still wait, are those that waited
abbrev pub TicksDeliverInOrder : Type 0
TicksDeliverInOrder = (k : TriplexCore) (d : TriplexState) (mask : ℕ) → AreFromOutside d.inbox → from_outside (events_of (ticked k d mask).effects.deliveries) ++ (ticked k d mask).next.inbox ≡ d.inbox

-- the event that an act brings, where there is room for it
abbrev pub accepted_by : TriplexState → Act → List Event
accepted_by d (EventAct event) = if nat_lt (length d.inbox) INBOX_EVENTS then event ∷ [] else []
accepted_by d (Poke p k v) = []
accepted_by d (PokeLocal p i v) = []
accepted_by d (Drive p posted) = []
accepted_by d (Mute p) = []
accepted_by d (Remove p) = []
accepted_by d (Revive p) = []
accepted_by d (Board fault) = []
accepted_by d (Mend board) = []

-- it waits behind those that waited
abbrev pub ActsAcceptInOrder : Type 0
ActsAcceptInOrder = (d : TriplexState) (act : Act) → (acted act d).inbox ≡ d.inbox ++ accepted_by d act

-- every good processor had seen so many events when it asked for what is latched
abbrev pub AllGoodSaw : TriplexState → ℕ → Type 0
AllGoodSaw d count = (p : ℕ) → p < 3 → IsGood d p → (posted : Posted) → latch_of d.voter p ≡ Some posted → count ≤ posted.seen

-- then a frame's end delivers these, or as many as it may
abbrev pub FrameEndsDeliverWhatWasSeen : Type 0
FrameEndsDeliverWhatWasSeen = (k : TriplexCore) (d : TriplexState) (r : Request) (differ late : Option ℕ) (count : ℕ) → Masking k d → AllLatched d → verdict_of d.voter ≡ Done r differ late → is_sync r.kind ≡ true → AllGoodSaw d count →
    min count (d.delivered + DELIVERY_LIMIT) ≤ (after_verdict k d (Done r differ late)).next.delivered
