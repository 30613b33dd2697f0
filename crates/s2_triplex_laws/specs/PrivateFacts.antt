-- The private-write area: what every state keeps of it, and what it gives to the good processors.
use Rattle.std.specs.Prelude.{ℕ, ◌≡◌, ◌<◌, ◌^◌, List, [], ◌∷◌, true, false, None}
use Rattle.std.specs.declared.option.Option.{Option}
use Rattle.s2_ports.specs.declared.events.Event.{Event}
use Rattle.s2_ports.specs.declared.events.Event.TheVariants.{Tick, Key, Private}
use Rattle.s2_ports.specs.declared.requests.Request.{Request}
use Rattle.s2_clock.specs.declared.numbers.TheConstants.{REFRESH_PERIOD}
use Rattle.s2_device.specs.declared.slots.Slots.{Slots}
use Rattle.s2_device.specs.DeviceState.{empty_slots, lines_of}
use Rattle.s2_private.specs.PrivateValues.{gathered}
use Rattle.s2_voter.specs.declared.verdicts.Verdict.TheVariants.{Done}
use Rattle.s2_machine.specs.PrivateArea.{LoadsSlot, is_private_store, slot_of}
use Rattle.s2_machine.specs.declared.deliveries.Delivery.{Delivery}
use Rattle.s2_script.specs.declared.entry.Act.{Act}
use Rattle.s2_triplex.specs.TriplexCores.{TriplexCore, IsTriplexCore}
use Rattle.s2_triplex.specs.ModuleState.{replica_of}
use Rattle.s2_triplex.specs.ModuleAnswer.{after_answered_cycle}
use Rattle.s2_triplex.specs.TriplexState.{TriplexState, module_at}
use Rattle.s2_triplex.specs.TickFirings.{after_firings}
use Rattle.s2_triplex.specs.WaitingEvents.{AreFromOutside}
use Rattle.s2_triplex.specs.VotedAccess.{private_values, voted_access}
use Rattle.s2_triplex.specs.VoterDecision.{tick_verdict}
use Rattle.s2_triplex.specs.CopyHolds.{is_holding}
use Rattle.s2_triplex.specs.TickStep.{ticked}
use Rattle.s2_triplex.specs.ActStep.{acted}
use Rattle.s2_triplex.specs.StepRefusals.{tick_refusal}
use Rattle.s2_triplex_laws.specs.LatchAgreement.{IsGood}
use Rattle.s2_triplex_laws.specs.TriplexInvariant.{CanStep}

-- what every state keeps: the events that wait come from outside, and a private value is the number of a firing
pub record PrivateBounds (d : TriplexState) : Type 0 where
  pub waiting : AreFromOutside d.inbox
  pub values : (p : ℕ) → p < 3 → (module_at d.modules p).private < REFRESH_PERIOD

-- the slots as deliveries print them: the private values that were delivered last
abbrev pub printed_by : Slots → Event → Slots
printed_by s Tick = s
printed_by s (Key byte) = s
printed_by s (Private a b c) = record { a = a; b = b; c = c }

abbrev pub printed_slots : Slots → List Delivery → Slots
printed_slots s [] = s
printed_slots s (d ∷ ds) = printed_slots (printed_by s d.event) ds

-- the slots of the devices are those that the deliveries print, after each step
abbrev pub TicksPrintSlots : Type 0
TicksPrintSlots = (k : TriplexCore) (d : TriplexState) (mask : ℕ) → IsTriplexCore k → AreFromOutside d.inbox → (ticked k d mask).next.device.slots ≡ printed_slots d.device.slots (ticked k d mask).effects.deliveries

abbrev pub ActsLeaveDevices : Type 0
ActsLeaveDevices = (d : TriplexState) (act : Act) → (acted act d).device ≡ d.device

-- the event of an agreed store to PRIV, at the verdict of a tick: a function of the latches and the modules
abbrev pub private_event : TriplexState → Request → Event
private_event d r = gathered d.voter r (private_values d.modules)

-- a tick that decides, in a machine that does not hold
pub record DecidesOn (k : TriplexCore) (d : TriplexState) (mask : ℕ) (r : Request) : Type 0 where
  pub can_step : CanStep k d
  pub room : d.ticks < 2 ^ 40
  pub lawful : tick_refusal d mask ≡ None
  pub working : is_holding d.reintegration ≡ false
  pub differ : Option ℕ
  pub late : Option ℕ
  pub done : tick_verdict k d mask ≡ Done r differ late

-- At an agreed store to PRIV the one delivery is the event of that store, at the request's run count; and the number
-- that it prints of each good processor is that processor's own private value.
pub record PrivateStoreFacts (k : TriplexCore) (d : TriplexState) (mask : ℕ) (r : Request) : Type 0 where
  pub prints : (ticked k d mask).effects.deliveries ≡ record { run = r.run; event = private_event (after_firings k d mask) r } ∷ []
  pub own : (p : ℕ) → p < 3 → IsGood d p → slot_of (printed_slots empty_slots (ticked k d mask).effects.deliveries) p ≡ (module_at (after_firings k d mask).modules p).private

abbrev pub PrivateStoresPrint : Type 0
PrivateStoresPrint = (k : TriplexCore) (d : TriplexState) (mask : ℕ) (r : Request) → DecidesOn k d mask r → is_private_store r ≡ true → PrivateStoreFacts k d mask r

-- At an agreed load of the slot of processor p, every good processor ends its cycle with the number that was printed
-- of p by the last deliveries of private values.
pub record SlotLoadFacts (k : TriplexCore) (d : TriplexState) (mask : ℕ) (r : Request) (p : ℕ) : Type 0 where
  pub word : (voted_access k (after_firings k d mask) r).word ≡ slot_of d.device.slots p
  pub gives : (q : ℕ) → q < 3 → IsGood d q → replica_of (module_at (ticked k d mask).next.modules q) ≡
      after_answered_cycle k (slot_of d.device.slots p) (lines_of (voted_access k (after_firings k d mask) r).device) (replica_of (module_at (after_firings k d mask).modules q))

abbrev pub SlotLoadsGive : Type 0
SlotLoadsGive = (k : TriplexCore) (d : TriplexState) (mask : ℕ) (r : Request) (p : ℕ) → DecidesOn k d mask r → LoadsSlot r p → SlotLoadFacts k d mask r p
