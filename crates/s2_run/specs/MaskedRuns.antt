-- What every run of a script tells, whatever faults its lines have: the console bytes are those of one processor with flat
-- memories, good processors stay in, each decision is right, and no access waits too long.
use Rattle.std.specs.Prelude.{ℕ, ◌≡◌, ◌<◌, ◌+◌, ◌⊎◌, ◌++◌, List, [], ◌∷◌, length, take, true, false, Some, None, is_some}
use Rattle.std.specs.List.{Contains}
use Rattle.std.specs.declared.option.Option.{Option}
use Rattle.s2_ports.specs.declared.events.Event.{Event}
use Rattle.s2_ports.specs.declared.requests.Request.{Request}
use Rattle.s2_agree.specs.declared.counts.TheConstants.{DELIVERY_LIMIT}
use Rattle.s2_voter.specs.declared.verdicts.Verdict.TheVariants.{Done}
use Rattle.s2_voter.specs.Verdicts.{is_differing, is_unlatched}
use Rattle.s2_journal.specs.declared.note.Why.{Why}
use Rattle.s2_journal.specs.declared.note.Why.TheVariants.{Differ, Late}
use Rattle.s2_journal.specs.declared.note.Note.TheVariants.{Out as OutNote}
use Rattle.s2_triplex.specs.declared.membership.Membership.TheVariants.{Out}
use Rattle.s2_triplex.specs.TickFirings.{after_firings}
use Rattle.s2_device.specs.DeviceState.{empty_slots, lines_of}
use Rattle.s2_machine.specs.PrivateArea.{LoadsSlot, is_private_store, slot_of}
use Rattle.s2_triplex.specs.ModuleState.{replica_of}
use Rattle.s2_triplex.specs.ModuleAnswer.{after_answered_cycle}
use Rattle.s2_triplex.specs.VotedAccess.{voted_access}
use Rattle.s2_triplex_laws.specs.PrivateFacts.{printed_slots, private_event}
use Rattle.s2_triplex.specs.VoterDecision.{tick_verdict}
use Rattle.s2_elf.specs.MemoryImage.{MemoryImage}
use Rattle.s2_machine.specs.MachineRun.{single_run}
use Rattle.s2_machine.specs.declared.deliveries.Delivery.{Delivery}
use Rattle.s2_clock.specs.Frames.{IsFrame}
use Rattle.s2_plant_laws.specs.FrameNumbers.{stated_reintegration_of, stated_wait_of}
use Rattle.s2_triplex.specs.R2000Triplex.{r2000_triplex}
use Rattle.s2_triplex.specs.WaitingEvents.{from_outside}
use Rattle.s2_triplex.specs.TriplexState.{TriplexState, Reintegration, module_at, membership_at, posted_at, started_triplex}
use Rattle.s2_triplex.specs.ReferenceMachine.{reference, runs}
use Rattle.s2_triplex.specs.CopyHolds.{is_holding}
use Rattle.s2_triplex.specs.TriplexSteps.{clock_tick, step_refusal, stepped, step_turn}
use Rattle.s2_triplex_laws.specs.LatchAgreement.{IsGood}
use Rattle.s2_triplex_laws.specs.DecisionFacts.{GoodAreIn}
use Rattle.s2_triplex_laws.specs.LawfulSteps.{TickDecisions}
use Rattle.s2_triplex_laws.specs.ReferenceAdvance.{DueUpTo}
use Rattle.s2_triplex_laws.specs.TriplexExecutions.{AreInRunOrder}
use Rattle.s2_triplex_laws.specs.StepNotes.{deliveries_in}
use Rattle.s2_triplex_laws.specs.EventOrder.{events_of}
use Rattle.s2_triplex_laws.specs.PromptEvents.{NonePosted, DecidesSync, accepted_in}
use Rattle.s2_run.specs.Transcript.{console_of}
use Rattle.s2_text.specs.InputLines.{InputLine, size_of}
use Rattle.s2_run.specs.ScriptRuns.{Stage, ScriptRun, RunsLine, joined_runs}
use Rattle.s2_run.specs.RunTranscript.{turn_transcript, stages_transcript}
use Rattle.s2_run.specs.ScriptEndings.{RunTo, RunsInput}

-- the triple machine of a program at its start, with a frame
abbrev pub first_triplex : ℕ → MemoryImage → TriplexState
first_triplex frame image = started_triplex frame image.entry image.local image.global

-- the deliveries that stages print, in order
abbrev pub printed_deliveries : List Stage → List Delivery
printed_deliveries [] = []
printed_deliveries (stage ∷ stages) = deliveries_in stage.turn.notes ++ printed_deliveries stages

-- the machine after some stages
abbrev pub state_after : TriplexState → List Stage → TriplexState
state_after d [] = d
state_after d (stage ∷ stages) = state_after stage.state stages

-- the events from outside that stages deliver, in order, and those that they accept
abbrev pub delivered_events : List Stage → List Event
delivered_events stages = from_outside (events_of (printed_deliveries stages))

abbrev pub accepted_events : TriplexState → List Stage → List Event
accepted_events d [] = []
accepted_events d (stage ∷ stages) = accepted_in d stage.step ++ accepted_events stage.state stages

-- the delivered events are the first of those accepted, in order, each once; the others wait
pub record EventsInOrder (first : TriplexState) (stages : List Stage) (d : TriplexState) : Type 0 where
  pub order : delivered_events stages ++ d.inbox ≡ accepted_events first stages
  pub accepted : length (accepted_events first stages) ≡ d.accepted
  pub delivered : length (delivered_events stages) ≡ d.delivered

-- The console bytes of stages are exactly those of one R2000 with flat memories over their run cycles and their deliveries, and
-- the reference machine is its machine; the run counts of the deliveries never fall, and all are due; the events are delivered
-- in the order in which they were accepted; every good processor is in; a request of a good processor has waited for less than the
-- stated wait of the frame; an open reintegration has taken less than its stated time; and the slots of the private-write area are
-- the private values that are printed last.
pub record IsMasked (frame : ℕ) (image : MemoryImage) (stages : List Stage) (d : TriplexState) : Type 0 where
  pub framed : d.frame ≡ frame
  pub alone : single_run image.entry image.local image.global (printed_deliveries stages) (runs d)
      ≡ record { machine = reference d; bytes = console_of (stages_transcript stages) }
  pub order : AreInRunOrder (printed_deliveries stages)
  pub due : DueUpTo (runs d) (printed_deliveries stages)
  pub events : EventsInOrder (first_triplex frame image) stages d
  pub good : GoodAreIn d
  pub waits : (p : ℕ) → p < 3 → IsGood d p → is_some (module_at d.modules p).port ≡ true →
      d.ticks < posted_at d.posted p + stated_wait_of frame
  pub repairs : (j : Reintegration) → d.reintegration ≡ Some j → d.ticks < j.revived + stated_reintegration_of frame
  pub slots : d.device.slots ≡ printed_slots empty_slots (printed_deliveries stages)

-- a processor is out after a stage, which prints it
pub record IsPutOut (stage : Stage) (tick p : ℕ) (why : Why) : Type 0 where
  pub out : membership_at stage.state.memberships p ≡ Out
  pub line : Contains stage.turn.notes (OutNote tick p why)

-- at a decision this is so of each member whose latch differs from what is agreed, and of each without a latch
pub record NamesWhoDiffers (d : TriplexState) (stage : Stage) (mask : ℕ) (r : Request) : Type 0 where
  pub differs : (p : ℕ) → p < 3 → is_differing (after_firings r2000_triplex d mask).voter r p ≡ true →
      IsPutOut stage (d.ticks + 1) p Differ
  pub late : (p : ℕ) → p < 3 → is_unlatched (after_firings r2000_triplex d mask).voter p ≡ true → IsPutOut stage (d.ticks + 1) p Late

-- a tick decides on a request, outside of a hold
pub record IsDecided (d : TriplexState) (stage : Stage) (mask : ℕ) (r : Request) : Type 0 where
  pub step : stage.step ≡ clock_tick mask
  pub working : is_holding d.reintegration ≡ false
  pub differ : Option ℕ
  pub late : Option ℕ
  pub done : tick_verdict r2000_triplex d mask ≡ Done r differ late

-- a stage with an agreed store to PRIV prints one delivery, at the request's run count: an event that has for each good
-- processor its own private value
pub record PrintsPrivateValues (d : TriplexState) (stage : Stage) (mask : ℕ) (r : Request) : Type 0 where
  pub line : deliveries_in stage.turn.notes ≡ record { run = r.run; event = private_event (after_firings r2000_triplex d mask) r } ∷ []
  pub own : (p : ℕ) → p < 3 → IsGood d p →
      slot_of (printed_slots empty_slots (deliveries_in stage.turn.notes)) p
      ≡ (module_at (after_firings r2000_triplex d mask).modules p).private

-- a stage with an agreed load of the slot of processor p gives every good processor the number v: each ends its cycle with it
pub record GivesNumber (d : TriplexState) (stage : Stage) (mask : ℕ) (r : Request) (v : ℕ) : Type 0 where
  pub word : (voted_access r2000_triplex (after_firings r2000_triplex d mask) r).word ≡ v
  pub gives : (q : ℕ) → q < 3 → IsGood d q →
      replica_of (module_at stage.state.modules q)
      ≡ after_answered_cycle r2000_triplex v (lines_of (voted_access r2000_triplex (after_firings r2000_triplex d mask) r).device)
      (replica_of (module_at (after_firings r2000_triplex d mask).modules q))

-- A stage comes from a machine by its step, which is lawful there. Where it is a tick that decides, its decision is right, and
-- whoever differs or is late is put out; whoever it prints as out is the tainted processor; and where it decides on a store to
-- PRIV, it prints the good processors' own private values.
pub record IsStageOf (d : TriplexState) (stage : Stage) : Type 0 where
  pub running : d.halt ≡ None
  pub lawful : step_refusal d stage.step ≡ None
  pub state_is : stage.state ≡ stepped r2000_triplex d stage.step
  pub turn_is : stage.turn ≡ step_turn r2000_triplex d stage.step
  pub decides : (mask : ℕ) → stage.step ≡ clock_tick mask → is_holding d.reintegration ≡ false → TickDecisions r2000_triplex d mask
  pub names : (mask : ℕ) (r : Request) (differ late : Option ℕ) → stage.step ≡ clock_tick mask → is_holding d.reintegration ≡ false →
      tick_verdict r2000_triplex d mask ≡ Done r differ late → NamesWhoDiffers d stage mask r
  pub outs : (tick p : ℕ) (why : Why) → Contains stage.turn.notes (OutNote tick p why) → stage.state.tainted ≡ Some p
  pub stores : (mask : ℕ) (r : Request) → IsDecided d stage mask r → is_private_store r ≡ true → PrintsPrivateValues d stage mask r

-- where a write failed at a stage after some of its bytes, the console has a front of the bytes of one R2000 alone
pub record IsConsoleFront (image : MemoryImage) (written : List Stage) (stage : Stage) (bytes : ℕ) : Type 0 where
  pub more : List ℕ
  pub whole : (single_run image.entry image.local image.global (printed_deliveries (written ++ stage ∷ [])) (runs stage.state)).bytes
      ≡ console_of (stages_transcript written ++ take bytes (turn_transcript stage.turn)) ++ more

-- a stage decides a synchronisation
pub record IsSyncStage (d : TriplexState) (stage : Stage) (r : Request) : Type 0 where
  pub mask : ℕ
  pub step : stage.step ≡ clock_tick mask
  pub decides : DecidesSync r2000_triplex d mask r

-- it delivers as many events as may be; or with its events all are delivered that were accepted before a place
abbrev pub IsPromptSync : TriplexState → List Stage → List Stage → Stage → Type 0
IsPromptSync first before between sync =
    (length (from_outside (events_of (deliveries_in sync.turn.notes))) ≡ DELIVERY_LIMIT)
    ⊎ ((later : List Event) × (delivered_events (before ++ (between ++ sync ∷ [])) ≡ accepted_events first before ++ later))

-- so it is of each synchronisation that no good processor had posted at that place
abbrev pub SyncsDeliverPromptly : TriplexState → List Stage → Type 0
SyncsDeliverPromptly first stages =
    (before between : List Stage) (sync : Stage) (rest : List Stage) (r : Request) → stages ≡ before ++ (between ++ sync ∷ rest) →
    NonePosted (state_after first before) r → IsSyncStage (state_after first (before ++ between)) sync r →
    IsPromptSync first before between sync

-- so it is of every stage of a run, after each of them, and where a write failed at one; no event waits past the first
-- synchronisation that good processors post after it was accepted, unless as many are delivered there as may be; and an agreed
-- load of a slot gives every good processor the number that was printed last of the slot's processor
pub record RunIsMasked (frame : ℕ) (image : MemoryImage) (run : ScriptRun) : Type 0 where
  pub state_is : run.state ≡ state_after (first_triplex frame image) run.stages
  pub masked : (front rest : List Stage) → run.stages ≡ front ++ rest →
      IsMasked frame image front (state_after (first_triplex frame image) front)
  pub steps : (front : List Stage) (stage : Stage) (rest : List Stage) → run.stages ≡ front ++ stage ∷ rest →
      IsStageOf (state_after (first_triplex frame image) front) stage
  pub prompt : SyncsDeliverPromptly (first_triplex frame image) run.stages
  pub loads : (front : List Stage) (stage : Stage) (rest : List Stage) → run.stages ≡ front ++ stage ∷ rest →
      (mask : ℕ) (r : Request) (p : ℕ) → IsDecided (state_after (first_triplex frame image) front) stage mask r → LoadsSlot r p →
      GivesNumber (state_after (first_triplex frame image) front) stage mask r
      (slot_of (printed_slots empty_slots (printed_deliveries front)) p)
  pub cut : (written : List Stage) (stage : Stage) (rest : List Stage) (bytes : ℕ) → run.stages ≡ written ++ stage ∷ rest →
      IsConsoleFront image written stage bytes

-- every run of a script on a program is masked, with every frame that a machine may be given, whole, as far as a line, or with the
-- line behind that
pub record ScriptsAreMasked (image : MemoryImage) : Type 0 where
  pub whole : (frame : ℕ) → IsFrame frame → (input : List ℕ) (run : ScriptRun) (left : Option (List ℕ)) →
      RunsInput (first_triplex frame image) input run left → RunIsMasked frame image run
  pub part : (frame : ℕ) → IsFrame frame → (input : List ℕ) (run : ScriptRun) → RunTo (first_triplex frame image) input run →
      RunIsMasked frame image run
  pub line : (frame : ℕ) → IsFrame frame → (input : List ℕ) (first : ScriptRun) (place : RunTo (first_triplex frame image) input first)
      (next : InputLine) (last : ScriptRun) →
      RunsLine (length place.before + 1) (size_of place.before + next.size) first.state next.text last →
      RunIsMasked frame image (joined_runs first last)
