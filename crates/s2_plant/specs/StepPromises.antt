-- What every plant keeps, and what its calls tell: the laws of the triple machine, of the R2000 over two boards.
use Rattle.std.specs.Prelude.{ℕ, ◌≡◌, ◌<◌, ◌≤◌, ◌+◌, ◌^◌, not, List, [], ◌∷◌, ◌++◌, length, true, false, Some, None, IfOk, is_some}
use Rattle.std.specs.declared.result.Result.{Result}
use Rattle.s2_revive.specs.MendingBoards.{AreMendingBoards, memory_of}
use Rattle.s2_base.specs.declared.map.TheConstants.{GLOBAL_WORDS, LOCAL_WORDS}
use Rattle.s2_ports.specs.declared.requests.Request.{Request}
use Rattle.s2_join.specs.declared.item.Item.{Item}
use Rattle.s2_join.specs.CopyOrder.{is_last_item}
use Rattle.s2_script.specs.declared.entry.Act.{Act}
use Rattle.s2_journal.specs.declared.note.Reason.{Reason}
use Rattle.s2_journal.specs.declared.note.Note.TheVariants.{Joined}
use Rattle.s2_clock.specs.Frames.{IsFrame}
use Rattle.s2_voter.specs.Timers.{timer_of}
use Rattle.s2_plant_laws.specs.FrameNumbers.{stated_reintegration_of, stated_wait_of}
use Rattle.s2_triplex.specs.declared.numbers.TheConstants.{INBOX_EVENTS}
use Rattle.s2_triplex.specs.R2000Triplex.{r2000_triplex}
use Rattle.s2_triplex.specs.TriplexState.{TriplexState, Reintegration, module_at, posted_at, started_triplex}
use Rattle.std.specs.declared.option.Option.{Option}
use Rattle.s2_voter.specs.declared.verdicts.Verdict.TheVariants.{Done}
use Rattle.s2_machine.specs.PrivateArea.{LoadsSlot, is_private_store}
use Rattle.s2_triplex.specs.WaitingEvents.{from_outside}
use Rattle.s2_triplex.specs.VoterDecision.{tick_verdict}
use Rattle.s2_triplex_laws.specs.PrivateFacts.{PrivateStoreFacts, SlotLoadFacts, printed_slots}
use Rattle.s2_triplex.specs.CopyHolds.{is_holding}
use Rattle.s2_triplex.specs.StepTurns.{Turn}
use Rattle.s2_triplex_laws.specs.LatchAgreement.{IsGood}
use Rattle.s2_triplex_laws.specs.DecisionFacts.{GoodAreIn}
use Rattle.s2_triplex_laws.specs.ReferenceFacts.{AheadOfReference, FrameEndsDue}
use Rattle.s2_triplex_laws.specs.ReferenceAdvance.{ReferenceAdvance}
use Rattle.s2_triplex_laws.specs.StepNotes.{deliveries_in, told_effects}
use Rattle.s2_triplex_laws.specs.EventOrder.{accepted_by, events_of}
use Rattle.s2_triplex_laws.specs.PromptEvents.{DecidesSync, DeliversUpTo, KeepsSeen, PostersSaw}
use Rattle.s2_triplex_laws.specs.LawfulSteps.{TickDecisions}
use Rattle.s2_triplex_laws.specs.OpenRepair.{ClosedFacts, OpenFacts}
use Rattle.s2_triplex_laws.specs.RepairSteps.{IsReintegrated}
use Rattle.s2_triplex_laws.specs.TriplexStates.{IsTriplexState}

-- every plant: it is a state of the triple machine, and has accepted no more events than it may
pub record IsPlant (d : TriplexState) : Type 0 where
  pub state : IsTriplexState r2000_triplex d
  pub events : d.accepted ≤ 2 ^ 60

-- the machine at the start of a program, with a frame
pub record IsFirstPlant (d : TriplexState) : Type 0 where
  pub frame : ℕ
  pub entry : ℕ
  pub local : List ℕ
  pub global : List ℕ
  pub local_words : length local ≡ LOCAL_WORDS
  pub global_words : length global ≡ GLOBAL_WORDS
  pub is : d ≡ started_triplex frame entry local global

-- what is known of an open reintegration: copied pages are equal, and it has not taken the stated time
pub record OpenInTime (d : TriplexState) (j : Reintegration) : Type 0 where
  pub facts : OpenFacts d j
  pub in_time : d.ticks < j.revived + stated_reintegration_of d.frame

-- the frame is one that a machine may be given, each module has it, and the voter's timer is that of it
pub record HasFrame (d : TriplexState) : Type 0 where
  pub fits : IsFrame d.frame
  pub modules : (p : ℕ) → p < 3 → (module_at d.modules p).frame ≡ d.frame
  pub timer : d.voter.timer ≡ timer_of d.frame

-- What holds of every plant. It has a frame. The good processors are in, each posted its request less than the stated wait ago, and
-- local cycles lead to each from the reference machine; frame ends are due in all of them alike; the events that
-- wait are those accepted and not delivered; the boards stand for one list; and so much is known of a reintegration.
pub record PlantFacts (d : TriplexState) : Type 0 where
  pub frame : HasFrame d
  pub good : GoodAreIn d
  pub waits : (p : ℕ) → p < 3 → IsGood d p → is_some (module_at d.modules p).port ≡ true →
      d.ticks < posted_at d.posted p + stated_wait_of d.frame
  pub ahead : (p : ℕ) → p < 3 → IsGood d p → AheadOfReference r2000_triplex d p
  pub frame_ends : FrameEndsDue d
  pub inbox : d.delivered + length d.inbox ≡ d.accepted
  pub room : length d.inbox ≤ INBOX_EVENTS
  pub boards : AreMendingBoards d.boards
  pub opened : (j : Reintegration) → d.reintegration ≡ Some j → OpenInTime d j
  pub closed : d.reintegration ≡ None → ClosedFacts d

-- the tick of the last saved word: the processors are equal and in, and its one note says so
pub record EndsReintegration (tick : ℕ) (e : TriplexState) (j : Reintegration) (turn : Turn) : Type 0 where
  pub state : IsReintegrated e j
  pub note : turn.notes ≡ Joined tick j.copying.joiner (not j.disturbed) ∷ []

-- What an accepted tick tells, by the turn that it answers. The reference machine runs on as one processor alone
-- would, under the deliveries of the turn, with its byte; the delivered events from outside were the first that waited;
-- the slots are the private values that the turn prints last; what the good processors had seen when they posted a request
-- is kept; a synchronisation that is decided delivers the events that all had seen that have posted it, or as many as may be;
-- outside of a hold the verdict is right and in time, and not split, an agreed store to PRIV prints the good processors' own
-- private values, and an agreed load of a slot gives the good processors what it holds; and the last saved word ends a
-- reintegration.
pub record TickFacts (d : TriplexState) (mask : ℕ) (e : TriplexState) (turn : Turn) : Type 0 where
  pub advance : ReferenceAdvance r2000_triplex d e (told_effects turn)
  pub events : from_outside (events_of (deliveries_in turn.notes)) ++ e.inbox ≡ d.inbox
  pub slots : e.device.slots ≡ printed_slots d.device.slots (deliveries_in turn.notes)
  pub stores : is_holding d.reintegration ≡ false → (r : Request) (differ late : Option ℕ) →
      tick_verdict r2000_triplex d mask ≡ Done r differ late → is_private_store r ≡ true → PrivateStoreFacts r2000_triplex d mask r
  pub loads : is_holding d.reintegration ≡ false → (r : Request) (differ late : Option ℕ) (p : ℕ) →
      tick_verdict r2000_triplex d mask ≡ Done r differ late → LoadsSlot r p → SlotLoadFacts r2000_triplex d mask r p
  pub seen : KeepsSeen d e
  pub prompt : (r : Request) (count : ℕ) → DecidesSync r2000_triplex d mask r → count ≤ d.accepted → PostersSaw d r count →
      DeliversUpTo d e count
  pub decides : is_holding d.reintegration ≡ false → TickDecisions r2000_triplex d mask
  pub ends : (j : Reintegration) (item : Item) (left : List Item) → d.reintegration ≡ Some j → j.copying.left ≡ item ∷ left →
      is_last_item item ≡ true → EndsReintegration (d.ticks + 1) e j turn

-- What an accepted act tells. The reference machine is that of a good processor as before; nothing is delivered, and
-- the event that it brings waits last; what the good processors had seen when they posted a request is kept; and global
-- memory and the devices are as before.
pub record ActFacts (d : TriplexState) (act : Act) (e : TriplexState) (turn : Turn) : Type 0 where
  pub advance : ReferenceAdvance r2000_triplex d e (told_effects turn)
  pub silent : deliveries_in turn.notes ≡ []
  pub events : e.inbox ≡ d.inbox ++ accepted_by d act
  pub seen : KeepsSeen d e
  pub contents : memory_of e.boards ≡ memory_of d.boards
  pub device : e.device ≡ d.device

abbrev pub TickPromises : TriplexState → ℕ → TriplexState → Result Turn Reason → Type 0
TickPromises d mask e answer = IfOk answer (TickFacts d mask e)

abbrev pub ActPromises : TriplexState → Act → TriplexState → Result Turn Reason → Type 0
ActPromises d act e answer = IfOk answer (ActFacts d act e)
