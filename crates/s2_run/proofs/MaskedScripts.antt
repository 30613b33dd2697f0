-- Lawful steps from the start of a program are masked.
use Rattle.std.proofs.Common.{◌≡◌, ℕ, ◌+◌, ◌^◌, ◌<◌, List, [], ◌∷◌, ◌++◌, length, append_assoc, append-nil, take, drop, refl, sym, ap, arith, ◌∙◌, subst}
use Rattle.std.specs.Prelude.{None, nat_lt, true}
use Rattle.std.specs.declared.option.Option.{Option}
use Rattle.std.proofs.lemmas.Bool.Decides.{nat_tests}
use Rattle.std.proofs.lemmas.List.{take-append-drop}
use Rattle.s2_base.specs.declared.map.TheConstants.{LOCAL_WORDS, GLOBAL_WORDS}
use Rattle.s2_clock.specs.Frames.{IsFrame}
use Rattle.s2_elf.specs.MemoryImage.{MemoryImage}
use Rattle.s2_journal.specs.declared.note.Reason.{Reason}
use Rattle.s2_machine.specs.Machine.{Machine, started}
use Rattle.s2_machine.specs.MachineRun.{RunState, bytes_of, single_run}
use Rattle.s2_machine.specs.declared.deliveries.Delivery.{Delivery}
use Rattle.s2_triplex.specs.R2000Triplex.{r2000_triplex}
use Rattle.s2_triplex.specs.TriplexCores.{TriplexCore, IsTriplexCore}
use Rattle.s2_plant_laws.specs.FrameNumbers.{stated_reintegration_of, stated_wait_of}
use Rattle.s2_triplex.specs.TriplexState.{TriplexState, posted_at, module_at}
use Rattle.s2_triplex.specs.TickStep.{ticked}
use Rattle.s2_triplex.specs.ActStep.{acted}
use Rattle.s2_triplex.specs.StepRefusals.{tick_refusal}
use Rattle.s2_triplex.specs.StepTurns.{Turn, tick_turn, act_turn, unless_refused, next_unless_refused}
use Rattle.s2_triplex.specs.TriplexSteps.{TriplexStep, clock_tick, script_act, step_refusal, stepped, step_turn}
use Rattle.s2_triplex.specs.ReferenceMachine.{runs}
use Rattle.s2_triplex_laws.specs.StepNotes.{deliveries_in}
use Rattle.s2_triplex_laws.specs.LawfulSteps.{TickDecisions}
use Rattle.s2_triplex_laws.specs.TriplexStates.{IsTriplexState}
use Rattle.s2_triplex_laws.specs.TriplexExecutions.{IsExecution}
use Rattle.s2_triplex_laws.proofs.FrameStays.{steps_keep_frame}
use Rattle.s2_triplex_laws.proofs.TriplexExecutions.{execution_begins, execution_goes_on}
use Rattle.s2_triplex_laws.proofs.R2000Boards.{r2000_triplex_core}
use Rattle.s2_triplex_laws.proofs.RequestWaits.{requests_wait}
use Rattle.s2_triplex_laws.proofs.LawfulSteps.{ticks_decide}
use Rattle.s2_ports.specs.declared.requests.Request.{Request}
use Rattle.s2_device.specs.declared.slots.Slots.{Slots}
use Rattle.s2_device.specs.DeviceState.{empty_slots}
use Rattle.s2_machine.specs.PrivateArea.{LoadsSlot, is_private_store, slot_of}
use Rattle.s2_triplex.specs.ModuleState.{replica_of}
use Rattle.s2_triplex_laws.specs.PrivateFacts.{DecidesOn, printed_slots}
use Rattle.s2_triplex_laws.proofs.PrivateFacts.{private_stores_print, slot_loads_give}
use Rattle.s2_triplex_laws.proofs.StepNotes.{tick_tells}
use Rattle.s2_run.specs.Transcript.{Outlet, Console, Report, for_outlet, console_of}
use Rattle.s2_run.specs.ScriptRuns.{Stage, ScriptRun, joined_runs}
use Rattle.s2_run.specs.RunTranscript.{note_lines, turn_transcript, stages_transcript}
use Rattle.s2_run.specs.MaskedRuns.{first_triplex, printed_deliveries, state_after, EventsInOrder, IsMasked, IsStageOf, IsConsoleFront, SyncsDeliverPromptly, RunIsMasked, GivesNumber, IsDecided, PrintsPrivateValues}
use Rattle.s2_run.specs.ScriptLaws.{EveryScriptIsMasked}
use Rattle.s2_run.proofs.StageTranscripts.{stages_append, console_append, console_of-report, console_of-console}
use Rattle.s2_run.proofs.EventRuns.{IsEventless, events_in_order, sync_is_prompt}
use Rattle.s2_run.proofs.NamedProcessors.{outs_name_tainted, names_who_differs}
use Rattle.s2_run.proofs.LawfulScripts.{IsReady, IsLawful, AreLawful, IsLawfulRun, act_call, after_append, lawful_parts, run_to_lawful, line_behind_lawful, input_lawful}

-- steps have come to this machine, under these deliveries and with these bytes
abbrev HasCome : TriplexCore → Machine → TriplexState → List Delivery → List ℕ → Type 0
HasCome k m d ds bs = IsExecution k m (record { state = d; deliveries = ds; bytes = bs })

pub is_below : (n m : ℕ) → n < m → nat_lt n m ≡ true
is_below n m h = grind (arith, nat_tests)

-- one more, which is lawful
step_comes : (k : TriplexCore) (c : IsTriplexCore k) (m : Machine) (d : TriplexState) (step : TriplexStep) (ds : List Delivery) (bs : List ℕ) → d.halt ≡ None → IsReady d step → step_refusal d step ≡ None → HasCome k m d ds bs →
    HasCome k m (stepped k d step) (ds ++ deliveries_in (step_turn k d step).notes) (bs ++ bytes_of (step_turn k d step).out)
step_comes k c m d (clock_tick mask) ds bs halt room lawful h =
    let next = (ticked k d mask).next in
    let turn = tick_turn k d mask in
    subst (λ (r : Option Reason). HasCome k m (next_unless_refused r next d) (ds ++ deliveries_in turn.notes) (bs ++ bytes_of turn.out)) lawful
    (execution_goes_on k m (record { state = d; deliveries = ds; bytes = bs }) (clock_tick mask) turn c h tt halt (is_below d.ticks (2 ^ 40) room) (ap (λ (r : Option Reason). unless_refused r turn) lawful))
step_comes k c m d (script_act act) ds bs halt call lawful h =
    let next = acted act d in
    let turn = act_turn d act in
    subst (λ (r : Option Reason). HasCome k m (next_unless_refused r next d) (ds ++ deliveries_in turn.notes) (bs ++ bytes_of turn.out)) lawful
    (execution_goes_on k m (record { state = d; deliveries = ds; bytes = bs }) (script_act act) turn c h (act_call act call) halt refl (ap (λ (r : Option Reason). unless_refused r turn) lawful))

-- the console bytes of a step
pub turn_bytes : (turn : Turn) → console_of (turn_transcript turn) ≡ bytes_of turn.out
turn_bytes turn =
    console_append (for_outlet Console (bytes_of turn.out)) (for_outlet Report (note_lines turn.notes))
    ∙ (ap (λ (x : List ℕ). console_of (for_outlet Console (bytes_of turn.out)) ++ x) (console_of-report (note_lines turn.notes)) ∙ (append-nil _ ∙ console_of-console (bytes_of turn.out)))

more_bytes : (bs : List ℕ) (stage : Stage) (stages : List Stage) → (bs ++ bytes_of stage.turn.out) ++ console_of (stages_transcript stages) ≡ bs ++ console_of (stages_transcript (stage ∷ stages))
more_bytes bs stage stages =
    append_assoc bs (bytes_of stage.turn.out) (console_of (stages_transcript stages))
    ∙ ap (λ (x : List ℕ). bs ++ x) (ap (λ (x : List ℕ). x ++ console_of (stages_transcript stages)) (sym (turn_bytes stage.turn)) ∙ sym (console_append (turn_transcript stage.turn) (stages_transcript stages)))

-- and over some of them
stages_come : (k : TriplexCore) (c : IsTriplexCore k) (is : k ≡ r2000_triplex) (m : Machine) (stages : List Stage) (d : TriplexState) (ds : List Delivery) (bs : List ℕ) → AreLawful d stages → HasCome k m d ds bs →
    HasCome k m (state_after d stages) (ds ++ printed_deliveries stages) (bs ++ console_of (stages_transcript stages))
stages_come k c is m [] d ds bs x h = subst (λ (es : List Delivery). HasCome k m d es (bs ++ [])) (sym (append-nil ds)) (subst (λ (cs : List ℕ). HasCome k m d ds cs) (sym (append-nil bs)) h)
stages_come k c is m (stage ∷ stages) d ds bs x h =
    let next : stepped k d stage.step ≡ stage.state = ap (λ (y : TriplexCore). stepped y d stage.step) is ∙ sym x.0.state_is in
    let turn : step_turn k d stage.step ≡ stage.turn = ap (λ (y : TriplexCore). step_turn y d stage.step) is ∙ sym x.0.turn_is in
    let one : HasCome k m stage.state (ds ++ deliveries_in stage.turn.notes) (bs ++ bytes_of stage.turn.out) =
    subst (λ (t : Turn). HasCome k m stage.state (ds ++ deliveries_in t.notes) (bs ++ bytes_of t.out)) turn
    (subst (λ (e : TriplexState). HasCome k m e (ds ++ deliveries_in (step_turn k d stage.step).notes) (bs ++ bytes_of (step_turn k d stage.step).out)) next
    (step_comes k c m d stage.step ds bs x.0.running x.0.ready x.0.lawful h)) in
    subst (λ (es : List Delivery). HasCome k m (state_after stage.state stages) es (bs ++ console_of (stages_transcript (stage ∷ stages)))) (append_assoc ds (deliveries_in stage.turn.notes) (printed_deliveries stages))
    (subst (λ (cs : List ℕ). HasCome k m (state_after stage.state stages) ((ds ++ deliveries_in stage.turn.notes) ++ printed_deliveries stages) cs) (more_bytes bs stage stages)
    (stages_come k c is m stages stage.state (ds ++ deliveries_in stage.turn.notes) (bs ++ bytes_of stage.turn.out) x.1 one))

-- the lists of a program have the words of the memories
pub record IsSized (image : MemoryImage) : Type 0 where
  pub local : length image.local ≡ LOCAL_WORDS
  pub global : length image.global ≡ GLOBAL_WORDS

-- the start of a program
start_comes : (frame : ℕ) (image : MemoryImage) → IsFrame frame → IsSized image → HasCome r2000_triplex (started image.entry image.local image.global) (first_triplex frame image) [] []
start_comes frame image f sizes = execution_begins r2000_triplex frame image.entry image.local image.global r2000_triplex_core f sizes.local sizes.global

-- stages from the start of a program
front_comes : (frame : ℕ) (image : MemoryImage) → IsFrame frame → IsSized image → (stages : List Stage) → AreLawful (first_triplex frame image) stages →
    HasCome r2000_triplex (started image.entry image.local image.global) (state_after (first_triplex frame image) stages) (printed_deliveries stages) (console_of (stages_transcript stages))
front_comes frame image f sizes stages x = stages_come r2000_triplex r2000_triplex_core refl (started image.entry image.local image.global) stages (first_triplex frame image) [] [] x (start_comes frame image f sizes)

eventless : {frame : ℕ} {image : MemoryImage} → IsEventless (first_triplex frame image)
eventless {frame} {image} = record { inbox = refl; accepted = refl }

-- no stage changes the frame
stepped_frame : (d : TriplexState) (step : TriplexStep) → step_refusal d step ≡ None → (stepped r2000_triplex d step).frame ≡ d.frame
stepped_frame d (clock_tick mask) lawful = ap (λ (r : Option Reason). (next_unless_refused r (ticked r2000_triplex d mask).next d).frame) (sym lawful) ∙ steps_keep_frame r2000_triplex d (clock_tick mask)
stepped_frame d (script_act act) lawful = ap (λ (r : Option Reason). (next_unless_refused r (acted act d) d).frame) (sym lawful) ∙ steps_keep_frame r2000_triplex d (script_act act)

stages_frame : (stages : List Stage) (d : TriplexState) → AreLawful d stages → (state_after d stages).frame ≡ d.frame
stages_frame [] d x = refl
stages_frame (stage ∷ stages) d x = stages_frame stages stage.state x.1 ∙ (ap (λ (e : TriplexState). e.frame) x.0.state_is ∙ stepped_frame d stage.step x.0.lawful)

front_masked : (frame : ℕ) (image : MemoryImage) → IsFrame frame → IsSized image → (stages : List Stage) → AreLawful (first_triplex frame image) stages → IsMasked frame image stages (state_after (first_triplex frame image) stages)
front_masked frame image f sizes stages x =
    let d = state_after (first_triplex frame image) stages in
    let h = front_comes frame image f sizes stages x in
    let same = stages_frame stages (first_triplex frame image) x in
    record {
      framed = same;
      alone = h.is;
      order = h.order;
      due = h.due;
      events = events_in_order (first_triplex frame image) stages eventless x h.state.invariant.masking.agreement.inbox;
      good = h.good;
      waits = λ p hp g full. subst (λ (n : ℕ). d.ticks < posted_at d.posted p + stated_wait_of n) same (requests_wait r2000_triplex d h.state.invariant p hp g full);
      repairs = λ j is. subst (λ (n : ℕ). d.ticks < j.revived + stated_reintegration_of n) same (h.in_time j is);
      slots = h.slots;
    }

-- a stage of a masked run
stage_decides : (d : TriplexState) (stage : Stage) → IsTriplexState r2000_triplex d → IsLawful d stage → (mask : ℕ) → stage.step ≡ clock_tick mask → TickDecisions r2000_triplex d mask
stage_decides d stage h x mask is =
    let room : d.ticks < 2 ^ 40 = subst (IsReady d) is x.ready in
    let lawful : tick_refusal d mask ≡ None = subst (λ (s : TriplexStep). step_refusal d s ≡ None) is x.lawful in
    ticks_decide r2000_triplex d mask (record { core = r2000_triplex_core; invariant = h.invariant; halt = x.running }) room lawful

-- it decides
decides_on : (d : TriplexState) (stage : Stage) (mask : ℕ) (r : Request) → IsTriplexState r2000_triplex d → IsLawful d stage → IsDecided d stage mask r → DecidesOn r2000_triplex d mask r
decides_on d stage mask r h x i = record {
  can_step = record { core = r2000_triplex_core; invariant = h.invariant; halt = x.running };
  room = subst (IsReady d) i.step x.ready;
  lawful = subst (λ (s : TriplexStep). step_refusal d s ≡ None) i.step x.lawful;
  working = i.working;
  differ = i.differ;
  late = i.late;
  done = i.done;
}

stage_turn : (d : TriplexState) (stage : Stage) (mask : ℕ) (r : Request) → IsLawful d stage → IsDecided d stage mask r → stage.turn ≡ tick_turn r2000_triplex d mask
stage_turn d stage mask r x i = x.turn_is ∙ ap (step_turn r2000_triplex d) i.step

stage_state : (d : TriplexState) (stage : Stage) (mask : ℕ) (r : Request) → IsLawful d stage → IsDecided d stage mask r → stage.state ≡ (ticked r2000_triplex d mask).next
stage_state d stage mask r x i = x.state_is ∙ ap (stepped r2000_triplex d) i.step

stage_prints : (d : TriplexState) (stage : Stage) (mask : ℕ) (r : Request) → IsTriplexState r2000_triplex d → IsLawful d stage → IsDecided d stage mask r → is_private_store r ≡ true → PrintsPrivateValues d stage mask r
stage_prints d stage mask r h x i store =
    let f = private_stores_print r2000_triplex d mask r (decides_on d stage mask r h x i) store in
    let told : deliveries_in stage.turn.notes ≡ (ticked r2000_triplex d mask).effects.deliveries =
    ap (λ (t : Turn). deliveries_in t.notes) (stage_turn d stage mask r x i) ∙ (tick_tells r2000_triplex d mask).deliveries in
    record {
      line = told ∙ f.prints;
      own = λ p low g. ap (λ (ds : List Delivery). slot_of (printed_slots empty_slots ds) p) told ∙ f.own p low g;
    }

stage_gives : (d : TriplexState) (stage : Stage) (mask : ℕ) (r : Request) (p : ℕ) (s : Slots) → IsTriplexState r2000_triplex d → IsLawful d stage → IsDecided d stage mask r → LoadsSlot r p → d.device.slots ≡ s →
    GivesNumber d stage mask r (slot_of s p)
stage_gives d stage mask r p s h x i at is =
    let f = slot_loads_give r2000_triplex d mask r p (decides_on d stage mask r h x i) at in
    subst (λ (t : Slots). GivesNumber d stage mask r (slot_of t p)) is (record {
      word = f.word;
      gives = λ q low g. ap (λ (e : TriplexState). replica_of (module_at e.modules q)) (stage_state d stage mask r x i) ∙ f.gives q low g;
    })

stage_is : (d : TriplexState) (stage : Stage) → IsTriplexState r2000_triplex d → IsLawful d stage → IsStageOf d stage
stage_is d stage h x = record {
  running = x.running;
  lawful = x.lawful;
  state_is = x.state_is;
  turn_is = x.turn_is;
  decides = λ mask is working. stage_decides d stage h x mask is;
  names = λ mask r differ late is working done. names_who_differs d stage mask r differ late x.state_is x.turn_is is working (stage_decides d stage h x mask is) done;
  outs = outs_name_tainted d stage x.state_is x.turn_is (stage_decides d stage h x);
  stores = λ mask r i store. stage_prints d stage mask r h x i store;
}

-- a front of what a stage writes, behind others
pub front_of : (written : List Stage) (stage : Stage) (bytes : ℕ) → console_of (stages_transcript (written ++ stage ∷ [])) ≡ console_of (stages_transcript written ++ take bytes (turn_transcript stage.turn)) ++ console_of (drop bytes (turn_transcript stage.turn))
front_of written stage bytes =
    let t = turn_transcript stage.turn in
    ap console_of (stages_append written (stage ∷ []) ∙ (ap (λ (x : List (Outlet × ℕ)). stages_transcript written ++ x) (append-nil t ∙ sym (take-append-drop bytes t)) ∙ sym (append_assoc (stages_transcript written) (take bytes t) (drop bytes t))))
    ∙ console_append (stages_transcript written ++ take bytes t) (drop bytes t)

cut_masked : (frame : ℕ) (image : MemoryImage) → IsFrame frame → IsSized image → (written : List Stage) (stage : Stage) (rest : List Stage) (bytes : ℕ) → AreLawful (first_triplex frame image) (written ++ stage ∷ rest) → IsConsoleFront image written stage bytes
cut_masked frame image f sizes written stage rest bytes x =
    let d = first_triplex frame image in
    let front = written ++ stage ∷ [] in
    let h = front_masked frame image f sizes front (lawful_parts front rest d (subst (AreLawful d) (sym (append_assoc written (stage ∷ []) rest)) x)).0 in
    let at : state_after d front ≡ stage.state = after_append written (stage ∷ []) d in
    record {
      more = console_of (drop bytes (turn_transcript stage.turn));
      whole =
          ap (λ (e : TriplexState). (single_run image.entry image.local image.global (printed_deliveries front) (runs e)).bytes) (sym at)
          ∙ (ap (λ (r : RunState). r.bytes) h.alone ∙ front_of written stage bytes);
    }

-- a synchronisation of a masked run
syncs_prompt : (frame : ℕ) (image : MemoryImage) → IsFrame frame → IsSized image → (stages : List Stage) → AreLawful (first_triplex frame image) stages → SyncsDeliverPromptly (first_triplex frame image) stages
syncs_prompt frame image f sizes stages x before between sync rest r is none decides =
    let d = first_triplex frame image in
    let went = before ++ between in
    let whole = went ++ sync ∷ [] in
    let split = lawful_parts went (sync ∷ rest) d (subst (AreLawful d) (is ∙ sym (append_assoc before between (sync ∷ rest))) x) in
    let fronts = lawful_parts before between d split.0 in
    let all = lawful_parts whole rest d (subst (AreLawful d) (is ∙ (sym (append_assoc before between (sync ∷ rest)) ∙ sym (append_assoc went (sync ∷ []) rest))) x) in
    let at : state_after d whole ≡ sync.state = after_append went (sync ∷ []) d in
    sync_is_prompt d before between sync r fronts.1 split.1.0 (front_comes frame image f sizes went split.0).state
    (front_masked frame image f sizes before fronts.0).events (front_masked frame image f sizes went split.0).events
    (subst (λ (e : TriplexState). EventsInOrder d whole e) at (front_masked frame image f sizes whole all.0).events) none decides

pub run_masked : (frame : ℕ) (image : MemoryImage) → IsFrame frame → IsSized image → (run : ScriptRun) → IsLawfulRun (first_triplex frame image) run → RunIsMasked frame image run
run_masked frame image f sizes run x =
    let d = first_triplex frame image in
    record {
      state_is = x.state_is;
      masked = λ front rest is. front_masked frame image f sizes front (lawful_parts front rest d (subst (AreLawful d) is x.stages)).0;
      steps = λ front stage rest is.
          let parts = lawful_parts front (stage ∷ rest) d (subst (AreLawful d) is x.stages) in
          stage_is (state_after d front) stage (front_comes frame image f sizes front parts.0).state parts.1.0;
      prompt = syncs_prompt frame image f sizes run.stages x.stages;
      loads = λ front stage rest is mask r p i at.
          let parts = lawful_parts front (stage ∷ rest) d (subst (AreLawful d) is x.stages) in
          let h = front_comes frame image f sizes front parts.0 in
          stage_gives (state_after d front) stage mask r p (printed_slots empty_slots (printed_deliveries front)) h.state parts.1.0 i at h.slots;
      cut = λ written stage rest bytes is. cut_masked frame image f sizes written stage rest bytes (subst (AreLawful d) is x.stages);
    }

pub every_script_is_masked : EveryScriptIsMasked
every_script_is_masked image local global =
    let d = λ (frame : ℕ). first_triplex frame image in
    let sizes : IsSized image = record { local = local; global = global } in
    record {
      whole = λ frame f input run left runs. run_masked frame image f sizes run (input_lawful (d frame) input run left refl runs);
      part = λ frame f input run runs. run_masked frame image f sizes run (run_to_lawful (d frame) input run refl runs);
      line = λ frame f input first place next last ran. run_masked frame image f sizes (joined_runs first last) (line_behind_lawful (d frame) input first _ _ next.text last refl place ran);
    }
