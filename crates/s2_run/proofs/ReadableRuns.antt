-- All numbers of a run's report are in the ranges of a reader.
use Rattle.std.proofs.Common.{◌≡◌, ℕ, zero, suc, ◌+◌, ◌^◌, ◌<◌, ◌≤◌, Bool, true, false, cond, List, [], ◌∷◌, ◌++◌, length, length-append, append-nil, refl, sym, ap, arith, ◌∙◌, subst, inl, inr}
use Rattle.std.specs.Prelude.{Some, None, Ok, Err, is_some, nat_lt, ◌==◌, ◌≢◌}
use Rattle.std.specs.declared.option.Option.{Option}
use Rattle.std.specs.declared.result.Result.{Result}
use Rattle.std.proofs.lemmas.List.{length-take}
use Rattle.s2_base.specs.declared.map.TheConstants.{LOCAL_WORDS, GLOBAL_WORDS}
use Rattle.s2_elf.specs.MemoryImage.{MemoryImage}
use Rattle.s2_ports.specs.declared.events.BoardFault.TheVariants.{Dead, Flip}
use Rattle.s2_clock.specs.Frames.{IsFrame}
use Rattle.s2_text.specs.declared.stops.BadLine.{BadLine}
use Rattle.s2_script.specs.ScriptLines.{IsProperEntry}
use Rattle.s2_script.specs.declared.entry.Act.{Act}
use Rattle.s2_script.specs.declared.entry.Act.TheVariants.{Event, Poke, PokeLocal, Drive, Mute, Remove, Revive, Board, Mend}
use Rattle.s2_script.specs.declared.entry.Entry.{Entry}
use Rattle.s2_script.specs.declared.entry.Entry.TheVariants.{Ticks, One}
use Rattle.s2_journal.specs.declared.note.Reason.{Reason}
use Rattle.s2_journal.specs.declared.note.Reason.TheVariants.{Second, Slow as SlowReason, BothBoards}
use Rattle.s2_journal.specs.declared.note.End.{End}
use Rattle.s2_journal.specs.declared.note.End.TheVariants.{Bad, Outside, TooLong, Report}
use Rattle.s2_journal.specs.ReportLines.{IsReadableEnd}
use Rattle.s2_clock.specs.TickWindow.{miss_of, misses_in, window_after}
use Rattle.s2_clock.specs.ClockWatch.{is_firing, window_at, slow_of}
use Rattle.s2_clock.specs.declared.watch.Slow.{Slow}
use Rattle.s2_plant_laws.proofs.FairTicks.{fair_ticks}
use Rattle.s2_machine.specs.MachineRun.{bytes_of}
use Rattle.s2_triplex.specs.R2000Triplex.{r2000_triplex}
use Rattle.s2_triplex.specs.TriplexState.{TriplexState}
use Rattle.s2_triplex.specs.ModuleState.{Replica}
use Rattle.s2_triplex.specs.ReferenceMachine.{runs, slowest}
use Rattle.s2_triplex.specs.TickStep.{ticked}
use Rattle.s2_triplex.specs.ActStep.{acted}
use Rattle.s2_triplex.specs.StepRefusals.{slow_reason, tick_refusal, second_fault, act_refusal}
use Rattle.s2_triplex.specs.StepTurns.{Turn, next_unless_refused}
use Rattle.s2_triplex.specs.TriplexSteps.{TriplexStep, clock_tick, script_act, step_refusal, stepped, step_turn}
use Rattle.s2_triplex_laws.specs.TriplexStates.{IsTriplexState}
use Rattle.s2_triplex_laws.specs.ReferenceAdvance.{DueUpTo}
use Rattle.s2_triplex_laws.proofs.TriplexStates.{start_is_state, tick_keeps_state, act_keeps_state}
use Rattle.s2_triplex_laws.proofs.R2000Boards.{r2000_triplex_core}
use Rattle.s2_triplex_laws.proofs.SlowestProcessor.{slowest_is}
use Rattle.s2_triplex_laws.proofs.LocalCycles.{run_after_cycles}
use Rattle.s2_run.specs.declared.limits.TheConstants.{TICK_LIMIT}
use Rattle.s2_text.specs.InputLines.{InputLine, empty_line, with_byte, lines_of, size_of}
use Rattle.s2_run.specs.Transcript.{console_of}
use Rattle.s2_run.specs.ScriptRuns.{Stage, ScriptRun, ended, halt_end, joined_runs, step_run_by, step_run, ticks_run, read_run, ReadsScriptLine, RunsLine, end_of}
use Rattle.s2_run.proofs.FrameChoice.{bad_within, said_in}
use Rattle.s2_run.specs.RunTranscript.{turn_transcript, stages_transcript, console_count}
use Rattle.s2_run.specs.ScriptEndings.{RunsInput}
use Rattle.s2_run.specs.MaskedRuns.{first_triplex, printed_deliveries, state_after, IsMasked}
use Rattle.s2_run.specs.ReplayLaws.{printed_notes, ReplaysGiveTheSame}
use Rattle.s2_run.proofs.ProperEntries.{said_proper}
use Rattle.s2_run.proofs.LawfulScripts.{IsReady, IsLawful, AreLawful, act_call, run_to_lawful, input_lawful}
use Rattle.s2_run.proofs.MaskedScripts.{turn_bytes, every_script_is_masked}
use Rattle.s2_run.proofs.StageTranscripts.{console_append}
use Rattle.s2_run.proofs.StepCounts.{tick_counts, act_takes_no_time}
use Rattle.s2_run.proofs.ReadableNotes.{IsReadableState, AreNearlyReadable, nearly_both, all_readable, tick_readable, act_readable}
use Rattle.s2_run.proofs.WrittenReports.{as_written, IsReadableRun, printed, masked_replay}

-- ---- stages

record IsGoodState (d : TriplexState) : Type 0 where
  state : IsTriplexState r2000_triplex d
  readable : IsReadableState d

-- a stage, or some: their notes, the machine behind them, and no more bytes than ticks
record StageReads (d : TriplexState) (stage : Stage) : Type 0 where
  notes : AreNearlyReadable stage.turn.notes
  next : IsGoodState stage.state
  bytes : length (bytes_of stage.turn.out) + d.ticks ≤ stage.state.ticks

abbrev stage_of : TriplexState → TriplexStep → Stage
stage_of d step = record { step = step; state = stepped r2000_triplex d step; turn = step_turn r2000_triplex d step }

one_byte : (o : Option ℕ) → length (bytes_of o) ≤ 1
one_byte None = omega arith
one_byte (Some b) = omega arith

ticks_room : (d : TriplexState) → IsTriplexState r2000_triplex d → d.ticks ≤ 2 ^ 40
ticks_room d h = h.invariant.masking.replicas.room

step_reads : (d : TriplexState) (step : TriplexStep) → IsGoodState d → d.halt ≡ None → IsReady d step → step_refusal d step ≡ None → StageReads d (stage_of d step)
step_reads d (clock_tick mask) h halt room lawful =
    let r = tick_readable d mask room h.state.repair h.state.invariant.masking.agreement.boards h.state.bounds h.readable in
    let counted = tick_counts r2000_triplex d mask in
    let few = one_byte (step_turn r2000_triplex d (clock_tick mask)).out in
    record {
      notes = r.0;
      next = record {
        state = subst (λ (x : Option Reason). IsTriplexState r2000_triplex (next_unless_refused x (ticked r2000_triplex d mask).next d)) lawful (tick_keeps_state r2000_triplex d mask r2000_triplex_core h.state halt room);
        readable = r.1;
      };
      bytes = omega arith;
    }
step_reads d (script_act act) h halt proper lawful =
    let r = act_readable d act (ticks_room d h.state) proper h.readable in
    let same = act_takes_no_time act d in
    record {
      notes = r.0;
      next = record {
        state = subst (λ (x : Option Reason). IsTriplexState r2000_triplex (next_unless_refused x (acted act d) d)) lawful (act_keeps_state r2000_triplex d act r2000_triplex_core h.state halt (act_call act proper));
        readable = r.1;
      };
      bytes = omega arith;
    }

stage_is : (d : TriplexState) (stage : Stage) → IsLawful d stage → stage_of d stage.step ≡ stage
stage_is d stage x =
    ap (λ (e : TriplexState). record { step = stage.step; state = e; turn = step_turn r2000_triplex d stage.step }) (sym x.state_is)
    ∙ ap (λ (t : Turn). record { step = stage.step; state = stage.state; turn = t }) (sym x.turn_is)

stage_reads : (d : TriplexState) (stage : Stage) → IsGoodState d → IsLawful d stage → StageReads d stage
stage_reads d stage h x = subst (StageReads d) (stage_is d stage x) (step_reads d stage.step h x.running x.ready x.lawful)

record StagesRead (d : TriplexState) (stages : List Stage) : Type 0 where
  notes : AreNearlyReadable (printed_notes stages)
  next : IsGoodState (state_after d stages)
  bytes : console_count stages + d.ticks ≤ (state_after d stages).ticks

count_more : (stage : Stage) (stages : List Stage) → console_count (stage ∷ stages) ≡ length (bytes_of stage.turn.out) + console_count stages
count_more stage stages =
    ap length (console_append (turn_transcript stage.turn) (stages_transcript stages))
    ∙ (length-append (console_of (turn_transcript stage.turn)) (console_of (stages_transcript stages)) ∙ ap (λ (t : List ℕ). length t + console_count stages) (turn_bytes stage.turn))

stages_read : (stages : List Stage) (d : TriplexState) → IsGoodState d → AreLawful d stages → StagesRead d stages
stages_read [] d h x = record { notes = tt; next = h; bytes = omega arith }
stages_read (stage ∷ stages) d h x =
    let first = stage_reads d stage h x.0 in
    let rest = stages_read stages stage.state first.next x.1 in
    let a = first.bytes in
    let b = rest.bytes in
    let c = count_more stage stages in
    record { notes = nearly_both stage.turn.notes (printed_notes stages) first.notes rest.notes; next = rest.next; bytes = omega arith }

-- a run has no more run cycles than ticks
runs_few : (d : TriplexState) → IsTriplexState r2000_triplex d → runs d ≤ d.ticks
runs_few d h =
    let r = h.invariant.masking.replicas in
    let s = slowest_is d.tainted d.modules in
    let e = r.each (slowest d.tainted d.modules) s.low s.good in
    let spent = e.spent in
    let low = r.low in
    let room = r.room in
    let at = r.at in
    let counted = run_after_cycles r2000_triplex r2000_triplex_core e.cycles r.start e.quiet (omega arith) in
    let is : runs d ≡ r.start.cpu.run + e.cycles = ap (λ (x : Replica). x.cpu.run) e.is ∙ counted in
    omega arith

-- ---- ends

record ReadsEnd (o : Option End) : Type 0 where
  fits : IsReadableEnd (as_written (end_of o))
  own : as_written (end_of o) ≢ Report

no_end : ReadsEnd None
no_end = record { fits = tt; own = λ e. cc }

too_long : (line : ℕ) → line < 2 ^ 64 → ReadsEnd (Some (TooLong line))
too_long line small = record { fits = ((omega arith, omega arith), tt); own = λ e. cc }

bad_line : (line column : ℕ) → line < 2 ^ 64 → column < 2 ^ 64 → ReadsEnd (Some (Bad line column))
bad_line line column small few = record { fits = ((omega arith, omega arith), ((omega arith, omega arith), tt)); own = λ e. cc }

halted : (o : Option ℕ) → ReadsEnd (halt_end o)
halted None = no_end
halted (Some v) = record { fits = (omega arith, tt); own = λ e. cc }

-- a reason whose numbers are in their ranges
abbrev IsReadableReason : Reason → Type 0
IsReadableReason (Second tainted named) = (tainted < 3) × (named < 3)
IsReadableReason (SlowReason p misses) = (p < 3) × (misses ≤ 64)
IsReadableReason (BothBoards b) = b < 2

outside : (line : ℕ) (reason : Reason) → line < 2 ^ 64 → IsReadableReason reason → ReadsEnd (Some (Outside line reason))
outside line (Second tainted named) small h = let a = h.0 in let b = h.1 in record { fits = ((omega arith, omega arith), ((omega arith, omega arith), ((omega arith, omega arith), tt))); own = λ e. cc }
outside line (SlowReason p misses) small h = let a = h.0 in let b = h.1 in record { fits = ((omega arith, omega arith), ((omega arith, omega arith), ((omega arith, omega arith), tt))); own = λ e. cc }
outside line (BothBoards b) small h = record { fits = ((omega arith, omega arith), ((omega arith, omega arith), tt)); own = λ e. cc }

step_end : (line : ℕ) (d : TriplexState) (step : TriplexStep) (r : Option Reason) → line < 2 ^ 64 → ((reason : Reason) → r ≡ Some reason → IsReadableReason reason) → ReadsEnd (step_run_by line d step r).end
step_end line d step (Some reason) small h = outside line reason small (h reason refl)
step_end line d step None small h = halted (stepped r2000_triplex d step).halt

-- why a tick is refused
miss_one : (b : Bool) → miss_of b ≤ 1
miss_one true = omega arith
miss_one false = omega arith

misses_few : (window : List Bool) → misses_in window ≤ length window
misses_few [] = omega arith
misses_few (b ∷ window) = let h = misses_few window in let m = miss_one b in omega arith

window_misses : (b : Bool) (window : List Bool) → misses_in (window_after b window) ≤ 64
window_misses b window = let h = misses_few (window_after b window) in omega (arith, length-take 64 (b ∷ window))

slow_readable : (mask : ℕ) (tainted : Option ℕ) (windows : List (List Bool)) (o : Option Slow) → slow_of mask tainted windows ≡ o → (reason : Reason) → slow_reason o ≡ Some reason → IsReadableReason reason
slow_readable mask tainted windows None is reason h = absurd cc
slow_readable mask tainted windows (Some slow) is reason h =
    let least = fair_ticks.least mask tainted windows slow is in
    let few = window_misses (is_firing mask slow.p) (window_at windows slow.p) in
    let same = least.misses in
    subst IsReadableReason (let e : SlowReason slow.p slow.misses ≡ reason = cc in e) (least.low, omega arith)

tick_end : (line mask : ℕ) (d : TriplexState) → line < 2 ^ 64 → ReadsEnd (step_run line d (clock_tick mask)).end
tick_end line mask d small = step_end line d (clock_tick mask) (tick_refusal d mask) small (slow_readable mask d.tainted d.windows (slow_of mask d.tainted d.windows) refl)

with_end : (line : ℕ) (run : ScriptRun) (step : TriplexStep) (b : Bool) → ReadsEnd run.end → ReadsEnd (step_run line run.state step).end → ReadsEnd (cond b run (joined_runs run (step_run line run.state step))).end
with_end line run step true x y = x
with_end line run step false x y = y

ticks_end : (line mask : ℕ) (d : TriplexState) (n : ℕ) → line < 2 ^ 64 → ReadsEnd (ticks_run line mask d n).end
ticks_end line mask d zero small = no_end
ticks_end line mask d (suc n) small =
    let run = ticks_run line mask d n in
    with_end line run (clock_tick mask) (is_some run.end) (ticks_end line mask d n small) (tick_end line mask run.state small)

limit_end : (line mask : ℕ) (d : TriplexState) (n : ℕ) (b : Bool) → line < 2 ^ 64 → ReadsEnd (cond b (ended d (TooLong line)) (ticks_run line mask d n)).end
limit_end line mask d n true small = too_long line small
limit_end line mask d n false small = ticks_end line mask d n small

-- why an act is refused
second_by : (t p : ℕ) (b : Bool) → t < 3 → p < 3 → (reason : Reason) → cond {A = Option Reason} b None (Some (Second t p)) ≡ Some reason → IsReadableReason reason
second_by t p true low here reason is = absurd cc
second_by t p false low here reason is = subst IsReadableReason (let e : Second t p ≡ reason = cc in e) (low, here)

second_readable : (o : Option ℕ) (p : ℕ) → ((q : ℕ) → o ≡ Some q → q < 3) → p < 3 → (reason : Reason) → second_fault o p ≡ Some reason → IsReadableReason reason
second_readable None p low here reason is = absurd cc
second_readable (Some t) p low here reason is = second_by t p (t == p) (low t refl) here reason is

board_by : (b : ℕ) (t : Bool) → b < 2 → (reason : Reason) → cond {A = Option Reason} t None (Some (BothBoards b)) ≡ Some reason → IsReadableReason reason
board_by b true low reason is = absurd cc
board_by b false low reason is = subst IsReadableReason (let e : BothBoards b ≡ reason = cc in e) low

act_reason : (d : TriplexState) (act : Act) → IsReadableState d → IsProperEntry (One act) → (reason : Reason) → act_refusal d act ≡ Some reason → IsReadableReason reason
act_reason d (Event event) h proper reason is = absurd cc
act_reason d (Poke p k v) h proper reason is = let low = proper.0.1 in second_readable d.tainted p h.tainted (omega arith) reason is
act_reason d (PokeLocal p i v) h proper reason is = let low = proper.0.1 in second_readable d.tainted p h.tainted (omega arith) reason is
act_reason d (Drive p posted) h proper reason is = let low = proper.0.1 in second_readable d.tainted p h.tainted (omega arith) reason is
act_reason d (Mute p) h proper reason is = let low = proper.0.1 in second_readable d.tainted p h.tainted (omega arith) reason is
act_reason d (Remove p) h proper reason is = let low = proper.0.1 in second_readable d.tainted p h.tainted (omega arith) reason is
act_reason d (Revive p) h proper reason is = absurd cc
act_reason d (Mend board) h proper reason is = absurd cc
act_reason d (Board (Dead board)) h proper reason is = let low = proper.0.1 in board_by board _ (omega arith) reason is
act_reason d (Board (Flip board index bit)) h proper reason is = let low = proper.0.1 in board_by board _ (omega arith) reason is

-- a line
entry_end : (line : ℕ) (d : TriplexState) (entry : Entry) → line < 2 ^ 64 → IsReadableState d → IsProperEntry entry → ReadsEnd (read_run line d (Ok (Some entry))).end
entry_end line d (Ticks mask n) small h proper = limit_end line mask d n (nat_lt TICK_LIMIT (d.ticks + n)) small
entry_end line d (One act) small h proper = step_end line d (script_act act) (act_refusal d act) small (act_reason d act h proper)

read_end : (line : ℕ) (d : TriplexState) (text : List ℕ) (read : Result (Option Entry) BadLine) → line < 2 ^ 64 → length text < 2 ^ 63 → IsReadableState d → ReadsScriptLine line text read → ReadsEnd (read_run line d read).end
read_end line d text (Err bad) small few h reads = let within = bad_within line text bad reads in bad_line line bad.column small (omega arith)
read_end line d text (Ok None) small few h reads = no_end
read_end line d text (Ok (Some entry)) small few h reads = entry_end line d entry small h (said_proper entry text (said_in line text entry reads))

line_end : (line bytes : ℕ) (d : TriplexState) (text : List ℕ) (run : ScriptRun) → line < 2 ^ 64 → length text ≤ bytes → IsReadableState d → RunsLine line bytes d text run → ReadsEnd run.end
line_end line bytes d text run small few h (inl (over, is)) = subst (λ (r : ScriptRun). ReadsEnd r.end) (sym is) (too_long line small)
line_end line bytes d text run small few h (inr (room, ran)) = subst (λ (r : ScriptRun). ReadsEnd r.end) (sym ran.run_is) (read_end line d text ran.read small (omega arith) h ran.grammar)

-- ---- the lines of an input have at least one byte, and no more bytes of text than bytes

abbrev AreLines : List InputLine → Type 0
AreLines [] = Unit {0}
AreLines (line ∷ lines) = (1 ≤ line.size) × (length line.text ≤ line.size) × AreLines lines

with_lines : (b : ℕ) (lines : List InputLine) → AreLines lines → AreLines (with_byte b lines)
with_lines b [] h = (omega arith, omega arith, tt)
with_lines b (line ∷ lines) h = let size = h.0 in let text = h.1 in (omega arith, omega arith, h.2)

lines_by : (b : ℕ) (lines : List InputLine) (t : Bool) → AreLines lines → AreLines (cond t (empty_line ∷ lines) (with_byte b lines))
lines_by b lines true h = (omega arith, omega arith, h)
lines_by b lines false h = with_lines b lines h

are_lines : (input : List ℕ) → AreLines (lines_of input)
are_lines [] = tt
are_lines (b ∷ bs) = lines_by b (lines_of bs) (b == 10) (are_lines bs)

lines_few : (a b : List InputLine) → AreLines (a ++ b) → length a ≤ size_of a
lines_few [] b h = omega arith
lines_few (line ∷ a) b h = let size = h.0 in let rest = lines_few a b h.2 in omega arith

behind : (a b : List InputLine) → AreLines (a ++ b) → AreLines b
behind [] b h = h
behind (line ∷ a) b h = behind a b h.2

-- ---- a whole run

first_good : (frame : ℕ) (image : MemoryImage) → IsFrame frame → length image.local ≡ LOCAL_WORDS → length image.global ≡ GLOBAL_WORDS → IsGoodState (first_triplex frame image)
first_good frame image f local global = record {
  state = start_is_state r2000_triplex frame image.entry image.local image.global r2000_triplex_core f local global;
  readable = record { inbox = tt; tainted = λ p is. absurd cc };
}

input_end : (d : TriplexState) (input : List ℕ) (run : ScriptRun) (left : Option (List ℕ)) → d.halt ≡ None → IsGoodState d → RunsInput d input run left → ReadsEnd run.end
input_end d input run left halt h (inl x) = subst ReadsEnd (sym x.place.going) no_end
input_end d input run left halt h (inr x) =
    let lines : AreLines (x.place.before ++ x.place.after) = subst AreLines x.place.lines_are (are_lines input) in
    let few = lines_few x.place.before x.place.after lines in
    let short = x.place.short in
    let next : AreLines (x.line ∷ x.more) = subst AreLines x.next (behind x.place.before x.place.after lines) in
    let text = next.1 in
    let lawful = run_to_lawful d input x.first halt x.place in
    let read = stages_read x.first.stages d h lawful.stages in
    let state : IsReadableState x.first.state = subst IsReadableState (sym lawful.state_is) read.next.readable in
    subst (λ (r : ScriptRun). ReadsEnd r.end) (sym x.run_is) (line_end (length x.place.before + 1) (size_of x.place.before + x.line.size) x.first.state x.line.text x.last (omega arith) (omega arith) state x.ran)

readable_run : (frame : ℕ) (image : MemoryImage) (input : List ℕ) (run : ScriptRun) (left : Option (List ℕ)) → IsFrame frame → length image.local ≡ LOCAL_WORDS → length image.global ≡ GLOBAL_WORDS → RunsInput (first_triplex frame image) input run left → DueUpTo (runs run.state) (printed_deliveries run.stages) → IsReadableRun run
readable_run frame image input run left f local global ran due =
    let d = first_triplex frame image in
    let good = first_good frame image f local global in
    let lawful = input_lawful d input run left refl ran in
    let read = stages_read run.stages d good lawful.stages in
    let state : IsTriplexState r2000_triplex run.state = subst (IsTriplexState r2000_triplex) (sym lawful.state_is) read.next.state in
    let room = ticks_room run.state state in
    let few = runs_few run.state state in
    let bytes : console_count run.stages + d.ticks ≤ run.state.ticks = subst (λ (e : TriplexState). console_count run.stages + d.ticks ≤ e.ticks) (sym lawful.state_is) read.bytes in
    let end = input_end d input run left refl good ran in
    record {
      notes = all_readable (printed_notes run.stages) (runs run.state) (omega arith) read.notes (subst (DueUpTo (runs run.state)) (sym (printed run.stages)) due);
      run_count = ((omega arith, omega arith), tt);
      tick_count = ((omega arith, omega arith), tt);
      byte_count = ((omega arith, omega arith), tt);
      end = end.fits;
      own = end.own;
    }

pub replays_give_the_same : ReplaysGiveTheSame
replays_give_the_same frame image input run left f local global ran short =
    let masked = (every_script_is_masked image local global).whole frame f input run left ran in
    let whole : IsMasked frame image run.stages (state_after (first_triplex frame image) run.stages) = masked.masked run.stages [] (sym (append-nil run.stages)) in
    let here : IsMasked frame image run.stages run.state = subst (λ (d : TriplexState). IsMasked frame image run.stages d) (sym masked.state_is) whole in
    masked_replay frame image run here (readable_run frame image input run left f local global ran here.due) short
