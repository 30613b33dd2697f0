-- A run of a script is a list of lawful steps, one after another.
use Rattle.std.proofs.Common.{◌≡◌, ℕ, zero, suc, ◌+◌, ◌^◌, ◌<◌, ◌≤◌, Bool, true, false, cond, List, [], ◌∷◌, ◌++◌, refl, sym, ap, arith, ◌∙◌, subst, inl, inr}
use Rattle.std.specs.Prelude.{Some, None, Ok, Err, nat_lt}
use Rattle.std.specs.declared.option.Option.{Option}
use Rattle.std.specs.declared.result.Result.{Result}
use Rattle.std.proofs.lemmas.Bool.{ltb-false}
use Rattle.s2_ports.specs.declared.events.BoardFault.TheVariants.{Dead, Flip}
use Rattle.s2_text.specs.declared.stops.BadLine.{BadLine}
use Rattle.s2_script.specs.ScriptLines.{IsProperEntry}
use Rattle.s2_script.specs.declared.entry.Act.{Act}
use Rattle.s2_ports.specs.Events.{comes_from_outside}
use Rattle.s2_ports.specs.declared.events.Event.{Event as DeviceEvent}
use Rattle.s2_ports.specs.declared.events.Event.TheVariants.{Tick, Key, Private}
use Rattle.s2_script.specs.declared.entry.Act.TheVariants.{Event, Poke, PokeLocal, Drive, Mute, Remove, Revive, Board, Mend}
use Rattle.s2_script.specs.declared.entry.Entry.{Entry}
use Rattle.s2_script.specs.declared.entry.Entry.TheVariants.{Ticks, One}
use Rattle.s2_journal.specs.declared.note.End.{End}
use Rattle.s2_journal.specs.declared.note.End.TheVariants.{Bad, TooLong}
use Rattle.s2_journal.specs.declared.note.Reason.{Reason}
use Rattle.s2_triplex.specs.R2000Triplex.{r2000_triplex}
use Rattle.s2_triplex.specs.TriplexState.{TriplexState}
use Rattle.s2_triplex.specs.TriplexSteps.{TriplexStep, clock_tick, script_act, step_refusal, stepped, step_turn}
use Rattle.s2_triplex_laws.specs.TriplexStates.{IsActCall}
use Rattle.s2_run.specs.declared.limits.TheConstants.{TICK_LIMIT}
use Rattle.s2_text.specs.InputLines.{InputLine}
use Rattle.s2_run.specs.ScriptRuns.{Stage, ScriptRun, resting, ended, joined_runs, step_run_by, step_run, with_step, ticks_run, entry_run, read_run, ReadsScriptLine, RunsLine, RunsLines}
use Rattle.s2_run.proofs.FrameChoice.{said_in}
use Rattle.s2_run.specs.ScriptEndings.{RunTo, RunsInput}
use Rattle.s2_run.specs.MaskedRuns.{state_after}
use Rattle.s2_run.proofs.ProperEntries.{said_proper}
use Rattle.s2_run.proofs.ScriptStages.{step_goes, step_stays, going_by, counted_by}

-- what a step needs beside being lawful: a tick has room to be counted, and the numbers of an act are in their ranges
abbrev pub IsReady : TriplexState → TriplexStep → Type 0
IsReady d (clock_tick mask) = d.ticks < 2 ^ 40
IsReady d (script_act act) = IsProperEntry (One act)

-- a stage comes from a machine that runs, by a lawful step
pub record IsLawful (d : TriplexState) (stage : Stage) : Type 0 where
  pub running : d.halt ≡ None
  pub ready : IsReady d stage.step
  pub lawful : step_refusal d stage.step ≡ None
  pub state_is : stage.state ≡ stepped r2000_triplex d stage.step
  pub turn_is : stage.turn ≡ step_turn r2000_triplex d stage.step

-- and so does each of some stages, from the one before it
abbrev pub AreLawful : TriplexState → List Stage → Type 0
AreLawful d [] = Unit {0}
AreLawful d (stage ∷ stages) = IsLawful d stage × AreLawful stage.state stages

-- a run whose stages are lawful, and whose machine has not halted as long as it goes on
pub record IsLawfulRun (d : TriplexState) (run : ScriptRun) : Type 0 where
  pub stages : AreLawful d run.stages
  pub state_is : run.state ≡ state_after d run.stages
  pub goes_on : run.end ≡ None → run.state.halt ≡ None

-- stages, one list after another
lawful_append : (a b : List Stage) (d : TriplexState) → AreLawful d a → AreLawful (state_after d a) b → AreLawful d (a ++ b)
lawful_append [] b d x y = y
lawful_append (s ∷ a) b d x y = (x.0, lawful_append a b s.state x.1 y)

pub after_append : (a b : List Stage) (d : TriplexState) → state_after d (a ++ b) ≡ state_after (state_after d a) b
after_append [] b d = refl
after_append (s ∷ a) b d = after_append a b s.state

pub lawful_parts : (a b : List Stage) (d : TriplexState) → AreLawful d (a ++ b) → AreLawful d a × AreLawful (state_after d a) b
lawful_parts [] b d x = (tt, x)
lawful_parts (s ∷ a) b d x = let parts = lawful_parts a b s.state x.1 in ((x.0, parts.0), parts.1)

pub joined_lawful : (d : TriplexState) (a b : ScriptRun) → IsLawfulRun d a → IsLawfulRun a.state b → IsLawfulRun d (joined_runs a b)
joined_lawful d a b x y = record {
  stages = lawful_append a.stages b.stages d x.stages (subst (λ (q : TriplexState). AreLawful q b.stages) x.state_is y.stages);
  state_is = y.state_is ∙ (ap (λ (q : TriplexState). state_after q b.stages) x.state_is ∙ sym (after_append a.stages b.stages d));
  goes_on = y.goes_on;
}

-- no step
pub resting_lawful : (d : TriplexState) → d.halt ≡ None → IsLawfulRun d (resting d)
resting_lawful d halt = record { stages = tt; state_is = refl; goes_on = λ h. halt }

ended_lawful : (d : TriplexState) (end : End) → IsLawfulRun d (ended d end)
ended_lawful d end = record { stages = tt; state_is = refl; goes_on = λ h. cc }

-- one step
step_lawful : (line : ℕ) (d : TriplexState) (step : TriplexStep) (r : Option Reason) → step_refusal d step ≡ r → d.halt ≡ None → IsReady d step → IsLawfulRun d (step_run_by line d step r)
step_lawful line d step (Some reason) h halt ready = record { stages = tt; state_is = refl; goes_on = λ k. cc }
step_lawful line d step None h halt ready = record {
  stages = (record { running = halt; ready = ready; lawful = h; state_is = refl; turn_is = refl }, tt);
  state_is = refl;
  goes_on = λ k. going_by line d step None (sym k);
}

-- ticks, which are counted as long as the run goes on
record TicksLawful (d : TriplexState) (n : ℕ) (run : ScriptRun) : Type 0 where
  lawful : IsLawfulRun d run
  ticks : run.end ≡ None → run.state.ticks ≡ d.ticks + n

tick_more : (line mask : ℕ) (d : TriplexState) (n : ℕ) (run : ScriptRun) (e : Option End) → run.end ≡ e → d.ticks + suc n ≤ TICK_LIMIT → TicksLawful d n run → TicksLawful d (suc n) (with_step line run (clock_tick mask))
tick_more line mask d n run (Some end) h room x =
    subst (λ (r : ScriptRun). TicksLawful d (suc n) r) (sym (step_stays line run (clock_tick mask) end h)) (record { lawful = x.lawful; ticks = λ k. cc })
tick_more line mask d n run None h room x =
    let ticks = x.ticks h in
    let r = step_refusal run.state (clock_tick mask) in
    subst (λ (y : ScriptRun). TicksLawful d (suc n) y) (sym (step_goes line run (clock_tick mask) h)) (record {
      lawful = joined_lawful d run (step_run line run.state (clock_tick mask)) x.lawful (step_lawful line run.state (clock_tick mask) r refl (x.lawful.goes_on h) (omega arith));
      ticks = λ k. counted_by line run.state mask r (sym k) ∙ omega arith;
    })

ticks_lawful : (line mask : ℕ) (d : TriplexState) (n : ℕ) → d.halt ≡ None → d.ticks + n ≤ TICK_LIMIT → TicksLawful d n (ticks_run line mask d n)
ticks_lawful line mask d zero halt room = record { lawful = resting_lawful d halt; ticks = λ k. omega arith }
ticks_lawful line mask d (suc n) halt room = tick_more line mask d n (ticks_run line mask d n) (ticks_run line mask d n).end refl room (ticks_lawful line mask d n halt (omega arith))

ticks_if : (line mask : ℕ) (d : TriplexState) (n : ℕ) (t : Bool) → nat_lt TICK_LIMIT (d.ticks + n) ≡ t → d.halt ≡ None → IsLawfulRun d (cond t (ended d (TooLong line)) (ticks_run line mask d n))
ticks_if line mask d n true h halt = ended_lawful d (TooLong line)
ticks_if line mask d n false h halt = (ticks_lawful line mask d n halt (ltb-false TICK_LIMIT (d.ticks + n) h)).lawful

-- an event that a line can say comes from outside
event_call : (event : DeviceEvent) → IsProperEntry (One (Event event)) → comes_from_outside event ≡ true
event_call Tick h = refl
event_call (Key byte) h = refl
event_call (Private a b c) h = absurd h

-- an act whose numbers are in their ranges is one that the machine can take
pub act_call : (act : Act) → IsProperEntry (One act) → IsActCall act
act_call (Event event) h = event_call event h
act_call (Poke p k v) h = tt
act_call (PokeLocal p i v) h = tt
act_call (Drive p posted) h = tt
act_call (Mute p) h = tt
act_call (Remove p) h = tt
act_call (Revive p) h = tt
act_call (Mend board) h = tt
act_call (Board (Dead board)) h = let b = h.0.1 in omega arith
act_call (Board (Flip board index bit)) h = let b = h.0.1 in let i = h.1.0.1 in let n = h.1.1.0.1 in (omega arith, omega arith, omega arith)

-- lines
pub entry_lawful : (line : ℕ) (d : TriplexState) (entry : Entry) → IsProperEntry entry → d.halt ≡ None → IsLawfulRun d (entry_run line d entry)
entry_lawful line d (Ticks mask n) proper halt = ticks_if line mask d n (nat_lt TICK_LIMIT (d.ticks + n)) refl halt
entry_lawful line d (One act) proper halt = step_lawful line d (script_act act) (step_refusal d (script_act act)) refl halt proper

read_lawful : (line : ℕ) (d : TriplexState) (text : List ℕ) (read : Result (Option Entry) BadLine) → ReadsScriptLine line text read → d.halt ≡ None → IsLawfulRun d (read_run line d read)
read_lawful line d text (Err bad) reads halt = ended_lawful d (Bad line bad.column)
read_lawful line d text (Ok None) reads halt = resting_lawful d halt
read_lawful line d text (Ok (Some entry)) reads halt = entry_lawful line d entry (said_proper entry text (said_in line text entry reads)) halt

line_lawful : (line bytes : ℕ) (d : TriplexState) (text : List ℕ) (run : ScriptRun) → RunsLine line bytes d text run → d.halt ≡ None → IsLawfulRun d run
line_lawful line bytes d text run (inl (over, is)) halt = subst (IsLawfulRun d) (sym is) (ended_lawful d (TooLong line))
line_lawful line bytes d text run (inr (few, ran)) halt = subst (IsLawfulRun d) (sym ran.run_is) (read_lawful line d text ran.read ran.grammar halt)

lines_lawful : (line bytes : ℕ) (d : TriplexState) (lines : List InputLine) (run : ScriptRun) → RunsLines line bytes d lines run → d.halt ≡ None → IsLawfulRun d run
lines_lawful line bytes d [] run is halt = subst (IsLawfulRun d) (sym is) (resting_lawful d halt)
lines_lawful line bytes d (next ∷ lines) run (first, ran, inl (some, is)) halt = subst (IsLawfulRun d) (sym is) (line_lawful (line + 1) (bytes + next.size) d next.text first ran halt)
lines_lawful line bytes d (next ∷ lines) run (first, ran, inr (none, rest, more, is)) halt =
    let x = line_lawful (line + 1) (bytes + next.size) d next.text first ran halt in
    subst (IsLawfulRun d) (sym is) (joined_lawful d first rest x (lines_lawful (line + 1) (bytes + next.size) first.state lines rest more (x.goes_on none)))

-- a run as far as a line
pub run_to_lawful : (d : TriplexState) (input : List ℕ) (run : ScriptRun) → d.halt ≡ None → RunTo d input run → IsLawfulRun d run
run_to_lawful d input run halt x = lines_lawful 0 0 d x.before run x.ran halt

-- with the line behind it
pub line_behind_lawful : (d : TriplexState) (input : List ℕ) (first : ScriptRun) (line bytes : ℕ) (text : List ℕ) (last : ScriptRun) → d.halt ≡ None → RunTo d input first → RunsLine line bytes first.state text last → IsLawfulRun d (joined_runs first last)
line_behind_lawful d input first line bytes text last halt place ran =
    let x = run_to_lawful d input first halt place in
    joined_lawful d first last x (line_lawful line bytes first.state text last ran (x.goes_on place.going))

-- of a whole input
pub input_lawful : (d : TriplexState) (input : List ℕ) (run : ScriptRun) (left : Option (List ℕ)) → d.halt ≡ None → RunsInput d input run left → IsLawfulRun d run
input_lawful d input run left halt (inl x) = run_to_lawful d input run halt x.place
input_lawful d input run left halt (inr x) = subst (IsLawfulRun d) (sym x.run_is) (line_behind_lawful d input x.first _ _ x.line.text x.last halt x.place x.ran)
