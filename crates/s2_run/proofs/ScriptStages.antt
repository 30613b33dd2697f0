-- Runs of steps, one after another, with what they write.
use Rattle.std.proofs.Common.{◌≡◌, ℕ, zero, suc, ◌+◌, ◌-◌, ◌<◌, ◌≤◌, Bool, true, false, cond, List, [], ◌∷◌, ◌++◌, take, length, append_assoc, append-nil, refl, sym, ap, arith, ◌∙◌, subst}
use Rattle.std.specs.Prelude.{Some, None, Ok, Err, is_some}
use Rattle.std.specs.declared.option.Option.{Option}
use Rattle.s2_machine.specs.MachineRun.{bytes_of}
use Rattle.s2_journal.specs.declared.note.End.{End}
use Rattle.s2_journal.specs.declared.note.End.TheVariants.{Outside}
use Rattle.s2_journal.specs.declared.note.Reason.{Reason}
use Rattle.s2_triplex.specs.R2000Triplex.{r2000_triplex}
use Rattle.s2_triplex.specs.TriplexState.{TriplexState}
use Rattle.s2_triplex.specs.StepTurns.{Turn, unless_refused, next_unless_refused}
use Rattle.s2_triplex.specs.TriplexSteps.{TriplexStep, clock_tick, script_act, step_refusal, stepped, step_turn, step_answer, next_after_step}
use Rattle.s2_run.specs.Transcript.{Outlet, Console, Report, for_outlet, console_of}
use Rattle.s2_run.specs.ScriptRuns.{Stage, ScriptRun, joined_runs, halt_end, step_run_by, step_run, with_step, ticks_run}
use Rattle.s2_run.specs.RunTranscript.{Taken, with_transcript, note_lines, turn_transcript, stages_transcript, console_count}
use Rattle.s2_run.specs.ScriptEndings.{CutAtStage}
use Rattle.s2_run.specs.ScriptRunParts.{HasRun}
use Rattle.s2_script.specs.declared.entry.Act.{Act}
use Rattle.s2_run.specs.SeenObjects.{SinkSeen}
use Rattle.s2_run.specs.FaultCounts.{SinkSame}
use Rattle.s2_run.proofs.StepCounts.{tick_counts, tick_accepts, act_takes_no_time, act_accepts}
use Rattle.s2_run.proofs.StageTranscripts.{console_append, console_of-report, console_of-console, transcript_twice, transcript_none, stages_append, count_append}

-- one run, and then another
pub ran_joined : {a c : ScriptRun} {end going : Option End} {p p' : TriplexState} {w v u : ℕ} {before mid now : Taken} → HasRun a going p w v before mid → HasRun c end p' v u mid now → HasRun (joined_runs a c) end p' w u before now
ran_joined {a} {c} {end} {going} {p} {p'} {w} {v} {u} {before} {mid} {now} x y = record {
  end_is = y.end_is;
  state_is = y.state_is;
  count_is = omega (arith, count_append a.stages c.stages, x.count_is, y.count_is);
  wrote = y.wrote ∙ (ap (λ (t : Taken). with_transcript t (stages_transcript c.stages)) x.wrote ∙ (transcript_twice before (stages_transcript a.stages) (stages_transcript c.stages) ∙ ap (with_transcript before) (sym (stages_append a.stages c.stages))));
}

-- a run whose transcript was written, and then one where a write failed
pub cut_after : {before mid now : Taken} {p : TriplexState} (a c : List Stage) → mid ≡ with_transcript before (stages_transcript a) → CutAtStage c p mid now → CutAtStage (a ++ c) p before now
cut_after {before} {mid} {now} {p} a c wrote x = record {
  written = a ++ x.written;
  stage = x.stage;
  rest = x.rest;
  bytes = x.bytes;
  stages_are = ap (λ (s : List Stage). a ++ s) x.stages_are ∙ sym (append_assoc a x.written (x.stage ∷ x.rest));
  short = x.short;
  state_is = x.state_is;
  wrote =
      let part = take x.bytes (turn_transcript x.stage.turn) in
      x.wrote ∙ (ap (λ (t : Taken). with_transcript t (stages_transcript x.written ++ part)) wrote
      ∙ (transcript_twice before (stages_transcript a) (stages_transcript x.written ++ part)
      ∙ ap (with_transcript before) (sym (append_assoc (stages_transcript a) (stages_transcript x.written) part) ∙ ap (λ (t : List (Outlet × ℕ)). t ++ part) (sym (stages_append a x.written)))));
}

-- stages that would have come after the failed write
pub cut_grows : {before now : Taken} {p : TriplexState} (a c : List Stage) → CutAtStage a p before now → CutAtStage (a ++ c) p before now
cut_grows {before} {now} {p} a c x = record {
  written = x.written;
  stage = x.stage;
  rest = x.rest ++ c;
  bytes = x.bytes;
  stages_are = ap (λ (s : List Stage). s ++ c) x.stages_are ∙ append_assoc x.written (x.stage ∷ x.rest) c;
  short = x.short;
  state_is = x.state_is;
  wrote = x.wrote;
}

-- a refused step, and a lawful one
lawful_is : (r : Option Reason) (t turn : Turn) → Ok turn ≡ unless_refused r t → (r ≡ None) × (turn ≡ t)
lawful_is None t turn h = (refl, cc)
lawful_is (Some x) t turn h = cc

refused_is : (r : Option Reason) (t : Turn) (reason : Reason) → Err reason ≡ unless_refused r t → r ≡ Some reason
refused_is None t reason h = cc
refused_is (Some x) t reason h = cc

pub step_refused : (line : ℕ) (p : TriplexState) (step : TriplexStep) (reason : Reason) (p' : TriplexState) (w : ℕ) (before : Taken) → Err reason ≡ step_answer r2000_triplex p step → p' ≡ next_after_step r2000_triplex p step → HasRun (step_run line p step) (Some (Outside line reason)) p' w w before before
step_refused line p step reason p' w before says is =
    let r = refused_is (step_refusal p step) (step_turn r2000_triplex p step) reason says in
    let run : step_run_by line p step (Some reason) ≡ step_run line p step = ap (step_run_by line p step) (sym r) in
    subst (λ (x : ScriptRun). HasRun x (Some (Outside line reason)) p' w w before before) run (record {
      end_is = refl;
      state_is = is ∙ ap (λ (o : Option Reason). next_unless_refused o (stepped r2000_triplex p step) p) r;
      count_is = omega arith;
      wrote = sym (transcript_none before);
    })

pub step_made : (line : ℕ) (p : TriplexState) (step : TriplexStep) (turn : Turn) (p' : TriplexState) (end : Option End) (w n : ℕ) (before now : Taken) → Ok turn ≡ step_answer r2000_triplex p step → p' ≡ next_after_step r2000_triplex p step → end ≡ halt_end p'.halt → n ≡ length (bytes_of turn.out) → now ≡ with_transcript before (turn_transcript turn) → HasRun (step_run line p step) end p' w (w + n) before now
step_made line p step turn p' end w n before now says is ends count wrote =
    let r = lawful_is (step_refusal p step) (step_turn r2000_triplex p step) turn says in
    let run : step_run_by line p step None ≡ step_run line p step = ap (step_run_by line p step) (sym r.0) in
    let moves : p' ≡ stepped r2000_triplex p step = is ∙ ap (λ (o : Option Reason). next_unless_refused o (stepped r2000_triplex p step) p) r.0 in
    let one : stages_transcript (step_run_by line p step None).stages ≡ turn_transcript turn = append-nil (turn_transcript (step_turn r2000_triplex p step)) ∙ ap turn_transcript (sym r.1) in
    let bytes : console_of (turn_transcript turn) ≡ bytes_of turn.out =
    console_append (for_outlet Console (bytes_of turn.out)) (for_outlet Report (note_lines turn.notes)) ∙ (ap (λ (x : List ℕ). console_of (for_outlet Console (bytes_of turn.out)) ++ x) (console_of-report (note_lines turn.notes)) ∙ (append-nil _ ∙ console_of-console (bytes_of turn.out))) in
    let size : console_count (step_run_by line p step None).stages ≡ length (bytes_of turn.out) = ap (λ (t : List (Outlet × ℕ)). length (console_of t)) one ∙ ap length bytes in
    subst (λ (x : ScriptRun). HasRun x end p' w (w + n) before now) run (record {
      end_is = ends ∙ ap (λ (q : TriplexState). halt_end q.halt) moves;
      state_is = moves;
      count_is = ap (λ (k : ℕ). w + k) (count ∙ sym size);
      wrote = wrote ∙ ap (with_transcript before) (sym one);
    })

pub step_cut : (line : ℕ) (p : TriplexState) (step : TriplexStep) (turn : Turn) (p' : TriplexState) (k : ℕ) (before now : Taken) → Ok turn ≡ step_answer r2000_triplex p step → p' ≡ next_after_step r2000_triplex p step → k < length (turn_transcript turn) → now ≡ with_transcript before (take k (turn_transcript turn)) → CutAtStage (step_run line p step).stages p' before now
step_cut line p step turn p' k before now says is short wrote =
    let r = lawful_is (step_refusal p step) (step_turn r2000_triplex p step) turn says in
    let run : step_run_by line p step None ≡ step_run line p step = ap (step_run_by line p step) (sym r.0) in
    let moves : p' ≡ stepped r2000_triplex p step = is ∙ ap (λ (o : Option Reason). next_unless_refused o (stepped r2000_triplex p step) p) r.0 in
    subst (λ (x : ScriptRun). CutAtStage x.stages p' before now) run (record {
      written = [];
      stage = record { step = step; state = stepped r2000_triplex p step; turn = step_turn r2000_triplex p step };
      rest = [];
      bytes = k;
      stages_are = refl;
      short = subst (λ (t : Turn). k < length (turn_transcript t)) r.1 short;
      state_is = moves;
      wrote = wrote ∙ ap (λ (t : Turn). with_transcript before (take k (turn_transcript t))) r.1;
    })

-- a run that has not ended takes one more step, and one that has ended stays
pub step_goes : (line : ℕ) (run : ScriptRun) (step : TriplexStep) → run.end ≡ None → with_step line run step ≡ joined_runs run (step_run line run.state step)
step_goes line run step h = ap (λ (e : Option End). cond (is_some e) run (joined_runs run (step_run line run.state step))) h

pub step_stays : (line : ℕ) (run : ScriptRun) (step : TriplexStep) (end : End) → run.end ≡ Some end → with_step line run step ≡ run
step_stays line run step end h = ap (λ (e : Option End). cond (is_some e) run (joined_runs run (step_run line run.state step))) h

pub ran_step : {run : ScriptRun} {end : Option End} {p p' : TriplexState} {w v u : ℕ} {before mid now : Taken} (line : ℕ) (step : TriplexStep) → HasRun run None p w v before mid → HasRun (step_run line p step) end p' v u mid now → HasRun (with_step line run step) end p' w u before now
ran_step {run} {end} {p} {p'} {w} {v} {u} {before} {mid} {now} line step x y =
    let y' : HasRun (step_run line run.state step) end p' v u mid now = subst (λ (q : TriplexState). HasRun (step_run line q step) end p' v u mid now) x.state_is y in
    subst (λ (r : ScriptRun). HasRun r end p' w u before now) (sym (step_goes line run step (sym x.end_is))) (ran_joined x y')

pub cut_step : {run : ScriptRun} {p p' : TriplexState} {w v : ℕ} {before mid now : Taken} (line : ℕ) (step : TriplexStep) → HasRun run None p w v before mid → CutAtStage (step_run line p step).stages p' mid now → CutAtStage (with_step line run step).stages p' before now
cut_step {run} {p} {p'} {w} {v} {before} {mid} {now} line step x y =
    let y' : CutAtStage (step_run line run.state step).stages p' mid now = subst (λ (q : TriplexState). CutAtStage (step_run line q step).stages p' mid now) x.state_is y in
    subst (λ (r : ScriptRun). CutAtStage r.stages p' before now) (sym (step_goes line run step (sym x.end_is))) (cut_after run.stages (step_run line run.state step).stages x.wrote y')

-- so many ticks more
unfoldable ticks_more : ℕ → ℕ → ℕ → ScriptRun → ScriptRun
ticks_more line mask zero run = run
ticks_more line mask (suc k) run = with_step line (ticks_more line mask k run) (clock_tick mask)

ticks_split : (line mask : ℕ) (p : TriplexState) (k n j : ℕ) → n ≡ k + j → ticks_run line mask p n ≡ ticks_more line mask k (ticks_run line mask p j)
unfolding ticks_more
ticks_split line mask p zero n j e = let same : n ≡ j = omega arith in ap (ticks_run line mask p) same
ticks_split line mask p (suc k) zero j e = absurd (omega arith)
ticks_split line mask p (suc k) (suc n) j e = ap (λ (r : ScriptRun). with_step line r (clock_tick mask)) (ticks_split line mask p k n j (omega arith))

ticks_stay : (line mask k : ℕ) (run : ScriptRun) (end : End) → run.end ≡ Some end → ticks_more line mask k run ≡ run
unfolding ticks_more
ticks_stay line mask zero run end h = refl
ticks_stay line mask (suc k) run end h = ap (λ (r : ScriptRun). with_step line r (clock_tick mask)) (ticks_stay line mask k run end h) ∙ step_stays line run (clock_tick mask) end h

cut_on : {before now : Taken} {p : TriplexState} (line : ℕ) (run : ScriptRun) (step : TriplexStep) (b : Bool) → CutAtStage run.stages p before now → CutAtStage (cond b run (joined_runs run (step_run line run.state step))).stages p before now
cut_on line run step true x = x
cut_on line run step false x = cut_grows run.stages (step_run line run.state step).stages x

ticks_cut : {before now : Taken} {p : TriplexState} (line mask k : ℕ) (run : ScriptRun) → CutAtStage run.stages p before now → CutAtStage (ticks_more line mask k run).stages p before now
unfolding ticks_more
ticks_cut line mask zero run x = x
ticks_cut line mask (suc k) run x = let y = ticks_cut line mask k run x in cut_on line (ticks_more line mask k run) (clock_tick mask) (is_some (ticks_more line mask k run).end) y

-- an end comes at a tick, and the ticks after it are not run
pub ticks_ended : {end : End} {p' : TriplexState} {w u : ℕ} {before now : Taken} (line mask : ℕ) (p : TriplexState) (n i : ℕ) → i < n → HasRun (ticks_run line mask p (suc i)) (Some end) p' w u before now → HasRun (ticks_run line mask p n) (Some end) p' w u before now
ticks_ended {end} {p'} {w} {u} {before} {now} line mask p n i below x =
    let same = ticks_split line mask p (n - suc i) n (suc i) (omega arith) ∙ ticks_stay line mask (n - suc i) (ticks_run line mask p (suc i)) end (sym x.end_is) in
    subst (λ (r : ScriptRun). HasRun r (Some end) p' w u before now) (sym same) x

pub ticks_broken : {p' : TriplexState} {before now : Taken} (line mask : ℕ) (p : TriplexState) (n i : ℕ) → i < n → CutAtStage (ticks_run line mask p (suc i)).stages p' before now → CutAtStage (ticks_run line mask p n).stages p' before now
ticks_broken {p'} {before} {now} line mask p n i below x =
    subst (λ (r : ScriptRun). CutAtStage r.stages p' before now) (sym (ticks_split line mask p (n - suc i) n (suc i) (omega arith))) (ticks_cut line mask (n - suc i) (ticks_run line mask p (suc i)) x)

-- the ticks up to one of them
pub ticks_up : (line mask : ℕ) (p : TriplexState) (i : ℕ) → with_step line (ticks_run line mask p i) (clock_tick mask) ≡ ticks_run line mask p (i + 1)
ticks_up line mask p i = let same : suc i ≡ i + 1 = omega arith in ap (ticks_run line mask p) same

-- after a step that does not end the run the machine has not halted
none_of : (h : Option ℕ) → None ≡ halt_end h → h ≡ None
none_of None e = refl
none_of (Some v) e = cc

pub going_by : (line : ℕ) (p : TriplexState) (step : TriplexStep) (r : Option Reason) → None ≡ (step_run_by line p step r).end → (step_run_by line p step r).state.halt ≡ None
going_by line p step None e = none_of (stepped r2000_triplex p step).halt e
going_by line p step (Some reason) e = cc

pub going_halt : {p' : TriplexState} {w u : ℕ} {before now : Taken} (line : ℕ) (p : TriplexState) (step : TriplexStep) → HasRun (step_run line p step) None p' w u before now → p'.halt ≡ None
going_halt {p'} line p step x = ap (λ (q : TriplexState). q.halt) x.state_is ∙ going_by line p step (step_refusal p step) x.end_is

-- a tick that does not end the run is counted, and accepts no event
pub counted_by : (line : ℕ) (p : TriplexState) (mask : ℕ) (r : Option Reason) → None ≡ (step_run_by line p (clock_tick mask) r).end → (step_run_by line p (clock_tick mask) r).state.ticks ≡ p.ticks + 1
counted_by line p mask None e = tick_counts r2000_triplex p mask
counted_by line p mask (Some reason) e = cc

pub going_ticks : {p' : TriplexState} {w u : ℕ} {before now : Taken} (line : ℕ) (p : TriplexState) (mask : ℕ) → HasRun (step_run line p (clock_tick mask)) None p' w u before now → p'.ticks ≡ p.ticks + 1
going_ticks {p'} line p mask x = ap (λ (q : TriplexState). q.ticks) x.state_is ∙ counted_by line p mask (step_refusal p (clock_tick mask)) x.end_is

pub quiet_by : (line : ℕ) (p : TriplexState) (mask : ℕ) (r : Option Reason) → (step_run_by line p (clock_tick mask) r).state.accepted ≡ p.accepted
quiet_by line p mask None = tick_accepts r2000_triplex p mask
quiet_by line p mask (Some reason) = refl

pub tick_quiet : {end : Option End} {p' : TriplexState} {w u : ℕ} {before now : Taken} (line : ℕ) (p : TriplexState) (mask : ℕ) → HasRun (step_run line p (clock_tick mask)) end p' w u before now → p'.accepted ≡ p.accepted
tick_quiet {end} {p'} line p mask x = ap (λ (q : TriplexState). q.accepted) x.state_is ∙ quiet_by line p mask (step_refusal p (clock_tick mask))

-- an act accepts one event at most, and no time passes in it
pub act_by : (line : ℕ) (p : TriplexState) (act : Act) (r : Option Reason) → ((step_run_by line p (script_act act) r).state.ticks ≡ p.ticks) × ((step_run_by line p (script_act act) r).state.accepted ≤ p.accepted + 1)
act_by line p act None = (act_takes_no_time act p, act_accepts act p)
act_by line p act (Some reason) = (refl, omega arith)

pub act_went : {end : Option End} {p' : TriplexState} {w u : ℕ} {before now : Taken} (line : ℕ) (p : TriplexState) (act : Act) → HasRun (step_run line p (script_act act)) end p' w u before now → (p'.ticks ≡ p.ticks) × (p'.accepted ≤ p.accepted + 1)
act_went {end} {p'} line p act x =
    let b = act_by line p act (step_refusal p (script_act act)) in
    let same : p'.accepted ≡ (step_run line p (script_act act)).state.accepted = ap (λ (q : TriplexState). q.accepted) x.state_is in
    (ap (λ (q : TriplexState). q.ticks) x.state_is ∙ b.0, omega (arith, b.1))

-- counts that did not rise, twice
pub same_twice : {a b c : SinkSeen} → SinkSame a b → SinkSame b c → SinkSame a c
same_twice {a} {b} {c} x y = record { faults = y.faults ∙ x.faults; empty_takes = y.empty_takes ∙ x.empty_takes }
