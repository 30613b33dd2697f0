-- The stages of a run, and those of a run without the begins of mendings.
use Rattle.std.proofs.Common.{◌≡◌, ℕ, zero, suc, ◌+◌, ◌^◌, List, [], ◌∷◌, ◌++◌, refl, sym, ap, ◌∙◌, subst, inl, inr}
use Rattle.std.specs.Prelude.{Bool, true, false, nat_lt, Some, None, Ok, Err, ◌⊎◌, if◌then◌else◌}
use Rattle.std.specs.declared.option.Option.{Option}
use Rattle.std.specs.declared.result.Result.{Result}
use Rattle.s2_text.specs.declared.stops.BadLine.{BadLine}
use Rattle.s2_text.specs.LineTables.{SaysIn}
use Rattle.s2_machine.specs.MachineRun.{bytes_of}
use Rattle.s2_machine.specs.declared.deliveries.Delivery.{Delivery}
use Rattle.s2_journal.specs.declared.note.Reason.{Reason}
use Rattle.s2_journal.specs.declared.note.End.{End}
use Rattle.s2_journal.specs.declared.note.End.TheVariants.{TooLong}
use Rattle.s2_script.specs.ScriptLines.{script_rows}
use Rattle.s2_script.specs.declared.entry.Entry.{Entry}
use Rattle.s2_script.specs.declared.entry.Entry.TheVariants.{Ticks, One}
use Rattle.s2_script.specs.declared.entry.Act.TheVariants.{Mend}
use Rattle.s2_triplex.specs.R2000Triplex.{r2000_triplex}
use Rattle.s2_triplex.specs.TriplexState.{TriplexState}
use Rattle.s2_triplex.specs.ActStep.{mend_begun}
use Rattle.s2_triplex.specs.StepRefusals.{act_refusal}
use Rattle.s2_triplex.specs.StepTurns.{Turn, act_turn}
use Rattle.s2_triplex.specs.TriplexSteps.{TriplexStep, clock_tick, script_act, step_refusal, stepped, step_turn}
use Rattle.s2_triplex_laws.specs.StepNotes.{deliveries_in}
use Rattle.s2_triplex_laws.specs.TriplexStates.{IsTriplexState}
use Rattle.s2_triplex_laws.specs.TriplexExecutions.{IsStepCall, has_ticks_left}
use Rattle.s2_triplex_laws.specs.BoardMending.{EqualButBoards, is_mend, without_mends}
use Rattle.s2_triplex_laws.proofs.R2000Boards.{r2000_triplex_core}
use Rattle.s2_triplex_laws.proofs.TriplexStates.{start_is_state}
use Rattle.s2_triplex_laws.proofs.StepNotes.{act_tells}
use Rattle.s2_triplex_laws.proofs.BoardMending.{steps_ignore_boards, mend_alike}
use Rattle.s2_triplex_laws.proofs.MendedRuns.{keeps_state, mend_is, next_is}
use Rattle.s2_run.specs.Transcript.{console_of}
use Rattle.s2_run.specs.declared.limits.TheConstants.{TICK_LIMIT}
use Rattle.s2_text.specs.InputLines.{InputLine}
use Rattle.s2_run.specs.ScriptRuns.{ReadsScriptLine, Stage, ScriptRun, ended, step_run_by, step_run, with_step, ticks_run, read_run, RunsLine, Continues, RunsLines}
use Rattle.s2_run.specs.RunTranscript.{turn_transcript, stages_transcript}
use Rattle.s2_run.specs.MaskedRuns.{first_triplex, printed_deliveries, state_after}
use Rattle.s2_run.specs.MendedScripts.{steps_of, WriteAlike, MendsLeaveScripts, IsMendLine, LeavesOutMends, MendLinesLeaveScripts}
use Rattle.s2_run.proofs.StageTranscripts.{console_append}
use Rattle.s2_run.proofs.ScriptStages.{step_goes, step_stays}
use Rattle.s2_run.proofs.LawfulScripts.{IsReady, IsLawful, AreLawful, act_call, lawful_parts, run_to_lawful, input_lawful}
use Rattle.s2_run.proofs.MaskedScripts.{is_below, turn_bytes}
use Rattle.s2_run.proofs.OneRun.{not_both}
use Rattle.s2_run.proofs.FrameChoice.{one_reading, said_in}

-- what is known of a stage's step
call_of : (d : TriplexState) (step : TriplexStep) → IsReady d step → IsStepCall step
call_of d (clock_tick mask) ready = tt
call_of d (script_act act) ready = act_call act ready

left_of : (d : TriplexState) (step : TriplexStep) → IsReady d step → has_ticks_left d step ≡ true
left_of d (clock_tick mask) ready = is_below d.ticks (2 ^ 40) ready
left_of d (script_act act) ready = refl

stage_keeps : (d : TriplexState) (stage : Stage) → IsTriplexState r2000_triplex d → IsLawful d stage → IsTriplexState r2000_triplex stage.state
stage_keeps d stage h x =
    subst (IsTriplexState r2000_triplex) (next_is r2000_triplex d stage.step x.lawful ∙ sym x.state_is)
    (keeps_state r2000_triplex r2000_triplex_core d stage.step h (call_of d stage.step x.ready) (record { halt = x.running; left = left_of d stage.step x.ready; lawful = x.lawful }))

-- the console bytes of a stage and of those behind it
console_more : (stage : Stage) (stages : List Stage) → console_of (stages_transcript (stage ∷ stages)) ≡ bytes_of stage.turn.out ++ console_of (stages_transcript stages)
console_more stage stages = console_append (turn_transcript stage.turn) (stages_transcript stages) ∙ ap (λ (bs : List ℕ). bs ++ console_of (stages_transcript stages)) (turn_bytes stage.turn)

-- the begin of a mending writes nothing
record StageIsSilent (d : TriplexState) (stage : Stage) : Type 0 where
  states : (e : TriplexState) → EqualButBoards d e → EqualButBoards stage.state e
  deliveries : deliveries_in stage.turn.notes ≡ []
  out : bytes_of stage.turn.out ≡ []

mend_silent : (d : TriplexState) (stage : Stage) → IsLawful d stage → is_mend stage.step ≡ true → StageIsSilent d stage
mend_silent d stage x h =
    let m = mend_is stage.step h in
    let state : stage.state ≡ mend_begun m.0 d = x.state_is ∙ ap (stepped r2000_triplex d) m.1 in
    let turn : stage.turn ≡ act_turn d (Mend m.0) = x.turn_is ∙ ap (step_turn r2000_triplex d) m.1 in
    record {
      states = λ e alike. subst (λ (q : TriplexState). EqualButBoards q e) (sym state) (mend_alike d e m.0 alike);
      deliveries = ap (λ (t : Turn). deliveries_in t.notes) turn ∙ (act_tells d (Mend m.0)).deliveries;
      out = ap (λ (t : Turn). bytes_of t.out) turn;
    }

-- a step of both
record StageAlike (a b : Stage) : Type 0 where
  states : EqualButBoards a.state b.state
  deliveries : deliveries_in b.turn.notes ≡ deliveries_in a.turn.notes
  out : b.turn.out ≡ a.turn.out

stage_alike : (d e : TriplexState) (a b : Stage) → IsTriplexState r2000_triplex d → IsTriplexState r2000_triplex e → EqualButBoards d e → IsLawful d a → IsLawful e b → b.step ≡ a.step → StageAlike a b
stage_alike d e a b hd he alike x y same =
    let lawful : step_refusal e a.step ≡ None = subst (λ (s : TriplexStep). step_refusal e s ≡ None) same y.lawful in
    let t = steps_ignore_boards r2000_triplex d e a.step r2000_triplex_core hd.invariant.masking.agreement.boards he.invariant.masking.agreement.boards alike (call_of d a.step x.ready) x.lawful lawful in
    let state : b.state ≡ stepped r2000_triplex e a.step = y.state_is ∙ ap (stepped r2000_triplex e) same in
    let turn : b.turn ≡ step_turn r2000_triplex e a.step = y.turn_is ∙ ap (step_turn r2000_triplex e) same in
    record {
      states = subst (λ (q : TriplexState). EqualButBoards q b.state) (sym x.state_is) (subst (λ (q : TriplexState). EqualButBoards (stepped r2000_triplex d a.step) q) (sym state) t.states);
      deliveries = ap (λ (t : Turn). deliveries_in t.notes) turn ∙ (t.turns.deliveries ∙ sym (ap (λ (t : Turn). deliveries_in t.notes) x.turn_is));
      out = ap (λ (t : Turn). t.out) turn ∙ (t.turns.out ∙ sym (ap (λ (t : Turn). t.out) x.turn_is));
    }

-- ---- steps of which some begins of mendings are left out

abbrev MendsLeftOut : List TriplexStep → List TriplexStep → Type 0
MendsLeftOut [] [] = Unit {0}
MendsLeftOut [] (t ∷ ts) = ⊥
MendsLeftOut (s ∷ ss) [] = (is_mend s ≡ true) × MendsLeftOut ss []
MendsLeftOut (s ∷ ss) (t ∷ ts) = ((is_mend s ≡ true) × MendsLeftOut ss (t ∷ ts)) ⊎ ((t ≡ s) × MendsLeftOut ss ts)

-- one more is left out
one_left_out : (s : TriplexStep) (ss ts : List TriplexStep) → is_mend s ≡ true → MendsLeftOut ss ts → MendsLeftOut (s ∷ ss) ts
one_left_out s ss [] is h = (is, h)
one_left_out s ss (t ∷ ts) is h = inl (is, h)

all_left_out : (ss : List TriplexStep) → MendsLeftOut ss (without_mends ss)
all_left_out [] = tt
all_left_out (s ∷ ss) = by_kind (is_mend s) refl (all_left_out ss)
  where
    by_kind : (b : Bool) → is_mend s ≡ b → MendsLeftOut ss (without_mends ss) → MendsLeftOut (s ∷ ss) (if b then without_mends ss else s ∷ without_mends ss)
    by_kind true is h = one_left_out s ss (without_mends ss) is h
    by_kind false is h = inr (refl, h)

none_left_out : (ss : List TriplexStep) → MendsLeftOut ss ss
none_left_out [] = tt
none_left_out (s ∷ ss) = inr (refl, none_left_out ss)

left_out_both : (a b x y : List TriplexStep) → MendsLeftOut a x → MendsLeftOut b y → MendsLeftOut (a ++ b) (x ++ y)
left_out_both [] b [] y h k = k
left_out_both [] b (t ∷ x) y h k = absurd h
left_out_both (s ∷ a) b [] y h k = one_left_out s (a ++ b) y h.0 (left_out_both a b [] y h.1 k)
left_out_both (s ∷ a) b (t ∷ x) y (inl h) k = inl (h.0, left_out_both a b (t ∷ x) y h.1 k)
left_out_both (s ∷ a) b (t ∷ x) y (inr h) k = inr (h.0, left_out_both a b x y h.1 k)

-- ---- some stages

write_more : (a b : Stage) (ss bs : List Stage) → deliveries_in b.turn.notes ≡ deliveries_in a.turn.notes → b.turn.out ≡ a.turn.out → WriteAlike ss bs → WriteAlike (a ∷ ss) (b ∷ bs)
write_more a b ss bs deliveries out w = record {
  deliveries = ap (λ (ds : List Delivery). ds ++ printed_deliveries bs) deliveries ∙ ap (λ (ds : List Delivery). deliveries_in a.turn.notes ++ ds) w.deliveries;
  console = console_more b bs ∙ (ap (λ (o : Option ℕ). bytes_of o ++ console_of (stages_transcript bs)) out ∙ (ap (λ (cs : List ℕ). bytes_of a.turn.out ++ cs) w.console ∙ sym (console_more a ss)));
}

write_silent : (a : Stage) (ss bs : List Stage) → deliveries_in a.turn.notes ≡ [] → bytes_of a.turn.out ≡ [] → WriteAlike ss bs → WriteAlike (a ∷ ss) bs
write_silent a ss bs deliveries out w = record {
  deliveries = w.deliveries ∙ sym (ap (λ (ds : List Delivery). ds ++ printed_deliveries ss) deliveries);
  console = w.console ∙ sym (console_more a ss ∙ ap (λ (cs : List ℕ). cs ++ console_of (stages_transcript ss)) out);
}

record EndAlike (d e : TriplexState) (ss bs : List Stage) : Type 0 where
  states : EqualButBoards (state_after d ss) (state_after e bs)
  written : WriteAlike ss bs

stages_alike : (ss bs : List Stage) (d e : TriplexState) → IsTriplexState r2000_triplex d → IsTriplexState r2000_triplex e → EqualButBoards d e → AreLawful d ss → AreLawful e bs → MendsLeftOut (steps_of ss) (steps_of bs) → EndAlike d e ss bs
stages_alike [] [] d e hd he alike x y steps = record { states = alike; written = record { deliveries = refl; console = refl } }
stages_alike [] (b ∷ bs) d e hd he alike x y steps = absurd steps
stages_alike (a ∷ ss) [] d e hd he alike x y steps =
    let silent = mend_silent d a x.0 steps.0 in
    let more = stages_alike ss [] a.state e (stage_keeps d a hd x.0) he (silent.states e alike) x.1 y steps.1 in
    record { states = more.states; written = write_silent a ss [] silent.deliveries silent.out more.written }
stages_alike (a ∷ ss) (b ∷ bs) d e hd he alike x y (inl steps) =
    let silent = mend_silent d a x.0 steps.0 in
    let more = stages_alike ss (b ∷ bs) a.state e (stage_keeps d a hd x.0) he (silent.states e alike) x.1 y steps.1 in
    record { states = more.states; written = write_silent a ss (b ∷ bs) silent.deliveries silent.out more.written }
stages_alike (a ∷ ss) (b ∷ bs) d e hd he alike x y (inr steps) =
    let one = stage_alike d e a b hd he alike x.0 y.0 steps.0 in
    let more = stages_alike ss bs a.state b.state (stage_keeps d a hd x.0) (stage_keeps e b he y.0) one.states x.1 y.1 steps.1 in
    record { states = more.states; written = write_more a b ss bs one.deliveries one.out more.written }

pub mends_leave_scripts : MendsLeaveScripts
mends_leave_scripts frame image input other run run_other left left_other f local global runs runs_other front rest front_other rest_other is is_other steps =
    let d = first_triplex frame image in
    let h = start_is_state r2000_triplex frame image.entry image.local image.global r2000_triplex_core f local global in
    let x = input_lawful d input run left refl runs in
    let y = input_lawful d other run_other left_other refl runs_other in
    (stages_alike front front_other d d h h (record { rest = refl; memory = refl })
    (lawful_parts front rest d (subst (AreLawful d) is x.stages)).0 (lawful_parts front_other rest_other d (subst (AreLawful d) is_other y.stages)).0
    (subst (MendsLeftOut (steps_of front)) (sym steps) (all_left_out (steps_of front)))).written

-- ---- the steps of lines

-- the steps of a line that was read, where its run goes on
abbrev ticks_of : ℕ → ℕ → List TriplexStep
ticks_of mask zero = []
ticks_of mask (suc n) = ticks_of mask n ++ clock_tick mask ∷ []

abbrev line_steps : Result (Option Entry) BadLine → List TriplexStep
line_steps (Err bad) = []
line_steps (Ok None) = []
line_steps (Ok (Some (Ticks mask n))) = ticks_of mask n
line_steps (Ok (Some (One act))) = script_act act ∷ []

steps_append : (a b : List Stage) → steps_of (a ++ b) ≡ steps_of a ++ steps_of b
steps_append [] b = refl
steps_append (s ∷ a) b = ap (λ (ss : List TriplexStep). s.step ∷ ss) (steps_append a b)

one_step : (line : ℕ) (d : TriplexState) (step : TriplexStep) (r : Option Reason) → (step_run_by line d step r).end ≡ None → steps_of (step_run_by line d step r).stages ≡ step ∷ []
one_step line d step (Some reason) going = absurd cc
one_step line d step None going = refl

more_ticks : (line mask : ℕ) (run : ScriptRun) (n : ℕ) (e : Option End) → run.end ≡ e → (run.end ≡ None → steps_of run.stages ≡ ticks_of mask n) → (with_step line run (clock_tick mask)).end ≡ None → steps_of (with_step line run (clock_tick mask)).stages ≡ ticks_of mask (suc n)
more_ticks line mask run n (Some end) is before going = absurd (some_none end (sym is ∙ (sym (ap (λ (r : ScriptRun). r.end) (step_stays line run (clock_tick mask) end is)) ∙ going)))
  where
    some_none : (x : End) → Some x ≡ None → ⊥
    some_none x h = cc
more_ticks line mask run n None is before going =
    let next = step_run line run.state (clock_tick mask) in
    let goes = step_goes line run (clock_tick mask) is in
    ap (λ (r : ScriptRun). steps_of r.stages) goes
    ∙ (steps_append run.stages next.stages
    ∙ (ap (λ (ss : List TriplexStep). ss ++ steps_of next.stages) (before is)
    ∙ ap (λ (ss : List TriplexStep). ticks_of mask n ++ ss) (one_step line run.state (clock_tick mask) (step_refusal run.state (clock_tick mask)) (sym (ap (λ (r : ScriptRun). r.end) goes) ∙ going))))

ticks_steps : (line mask : ℕ) (d : TriplexState) (n : ℕ) → (ticks_run line mask d n).end ≡ None → steps_of (ticks_run line mask d n).stages ≡ ticks_of mask n
ticks_steps line mask d zero going = refl
ticks_steps line mask d (suc n) going = more_ticks line mask (ticks_run line mask d n) n (ticks_run line mask d n).end refl (ticks_steps line mask d n) going

read_steps : (line : ℕ) (d : TriplexState) (read : Result (Option Entry) BadLine) → (read_run line d read).end ≡ None → steps_of (read_run line d read).stages ≡ line_steps read
read_steps line d (Err bad) going = absurd cc
read_steps line d (Ok None) going = refl
read_steps line d (Ok (Some (One act))) going = one_step line d (script_act act) (act_refusal d act) going
read_steps line d (Ok (Some (Ticks mask n))) going = by_test (nat_lt TICK_LIMIT (d.ticks + n)) going
  where
    by_test : (b : Bool) → (if b then ended d (TooLong line) else ticks_run line mask d n).end ≡ None → steps_of (if b then ended d (TooLong line) else ticks_run line mask d n).stages ≡ ticks_of mask n
    by_test true h = absurd cc
    by_test false h = ticks_steps line mask d n h

-- a line whose run goes on is read, and has these steps
record LineGoes (line : ℕ) (text : List ℕ) (run : ScriptRun) : Type 0 where
  read : Result (Option Entry) BadLine
  grammar : ReadsScriptLine line text read
  well : (bad : BadLine) → read ≡ Err bad → ⊥
  steps : steps_of run.stages ≡ line_steps read

bad_stops : (line : ℕ) (d : TriplexState) (bad : BadLine) → (read_run line d (Err bad)).end ≡ None → ⊥
bad_stops line d bad h = cc

line_goes : (line bytes : ℕ) (d : TriplexState) (text : List ℕ) (run : ScriptRun) → RunsLine line bytes d text run → run.end ≡ None → LineGoes line text run
line_goes line bytes d text run (inl (over, is)) going = absurd (ended_not d line (sym (ap (λ (r : ScriptRun). r.end) is) ∙ going))
  where
    ended_not : (d : TriplexState) (line : ℕ) → (ended d (TooLong line)).end ≡ None → ⊥
    ended_not d line h = cc
line_goes line bytes d text run (inr (few, ran)) going = record {
  read = ran.read;
  grammar = ran.grammar;
  well = λ bad is. bad_stops line d bad (ap (λ (r : Result (Option Entry) BadLine). (read_run line d r).end) (sym is) ∙ (sym (ap (λ (r : ScriptRun). r.end) ran.run_is) ∙ going));
  steps = ap (λ (r : ScriptRun). steps_of r.stages) ran.run_is ∙ read_steps line d ran.read (sym (ap (λ (r : ScriptRun). r.end) ran.run_is) ∙ going);
}

-- a line that is not bad says at any place what it says as line 1
as_first : (line : ℕ) (text : List ℕ) (read : Result (Option Entry) BadLine) → ((bad : BadLine) → read ≡ Err bad → ⊥) → ReadsScriptLine line text read → ReadsScriptLine (suc zero) text read
as_first line text (Ok (Some entry)) well h = said_in line text entry h
as_first zero text (Ok None) well h = inl h
as_first (suc zero) text (Ok None) well h = h
as_first (suc (suc n)) text (Ok None) well h = inl h
as_first line text (Err bad) well h = absurd (well bad refl)

said_at : (line : ℕ) (text : List ℕ) (entry : Entry) → SaysIn script_rows entry text → ReadsScriptLine line text (Ok (Some entry))
said_at zero text entry h = h
said_at (suc zero) text entry h = h
said_at (suc (suc n)) text entry h = h

same_steps : (line line' : ℕ) (text other : List ℕ) (a b : ScriptRun) → LineGoes line text a → LineGoes line' other b → other ≡ text → MendsLeftOut (steps_of a.stages) (steps_of b.stages)
same_steps line line' text other a b x y is =
    let same = one_reading (suc zero) text x.read y.read (as_first line text x.read x.well x.grammar) (subst (λ (t : List ℕ). ReadsScriptLine (suc zero) t y.read) is (as_first line' other y.read y.well y.grammar)) in
    subst (MendsLeftOut (steps_of a.stages)) (x.steps ∙ (ap line_steps same ∙ sym y.steps)) (none_left_out (steps_of a.stages))

mend_steps : (line : ℕ) (text : List ℕ) (a : ScriptRun) → LineGoes line text a → IsMendLine text → MendsLeftOut (steps_of a.stages) []
mend_steps line text a x mend =
    let same = one_reading line text x.read (Ok (Some (One (Mend mend.0)))) x.grammar (said_at line text (One (Mend mend.0)) mend.1) in
    subst (λ (ss : List TriplexStep). MendsLeftOut ss []) (sym (x.steps ∙ ap line_steps same)) (refl, tt)

-- a run that goes on behind its first line
record GoesOn (first : ScriptRun) (More : ScriptRun → Type 0) (run : ScriptRun) : Type 0 where
  rest : ScriptRun
  more : More rest
  first_goes : first.end ≡ None
  rest_goes : rest.end ≡ None
  steps : steps_of run.stages ≡ steps_of first.stages ++ steps_of rest.stages

goes_on : (first : ScriptRun) (More : ScriptRun → Type 0) (run : ScriptRun) → Continues first More run → run.end ≡ None → GoesOn first More run
goes_on first More run (inl (some, is)) going = absurd (not_both first.end some (sym (ap (λ (r : ScriptRun). r.end) is) ∙ going))
goes_on first More run (inr (none, rest, more, is)) going = record {
  rest = rest;
  more = more;
  first_goes = none;
  rest_goes = sym (ap (λ (r : ScriptRun). r.end) is) ∙ going;
  steps = ap (λ (r : ScriptRun). steps_of r.stages) is ∙ steps_append first.stages rest.stages;
}

lines_steps : (xs ys : List InputLine) (line bytes line' bytes' : ℕ) (d e : TriplexState) (run other : ScriptRun) → RunsLines line bytes d xs run → run.end ≡ None → RunsLines line' bytes' e ys other → other.end ≡ None → LeavesOutMends xs ys →
    MendsLeftOut (steps_of run.stages) (steps_of other.stages)
lines_steps [] [] line bytes line' bytes' d e run other is going is' going' h =
    subst (λ (r : ScriptRun). MendsLeftOut (steps_of r.stages) (steps_of other.stages)) (sym is) (subst (λ (r : ScriptRun). MendsLeftOut [] (steps_of r.stages)) (sym is') tt)
lines_steps [] (y ∷ ys) line bytes line' bytes' d e run other is going is' going' h = absurd h
lines_steps (x ∷ xs) [] line bytes line' bytes' d e run other (first, ran, on) going is' going' h =
    let g = goes_on first (RunsLines (line + 1) (bytes + x.size) first.state xs) run on going in
    let one = mend_steps (line + 1) x.text first (line_goes (line + 1) (bytes + x.size) d x.text first ran g.first_goes) h.0 in
    let more = lines_steps xs [] (line + 1) (bytes + x.size) line' bytes' first.state e g.rest other g.more g.rest_goes is' going' h.1 in
    subst (λ (ss : List TriplexStep). MendsLeftOut ss (steps_of other.stages)) (sym g.steps) (left_out_both (steps_of first.stages) (steps_of g.rest.stages) [] (steps_of other.stages) one more)
lines_steps (x ∷ xs) (y ∷ ys) line bytes line' bytes' d e run other (first, ran, on) going ran' going' (inl h) =
    let g = goes_on first (RunsLines (line + 1) (bytes + x.size) first.state xs) run on going in
    let one = mend_steps (line + 1) x.text first (line_goes (line + 1) (bytes + x.size) d x.text first ran g.first_goes) h.0 in
    let more = lines_steps xs (y ∷ ys) (line + 1) (bytes + x.size) line' bytes' first.state e g.rest other g.more g.rest_goes ran' going' h.1 in
    subst (λ (ss : List TriplexStep). MendsLeftOut ss (steps_of other.stages)) (sym g.steps) (left_out_both (steps_of first.stages) (steps_of g.rest.stages) [] (steps_of other.stages) one more)
lines_steps (x ∷ xs) (y ∷ ys) line bytes line' bytes' d e run other (first, ran, on) going (first', ran', on') going' (inr h) =
    let g = goes_on first (RunsLines (line + 1) (bytes + x.size) first.state xs) run on going in
    let g' = goes_on first' (RunsLines (line' + 1) (bytes' + y.size) first'.state ys) other on' going' in
    let one = same_steps (line + 1) (line' + 1) x.text y.text first first' (line_goes (line + 1) (bytes + x.size) d x.text first ran g.first_goes) (line_goes (line' + 1) (bytes' + y.size) e y.text first' ran' g'.first_goes) h.0 in
    let more = lines_steps xs ys (line + 1) (bytes + x.size) (line' + 1) (bytes' + y.size) first.state first'.state g.rest g'.rest g.more g.rest_goes g'.more g'.rest_goes h.1 in
    subst (λ (ss : List TriplexStep). MendsLeftOut ss (steps_of other.stages)) (sym g.steps)
    (subst (MendsLeftOut (steps_of first.stages ++ steps_of g.rest.stages)) (sym g'.steps) (left_out_both (steps_of first.stages) (steps_of g.rest.stages) (steps_of first'.stages) (steps_of g'.rest.stages) one more))

pub mend_lines_leave_scripts : MendLinesLeaveScripts
mend_lines_leave_scripts frame image input other run run_other place place_other f local global h =
    let d = first_triplex frame image in
    let start = start_is_state r2000_triplex frame image.entry image.local image.global r2000_triplex_core f local global in
    let x = run_to_lawful d input run refl place in
    let y = run_to_lawful d other run_other refl place_other in
    let steps = lines_steps place.before place_other.before 0 0 0 0 d d run run_other place.ran place.going place_other.ran place_other.going h in
    let ends = stages_alike run.stages run_other.stages d d start start (record { rest = refl; memory = refl }) x.stages y.stages steps in
    record {
      states = subst (λ (q : TriplexState). EqualButBoards q run_other.state) (sym x.state_is) (subst (λ (q : TriplexState). EqualButBoards (state_after d run.stages) q) (sym y.state_is) ends.states);
      written = ends.written;
    }
