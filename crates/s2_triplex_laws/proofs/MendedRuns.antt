-- A run and the run without the begins of mendings.
use Rattle.std.proofs.Common.{◌≡◌, ℕ, ◌<◌, ◌^◌, List, [], ◌∷◌, ◌++◌, refl, sym, ap, subst, ◌∙◌, arith}
use Rattle.std.specs.Prelude.{Bool, true, false, not, nat_lt, ◌&&◌, Some, None, Ok, is_some, if◌then◌else◌}
use Rattle.std.specs.List.{All}
use Rattle.std.specs.declared.option.Option.{Option}
use Rattle.std.specs.declared.result.Result.{Result}
use Rattle.std.proofs.lemmas.Bool.Decides.{nat_tests}
use Rattle.std.proofs.lemmas.List.{append-nil}
use Rattle.std.proofs.lemmas.List.Elements.{All-head, All-tail}
use Rattle.s2_journal.specs.declared.note.Reason.{Reason}
use Rattle.s2_machine.specs.MachineRun.{bytes_of}
use Rattle.s2_machine.specs.declared.deliveries.Delivery.{Delivery}
use Rattle.s2_script.specs.declared.entry.Act.TheVariants.{Event as EventAct, Poke, PokeLocal, Drive, Mute, Remove, Revive, Board, Mend}
use Rattle.s2_triplex.specs.TriplexCores.{TriplexCore, IsTriplexCore}
use Rattle.s2_triplex.specs.TriplexState.{TriplexState, started_triplex}
use Rattle.s2_triplex.specs.StepTurns.{Turn, unless_refused, next_unless_refused}
use Rattle.s2_triplex.specs.TriplexSteps.{TriplexStep, clock_tick, script_act, step_refusal, stepped, step_turn, step_answer, next_after_step}
use Rattle.s2_triplex_laws.specs.StepNotes.{deliveries_in}
use Rattle.s2_triplex_laws.specs.TriplexStates.{IsTriplexState}
use Rattle.s2_triplex_laws.specs.TriplexExecutions.{Execution, IsStepCall, execution_of, after_turn, after_answer, has_ticks_left, is_accepted, takes_step, after_steps}
use Rattle.s2_triplex_laws.specs.BoardMending.{RunsAlike, is_mend, without_mends, all_taken, MendsLeaveRuns}
use Rattle.s2_triplex_laws.proofs.TriplexStates.{tick_keeps_state, act_keeps_state, start_is_state}
use Rattle.s2_triplex_laws.proofs.BoardMending.{steps_ignore_boards, mend_alike}
use Rattle.s2_triplex_laws.proofs.StepNotes.{act_tells}

pub both_true : (a b : Bool) → (a && b) ≡ true → (a ≡ true) × (b ≡ true)
both_true true b h = (refl, h)
both_true false b h = absurd cc

none_is : (x : Option ℕ) → not (is_some x) ≡ true → x ≡ None
none_is None h = refl
none_is (Some v) h = absurd cc

lawful_by : (r : Option Reason) (turn : Turn) → is_accepted (unless_refused r turn) ≡ true → r ≡ None
lawful_by None turn h = refl
lawful_by (Some reason) turn h = absurd cc

room_by : (n m : ℕ) → nat_lt n m ≡ true → n < m
room_by n m h = grind (arith, nat_tests)

-- what is known of a step that is taken
pub record Taken (k : TriplexCore) (d : TriplexState) (s : TriplexStep) : Type 0 where
  pub halt : d.halt ≡ None
  pub left : has_ticks_left d s ≡ true
  pub lawful : step_refusal d s ≡ None

pub taken_tells : (k : TriplexCore) (d : TriplexState) (s : TriplexStep) → takes_step k d s ≡ true → Taken k d s
taken_tells k d s h =
    let both = both_true (not (is_some d.halt) && has_ticks_left d s) (is_accepted (step_answer k d s)) h in
    let on = both_true (not (is_some d.halt)) (has_ticks_left d s) both.0 in
    record { halt = none_is d.halt on.0; left = on.1; lawful = lawful_by (step_refusal d s) (step_turn k d s) both.1 }

pub next_is : (k : TriplexCore) (d : TriplexState) (s : TriplexStep) → step_refusal d s ≡ None → next_after_step k d s ≡ stepped k d s
next_is k d s lawful = ap (λ (r : Option Reason). next_unless_refused r (stepped k d s) d) lawful

answer_is : (k : TriplexCore) (d : TriplexState) (s : TriplexStep) → step_refusal d s ≡ None → step_answer k d s ≡ Ok (step_turn k d s)
answer_is k d s lawful = ap (λ (r : Option Reason). unless_refused r (step_turn k d s)) lawful

pub keeps_state : (k : TriplexCore) (c : IsTriplexCore k) (d : TriplexState) (s : TriplexStep) → IsTriplexState k d → IsStepCall s → Taken k d s → IsTriplexState k (next_after_step k d s)
keeps_state k c d (clock_tick mask) h call t = tick_keeps_state k d mask c h t.halt (room_by d.ticks (2 ^ 40) t.left)
keeps_state k c d (script_act act) h call t = act_keeps_state k d act c h t.halt call

-- a step that both runs take
both_take : (k : TriplexCore) (c : IsTriplexCore k) (x y : Execution) (s : TriplexStep) → IsTriplexState k x.state → IsTriplexState k y.state → RunsAlike x y → IsStepCall s → Taken k x.state s → Taken k y.state s →
    RunsAlike (after_answer x (next_after_step k x.state s) (step_answer k x.state s)) (after_answer y (next_after_step k y.state s) (step_answer k y.state s))
both_take k c x y s hx hy h call tx ty =
    let t = steps_ignore_boards k x.state y.state s c hx.invariant.masking.agreement.boards hy.invariant.masking.agreement.boards h.states call tx.lawful ty.lawful in
    let told : RunsAlike (after_turn x (stepped k x.state s) (step_turn k x.state s)) (after_turn y (stepped k y.state s) (step_turn k y.state s)) = record {
      states = t.states;
      deliveries = ap (λ (ds : List Delivery). ds ++ deliveries_in (step_turn k y.state s).notes) h.deliveries ∙ ap (λ (ds : List Delivery). x.deliveries ++ ds) t.turns.deliveries;
      bytes = ap (λ (bs : List ℕ). bs ++ bytes_of (step_turn k y.state s).out) h.bytes ∙ ap (λ (o : Option ℕ). x.bytes ++ bytes_of o) t.turns.out;
    } in
    subst (λ (e : Execution). RunsAlike e (after_answer y (next_after_step k y.state s) (step_answer k y.state s)))
    (sym (after_is k x s tx.lawful))
    (subst (λ (e : Execution). RunsAlike (after_turn x (stepped k x.state s) (step_turn k x.state s)) e) (sym (after_is k y s ty.lawful)) told)
  where
    after_is : (k : TriplexCore) (x : Execution) (s : TriplexStep) → step_refusal x.state s ≡ None → after_answer x (next_after_step k x.state s) (step_answer k x.state s) ≡ after_turn x (stepped k x.state s) (step_turn k x.state s)
    after_is k x s lawful = ap (λ (r : Option Reason). after_answer x (next_unless_refused r (stepped k x.state s) x.state) (unless_refused r (step_turn k x.state s))) lawful

-- the begin of a mending, which one run takes alone
one_mends : (k : TriplexCore) (x y : Execution) (board : ℕ) → RunsAlike x y → RunsAlike (after_answer x (next_after_step k x.state (script_act (Mend board))) (step_answer k x.state (script_act (Mend board)))) y
one_mends k x y board h =
    let silent = (act_tells x.state (Mend board)).deliveries in
    record {
      states = mend_alike x.state y.state board h.states;
      deliveries = h.deliveries ∙ (sym (append-nil x.deliveries) ∙ ap (λ (ds : List Delivery). x.deliveries ++ ds) (sym silent));
      bytes = h.bytes ∙ sym (append-nil x.bytes);
    }

pub mend_is : (s : TriplexStep) → is_mend s ≡ true → (board : ℕ) × (s ≡ script_act (Mend board))
mend_is (clock_tick mask) h = absurd cc
mend_is (script_act (EventAct event)) h = absurd cc
mend_is (script_act (Poke p w v)) h = absurd cc
mend_is (script_act (PokeLocal p i v)) h = absurd cc
mend_is (script_act (Drive p posted)) h = absurd cc
mend_is (script_act (Mute p)) h = absurd cc
mend_is (script_act (Remove p)) h = absurd cc
mend_is (script_act (Revive p)) h = absurd cc
mend_is (script_act (Board fault)) h = absurd cc
mend_is (script_act (Mend board)) h = (board, refl)

state_after : (k : TriplexCore) (x : Execution) (s : TriplexStep) → Taken k x.state s → (after_answer x (next_after_step k x.state s) (step_answer k x.state s)).state ≡ next_after_step k x.state s
state_after k x s t = ap (λ (a : Result Turn Reason). (after_answer x (next_after_step k x.state s) a).state) (answer_is k x.state s t.lawful)

steps_on : (k : TriplexCore) (x : Execution) (s : TriplexStep) (steps : List TriplexStep) → takes_step k x.state s ≡ true → after_steps k x (s ∷ steps) ≡ after_steps k (after_answer x (next_after_step k x.state s) (step_answer k x.state s)) steps
steps_on k x s steps takes = ap (λ (b : Bool). if b then after_steps k (after_answer x (next_after_step k x.state s) (step_answer k x.state s)) steps else x) takes

-- a run after a step
abbrev next_run : TriplexCore → TriplexStep → Execution → Execution
next_run k s z = after_answer z (next_after_step k z.state s) (step_answer k z.state s)

runs_alike : (k : TriplexCore) (c : IsTriplexCore k) (steps : List TriplexStep) (x y : Execution) → All IsStepCall steps → IsTriplexState k x.state → IsTriplexState k y.state → RunsAlike x y → all_taken k x.state steps ≡ true → all_taken k y.state (without_mends steps) ≡ true →
    RunsAlike (after_steps k x steps) (after_steps k y (without_mends steps))
runs_alike k c [] x y calls hx hy h left right = h
runs_alike k c (s ∷ steps) x y calls hx hy h left right =
    by_kind (is_mend s) refl (λ z hz hxz taken. runs_alike k c steps (next_run k s x) z (All-tail IsStepCall s steps calls) state hz hxz rest taken) right
  where
    call : IsStepCall s
    call = All-head IsStepCall s steps calls

    on : (takes_step k x.state s ≡ true) × (all_taken k (next_after_step k x.state s) steps ≡ true)
    on = both_true (takes_step k x.state s) (all_taken k (next_after_step k x.state s) steps) left

    tx : Taken k x.state s
    tx = taken_tells k x.state s on.0

    at : (next_run k s x).state ≡ next_after_step k x.state s
    at = state_after k x s tx

    state : IsTriplexState k (next_run k s x).state
    state = subst (IsTriplexState k) (sym at) (keeps_state k c x.state s hx call tx)

    rest : all_taken k (next_run k s x).state steps ≡ true
    rest = subst (λ (d : TriplexState). all_taken k d steps ≡ true) (sym at) on.1

    by_kind : (b : Bool) → is_mend s ≡ b →
        ((z : Execution) → IsTriplexState k z.state → RunsAlike (next_run k s x) z → all_taken k z.state (without_mends steps) ≡ true → RunsAlike (after_steps k (next_run k s x) steps) (after_steps k z (without_mends steps))) →
        all_taken k y.state (if b then without_mends steps else s ∷ without_mends steps) ≡ true → RunsAlike (after_steps k x (s ∷ steps)) (after_steps k y (if b then without_mends steps else s ∷ without_mends steps))
    by_kind true is again taken =
        let m = mend_is s is in
        let alike = subst (λ (z : TriplexStep). RunsAlike (after_answer x (next_after_step k x.state z) (step_answer k x.state z)) y) (sym m.1) (one_mends k x y m.0 h) in
        subst (λ (e : Execution). RunsAlike e (after_steps k y (without_mends steps))) (sym (steps_on k x s steps on.0))
        (again y hy alike taken)
    by_kind false is again taken =
        let other = both_true (takes_step k y.state s) (all_taken k (next_after_step k y.state s) (without_mends steps)) taken in
        let ty = taken_tells k y.state s other.0 in
        let aty = state_after k y s ty in
        subst (λ (e : Execution). RunsAlike e (after_steps k y (s ∷ without_mends steps))) (sym (steps_on k x s steps on.0))
        (subst (λ (e : Execution). RunsAlike (after_steps k (next_run k s x) steps) e) (sym (steps_on k y s (without_mends steps) other.0))
        (again (next_run k s y)
        (subst (IsTriplexState k) (sym aty) (keeps_state k c y.state s hy call ty))
        (both_take k c x y s hx hy h call tx ty)
        (subst (λ (d : TriplexState). all_taken k d (without_mends steps) ≡ true) (sym aty) other.1)))

pub mends_leave_runs : MendsLeaveRuns
mends_leave_runs k frame entry local global steps c f size boards calls left right =
    let d = started_triplex frame entry local global in
    let h = start_is_state k frame entry local global c f size boards in
    runs_alike k c steps (execution_of d) (execution_of d) calls h h (record { states = record { rest = refl; memory = refl }; deliveries = refl; bytes = refl }) left right
