-- Every execution.
use Rattle.std.proofs.Common.{◌≡◌, ℕ, ◌^◌, ◌<◌, List, [], ◌∷◌, refl, sym, ap, ◌∙◌, subst, arith}
use Rattle.std.specs.Prelude.{Bool, true, false, not, nat_lt, ◌&&◌, Some, None, Ok, Err, is_some, if◌then◌else◌}
use Rattle.std.specs.List.{All}
use Rattle.std.specs.declared.option.Option.{Option}
use Rattle.std.specs.declared.result.Result.{Result}
use Rattle.std.proofs.lemmas.Bool.Decides.{nat_tests}
use Rattle.std.proofs.lemmas.List.Elements.{All-head, All-tail}
use Rattle.s2_journal.specs.declared.note.Reason.{Reason}
use Rattle.s2_machine.specs.Machine.{Machine, started}
use Rattle.s2_triplex.specs.TriplexCores.{TriplexCore, IsTriplexCore}
use Rattle.s2_triplex.specs.TriplexState.{TriplexState, started_triplex}
use Rattle.s2_triplex.specs.ReferenceMachine.{runs}
use Rattle.s2_triplex.specs.StepRefusals.{tick_refusal, act_refusal}
use Rattle.s2_script.specs.declared.entry.Act.{Act}
use Rattle.s2_device.specs.declared.slots.Slots.{Slots}
use Rattle.s2_device.specs.DeviceState.{Device, empty_slots}
use Rattle.s2_triplex.specs.WaitingEvents.{AreFromOutside}
use Rattle.s2_triplex.specs.TickStep.{ticked}
use Rattle.s2_triplex.specs.ActStep.{acted}
use Rattle.s2_triplex.specs.StepTurns.{Turn, tick_turn, act_turn, unless_refused, next_unless_refused}
use Rattle.s2_triplex_laws.specs.PrivateFacts.{printed_slots}
use Rattle.s2_triplex_laws.proofs.PrivateFacts.{acts_leave_devices, printed_both, ticks_print_slots}
use Rattle.s2_triplex_laws.proofs.StepNotes.{tick_tells, act_tells}
use Rattle.s2_triplex_laws.specs.ReferenceAdvance.{ReferenceAdvance}
use Rattle.s2_triplex_laws.specs.ReferenceFacts.{RunToReference}
use Rattle.s2_triplex_laws.specs.StepNotes.{deliveries_in, told_effects}
use Rattle.s2_triplex_laws.specs.TriplexStates.{IsTriplexState}
use Rattle.s2_triplex.specs.TriplexSteps.{TriplexStep, clock_tick, script_act, step_answer, next_after_step}
use Rattle.s2_triplex_laws.specs.TriplexExecutions.{AreInRunOrder, IsStepCall, Execution, execution_of, after_turn, after_answer, has_ticks_left, is_accepted, takes_step, after_steps, IsExecution, ExecutionBegins, ExecutionGoesOn, EveryExecution, EveryR2000Execution}
use Rattle.s2_triplex.specs.R2000Triplex.{r2000_triplex}
use Rattle.s2_triplex_laws.proofs.R2000Boards.{r2000_triplex_core}
use Rattle.s2_triplex_laws.proofs.MaskingLaws.{good_processors_are_in, run_goes_on}
use Rattle.s2_triplex_laws.proofs.DeliveryOrder.{tick_order, act_order, order_both}
use Rattle.s2_triplex_laws.proofs.TicksCountRepair.{reintegration_ends_in_time}
use Rattle.s2_triplex_laws.proofs.TriplexStates.{start_is_state, start_is_reference, tick_keeps_state, act_keeps_state, tick_advances, act_advances}

and_true : (a b : Bool) → (a && b) ≡ true → (a ≡ true) × (b ≡ true)
and_true true b h = (refl, h)
and_true false b h = absurd cc

below_is : (n m : ℕ) → nat_lt n m ≡ true → n < m
below_is n m h = grind (arith, nat_tests)

none_is : (x : Option ℕ) → not (is_some x) ≡ true → x ≡ None
none_is None h = refl
none_is (Some v) h = absurd cc

-- the turn of an accepted step
one_turn : (given turn : Turn) (r : Option Reason) → unless_refused r given ≡ Ok turn → given ≡ turn
one_turn given turn None h = cc
one_turn given turn (Some reason) h = absurd cc

-- a step that is accepted
record Accepted (k : TriplexCore) (old new : TriplexState) (turn : Turn) : Type 0 where
  state : IsTriplexState k new
  order : AreInRunOrder (deliveries_in turn.notes)
  advance : ReferenceAdvance k old new (told_effects turn)
  slots : new.device.slots ≡ printed_slots old.device.slots (deliveries_in turn.notes)

-- the slots after a step that is not refused
tick_slots : (k : TriplexCore) (c : IsTriplexCore k) (d : TriplexState) (mask : ℕ) (turn : Turn) (r : Option Reason) → AreFromOutside d.inbox → unless_refused r (tick_turn k d mask) ≡ Ok turn →
    (next_unless_refused r (ticked k d mask).next d).device.slots ≡ printed_slots d.device.slots (deliveries_in turn.notes)
tick_slots k c d mask turn (Some reason) h is = absurd cc
tick_slots k c d mask turn None h is =
    ticks_print_slots k d mask c h ∙
    (ap (printed_slots d.device.slots) (sym (tick_tells k d mask).deliveries) ∙
    ap (λ (t : Turn). printed_slots d.device.slots (deliveries_in t.notes)) (one_turn (tick_turn k d mask) turn None is))

act_slots : (d : TriplexState) (a : Act) (turn : Turn) (r : Option Reason) → unless_refused r (act_turn d a) ≡ Ok turn →
    (next_unless_refused r (acted a d) d).device.slots ≡ printed_slots d.device.slots (deliveries_in turn.notes)
act_slots d a turn (Some reason) is = absurd cc
act_slots d a turn None is =
    ap (λ (v : Device). v.slots) (acts_leave_devices d a) ∙
    (ap (printed_slots d.device.slots) (sym (act_tells d a).deliveries) ∙
    ap (λ (t : Turn). printed_slots d.device.slots (deliveries_in t.notes)) (one_turn (act_turn d a) turn None is))

accepted_step : (k : TriplexCore) (c : IsTriplexCore k) (d : TriplexState) (s : TriplexStep) (turn : Turn) → IsTriplexState k d → IsStepCall s → d.halt ≡ None → has_ticks_left d s ≡ true → step_answer k d s ≡ Ok turn → Accepted k d (next_after_step k d s) turn
accepted_step k c d (clock_tick mask) turn h call halt left answer =
    let room = below_is d.ticks (2 ^ 40) left in
    record { state = tick_keeps_state k d mask c h halt room; order = subst (λ (t : Turn). AreInRunOrder (deliveries_in t.notes)) (one_turn (tick_turn k d mask) turn (tick_refusal d mask) answer) (tick_order k d mask); advance = tick_advances k d mask turn c h halt room answer; slots = tick_slots k c d mask turn (tick_refusal d mask) h.bounds.waiting answer }
accepted_step k c d (script_act a) turn h call halt left answer = record { state = act_keeps_state k d a c h halt call; order = subst (λ (t : Turn). AreInRunOrder (deliveries_in t.notes)) (one_turn (act_turn d a) turn (act_refusal d a) answer) (act_order d a); advance = act_advances k d a turn c h halt call answer; slots = act_slots d a turn (act_refusal d a) answer }

-- what is known of an execution
execution : (k : TriplexCore) (c : IsTriplexCore k) (m : Machine) (x : Execution) → RunToReference k m x.state x.deliveries x.bytes → AreInRunOrder x.deliveries → IsTriplexState k x.state → x.state.device.slots ≡ printed_slots empty_slots x.deliveries → IsExecution k m x
execution k c m x came order state slots = record {
  from = came.low;
  is = came.is;
  order = order;
  due = came.due;
  good = good_processors_are_in k x.state state.invariant.masking.agreement;
  state = state;
  in_time = λ j is. reintegration_ends_in_time k x.state j c state.invariant state.repair state.counted is;
  slots = slots;
}

pub execution_begins : ExecutionBegins
execution_begins k frame entry local global c f size boards =
    execution k c (started entry local global) (execution_of (started_triplex frame entry local global)) (start_is_reference k frame entry local global) tt (start_is_state k frame entry local global c f size boards) refl

pub execution_goes_on : ExecutionGoesOn
execution_goes_on k m x s turn c h call halt left answer =
    let a = accepted_step k c x.state s turn h.state call halt left answer in
    let came : RunToReference k m x.state x.deliveries x.bytes = record { low = h.from; due = h.due; is = h.is } in
    execution k c m (after_turn x (next_after_step k x.state s) turn) (run_goes_on k m x.state (next_after_step k x.state s) (told_effects turn) x.deliveries x.bytes came a.advance)
    (order_both (runs x.state) x.deliveries (deliveries_in turn.notes) h.order h.due a.advance.from a.order) a.state
    (a.slots ∙ (ap (λ (s : Slots). printed_slots s (deliveries_in turn.notes)) h.slots ∙ sym (printed_both x.deliveries (deliveries_in turn.notes) empty_slots)))

step_taken : (k : TriplexCore) (c : IsTriplexCore k) (m : Machine) (x : Execution) (s : TriplexStep) → IsExecution k m x → IsStepCall s → takes_step k x.state s ≡ true → IsExecution k m (after_answer x (next_after_step k x.state s) (step_answer k x.state s))
step_taken k c m x s h call takes =
    let both = and_true (not (is_some x.state.halt) && has_ticks_left x.state s) (is_accepted (step_answer k x.state s)) takes in
    let runs_on = and_true (not (is_some x.state.halt)) (has_ticks_left x.state s) both.0 in
    by_answer (step_answer k x.state s) both.1 (λ turn is. execution_goes_on k m x s turn c h call (none_is x.state.halt runs_on.0) runs_on.1 is) refl
  where
    by_answer : (answer : Result Turn Reason) → is_accepted answer ≡ true → ((turn : Turn) → step_answer k x.state s ≡ Ok turn → IsExecution k m (after_turn x (next_after_step k x.state s) turn)) → step_answer k x.state s ≡ answer →
        IsExecution k m (after_answer x (next_after_step k x.state s) answer)
    by_answer (Ok turn) ok next is = next turn is
    by_answer (Err reason) ok next is = absurd cc

steps_taken : (k : TriplexCore) (c : IsTriplexCore k) (m : Machine) (steps : List TriplexStep) (x : Execution) → All IsStepCall steps → IsExecution k m x → IsExecution k m (after_steps k x steps)
steps_taken k c m [] x calls h = h
steps_taken k c m (s ∷ steps) x calls h =
    by_test (takes_step k x.state s) refl
    (λ takes. steps_taken k c m steps (after_answer x (next_after_step k x.state s) (step_answer k x.state s)) (All-tail IsStepCall s steps calls) (step_taken k c m x s h (All-head IsStepCall s steps calls) takes))
  where
    by_test : (b : Bool) → takes_step k x.state s ≡ b → (takes_step k x.state s ≡ true → IsExecution k m (after_steps k (after_answer x (next_after_step k x.state s) (step_answer k x.state s)) steps)) →
        IsExecution k m (if b then after_steps k (after_answer x (next_after_step k x.state s) (step_answer k x.state s)) steps else x)
    by_test true is next = next is
    by_test false is next = h

pub every_execution : EveryExecution
every_execution k frame entry local global steps c f size boards calls =
    steps_taken k c (started entry local global) steps (execution_of (started_triplex frame entry local global)) calls (execution_begins k frame entry local global c f size boards)

-- the machine that is built
pub every_r2000_execution : EveryR2000Execution
every_r2000_execution frame entry local global steps f size boards calls =
    let x = every_execution r2000_triplex frame entry local global steps r2000_triplex_core f size boards calls in
    record { is = x.is; execution = x }
