-- What is known of every plant, and what its steps tell.
use Rattle.std.proofs.Common.{◌≡◌, ℕ, ◌+◌, ◌^◌, ◌<◌, List, [], ◌∷◌, ◌++◌, length, ap, sym, refl, subst, ◌∙◌}
use Rattle.std.specs.Prelude.{Bool, true, false, Some, None, IfOk, nat_lt, if◌then◌else◌}
use Rattle.std.specs.declared.option.Option.{Option}
use Rattle.s2_revive.specs.MendingBoards.{memory_of}
use Rattle.s2_revive.proofs.MendingMemory.{begun_memory}
use Rattle.s2_machine.specs.declared.deliveries.Delivery.{Delivery}
use Rattle.s2_script.specs.declared.entry.Act.{Act}
use Rattle.s2_script.specs.declared.entry.Act.TheVariants.{Event as EventAct, Poke, PokeLocal, Drive, Mute, Remove, Revive, Board, Mend}
use Rattle.s2_journal.specs.declared.note.Reason.{Reason}
use Rattle.s2_triplex.specs.R2000Triplex.{r2000_triplex}
use Rattle.s2_triplex.specs.TriplexState.{TriplexState}
use Rattle.s2_triplex.specs.TickStep.{ticked}
use Rattle.s2_triplex.specs.ActStep.{acted, is_revivable, revived}
use Rattle.s2_triplex.specs.StepRefusals.{act_refusal, tick_refusal}
use Rattle.s2_triplex.specs.StepTurns.{act_answer, act_turn, next_after_act, next_after_tick, next_unless_refused, tick_answer, tick_turn, unless_refused}
use Rattle.s2_triplex_laws.specs.EventOrder.{events_of}
use Rattle.s2_triplex_laws.specs.ReferenceAdvance.{ReferenceAdvance}
use Rattle.s2_triplex_laws.specs.StepNotes.{told_effects}
use Rattle.s2_triplex_laws.proofs.BoardFaultSteps.{board_fault_keeps_repair}
use Rattle.s2_triplex.specs.WaitingEvents.{from_outside}
use Rattle.s2_triplex_laws.specs.PrivateFacts.{printed_slots}
use Rattle.s2_triplex_laws.proofs.PrivateFacts.{acts_leave_devices, private_stores_print, slot_loads_give, ticks_print_slots}
use Rattle.s2_triplex_laws.proofs.EventOrder.{acts_in_order, ticks_in_order}
use Rattle.s2_triplex_laws.proofs.LawfulSteps.{ticks_decide}
use Rattle.s2_triplex_laws.proofs.MaskingLaws.{frame_ends_are_due, good_are_ahead, good_processors_are_in}
use Rattle.s2_triplex_laws.proofs.OpenRepair.{no_reintegration_tells, open_reintegration_tells}
use Rattle.s2_triplex_laws.proofs.PromptEvents.{act_keeps, syncs_are_prompt, tick_keeps}
use Rattle.s2_triplex_laws.proofs.R2000Boards.{r2000_triplex_core}
use Rattle.s2_triplex_laws.proofs.ReintegrationEnds.{last_word_reintegrates}
use Rattle.s2_triplex_laws.proofs.RequestWaits.{requests_wait}
use Rattle.s2_triplex_laws.proofs.StepNotes.{act_tells, tick_tells}
use Rattle.s2_triplex_laws.proofs.TicksCountRepair.{reintegration_ends_in_time}
use Rattle.s2_triplex_laws.proofs.TriplexStates.{act_advances, tick_advances}
use Rattle.s2_plant.specs.ActRanges.{IsActInRange}
use Rattle.s2_plant.specs.StepPromises.{ActFacts, ActPromises, IsPlant, PlantFacts, TickFacts, TickPromises}
use Rattle.s2_plant.proofs.PlantSteps.{act_call}

pub plant_facts : (d : TriplexState) → IsPlant d → PlantFacts d
plant_facts d k =
    let masking = k.state.invariant.masking in
    let agreement = masking.agreement in
    record {
      good = good_processors_are_in r2000_triplex d agreement;
      frame = record { fits = agreement.frame; modules = λ p low. (k.state.repair.modules p low).frame; timer = agreement.timer };
      waits = requests_wait r2000_triplex d k.state.invariant;
      ahead = good_are_ahead r2000_triplex d r2000_triplex_core masking.replicas;
      frame_ends = frame_ends_are_due r2000_triplex d r2000_triplex_core masking.replicas;
      inbox = agreement.inbox;
      room = agreement.room;
      boards = agreement.boards;
      opened = λ j is. record { facts = open_reintegration_tells r2000_triplex d j k.state.invariant k.state.repair is; in_time = reintegration_ends_in_time r2000_triplex d j r2000_triplex_core k.state.invariant k.state.repair k.state.counted is };
      closed = λ is. no_reintegration_tells d k.state.repair is;
    }

-- a tick
tick_by : (d : TriplexState) (mask : ℕ) (r : Option Reason) → tick_refusal d mask ≡ r → IsPlant d → d.halt ≡ None → d.ticks < 2 ^ 40 →
    IfOk (unless_refused r (tick_turn r2000_triplex d mask)) (TickFacts d mask (next_unless_refused r (ticked r2000_triplex d mask).next d))
tick_by d mask (Some reason) is k runs room = tt
tick_by d mask None is k runs room = record {
  advance = subst (λ (r : Option Reason). ReferenceAdvance r2000_triplex d (next_unless_refused r (ticked r2000_triplex d mask).next d) (told_effects (tick_turn r2000_triplex d mask))) is
      (tick_advances r2000_triplex d mask (tick_turn r2000_triplex d mask) r2000_triplex_core k.state runs room (ap (λ (r : Option Reason). unless_refused r (tick_turn r2000_triplex d mask)) is));
  events = ap (λ (ds : List Delivery). from_outside (events_of ds) ++ (ticked r2000_triplex d mask).next.inbox) (tick_tells r2000_triplex d mask).deliveries ∙ ticks_in_order r2000_triplex d mask k.state.bounds.waiting;
  slots = ticks_print_slots r2000_triplex d mask r2000_triplex_core k.state.bounds.waiting ∙ ap (printed_slots d.device.slots) (sym (tick_tells r2000_triplex d mask).deliveries);
  stores = λ free r differ late done store. private_stores_print r2000_triplex d mask r (record { can_step = record { core = r2000_triplex_core; invariant = k.state.invariant; halt = runs }; room = room; lawful = is; working = free; differ = differ; late = late; done = done }) store;
  loads = λ free r differ late p done at. slot_loads_give r2000_triplex d mask r p (record { can_step = record { core = r2000_triplex_core; invariant = k.state.invariant; halt = runs }; room = room; lawful = is; working = free; differ = differ; late = late; done = done }) at;
  seen = tick_keeps r2000_triplex d mask;
  prompt = λ r count decides low saw. syncs_are_prompt r2000_triplex d mask r count (record { core = r2000_triplex_core; invariant = k.state.invariant; halt = runs }) room is decides low saw;
  decides = λ free. ticks_decide r2000_triplex d mask (record { core = r2000_triplex_core; invariant = k.state.invariant; halt = runs }) room is;
  ends = λ j item left opened first last.
      (let e = last_word_reintegrates r2000_triplex d mask j item left (record { core = r2000_triplex_core; invariant = k.state.invariant; repair = k.state.repair; halt = runs }) room is opened first last in record { state = e.0; note = e.1 });
}

pub tick_promises : (d : TriplexState) (mask : ℕ) → IsPlant d → d.halt ≡ None → d.ticks < 2 ^ 40 → TickPromises d mask (next_after_tick r2000_triplex d mask) (tick_answer r2000_triplex d mask)
tick_promises d mask k runs room = tick_by d mask (tick_refusal d mask) refl k runs room

-- an act leaves the contents of global memory
event_contents : (b : Bool) (d e : TriplexState) → e.boards ≡ d.boards → memory_of (if b then e else d).boards ≡ memory_of d.boards
event_contents true d e same = ap memory_of same
event_contents false d e same = refl

act_contents : (d : TriplexState) (act : Act) → act_refusal d act ≡ None → IsPlant d → d.halt ≡ None → IsActInRange act → memory_of (acted act d).boards ≡ memory_of d.boards
act_contents d (EventAct event) is k runs range = event_contents (nat_lt (length d.inbox) 64) d (record d { inbox = d.inbox ++ event ∷ []; accepted = d.accepted + 1 }) refl
act_contents d (Poke p w v) is k runs range = refl
act_contents d (PokeLocal p i v) is k runs range = refl
act_contents d (Drive p posted) is k runs range = refl
act_contents d (Mute p) is k runs range = refl
act_contents d (Remove p) is k runs range = refl
act_contents d (Revive p) is k runs range = event_contents (is_revivable p d) d (revived p d) refl
act_contents d (Board fault) is k runs range = (board_fault_keeps_repair r2000_triplex d fault (record { core = r2000_triplex_core; invariant = k.state.invariant; repair = k.state.repair; halt = runs }) range is).contents
act_contents d (Mend board) is k runs range = begun_memory board d.boards

act_by : (d : TriplexState) (act : Act) (r : Option Reason) → act_refusal d act ≡ r → IsPlant d → d.halt ≡ None → IsActInRange act →
    IfOk (unless_refused r (act_turn d act)) (ActFacts d act (next_unless_refused r (acted act d) d))
act_by d act (Some reason) is k runs range = tt
act_by d act None is k runs range = record {
  advance = subst (λ (r : Option Reason). ReferenceAdvance r2000_triplex d (next_unless_refused r (acted act d) d) (told_effects (act_turn d act))) is
      (act_advances r2000_triplex d act (act_turn d act) r2000_triplex_core k.state runs (act_call act range) (ap (λ (r : Option Reason). unless_refused r (act_turn d act)) is));
  silent = (act_tells d act).deliveries;
  events = acts_in_order d act;
  seen = act_keeps d act is;
  contents = act_contents d act is k runs range;
  device = acts_leave_devices d act;
}

pub act_promises : (d : TriplexState) (act : Act) → IsPlant d → d.halt ≡ None → IsActInRange act → ActPromises d act (next_after_act d act) (act_answer d act)
act_promises d act k runs range = act_by d act (act_refusal d act) refl k runs range
