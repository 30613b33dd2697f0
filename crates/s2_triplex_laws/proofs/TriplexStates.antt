-- Each step of a triple machine leads from one of its states to another.
use Rattle.std.proofs.Common.{◌≡◌, ℕ, zero, suc, ◌^◌, ◌<◌, List, [], length, refl, sym, ap, subst, inl, ◌∙◌, arith}
use Rattle.std.specs.Prelude.{Bool, true, false, nat_lt, ◌&&◌, Some, None, Ok, if◌then◌else◌}
use Rattle.std.specs.declared.option.Option.{Option}
use Rattle.std.proofs.Math.ListN.{length-set}
use Rattle.std.proofs.lemmas.Bool.Decides.{nat_tests}
use Rattle.s2_journal.specs.declared.note.Reason.{Reason}
use Rattle.s2_script.specs.declared.entry.Act.{Act}
use Rattle.s2_script.specs.declared.entry.Act.TheVariants.{Event, Poke, PokeLocal, Drive, Mute, Remove, Revive, Board, Mend}
use Rattle.s2_cpu.specs.Processor.{start_of}
use Rattle.s2_device.specs.DeviceState.{quiet_device}
use Rattle.s2_duplex.specs.DuplexBoards.{new_boards}
use Rattle.s2_duplex.proofs.ValidWords.{contents_are, new_stand}
use Rattle.s2_revive.specs.MendingBoards.{mending_begun}
use Rattle.s2_machine.specs.Machine.{started}
use Rattle.s2_machine.specs.MachineRun.{core_machine_run}
use Rattle.s2_triplex.specs.ReferenceMachine.{reference, runs}
use Rattle.s2_plant_laws.proofs.FairTicks.{fair_ticks}
use Rattle.s2_triplex.specs.declared.membership.Membership.{Membership}
use Rattle.s2_triplex.specs.declared.membership.Membership.TheVariants.{In, Out, Joining}
use Rattle.s2_triplex.specs.TriplexCores.{TriplexCore, IsTriplexCore}
use Rattle.s2_triplex.specs.ModuleState.{ModuleState}
use Rattle.s2_triplex.specs.ModuleFaults.{module_poked, module_local_poked, module_driven, module_muted}
use Rattle.s2_triplex.specs.TriplexState.{TriplexState, Reintegration, module_at, membership_at, is_out, started_triplex}
use Rattle.s2_triplex.specs.VoterDecision.{StepEffects, no_effects}
use Rattle.s2_triplex.specs.TickStep.{ticked}
use Rattle.s2_triplex.specs.ActStep.{event_received, module_disturbed, removed, revived, is_revivable, board_struck, mend_begun, acted}
use Rattle.s2_triplex.specs.StepRefusals.{tick_refusal, act_refusal}
use Rattle.s2_triplex.specs.StepTurns.{Turn, tick_turn, act_turn, unless_refused, next_unless_refused}
use Rattle.s2_triplex_laws.specs.ReferenceAdvance.{ReferenceAdvance}
use Rattle.s2_triplex_laws.specs.StepNotes.{told_effects, TurnTells}
use Rattle.s2_triplex_laws.specs.RepairInvariant.{IsModule}
use Rattle.s2_triplex_laws.specs.RepairSteps.{CanStepInRepair, RepairStep}
use Rattle.s2_triplex_laws.specs.RepairTallies.{RepairCounted}
use Rattle.s2_triplex_laws.specs.TriplexStates.{IsTriplexState, StartIsState, StartIsReference, IsActCall, TickKeepsState, ActKeepsState, TickAdvances, ActAdvances}
use Rattle.s2_triplex_laws.proofs.StepNotes.{tick_tells, act_tells, turn_tells}
use Rattle.s2_triplex_laws.specs.PrivateFacts.{PrivateBounds}
use Rattle.s2_triplex_laws.proofs.PrivateBounds.{act_keeps_bounds, tick_keeps_bounds}
use Rattle.s2_triplex_laws.proofs.FirstState.{first_state}
use Rattle.s2_triplex_laws.proofs.HoldBegins.{no_marks_length}
use Rattle.s2_triplex_laws.proofs.HoldSteps.{act_invariant}
use Rattle.s2_triplex_laws.proofs.TicksInRepair.{can_step}
use Rattle.s2_triplex_laws.proofs.BoardMoves.{mend_step, boards_counted}
use Rattle.s2_triplex_laws.proofs.MendedTicks.{tick_keeps_repair}
use Rattle.s2_triplex_laws.proofs.ActsInRepair.{fault_keeps_repair, removal_keeps_repair, revive_keeps_repair, event_keeps_repair}
use Rattle.s2_triplex_laws.proofs.RepairCounts.{fault_counts_repair, removal_counts_repair, revive_counts_repair, event_counts_repair}
use Rattle.s2_triplex_laws.proofs.TicksCountRepair.{tick_counts_repair}
use Rattle.s2_triplex_laws.proofs.BoardFaultSteps.{board_fault_keeps_repair}

can_repair : (k : TriplexCore) (d : TriplexState) → IsTriplexCore k → IsTriplexState k d → d.halt ≡ None → CanStepInRepair k d
can_repair k d c s halt = record { core = c; invariant = s.invariant; repair = s.repair; halt = halt }

-- a step that is taken
record Taken (k : TriplexCore) (old new : TriplexState) (effects : StepEffects) : Type 0 where
  state : IsTriplexState k new
  advance : ReferenceAdvance k old new effects

taken : (k : TriplexCore) (old new : TriplexState) (effects : StepEffects) → RepairStep k old new effects → RepairCounted new → PrivateBounds new → Taken k old new effects
taken k old new effects w c b = record { state = record { invariant = w.invariant; repair = w.repair; counted = c; bounds = b }; advance = w.advance }

tick_taken : (k : TriplexCore) (d : TriplexState) (mask : ℕ) → IsTriplexCore k → IsTriplexState k d → d.halt ≡ None → d.ticks < 2 ^ 40 → tick_refusal d mask ≡ None → Taken k d (ticked k d mask).next (ticked k d mask).effects
tick_taken k d mask c s halt room lawful =
    let can = can_repair k d c s halt in
    taken k d (ticked k d mask).next (ticked k d mask).effects (tick_keeps_repair k d mask can room lawful) (tick_counts_repair k d mask can room lawful s.counted) (tick_keeps_bounds k d mask s.bounds)

-- the acts
fault_taken : (k : TriplexCore) (d : TriplexState) (p : ℕ) (m : ModuleState) → CanStepInRepair k d → RepairCounted d → act_refusal d (Mute p) ≡ None → (p < 3 → IsModule d.frame m) → PrivateBounds (module_disturbed p m d) → Taken k d (module_disturbed p m d) no_effects
fault_taken k d p m s counts lawful fits bounds = taken k d (module_disturbed p m d) no_effects (fault_keeps_repair k d p m s lawful fits) (fault_counts_repair k d p m s lawful fits counts) bounds

and_true : (a b : Bool) → (a && b) ≡ true → (a ≡ true) × (b ≡ true)
and_true true b h = (refl, h)
and_true false b h = absurd cc

below_is : (n m : ℕ) → nat_lt n m ≡ true → n < m
below_is n m h = grind (arith, nat_tests)

out_is : (s : Membership) → is_out s ≡ true → s ≡ Out
out_is Out h = refl
out_is In h = absurd cc
out_is Joining h = absurd cc

revive_by : (k : TriplexCore) (d : TriplexState) (p : ℕ) → CanStepInRepair k d → RepairCounted d → PrivateBounds d → (b : Bool) → is_revivable p d ≡ b → Taken k d (if b then revived p d else d) no_effects
revive_by k d p s counts bounds true is =
    let both = and_true (nat_lt p 3) (is_out (membership_at d.memberships p)) is in
    let low = below_is p 3 both.0 in
    let out = out_is (membership_at d.memberships p) both.1 in
    taken k d (revived p d) no_effects (revive_keeps_repair k d p s low out) (revive_counts_repair k d p s low out) (subst (λ (b : Bool). PrivateBounds (if b then revived p d else d)) is (act_keeps_bounds d (Revive p) tt bounds))
revive_by k d p s counts bounds false is =
    let h = act_invariant k d d (can_step k d s) (record { frame = refl; ticks = refl; resumed = refl; resumed_run = refl; halt = refl; global = refl; device = refl; good = λ q hq g. g; modules = λ q hq g. refl }) refl refl s.invariant.masking.agreement (inl refl) in
    record { state = record { invariant = s.invariant; repair = s.repair; counted = counts; bounds = bounds }; advance = h.advance }

act_by : (k : TriplexCore) (d : TriplexState) (act : Act) → CanStepInRepair k d → RepairCounted d → PrivateBounds (acted act d) → PrivateBounds d → IsActCall act → act_refusal d act ≡ None → Taken k d (acted act d) no_effects
act_by k d (Event event) s counts bounds before call lawful = taken k d (event_received event d) no_effects (event_keeps_repair k d event s) (event_counts_repair k d event s counts) bounds
act_by k d (Poke p w v) s counts bounds before call lawful =
    fault_taken k d p (module_poked w v (module_at d.modules p)) s counts lawful (λ hp. let m = s.repair.modules p hp in record { fires = m.fires; local = m.local; marks = m.marks; frame = m.frame }) bounds
act_by k d (PokeLocal p i v) s counts bounds before call lawful =
    fault_taken k d p (module_local_poked i v (module_at d.modules p)) s counts lawful (λ hp. let m = s.repair.modules p hp in record { fires = m.fires; local = length-set (module_at d.modules p).local i v ∙ m.local; marks = m.marks; frame = m.frame }) bounds
act_by k d (Drive p posted) s counts bounds before call lawful =
    fault_taken k d p (module_driven posted (module_at d.modules p)) s counts lawful (λ hp. let m = s.repair.modules p hp in record { fires = m.fires; local = m.local; marks = m.marks; frame = m.frame }) bounds
act_by k d (Mute p) s counts bounds before call lawful = fault_taken k d p (module_muted (module_at d.modules p)) s counts lawful (λ hp. let m = s.repair.modules p hp in record { fires = m.fires; local = m.local; marks = m.marks; frame = m.frame }) bounds
act_by k d (Remove p) s counts bounds before call lawful = taken k d (removed p d) no_effects (removal_keeps_repair k d p s lawful) (removal_counts_repair k d p) bounds
act_by k d (Revive p) s counts bounds before call lawful = revive_by k d p s counts before (is_revivable p d) refl
act_by k d (Board fault) s counts bounds before call lawful = let f = board_fault_keeps_repair k d fault s call lawful in taken k d (board_struck fault d) no_effects f.step (f.counts counts) bounds
act_by k d (Mend board) s counts bounds before call lawful = taken k d (mend_begun board d) no_effects (mend_step k d board s) (boards_counted d (mending_begun board d.boards) counts) bounds

act_taken : (k : TriplexCore) (d : TriplexState) (act : Act) → IsTriplexCore k → IsTriplexState k d → d.halt ≡ None → IsActCall act → act_refusal d act ≡ None → Taken k d (acted act d) no_effects
act_taken k d act c s halt call lawful = act_by k d act (can_repair k d c s halt) s.counted (act_keeps_bounds d act call s.bounds) s.bounds call lawful

-- a step, taken or refused
state_by : (k : TriplexCore) (d new : TriplexState) (r refusal : Option Reason) → IsTriplexState k d → (refusal ≡ None → IsTriplexState k new) → refusal ≡ r → IsTriplexState k (next_unless_refused r new d)
state_by k d new None refusal s next is = next is
state_by k d new (Some reason) refusal s next is = s

pub tick_keeps_state : TickKeepsState
tick_keeps_state k d mask c s halt room = state_by k d (ticked k d mask).next (tick_refusal d mask) (tick_refusal d mask) s (λ lawful. (tick_taken k d mask c s halt room lawful).state) refl

pub act_keeps_state : ActKeepsState
act_keeps_state k d act c s halt call = state_by k d (acted act d) (act_refusal d act) (act_refusal d act) s (λ lawful. (act_taken k d act c s halt call lawful).state) refl

-- the turn of one that is taken
advance_by : (k : TriplexCore) (d new : TriplexState) (effects : StepEffects) (given turn : Turn) (r refusal : Option Reason) → TurnTells given effects → (refusal ≡ None → ReferenceAdvance k d new effects) → refusal ≡ r → unless_refused r given ≡ Ok turn →
    ReferenceAdvance k d (next_unless_refused r new d) (told_effects turn)
advance_by k d new effects given turn None refusal tells next is same =
    subst (λ (t : Turn). ReferenceAdvance k d new (told_effects t)) (one given turn same) (turn_tells k d new effects given tells (next is))
  where
    one : (x y : Turn) → unless_refused None x ≡ Ok y → x ≡ y
    one x y h = cc
advance_by k d new effects given turn (Some reason) refusal tells next is same = absurd cc

pub tick_advances : TickAdvances
tick_advances k d mask turn c s halt room same =
    advance_by k d (ticked k d mask).next (ticked k d mask).effects (tick_turn k d mask) turn (tick_refusal d mask) (tick_refusal d mask) (tick_tells k d mask) (λ lawful. (tick_taken k d mask c s halt room lawful).advance) refl same

pub act_advances : ActAdvances
act_advances k d act turn c s halt call same =
    advance_by k d (acted act d) no_effects (act_turn d act) turn (act_refusal d act) (act_refusal d act) (act_tells d act) (λ lawful. (act_taken k d act c s halt call lawful).advance) refl same

-- the start of a program
start_module : (frame entry : ℕ) (local global : List ℕ) (p : ℕ) → p < 3 → length local ≡ 278528 → IsModule frame (module_at (started_triplex frame entry local global).modules p)
start_module frame entry local global zero h size = record { fires = omega arith; local = size; marks = no_marks_length; frame = refl }
start_module frame entry local global (suc zero) h size = record { fires = omega arith; local = size; marks = no_marks_length; frame = refl }
start_module frame entry local global (suc (suc zero)) h size = record { fires = omega arith; local = size; marks = no_marks_length; frame = refl }
start_module frame entry local global (suc (suc (suc p))) h size = absurd (omega arith)

start_value : (frame entry : ℕ) (local global : List ℕ) (p : ℕ) → p < 3 → (module_at (started_triplex frame entry local global).modules p).private < 256
start_value frame entry local global zero h = omega arith
start_value frame entry local global (suc zero) h = omega arith
start_value frame entry local global (suc (suc zero)) h = omega arith
start_value frame entry local global (suc (suc (suc p))) h = absurd (omega arith)

start_joins : (frame entry : ℕ) (local global : List ℕ) (p : ℕ) → p < 3 → membership_at (started_triplex frame entry local global).memberships p ≡ Joining → ⊥
start_joins frame entry local global zero h e = cc
start_joins frame entry local global (suc zero) h e = cc
start_joins frame entry local global (suc (suc zero)) h e = cc
start_joins frame entry local global (suc (suc (suc p))) h e = omega arith

none_open : (x : Reintegration) → None ≡ Some x → ⊥
none_open x h = cc

pub start_is_state : StartIsState
start_is_state k frame entry local global c f size boards = record {
  invariant = first_state k frame entry local global c f boards;
  repair = record {
    modules = λ p hp. start_module frame entry local global p hp size;
    fair = fair_ticks.start;
    joining = λ p hp joins. absurd (start_joins frame entry local global p hp joins);
    opened = λ j is. absurd (none_open j is);
  };
  counted = λ j is. absurd (none_open j is);
  bounds = record { waiting = tt; values = λ p hp. start_value frame entry local global p hp };
}

start_is : (k : TriplexCore) (frame entry : ℕ) (local global : List ℕ) →
    core_machine_run k.core (started entry local global) [] (runs (started_triplex frame entry local global)) ≡ record { machine = reference (started_triplex frame entry local global); bytes = [] }
start_is k frame entry local global =
    ap (λ (g : List ℕ). record { machine = record { cpu = start_of entry; local = local; global = g; device = quiet_device; halt = None }; bytes = [] }) (sym (contents_are (new_boards global) global (new_stand global)))

pub start_is_reference : StartIsReference
start_is_reference k frame entry local global = record { low = omega arith; due = tt; is = start_is k frame entry local global }
