-- Each lawful step keeps masking and bounded skew.
use Rattle.std.proofs.Common.{◌≡◌, ◌≢◌, ℕ, ◌+◌, ◌^◌, ◌<◌, ◌≤◌, refl, sym, ap, subst, inl, inr, ◌∙◌, arith}
use Rattle.std.specs.Prelude.{Bool, true, false, ◌==◌, ◌⊎◌, Some, None, is_some, if◌then◌else◌}
use Rattle.std.specs.List.{list_all}
use Rattle.std.specs.declared.option.Option.{Option}
use Rattle.std.proofs.lemmas.Bool.Decides.{nat_tests}
use Rattle.s2_ports.specs.declared.events.BoardFault.{BoardFault}
use Rattle.s2_ports.specs.declared.requests.Request.{Request}
use Rattle.s2_ports.specs.declared.requests.Posted.{Posted}
use Rattle.s2_clock.specs.declared.numbers.TheConstants.{MISSES_ALLOWED, REFRESH_PERIOD}
use Rattle.s2_clock.specs.TickWindow.{misses_in}
use Rattle.s2_duplex.specs.ToleratedFaults.{faulty_board}
use Rattle.s2_revive.specs.MendingBoards.{mending_begun}
use Rattle.s2_revive.specs.MendingFaults.{is_fault_tolerated}
use Rattle.s2_revive.proofs.MendingMemory.{begun_keeps, begun_memory}
use Rattle.s2_voter.specs.declared.verdicts.Verdict.{Verdict}
use Rattle.s2_voter.specs.declared.verdicts.Verdict.TheVariants.{Waiting, Done, Split}
use Rattle.s2_voter.specs.Timers.{timer_of}
use Rattle.s2_voter.specs.VoterState.{has_two_latches}
use Rattle.s2_voter.specs.VoterCalls.{remaining_age}
use Rattle.s2_voter.specs.Verdicts.{processors, is_due, is_timed_out, differing_member, late_member}
use Rattle.s2_journal.specs.declared.note.Reason.TheVariants.{Second, BothBoards}
use Rattle.s2_script.specs.declared.entry.Act.TheVariants.{Event as EventAct, Poke, PokeLocal, Drive, Mute, Remove, Revive, Board, Mend}
use Rattle.s2_plant_laws.specs.ClockPace.{ClockData}
use Rattle.s2_plant_laws.specs.BoundedSkew.{BoundedSkew, IsBeforeTimer}
use Rattle.s2_plant_laws.specs.NextRequest.{NextRequest}
use Rattle.s2_plant_laws.proofs.VoterTimer.{voter_timer}
use Rattle.s2_triplex.specs.TriplexCores.{TriplexCore, IsTriplexCore}
use Rattle.s2_triplex.specs.ModuleFaults.{module_poked, module_local_poked, module_driven, module_muted}
use Rattle.s2_triplex.specs.TriplexState.{TriplexState, module_at}
use Rattle.s2_triplex.specs.TickFirings.{after_firings}
use Rattle.s2_triplex.specs.VotedAccess.{voted_access}
use Rattle.s2_triplex.specs.VoterDecision.{no_effects, is_named, after_verdict, tick_verdict, voted}
use Rattle.s2_triplex.specs.ActStep.{event_received, removed, module_disturbed, board_struck, mend_begun}
use Rattle.s2_triplex.specs.StepRefusals.{tick_refusal, second_fault, board_refusal}
use Rattle.s2_triplex_laws.specs.LatchAgreement.{LatchAgreement}
use Rattle.s2_triplex_laws.specs.ReplicaEquality.{ReplicaEquality}
use Rattle.s2_triplex_laws.specs.StepMasking.{CanTick, StepMasking}
use Rattle.s2_triplex_laws.specs.TriplexInvariant.{skew_data, asks_from, CanStep, StepInvariant}
use Rattle.s2_triplex_laws.specs.LawfulSteps.{TickKeepsInvariant, DecisionsFindAllLatched, TicksDecideRight, FaultKeepsInvariant, RemovalKeepsInvariant, EventKeepsInvariant, BoardFaultKeepsInvariant, ActKeepsInvariant}
use Rattle.s2_triplex_laws.proofs.Firings.{StepGoesOn, firings_agree, firings_go_on}
use Rattle.s2_triplex_laws.proofs.Acts.{ActEffect, act_goes_on, fault_acts, fault_agrees, removal_acts, removal_agrees, event_acts, boards_act, boards_agree, board_acts}
use Rattle.s2_triplex_laws.proofs.RightDecisions.{verdict_waits}
use Rattle.s2_triplex_laws.proofs.MaskingLaws.{step_masks, firings_mask, due_verdict, decision_masks, masking_adds, decisions_are_right, decisions_never_split, board_fault_keeps_masking}
use Rattle.s2_triplex_laws.proofs.ClockSteps.{clock_is, two_is}
use Rattle.s2_triplex_laws.proofs.SkewSteps.{AtVerdict, KeepsAge, goes_on_keeps, at_verdict, or_false, has_latch, due_latched, decision_fires, resumed_invariant, act_keeps_skew}
use Rattle.s2_triplex_laws.proofs.RequestWaits.{verdicts_come}

-- a step that goes on from the same start
goes_on_steps : (k : TriplexCore) (c : IsTriplexCore k) (d e : TriplexState) (a : ReplicaEquality k d) (next : NextRequest (asks_from k a.start) d.frame) → LatchAgreement k e → StepGoesOn k d e a →
    BoundedSkew (timer_of e.frame) (next.cycles + 1) (skew_data e) → StepInvariant k d e no_effects
goes_on_steps k c d e a next h o p = record { invariant = goes_on_keeps k d e a next h o p; advance = (step_masks k c d e a h o).advance }

-- a decision
decision_steps : (k : TriplexCore) (c : IsTriplexCore k) (d e : TriplexState) (j : ℕ) (r : Request) (differ late : Option ℕ) → AtVerdict e j →
    StepMasking k d (after_verdict k e (Done r differ late)).next (after_verdict k e (Done r differ late)).effects →
    StepInvariant k d (after_verdict k e (Done r differ late)).next (after_verdict k e (Done r differ late)).effects
decision_steps k c d e j r differ late v h = record {
  invariant = resumed_invariant k c (after_verdict k e (Done r differ late)).next h.masking refl refl (λ p hp g.
      let x = v.each p hp g in
      let same = decision_fires k e r (voted_access k e r) (is_named differ late) p hp in
      let fires : (module_at e.modules p).fires < REFRESH_PERIOD = subst (λ (z : ClockData). z.fires < REFRESH_PERIOD) (clock_is e p hp) x.fires in
      record { fires = omega arith; fair = subst (λ (z : ClockData). misses_in z.watch ≤ MISSES_ALLOWED) (clock_is e p hp) x.fair });
  advance = h.advance;
}

pub can_tick : (k : TriplexCore) (d : TriplexState) → CanStep k d → d.ticks < 2 ^ 40 → CanTick k d
can_tick k d s room = record { core = s.core; masking = s.invariant.masking; room = room; halt = s.halt }

pub all_latched : DecisionsFindAllLatched
all_latched k d mask s lawful due =
    let v = at_verdict k d mask s lawful in
    due_latched k (after_firings k d mask) (s.invariant.next.cycles + 1) (firings_agree k s.core d mask s.invariant.masking.agreement) v.waits due

tick_by : (k : TriplexCore) (d : TriplexState) (mask : ℕ) (s : CanStep k d) → d.ticks < 2 ^ 40 → tick_refusal d mask ≡ None → (b : Bool) → is_due (after_firings k d mask).voter ≡ b →
    StepInvariant k d (voted k d mask).next (voted k d mask).effects
tick_by k d mask s room lawful true due =
    let e = after_firings k d mask in
    let v = at_verdict k d mask s lawful in
    let f = firings_mask k d mask (can_tick k d s room) in
    let x = due_verdict k e f.masking (all_latched k d mask s lawful due) due in
    let differ = differing_member e.voter x.0 in
    let late = late_member e.voter in
    subst (λ (w : Verdict). StepInvariant k d (after_verdict k e w).next (after_verdict k e w).effects) (sym x.2)
    (decision_steps k s.core d e (s.invariant.next.cycles + 1) x.0 differ late v
    (masking_adds k d e (after_verdict k e (Done x.0 differ late)).next (after_verdict k e (Done x.0 differ late)).effects f
    (decision_masks k s.core e x.0 differ late f.masking s.halt (record { agrees = x.1; differ_is = refl; late_is = refl }))))
tick_by k d mask s room lawful false due =
    let e = after_firings k d mask in
    let a = s.invariant.masking.replicas in
    let v = at_verdict k d mask s lawful in
    let young = voter_timer.before e.voter.timer e.voter.age (or_false (list_all (has_latch e) processors) (is_timed_out e.voter.timer e.voter.age) due) in
    let young_of_frame = subst (λ (t : ℕ). IsBeforeTimer t e.voter.age) s.invariant.masking.agreement.timer young in
    subst (λ (w : Verdict). StepInvariant k d (after_verdict k e w).next (after_verdict k e w).effects) (sym (verdict_waits e.voter due))
    (goes_on_steps k s.core d e a s.invariant.next (firings_agree k s.core d mask s.invariant.masking.agreement) (firings_go_on k s.core d mask a room s.halt) (v.before young_of_frame))

pub tick_keeps : TickKeepsInvariant
tick_keeps k d mask s room lawful = tick_by k d mask s room lawful (is_due (after_firings k d mask).voter) refl

-- what a tick decides
pub due_at : (k : TriplexCore) (d : TriplexState) (mask : ℕ) (v : Verdict) → tick_verdict k d mask ≡ v → v ≢ Waiting → is_due (after_firings k d mask).voter ≡ true
due_at k d mask v is not = by_due (is_due (after_firings k d mask).voter) refl
  where
    by_due : (b : Bool) → is_due (after_firings k d mask).voter ≡ b → b ≡ true
    by_due true e = refl
    by_due false e = absurd (not (sym is ∙ verdict_waits (after_firings k d mask).voter e))

pub done_differs : (r : Request) (differ late : Option ℕ) → Done r differ late ≢ Waiting
done_differs r differ late h = cc

split_differs : Split ≢ Waiting
split_differs h = cc

pub ticks_decide : TicksDecideRight
ticks_decide k d mask s room lawful =
    let e = after_firings k d mask in
    let m = (firings_mask k d mask (can_tick k d s room)).masking in
    record {
      right = λ r differ late done. decisions_are_right k e r differ late m (all_latched k d mask s lawful (due_at k d mask (Done r differ late) done (done_differs r differ late))) done;
      never_split = λ split. decisions_never_split k e m (all_latched k d mask s lawful (due_at k d mask Split split split_differs)) split;
      waits = λ r differ late done p hp g.
          let latched = all_latched k d mask s lawful (due_at k d mask (Done r differ late) done (done_differs r differ late)) p hp g in
          verdicts_come k d mask s lawful p hp g (ap (λ (l : Option Posted). is_some l) (sym (m.agreement.good p hp g).latch) ∙ latched);
    }

-- an act
act_steps : (k : TriplexCore) (d e : TriplexState) (s : CanStep k d) → ActEffect d e → e.posted ≡ d.posted → e.windows ≡ d.windows → LatchAgreement k e → KeepsAge d e → StepInvariant k d e no_effects
act_steps k d e s acts n w h age =
    let a = s.invariant.masking.replicas in
    goes_on_steps k s.core d e a s.invariant.next h (act_goes_on k d e a s.halt acts) (act_keeps_skew k d e (s.invariant.next.cycles + 1) acts n w h age s.invariant.skew)

-- the tainted processor is none other
pub tainted_by : (tainted : Option ℕ) (p : ℕ) → second_fault tainted p ≡ None → (tainted ≡ None) ⊎ (tainted ≡ Some p)
tainted_by None p h = inl refl
tainted_by (Some t) p h = by_test (t == p) refl h
  where
    by_test : (b : Bool) → (t == p) ≡ b → (if b then None else Some (Second t p)) ≡ None → (Some t ≡ None) ⊎ (Some t ≡ Some p)
    by_test true e h = let same : t ≡ p = grind (arith, nat_tests) in inr (ap (λ (x : ℕ). Some x) same)
    by_test false e h = absurd cc

pub fault_keeps : FaultKeepsInvariant
fault_keeps k d p m s lawful =
    let who = tainted_by d.tainted p lawful in
    act_steps k d (module_disturbed p m d) s (fault_acts p m d who) refl refl (fault_agrees k p m d who s.invariant.masking.agreement) (inl refl)

age_cases : (b : Bool) (age : Option ℕ) → (remaining_age b age ≡ age) ⊎ ((remaining_age b age ≡ None) × (b ≡ false))
age_cases true age = inl refl
age_cases false age = inr (refl, refl)

removal_age : (p : ℕ) (d : TriplexState) → KeepsAge d (removed p d)
removal_age p d = elim (age_cases (has_two_latches (removed p d).voter.latches) d.voter.age) [
  | inl same ↦ inl same
  | inr lost ↦ inr (lost.0, sym (two_is _ _ _) ∙ lost.1)
]

pub removal_keeps : RemovalKeepsInvariant
removal_keeps k d p s lawful =
    let who = tainted_by d.tainted p lawful in
    act_steps k d (removed p d) s (removal_acts p d who) refl refl (removal_agrees k p d who s.invariant.masking.agreement) (removal_age p d)

received_same : (b : Bool) (x y : TriplexState) → x.posted ≡ y.posted → x.windows ≡ y.windows → x.voter.age ≡ y.voter.age →
    ((if b then x else y).posted ≡ y.posted) × ((if b then x else y).windows ≡ y.windows) × ((if b then x else y).voter.age ≡ y.voter.age)
received_same true x y a b c = (a, b, c)
received_same false x y a b c = (refl, refl, refl)

pub event_keeps : EventKeepsInvariant
event_keeps k d event s =
    let t = event_acts k event d s.invariant.masking.agreement in
    let same : ((event_received event d).posted ≡ d.posted) × ((event_received event d).windows ≡ d.windows) × ((event_received event d).voter.age ≡ d.voter.age) = received_same _ _ d refl refl refl in
    act_steps k d (event_received event d) s t.acts same.0 same.1 t.agreement (inl same.2)

pub tolerated_by : (d : TriplexState) (fault : BoardFault) → board_refusal d fault ≡ None → is_fault_tolerated d.boards fault ≡ true
tolerated_by d fault h = by_test (is_fault_tolerated d.boards fault) h
  where
    by_test : (b : Bool) → (if b then None else Some (BothBoards (faulty_board fault))) ≡ None → b ≡ true
    by_test true h = refl
    by_test false h = absurd cc

pub board_fault_keeps : BoardFaultKeepsInvariant
board_fault_keeps k d fault s below lawful =
    let masks = board_fault_keeps_masking k d fault (record { core = s.core; masking = s.invariant.masking; halt = s.halt }) below (tolerated_by d fault lawful) in
    record {
      step = act_steps k d (board_struck fault d) s (board_acts d fault masks.contents) refl refl masks.step.masking.agreement (inl refl);
      contents = masks.contents;
    }

pub act_keeps : ActKeepsInvariant
act_keeps k d (EventAct event) s proper lawful = event_keeps k d event s
act_keeps k d (Poke p w v) s proper lawful = fault_keeps k d p (module_poked w v (module_at d.modules p)) s lawful
act_keeps k d (PokeLocal p i v) s proper lawful = fault_keeps k d p (module_local_poked i v (module_at d.modules p)) s lawful
act_keeps k d (Drive p posted) s proper lawful = fault_keeps k d p (module_driven posted (module_at d.modules p)) s lawful
act_keeps k d (Mute p) s proper lawful = fault_keeps k d p (module_muted (module_at d.modules p)) s lawful
act_keeps k d (Remove p) s proper lawful = removal_keeps k d p s lawful
act_keeps k d (Revive p) s proper lawful = absurd proper
act_keeps k d (Board fault) s proper lawful = (board_fault_keeps k d fault s proper lawful).step
act_keeps k d (Mend board) s proper lawful =
    act_steps k d (mend_begun board d) s (boards_act d (mending_begun board d.boards) (begun_memory board d.boards)) refl refl
    (boards_agree k d (mending_begun board d.boards) (begun_keeps board d.boards s.invariant.masking.agreement.boards) s.invariant.masking.agreement) (inl refl)
