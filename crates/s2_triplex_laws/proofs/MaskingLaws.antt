-- The laws of steps, of decisions and of the reference machine.
use Rattle.std.proofs.Common.{◌≡◌, ℕ, zero, suc, ◌+◌, ◌-◌, ◌<◌, refl, sym, ap, subst, inl, inr, ◌∙◌, arith}
use Rattle.std.specs.Prelude.{Bool, true, false, None, ◌⊎◌}
use Rattle.std.specs.declared.option.Option.{Option}
use Rattle.std.proofs.lemmas.Bool.{cases_lt}
use Rattle.s2_revive.proofs.MendingMemory.{struck_keeps, struck_memory}
use Rattle.s2_ports.specs.declared.requests.Request.{Request}
use Rattle.s2_revive.specs.MendingBoards.{memory_of}
use Rattle.s2_voter.specs.Verdicts.{differing_member, is_due, late_member, verdict_of}
use Rattle.s2_voter.specs.declared.verdicts.Verdict.{Verdict}
use Rattle.s2_voter.specs.declared.verdicts.Verdict.TheVariants.{Done, Split, Waiting}
use Rattle.s2_machine.specs.MachineRun.{bytes_of}
use Rattle.s2_machine.specs.declared.ask.Ask.TheVariants.{Local}
use Rattle.s2_triplex.specs.ActStep.{board_struck, event_received, module_disturbed, removed}
use Rattle.s2_triplex.specs.ModuleState.{Replica, after_local_cycles, ask_unless_due, is_frame_end, replica_ask}
use Rattle.s2_triplex.specs.ReferenceMachine.{reference, run_at, runs, slowest}
use Rattle.s2_triplex.specs.TickFirings.{after_firings}
use Rattle.s2_triplex.specs.TriplexCores.{IsTriplexCore, TriplexCore}
use Rattle.s2_triplex.specs.TriplexState.{TriplexState, is_good}
use Rattle.s2_triplex.specs.VoterDecision.{StepEffects, after_verdict, is_named, no_effects, tick_verdict, voted}
use Rattle.s2_triplex_laws.specs.DecisionFacts.{DecisionsAreRight, DecisionsNeverSplit, GoodProcessorsAreIn}
use Rattle.s2_triplex_laws.specs.LatchAgreement.{AllLatched, LatchAgreement}
use Rattle.s2_triplex_laws.specs.ReferenceFacts.{DeliveredRunsAdd, FrameEndsAreDue, GoodAreAhead, RunGoesOn}
use Rattle.s2_triplex_laws.specs.ReplicaEquality.{Masking, ReplicaEquality}
use Rattle.s2_triplex_laws.specs.StepMasking.{AccessAdvancesReference, AccessKeepsAgreement, AccessKeepsReplicas, BoardFaultKeepsMasking, CanTick, EventKeepsMasking, FaultKeepsMasking, RemovalKeepsMasking, StepMasking, SyncAdvancesReference, SyncKeepsAgreement, SyncKeepsReplicas, TickKeepsMasking, WaitAdvancesReference, WaitKeepsAgreement, WaitKeepsReplicas}
use Rattle.s2_triplex_laws.proofs.Acts.{act_goes_on, board_acts, board_agrees, event_acts, fault_acts, fault_agrees, removal_acts, removal_agrees}
use Rattle.s2_triplex_laws.proofs.AfterDecisions.{DecisionFor, DecisionMasking, access_masks, slow_replica, sync_masks}
use Rattle.s2_triplex_laws.proofs.AnsweredModules.{asks_cases}
use Rattle.s2_triplex_laws.proofs.CountsWithin.{count_within}
use Rattle.s2_triplex_laws.proofs.RightDecisions.{AllAsk, all_ask_at, differ_named, good_unnamed, late_named, named_tainted, tainted_is, verdict_is, verdict_waits}
use Rattle.s2_triplex_laws.proofs.DeliveredRuns.{advances_add, machine_runs_add, up_to_at, up_to_both}
use Rattle.s2_triplex_laws.proofs.Firings.{StepGoesOn, firings_agree, firings_go_on, good_member}
use Rattle.s2_triplex_laws.proofs.LocalCycles.{asked_local, cycles_add, frame_after_cycles, quiet_after, run_after_cycles}
use Rattle.s2_triplex_laws.proofs.ReferenceGoesOn.{reference_goes_on, run_of_reached}
use Rattle.s2_triplex_laws.proofs.SlowestProcessor.{either_good, slowest_is}

-- a step whose good processors go on from the same replica
pub step_masks : (k : TriplexCore) (c : IsTriplexCore k) (d e : TriplexState) (a : ReplicaEquality k d) → LatchAgreement k e → StepGoesOn k d e a → StepMasking k d e no_effects
step_masks k c d e a h o =
    let later = reference_goes_on k c d e a o.replicas o.continues in
    record { masking = record { agreement = h; replicas = o.replicas }; advance = record { grows = later.grows; from = tt; to = tt; reference_runs = later.reference_runs } }

pub firings_mask : (k : TriplexCore) (d : TriplexState) (mask : ℕ) → CanTick k d → StepMasking k d (after_firings k d mask) no_effects
firings_mask k d mask t =
    step_masks k t.core d (after_firings k d mask) t.masking.replicas (firings_agree k t.core d mask t.masking.agreement) (firings_go_on k t.core d mask t.masking.replicas t.room t.halt)

-- a tick without a decision
wait_by : (k : TriplexCore) (d : TriplexState) (e : TriplexState) (v : Verdict) → v ≡ Waiting → StepMasking k d e no_effects → StepMasking k d (after_verdict k e v).next (after_verdict k e v).effects
wait_by k d e v is h = subst (λ (w : Verdict). StepMasking k d (after_verdict k e w).next (after_verdict k e w).effects) (sym is) h

wait_masks : (k : TriplexCore) (d : TriplexState) (mask : ℕ) → CanTick k d → tick_verdict k d mask ≡ Waiting → StepMasking k d (voted k d mask).next (voted k d mask).effects
wait_masks k d mask t w = wait_by k d (after_firings k d mask) (tick_verdict k d mask) w (firings_mask k d mask t)

pub wait_keeps_agreement : WaitKeepsAgreement
wait_keeps_agreement k d mask t w = (wait_masks k d mask t w).masking.agreement

pub wait_keeps_replicas : WaitKeepsReplicas
wait_keeps_replicas k d mask t w = (wait_masks k d mask t w).masking.replicas

pub wait_advances_reference : WaitAdvancesReference
wait_advances_reference k d mask t w = (wait_masks k d mask t w).advance

-- what a verdict tells
pub record VerdictTold (k : TriplexCore) (d : TriplexState) (r : Request) (differ late : Option ℕ) : Type 0 where
  pub agrees : AllAsk k d (slow_replica d) r
  pub differ_is : differ ≡ differing_member d.voter r
  pub late_is : late ≡ late_member d.voter

abbrev Tell : TriplexCore → TriplexState → Request → Type 0
Tell k d r = VerdictTold k d r (differing_member d.voter r) (late_member d.voter)

done_same : (k : TriplexCore) (d : TriplexState) (q r : Request) (x y differ late : Option ℕ) → Done q x y ≡ Done r differ late → AllAsk k d (slow_replica d) q → x ≡ differing_member d.voter q → y ≡ late_member d.voter → VerdictTold k d r differ late
done_same k d q r x y differ late same a ex ey =
    let er : q ≡ r = one_request q r x y differ late same in
    record {
      agrees = subst (λ (w : Request). AllAsk k d (slow_replica d) w) er a;
      differ_is = sym (one_differ q r x y differ late same) ∙ (ex ∙ ap (λ (w : Request). differing_member d.voter w) er);
      late_is = sym (one_late q r x y differ late same) ∙ ey;
    }
  where
    one_request : (q r : Request) (x y differ late : Option ℕ) → Done q x y ≡ Done r differ late → q ≡ r
    one_request q r x y differ late h = cc

    one_differ : (q r : Request) (x y differ late : Option ℕ) → Done q x y ≡ Done r differ late → x ≡ differ
    one_differ q r x y differ late h = cc

    one_late : (q r : Request) (x y differ late : Option ℕ) → Done q x y ≡ Done r differ late → y ≡ late
    one_late q r x y differ late h = cc

pub due_verdict : (k : TriplexCore) (d : TriplexState) → Masking k d → AllLatched d → is_due d.voter ≡ true →
    (r : Request) × AllAsk k d (slow_replica d) r × (verdict_of d.voter ≡ Done r (differing_member d.voter r) (late_member d.voter))
due_verdict k d h all due =
    let p = slowest_is d.tainted d.modules in
    let a = all_ask_at k d h.agreement h.replicas all (slowest d.tainted d.modules) p.low p.good in
    (a.0, a.1, verdict_is k d (slow_replica d) a.0 a.1 h.agreement.voter due)

pub verdict_told : (k : TriplexCore) (d : TriplexState) (r : Request) (differ late : Option ℕ) → Masking k d → AllLatched d → verdict_of d.voter ≡ Done r differ late → VerdictTold k d r differ late
verdict_told k d r differ late h all done = by_due (is_due d.voter) refl
  where
    clash : (v : Verdict) → v ≡ Waiting → v ≡ Done r differ late → ⊥
    clash v x y = cc

    by_due : (b : Bool) → is_due d.voter ≡ b → VerdictTold k d r differ late
    by_due true due =
        let v = due_verdict k d h all due in
        done_same k d v.0 r (differing_member d.voter v.0) (late_member d.voter) differ late (sym v.2 ∙ done) v.1 refl refl
    by_due false due = absurd (clash (verdict_of d.voter) (verdict_waits d.voter due) done)

pub decision_for : (k : TriplexCore) (d : TriplexState) (r : Request) (differ late : Option ℕ) → VerdictTold k d r differ late → DecisionFor k d (slow_replica d) r (is_named differ late)
decision_for k d r differ late t = record {
  agrees = t.agrees;
  unnamed = λ p hp g.
      subst (λ (x : Option ℕ). is_named x late p ≡ false) (sym t.differ_is)
      (subst (λ (y : Option ℕ). is_named (differing_member d.voter r) y p ≡ false) (sym t.late_is) (good_unnamed k d (slow_replica d) r t.agrees p hp g));
}

pub decision_masks : (k : TriplexCore) (c : IsTriplexCore k) (d : TriplexState) (r : Request) (differ late : Option ℕ) → Masking k d → d.halt ≡ None → VerdictTold k d r differ late →
    StepMasking k d (after_verdict k d (Done r differ late)).next (after_verdict k d (Done r differ late)).effects
decision_masks k c d r differ late h halt t = elim (asks_cases k c (slow_replica d) r t.agrees.asks) [
  | inl e ↦ all (sync_masks k c d r (is_named differ late) differ late h.agreement h.replicas (decision_for k d r differ late t) halt e)
  | inr a ↦ all (access_masks k c d r (is_named differ late) differ late h.agreement h.replicas (decision_for k d r differ late t) halt a)
]
  where
    all : DecisionMasking k d (after_verdict k d (Done r differ late)).next (after_verdict k d (Done r differ late)).effects → StepMasking k d (after_verdict k d (Done r differ late)).next (after_verdict k d (Done r differ late)).effects
    all x = record { masking = record { agreement = x.agreement; replicas = x.replicas }; advance = x.advance }

pub masking_adds : (k : TriplexCore) (d e f : TriplexState) (effects : StepEffects) → StepMasking k d e no_effects → StepMasking k e f effects → StepMasking k d f effects
masking_adds k d e f effects a b = record { masking = b.masking; advance = advances_add k d e f no_effects effects refl refl a.advance b.advance }

done_masks : (k : TriplexCore) (d : TriplexState) (mask : ℕ) (r : Request) (differ late : Option ℕ) → CanTick k d → tick_verdict k d mask ≡ Done r differ late → AllLatched (after_firings k d mask) →
    StepMasking k d (voted k d mask).next (voted k d mask).effects
done_masks k d mask r differ late t done all =
    let f = firings_mask k d mask t in
    let e = after_firings k d mask in
    subst (λ (v : Verdict). StepMasking k d (after_verdict k e v).next (after_verdict k e v).effects) (sym done)
    (masking_adds k d e (after_verdict k e (Done r differ late)).next (after_verdict k e (Done r differ late)).effects f (decision_masks k t.core e r differ late f.masking t.halt (verdict_told k e r differ late f.masking all done)))

pub access_keeps_agreement : AccessKeepsAgreement
access_keeps_agreement k d mask r differ late x = (done_masks k d mask r differ late x.can_tick x.done x.latched).masking.agreement

pub access_keeps_replicas : AccessKeepsReplicas
access_keeps_replicas k d mask r differ late x = (done_masks k d mask r differ late x.can_tick x.done x.latched).masking.replicas

pub access_advances_reference : AccessAdvancesReference
access_advances_reference k d mask r differ late x = (done_masks k d mask r differ late x.can_tick x.done x.latched).advance

pub sync_keeps_agreement : SyncKeepsAgreement
sync_keeps_agreement k d mask r differ late x = (done_masks k d mask r differ late x.can_tick x.done x.latched).masking.agreement

pub sync_keeps_replicas : SyncKeepsReplicas
sync_keeps_replicas k d mask r differ late x = (done_masks k d mask r differ late x.can_tick x.done x.latched).masking.replicas

pub sync_advances_reference : SyncAdvancesReference
sync_advances_reference k d mask r differ late x = (done_masks k d mask r differ late x.can_tick x.done x.latched).advance

-- any tick
tick_by : (k : TriplexCore) (d : TriplexState) (mask : ℕ) (e : TriplexState) → e ≡ after_firings k d mask → CanTick k d → (is_due e.voter ≡ true → AllLatched e) → (b : Bool) → is_due e.voter ≡ b →
    StepMasking k d (after_verdict k e (verdict_of e.voter)).next (after_verdict k e (verdict_of e.voter)).effects
tick_by k d mask e is t all true due =
    let f = subst (λ (x : TriplexState). StepMasking k d x no_effects) (sym is) (firings_mask k d mask t) in
    let v = due_verdict k e f.masking (all due) due in
    subst (λ (w : Verdict). StepMasking k d (after_verdict k e w).next (after_verdict k e w).effects) (sym v.2)
    (masking_adds k d e (after_verdict k e (Done v.0 (differing_member e.voter v.0) (late_member e.voter))).next
    (after_verdict k e (Done v.0 (differing_member e.voter v.0) (late_member e.voter))).effects f
    (decision_masks k t.core e v.0 (differing_member e.voter v.0) (late_member e.voter) f.masking (ap (λ (x : TriplexState). x.halt) is ∙ t.halt) (record { agrees = v.1; differ_is = refl; late_is = refl })))
tick_by k d mask e is t all false due =
    wait_by k d e (verdict_of e.voter) (verdict_waits e.voter due) (subst (λ (x : TriplexState). StepMasking k d x no_effects) (sym is) (firings_mask k d mask t))

pub tick_keeps_masking : TickKeepsMasking
tick_keeps_masking k d mask t all = tick_by k d mask (after_firings k d mask) refl t all (is_due (after_firings k d mask).voter) refl

-- the acts
pub fault_keeps_masking : FaultKeepsMasking
fault_keeps_masking k d p m t who =
    step_masks k t.core d (module_disturbed p m d) t.masking.replicas (fault_agrees k p m d who t.masking.agreement) (act_goes_on k d (module_disturbed p m d) t.masking.replicas t.halt (fault_acts p m d who))

pub removal_keeps_masking : RemovalKeepsMasking
removal_keeps_masking k d p t who =
    step_masks k t.core d (removed p d) t.masking.replicas (removal_agrees k p d who t.masking.agreement) (act_goes_on k d (removed p d) t.masking.replicas t.halt (removal_acts p d who))

pub event_keeps_masking : EventKeepsMasking
event_keeps_masking k d event t =
    let x = event_acts k event d t.masking.agreement in
    step_masks k t.core d (event_received event d) t.masking.replicas x.agreement (act_goes_on k d (event_received event d) t.masking.replicas t.halt x.acts)

-- who is in
bool_cases : (b : Bool) → (b ≡ true) ⊎ (b ≡ false)
bool_cases true = inl refl
bool_cases false = inr refl

pub good_processors_are_in : GoodProcessorsAreIn
good_processors_are_in k d h = record {
  good = λ p hp g. (h.good p hp g).membership;
  member = λ p hp g. good_member k d p hp g h;
  out = λ p hp ne. elim (bool_cases (is_good d.tainted p)) [ inl g ↦ absurd (ne (h.good p hp g).membership) | inr bad ↦ tainted_is d.tainted p bad ];
  two = λ p q hp hq ne. elim (either_good d.tainted p q ne) [ inl g ↦ inl (h.good p hp g).membership | inr g ↦ inr (h.good q hq g).membership ];
}

-- what a decision tells
pub decisions_are_right : DecisionsAreRight
decisions_are_right k d r differ late h all done =
    let t = verdict_told k d r differ late h all done in
    record {
      own = λ p hp g. ap (replica_ask k) (t.agrees.each p hp g) ∙ t.agrees.asks;
      latched = λ p hp g. let x = t.agrees.latched p hp g in (x.seen, x.is);
      equal = λ p q hp hq gp gq. t.agrees.each p hp gp ∙ sym (t.agrees.each q hq gq);
      tainted = λ p hp named.
          named_tainted k d (slow_replica d) r t.agrees p hp
          (subst (λ (x : Option ℕ). is_named x (late_member d.voter) p ≡ true) t.differ_is (subst (λ (y : Option ℕ). is_named differ y p ≡ true) t.late_is named));
      differs = λ p hp differs. t.differ_is ∙ differ_named k d (slow_replica d) r t.agrees p hp differs;
      lates = λ p hp late. t.late_is ∙ late_named k d (slow_replica d) r t.agrees p hp late;
      count = count_within k d (slow_replica d) r t.agrees;
    }

pub decisions_never_split : DecisionsNeverSplit
decisions_never_split k d h all split = by_due (is_due d.voter) refl
  where
    waits : (v : Verdict) → v ≡ Waiting → v ≡ Split → ⊥
    waits v x y = cc

    decides : (v : Verdict) (r : Request) (differ late : Option ℕ) → v ≡ Done r differ late → v ≡ Split → ⊥
    decides v r differ late x y = cc

    by_due : (b : Bool) → is_due d.voter ≡ b → ⊥
    by_due true due = let v = due_verdict k d h all due in decides (verdict_of d.voter) v.0 (differing_member d.voter v.0) (late_member d.voter) v.2 split
    by_due false due = waits (verdict_of d.voter) (verdict_waits d.voter due) split

-- every good processor is ahead of the reference machine by local work
pub good_are_ahead : GoodAreAhead
good_are_ahead k d c a p hp g =
    let q = slowest_is d.tainted d.modules in
    let x = a.each (slowest d.tainted d.modules) q.low q.good in
    let y = a.each p hp g in
    let rx = run_of_reached k c d a (slowest d.tainted d.modules) q.low q.good in
    let ry = run_of_reached k c d a p hp g in
    let least = q.least p hp g in
    let split : (y.cycles - x.cycles) + x.cycles ≡ y.cycles = omega arith in
    let quiet = quiet_after k (y.cycles - x.cycles) x.cycles a.start (λ i less. y.quiet i (omega arith)) in
    record {
      cycles = y.cycles - x.cycles;
      start = after_local_cycles k x.cycles a.start;
      cpu = ap (λ (s : Replica). s.cpu) (sym x.is);
      local = ap (λ (s : Replica). s.local) (sym x.is);
      quiet = λ i less. asked_local k (after_local_cycles k i (after_local_cycles k x.cycles a.start)) (quiet i less);
      is = y.is ∙ (ap (λ (i : ℕ). after_local_cycles k i a.start) (sym split) ∙ cycles_add k (y.cycles - x.cycles) x.cycles a.start);
    }

-- a run in two parts
pub delivered_runs_add : DeliveredRunsAdd
delivered_runs_add = machine_runs_add

pub run_goes_on : RunGoesOn
run_goes_on k m d e effects ds bs c a =
    let low = c.low in
    let grows = a.grows in
    record {
      low = omega arith;
      due = up_to_both (runs e) ds effects.deliveries (up_to_at (runs d) (runs e) ds a.grows c.due) a.to;
      is = machine_runs_add k m (reference d) (reference e) (runs d) (runs e) ds effects.deliveries bs (bytes_of effects.out) c.low a.grows refl c.due a.from c.is a.reference_runs;
    }

-- where a frame's end is due
due_by : (k : TriplexCore) (n : ℕ) (s : Replica) → 0 < n → (after_local_cycles k n s).due ≡ is_frame_end s.frame (after_local_cycles k n s).cpu.run
due_by k zero s h = absurd (omega arith)
due_by k (suc n) s h = ap (λ (frame : ℕ). is_frame_end frame (after_local_cycles k (suc n) s).cpu.run) (frame_after_cycles k n s)

pub ask_by_due : (k : TriplexCore) (s : Replica) (due : Bool) → ask_unless_due k s due ≡ Local → due ≡ false
ask_by_due k s true h = absurd cc
ask_by_due k s false h = refl

due_at_none : (k : TriplexCore) (n : ℕ) (s : Replica) → n ≡ 0 → (after_local_cycles k n s).due ≡ s.due
due_at_none k n s h = ap (λ (i : ℕ). (after_local_cycles k i s).due) h

both_due : (b : Bool) → b ≡ true → b ≡ false → ⊥
both_due b x y = cc

pub frame_ends_are_due : FrameEndsAreDue
frame_ends_are_due k d c a = record {
  each = λ p hp g.
      let x = a.each p hp g in
      let to = run_of_reached k c d a p hp g in
      let at = a.at in
      let low = a.low in
      let room = a.room in
      let spent = x.spent in
      let run_is : (after_local_cycles k x.cycles a.start).cpu.run ≡ run_at d.modules p = ap (λ (s : Replica). s.cpu.run) (sym x.is) in
      record {
        low = omega arith;
        above = λ more. ap (λ (s : Replica). s.due) x.is ∙ (due_by k x.cycles a.start (omega arith) ∙ (ap (is_frame_end a.start.frame) run_is ∙ ap (λ (frame : ℕ). is_frame_end frame (run_at d.modules p)) a.frame));
        none_past = λ run more less.
            let i : a.start.cpu.run + (run - a.start.cpu.run) ≡ run = omega arith in
            let small : run - a.start.cpu.run < x.cycles = omega arith in
            let quiet = x.quiet (run - a.start.cpu.run) small in
            let at_i = run_after_cycles k c (run - a.start.cpu.run) a.start (λ j less. x.quiet j (omega arith)) (omega arith) in
            sym (due_by k (run - a.start.cpu.run) a.start (omega arith) ∙ (ap (is_frame_end a.start.frame) (at_i ∙ i) ∙ ap (λ (frame : ℕ). is_frame_end frame run) a.frame)) ∙
            ask_by_due k (after_local_cycles k (run - a.start.cpu.run) a.start) (after_local_cycles k (run - a.start.cpu.run) a.start).due quiet;
      };
  due = a.start.due;
  same = λ p hp g is.
      let x = a.each p hp g in
      let to = run_of_reached k c d a p hp g in
      let at = a.at in
      ap (λ (s : Replica). s.due) x.is ∙ due_at_none k x.cycles a.start (omega arith);
  stops = λ due. (
    subst (λ (n : ℕ). is_frame_end d.frame n ≡ true) a.at (a.ends due),
    λ p hp g.
        let x = a.each p hp g in
        let to = run_of_reached k c d a p hp g in
        let at = a.at in
        let none : x.cycles ≡ 0 = elim (cases_lt 0 x.cycles) [ inl more ↦ absurd (both_due a.start.due due (ask_by_due k a.start a.start.due (x.quiet 0 more))) | inr none ↦ omega arith ] in
        omega arith,
  );
}

-- a fault of a board
pub board_fault_keeps_masking : BoardFaultKeepsMasking
board_fault_keeps_masking k d fault t below tolerated =
    let boards = t.masking.agreement.boards in
    let same : memory_of (board_struck fault d).boards ≡ memory_of d.boards = struck_memory d.boards fault below tolerated boards in
    record {
      step =
          step_masks k t.core d (board_struck fault d) t.masking.replicas (board_agrees k d fault (struck_keeps d.boards fault below tolerated boards) t.masking.agreement)
          (act_goes_on k d (board_struck fault d) t.masking.replicas t.halt (board_acts d fault same));
      contents = same;
    }
