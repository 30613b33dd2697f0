-- A lawful tick keeps the count of a reintegration, and how long one lasts.
use Rattle.std.proofs.Common.{◌≡◌, ℕ, zero, suc, ◌+◌, ◌-◌, ◌*◌, ◌%◌, ◌^◌, ◌<◌, ◌≤◌, ◌≢◌, List, [], ◌∷◌, ◌++◌, length, map, refl, sym, ap, subst, inl, inr, ◌∙◌, arith}
use Rattle.std.specs.Prelude.{Bool, true, false, not, nat_lt, ◌&&◌, ◌||◌, Some, None, is_some, is_none, ◌⊎◌, if◌then◌else◌}
use Rattle.std.specs.declared.option.Option.{Option}
use Rattle.std.specs.List.{range_with_len}
use Rattle.std.proofs.lemmas.Bool.{and_parts}
use Rattle.std.proofs.lemmas.Bool.Decides.{nat_tests}
use Rattle.s2_ports.specs.declared.requests.Request.{Request}
use Rattle.s2_ports.specs.declared.requests.Posted.{Posted}
use Rattle.s2_device.specs.DeviceState.{lines_of}
use Rattle.s2_join.specs.declared.item.Item.{Item}
use Rattle.s2_join.specs.declared.item.Item.TheVariants.{Local, Saved}
use Rattle.s2_join.specs.CopyOrder.{CopyState, copy_after_sync, copy_after_single_page, copy_after_closing, copy_after_first, copy_after_item, is_single_page_sync, is_last_item, none_left, unclean_pages, unclean_count}
use Rattle.s2_join.proofs.UncleanPages.{unclean_length}
use Rattle.s2_voter.specs.declared.verdicts.Verdict.{Verdict}
use Rattle.s2_voter.specs.declared.verdicts.Verdict.TheVariants.{Done}
use Rattle.s2_voter.specs.Timers.{timer_of}
use Rattle.s2_voter.specs.VoterState.{is_member, latch_of}
use Rattle.s2_voter.specs.Verdicts.{is_due, is_unlatched, is_timed_out, differing_member, late_member}
use Rattle.s2_machine.specs.Cores.{is_sync}
use Rattle.s2_machine.specs.declared.ask.Ask.TheVariants.{Outside}
use Rattle.s2_plant_laws.specs.FrameNumbers.{skew_of}
use Rattle.s2_plant_laws.specs.WorkSpan.{span}
use Rattle.s2_plant_laws.specs.ClockPace.{ClockData}
use Rattle.s2_plant_laws.specs.CopiedPages.{SavedWordsLast}
use Rattle.s2_plant_laws.specs.RepairProgress.{RepairProgress}
use Rattle.s2_plant_laws.specs.RepairBound.{next_sync}
use Rattle.s2_plant_laws.proofs.Spans.{span_grows}
use Rattle.s2_plant_laws.proofs.SkewBounds.{skew_bounds_wait}
use Rattle.s2_plant_laws.proofs.CopiedPages.{saved_next}
use Rattle.s2_plant_laws.proofs.RepairNumbers.{repair_progresses}
use Rattle.s2_plant_laws.proofs.RepairTicks.{repair_counts, stated_reintegration}
use Rattle.s2_triplex.specs.TriplexCores.{TriplexCore, IsTriplexCore}
use Rattle.s2_triplex.specs.ModuleState.{Replica, replica_of, replica_ask, ask_unless_due, sync_request, is_frame_end}
use Rattle.s2_triplex.specs.TriplexState.{TriplexState, Reintegration, module_at, is_good}
use Rattle.s2_triplex.specs.ReferenceMachine.{run_at, slowest}
use Rattle.s2_triplex.specs.TickFirings.{after_firings}
use Rattle.s2_triplex.specs.VotedAccess.{voted_access}
use Rattle.s2_triplex.specs.VoterDecision.{StepEffects, no_effects, is_named, after_verdict, tick_verdict, is_idle_verdict, is_sync_verdict}
use Rattle.s2_triplex.specs.CopyHolds.{lowest_member, clean_without, hold_begun, hold_begun_if, is_holding, after_idle_tick, after_copy, word_copied, saved_word_copied, item_copied, copied, after_hold_tick}
use Rattle.s2_triplex.specs.TickStep.{after_voting_tick, after_working_tick}
use Rattle.s2_triplex.specs.StepRefusals.{tick_refusal}
use Rattle.s2_triplex_laws.specs.LatchAgreement.{IsGood, LatchAgreement}
use Rattle.s2_triplex_laws.specs.TriplexInvariant.{TriplexInvariant, skew_data}
use Rattle.s2_triplex_laws.specs.RepairInvariant.{IsAtHold, IsOpenReintegration}
use Rattle.s2_triplex_laws.specs.RepairSteps.{CanStepInRepair, RepairStep}
use Rattle.s2_triplex_laws.specs.RepairTallies.{is_sync_due, next_sync_of, AllMembersLatched, repair_tally, IsRepairCounted, RepairCounted, TickCountsRepair, ReintegrationEndsInTime}
use Rattle.s2_triplex_laws.proofs.SlowestProcessor.{slowest_is}
use Rattle.s2_triplex_laws.proofs.ReferenceGoesOn.{run_of_reached}
use Rattle.s2_triplex_laws.proofs.Firings.{firings_go_on}
use Rattle.s2_triplex_laws.proofs.RightDecisions.{verdict_waits}
use Rattle.s2_triplex_laws.proofs.AnsweredModules.{AsksSync, AsksAccess, asks_cases, after_access_is, after_sync_is}
use Rattle.s2_triplex_laws.proofs.AfterDecisions.{slow_replica, next_replica, good_replica, replica_stands, runs_after_decision}
use Rattle.s2_triplex_laws.proofs.MaskingLaws.{VerdictTold, firings_mask, due_verdict, decision_for}
use Rattle.s2_triplex_laws.proofs.ClockSteps.{clock_is}
use Rattle.s2_triplex_laws.proofs.SkewSteps.{skew_fits, at_verdict}
use Rattle.s2_triplex_laws.proofs.LawfulSteps.{all_latched}
use Rattle.s2_triplex_laws.proofs.FrameEnds.{QuietRun, quiet_up_to_sync, sync_within}
use Rattle.s2_triplex_laws.proofs.RepairDuringTicks.{joining_out, other_good, rest_of}
use Rattle.s2_triplex_laws.proofs.HoldBegins.{good_other, clears_at, repair_after_sync}
use Rattle.s2_triplex_laws.proofs.HoldTicks.{idles_at, copied_place}
use Rattle.s2_triplex_laws.proofs.TicksInRepair.{can_step, VerdictStep, voting_keeps}
use Rattle.s2_triplex_laws.proofs.BoardMoves.{idled_counted}
use Rattle.s2_triplex_laws.proofs.MendedTicks.{tick_keeps_repair}
use Rattle.s2_triplex_laws.proofs.RepairCounts.{due_now, sync_stays, due_level, posts_of, counted_now}

clash : (b : Bool) → b ≡ true → b ≡ false → ⊥
clash b x y = cc

some_is : (x y : Reintegration) → Some x ≡ Some y → x ≡ y
some_is x y h = cc

none_some : (x : Reintegration) → None ≡ Some x → ⊥
none_some x h = cc

-- while no decision is due, a member without a latch waits
and_all : (a b c : Bool) → a ≡ true → b ≡ true → c ≡ true → (a && (b && (c && true))) ≡ true
and_all true true true x y z = refl
and_all false b c x y z = absurd cc
and_all true false c x y z = absurd cc
and_all true true false x y z = absurd cc

latched_by : (member : Bool) (l : Option Posted) → (member ≡ true → is_some l ≡ true) → not (member && is_none l) ≡ true
latched_by true (Some posted) h = refl
latched_by true None h = absurd (let x = h refl in cc)
latched_by false l h = refl

or_left : (a b : Bool) → a ≡ true → (a || b) ≡ true
or_left true b h = refl
or_left false b h = absurd cc

some_waits : (e : TriplexState) → is_due e.voter ≡ false → AllMembersLatched e → ⊥
some_waits e due all =
    let every = and_all (has_at 0) (has_at 1) (has_at 2) (latched_by (is_member e.voter 0) (latch_of e.voter 0) (all 0 (omega arith))) (latched_by (is_member e.voter 1) (latch_of e.voter 1) (all 1 (omega arith)))
    (latched_by (is_member e.voter 2) (latch_of e.voter 2) (all 2 (omega arith))) in
    clash (is_due e.voter) (or_left _ (is_timed_out e.voter.timer e.voter.age) every) due
  where
    has_at : ℕ → Bool
    has_at p = not (is_unlatched e.voter p)

firings_count : (k : TriplexCore) (d : TriplexState) (mask : ℕ) → CanStepInRepair k d → d.ticks < 2 ^ 40 → is_due (after_firings k d mask).voter ≡ false → RepairStep k d (after_firings k d mask) no_effects → RepairCounted d → RepairCounted (after_firings k d mask)
firings_count k d mask s room due w counts x is =
    let h = counts x is in
    let e = after_firings k d mask in
    let a = s.invariant.masking.replicas in
    let o = firings_go_on k s.core d mask a room s.halt in
    let same : is_sync_due e ≡ is_sync_due d = due_now k s.core e o.replicas ∙ (ap (λ (t : Replica). t.due) o.continues.start ∙ sym (due_now k s.core d a)) in
    let past = h.past in
    record {
      ticks = record { rising = h.ticks.rising; ticks = h.ticks.ticks };
      sync = subst (λ (b : Bool). next_sync d.frame b d.resumed_run ≤ x.revived_run + d.frame * (x.copying.syncs + 1)) (sym same) h.sync;
      posts = posts_of k e x w.invariant.masking.agreement (w.repair.opened x is);
      past = omega arith;
      waits = λ all. absurd (some_waits e due all);
      progress = h.progress;
    }

-- a good processor whose port is empty, or none
record WorksOn (d : TriplexState) : Type 0 where
  p : ℕ
  low : p < 3
  good : IsGood d p
  empty : is_some (module_at d.modules p).port ≡ false

works_at : (d : TriplexState) (p : ℕ) → p < 3 → WorksOn d ⊎ (IsGood d p → is_some (module_at d.modules p).port ≡ true)
works_at d p hp = by_tests (is_good d.tainted p) (is_some (module_at d.modules p).port) refl refl
  where
    by_tests : (a b : Bool) → is_good d.tainted p ≡ a → is_some (module_at d.modules p).port ≡ b → WorksOn d ⊎ (IsGood d p → is_some (module_at d.modules p).port ≡ true)
    by_tests a true ea eb = inr (λ g. eb)
    by_tests true false ea eb = inl (record { p = p; low = hp; good = ea; empty = eb })
    by_tests false false ea eb = inr (λ g. absurd (clash (is_good d.tainted p) g ea))

any_works : (d : TriplexState) → WorksOn d ⊎ ((p : ℕ) → p < 3 → IsGood d p → is_some (module_at d.modules p).port ≡ true)
any_works d = elim (works_at d 0 (omega arith)) [
  | inl x ↦ inl x
  | inr zero_full ↦ elim (works_at d 1 (omega arith)) [
    | inl x ↦ inl x
    | inr one_full ↦ elim (works_at d 2 (omega arith)) [ inl x ↦ inl x | inr two_full ↦ inr (all zero_full one_full two_full) ]
  ]
]
  where
    all : (IsGood d 0 → is_some (module_at d.modules 0).port ≡ true) → (IsGood d 1 → is_some (module_at d.modules 1).port ≡ true) → (IsGood d 2 → is_some (module_at d.modules 2).port ≡ true) →
        (p : ℕ) → p < 3 → IsGood d p → is_some (module_at d.modules p).port ≡ true
    all a b c zero hp g = a g
    all a b c (suc zero) hp g = b g
    all a b c (suc (suc zero)) hp g = c g
    all a b c (suc (suc (suc p))) hp g = absurd (omega arith)

-- how many ticks a decision may come after the last resume
soon_at : (k : TriplexCore) (c : IsTriplexCore k) (d : TriplexState) (i : Reintegration) → (v : TriplexInvariant k d) → IsOpenReintegration d i → IsRepairCounted d i →
    (d.ticks + 1 - d.resumed ≤ span (v.next.cycles + 1)) ⊎ (d.resumed + (d.ticks + 1 - d.resumed) ≤ i.revived + 1)
soon_at k c d i v o h =
    let past = v.skew.past in
    let within = v.next.within in
    let t = skew_bounds_wait (timer_of d.frame) (v.next.cycles + 1) (skew_of d.frame) (skew_data d) (skew_fits d.frame (v.next.cycles + 1) v.masking.agreement.frame (omega arith) (omega arith)) v.skew in
    elim (any_works d) [
      | inl x ↦ (let less = t.works x.p x.low x.good (ap (λ (z : ClockData). z.full) (clock_is d x.p x.low) ∙ x.empty) in inl (omega arith))
      | inr full ↦ (let now = h.waits (λ p hp member. h.posts p hp member (full p hp (member_good_of p hp member))) in inr (omega arith))
    ]
  where
    member_good_of : (p : ℕ) → p < 3 → is_member d.voter p ≡ true → IsGood d p
    member_good_of p hp member = good_other d i p o (λ same. clash (is_member d.voter p) member (ap (is_member d.voter) (sym same) ∙ joining_out k d i v.masking.agreement o))

-- the good processors at a decision
record AtDecision (k : TriplexCore) (d : TriplexState) (i : Reintegration) (t : Replica) (j : ℕ) : Type 0 where
  run : t.cpu.run + 1 ≡ d.resumed_run + j
  room : t.cpu.run + 1 < 2 ^ 64
  frame : t.frame ≡ d.frame
  most : t.cpu.run ≤ next_sync_of d
  at_end : t.due ≡ true → t.cpu.run % d.frame ≡ 0
  access : t.due ≡ false → (t.cpu.run + 1 ≤ next_sync_of d) × (next_sync_of d % d.frame ≡ 0)
  soon : (d.ticks + 1 - d.resumed ≤ span j) ⊎ (d.resumed + (d.ticks + 1 - d.resumed) ≤ i.revived + 1)

at_decision : (k : TriplexCore) (d : TriplexState) (mask : ℕ) (i : Reintegration) (s : CanStepInRepair k d) → d.ticks < 2 ^ 40 → tick_refusal d mask ≡ None → IsOpenReintegration d i → IsRepairCounted d i → (r : Request) (differ late : Option ℕ) →
    VerdictTold k (after_firings k d mask) r differ late → AtDecision k d i (slow_replica (after_firings k d mask)) (s.invariant.next.cycles + 1)
at_decision k d mask i s room lawful open_now h r differ late told =
    let e = after_firings k d mask in
    let c = s.core in
    let a = s.invariant.masking.replicas in
    let o = firings_go_on k c d mask a room s.halt in
    let b = o.replicas in
    let q = slowest e.tainted e.modules in
    let p = slowest_is e.tainted e.modules in
    let y = b.each q p.low p.good in
    let to = run_of_reached k c e b q p.low p.good in
    let v = at_verdict k d mask (can_step k d s) lawful in
    let full = told.agrees.full q p.low p.good in
    let worked = v.waits.worked q p.low p.good (ap (λ (z : ClockData). z.full) (clock_is e q p.low) ∙ full) in
    let clock = ap (λ (z : ClockData). z.run) (clock_is e q p.low) in
    let at = replica_stands k c e b (slow_replica e) r told.agrees in
    let room_now = at.room in
    let stand = at.run in
    let b_at = b.at in
    let first = worked.0 in
    let run : run_at e.modules q ≡ d.resumed_run + y.cycles = omega arith in
    let due : is_sync_due d ≡ b.start.due = due_now k c d a ∙ ap (λ (t : Replica). t.due) (sym o.continues.start) in
    let past : QuietRun k d.frame b.start d.resumed_run y.cycles = record { core = c; fits = s.invariant.masking.agreement.frame; frame_is = b.frame; at = b.at; ends = b.ends; quiet = y.quiet; room = omega arith } in
    let n = quiet_up_to_sync k d.frame b.start d.resumed_run y.cycles past in
    let here = ap (λ (t : Replica). t.due) y.is in
    record {
      run = omega arith;
      room = at.room;
      frame = at.frame;
      most = subst (λ (x : Bool). run_at e.modules q ≤ next_sync d.frame x d.resumed_run) (sym due) (subst (λ (m : ℕ). m ≤ next_sync d.frame b.start.due d.resumed_run) (sym run) n.most);
      at_end = λ on. ap (λ (m : ℕ). m % d.frame) run ∙ n.sync (sym here ∙ on);
      access = λ off.
          subst (λ (x : Bool). (run_at e.modules q + 1 ≤ next_sync d.frame x d.resumed_run) × (next_sync d.frame x d.resumed_run % d.frame ≡ 0)) (sym due)
          (subst (λ (m : ℕ). (m + 1 ≤ next_sync d.frame b.start.due d.resumed_run) × (next_sync d.frame b.start.due d.resumed_run % d.frame ≡ 0)) (sym run) (n.access (sym here ∙ off)));
      soon = soon_at k c d i s.invariant open_now h;
    }

access_off : (k : TriplexCore) (t : Replica) (r : Request) (due : Bool) → is_sync r.kind ≡ false → ask_unless_due k t due ≡ ask_unless_due k t t.due → replica_ask k t ≡ Outside r → due ≡ false
access_off k t r true kind same asks = absurd (clash (is_sync r.kind) (sync_kind (sync_request t.cpu.run) r refl (same ∙ asks)) kind)
  where
    sync_kind : (q r : Request) → is_sync q.kind ≡ true → Outside q ≡ Outside r → is_sync r.kind ≡ true
    sync_kind q r h e = subst (λ (x : Request). is_sync x.kind ≡ true) (one q r e) h
      where
        one : (q r : Request) → Outside q ≡ Outside r → q ≡ r
        one q r e = cc
access_off k t r false kind same asks = refl

end_kind : (t : Replica) (r : Request) → AsksSync t r → is_sync r.kind ≡ true
end_kind t r h = ap (λ (q : Request). is_sync q.kind) h.is

-- after a load or a store
access_counts : (k : TriplexCore) (d : TriplexState) (mask : ℕ) (i : Reintegration) (s : CanStepInRepair k d) → d.ticks < 2 ^ 40 → tick_refusal d mask ≡ None → d.reintegration ≡ Some i → IsRepairCounted d i → (r : Request) (differ late : Option ℕ) →
    (t : VerdictTold k (after_firings k d mask) r differ late) → LatchAgreement k (after_firings k d mask) → AsksAccess k (slow_replica (after_firings k d mask)) r →
    RepairStep k d (after_verdict k (after_firings k d mask) (Done r differ late)).next (after_verdict k (after_firings k d mask) (Done r differ late)).effects →
    IsRepairCounted (after_verdict k (after_firings k d mask) (Done r differ late)).next i
access_counts k d mask i s room lawful is h r differ late t agreement here w =
    let e = after_firings k d mask in
    let f = (after_verdict k e (Done r differ late)).next in
    let x = voted_access k e r in
    let named = is_named differ late in
    let in_ = slow_replica e in
    let at = at_decision k d mask i s room lawful (s.repair.opened i is) h r differ late t in
    let decided = decision_for k e r differ late t in
    let off : in_.due ≡ false = access_off k in_ r in_.due here.kind refl t.agrees.asks in
    let inside = good_replica k e in_ r x named agreement decided in
    let done = after_access_is k r x.word (lines_of x.device) in_ here in
    let one = s.core.core.run_after_finish in_.cpu in_.local r x.word (lines_of x.device) here.asks in
    let new_run = runs_after_decision k e in_ r x named agreement decided in
    let done_run = ap (λ (y : Replica). y.cpu.run) done in
    let small = at.room in
    let run : f.resumed_run ≡ in_.cpu.run + 1 = omega arith in
    let first = at.run in
    let past = s.invariant.skew.past in
    let begun_past = h.past in
    let next = repair_counts.access (repair_tally d i) (s.invariant.next.cycles + 1) (d.ticks + 1 - d.resumed) (omega arith) at.soon h.ticks in
    let rising = next.rising in
    let ticks = next.ticks in
    let bound_now = at.access off in
    let most = bound_now.0 in
    let frame_low = s.invariant.masking.agreement.frame.low in
    let due : is_sync_due f ≡ is_frame_end d.frame f.resumed_run =
    due_level f (next_replica k r x in_) inside new_run ∙
    (ap (λ (y : Replica). y.due) done ∙ (ap (is_frame_end in_.frame) (sym done_run ∙ sym new_run) ∙ ap (λ (y : ℕ). is_frame_end y f.resumed_run) at.frame)) in
    let sync = sync_within d.frame f.resumed_run (next_sync_of d) (omega arith) (omega arith) bound_now.1 (omega arith) in
    let was = h.sync in
    counted_now k f i w.invariant (w.repair.opened i is) refl (omega arith) (record { rising = omega arith; ticks = omega arith })
    (subst (λ (b : Bool). next_sync d.frame b f.resumed_run ≤ i.revived_run + d.frame * (i.copying.syncs + 1)) (sym due) (omega arith)) h.progress

-- after a Sync, one more has copied
one_syncs : (c : CopyState) (pages : List ℕ) → 0 < length pages → (copy_after_single_page c pages).syncs ≡ c.syncs + 1
one_syncs c [] h = absurd (omega arith)
one_syncs c (page ∷ pages) h = refl

syncs_after : (c : CopyState) → length c.clean ≡ 272 → c.cursor < 272 → (copy_after_sync c).syncs ≡ c.syncs + 1
syncs_after c size low = by_test (is_single_page_sync c) refl
  where
    by_test : (b : Bool) → is_single_page_sync c ≡ b → (if b then copy_after_single_page c (unclean_pages c.clean c.cursor) else copy_after_closing c (unclean_pages c.clean c.cursor)).syncs ≡ c.syncs + 1
    by_test true h =
        let count = unclean_length c.clean c.cursor size low in
        let many : 8 < unclean_count c.clean = (let x = (and_parts (nat_lt 8 (unclean_count c.clean)) (nat_lt c.syncs 544) h).0 in grind (arith, nat_tests)) in
        one_syncs c (unclean_pages c.clean c.cursor) (omega arith)
    by_test false h = refl

clean_length : (clean marks : List Bool) → length (clean_without clean marks) ≡ length clean
clean_length [] marks = refl
clean_length (c ∷ clean) [] = refl
clean_length (c ∷ clean) (m ∷ marks) = ap suc (clean_length clean marks)

sync_counts : (k : TriplexCore) (d : TriplexState) (mask : ℕ) (i : Reintegration) (s : CanStepInRepair k d) → d.ticks < 2 ^ 40 → tick_refusal d mask ≡ None → d.reintegration ≡ Some i → none_left i.copying.left ≡ true → IsRepairCounted d i → (r : Request) (differ late : Option ℕ) →
    (t : VerdictTold k (after_firings k d mask) r differ late) → LatchAgreement k (after_firings k d mask) → AsksSync (slow_replica (after_firings k d mask)) r → (effects : StepEffects) →
    let f = (after_verdict k (after_firings k d mask) (Done r differ late)).next in RepairStep k d (hold_begun f (Some i)) effects → IsRepairCounted (hold_begun f (Some i)) (repair_after_sync f i)
sync_counts k d mask i s room lawful is rest h r differ late t agreement here effects w =
    let e = after_firings k d mask in
    let f = (after_verdict k e (Done r differ late)).next in
    let g = hold_begun f (Some i) in
    let j = repair_after_sync f i in
    let x = voted_access k e r in
    let named = is_named differ late in
    let in_ = slow_replica e in
    let open_old = s.repair.opened i is in
    let at = at_decision k d mask i s room lawful open_old h r differ late t in
    let decided = decision_for k e r differ late t in
    let inside = good_replica k e in_ r x named agreement decided in
    let done = after_sync_is k r x.word (lines_of x.device) in_ here in
    let new_run = runs_after_decision k e in_ r x named agreement decided in
    let done_run = ap (λ (y : Replica). y.cpu.run) done in
    let run : f.resumed_run ≡ in_.cpu.run = omega arith in
    let first = at.run in
    let past = s.invariant.skew.past in
    let begun_past = h.past in
    let next = repair_counts.sync (repair_tally d i) (s.invariant.next.cycles + 1) (d.ticks + 1 - d.resumed) (omega arith) at.soon h.ticks in
    let rising = next.rising in
    let ticks = next.ticks in
    let old_copying : CopyState = record i.copying { clean = clean_without i.copying.clean (module_at f.modules (lowest_member f.voter)).marks } in
    let flags : length old_copying.clean ≡ 272 = clean_length i.copying.clean (module_at f.modules (lowest_member f.voter)).marks ∙ h.progress.flags in
    let one_more : j.copying.syncs ≡ i.copying.syncs + 1 = syncs_after old_copying flags h.progress.cursor in
    let due : is_sync_due g ≡ false = due_level g (next_replica k r x in_) (λ q hq good. (clears_at f i q hq).replica ∙ inside q hq good) new_run ∙ ap (λ (y : Replica). y.due) done in
    let most = at.most in
    let was = h.sync in
    let whole : f.resumed_run % d.frame ≡ 0 = ap (λ (m : ℕ). m % d.frame) run ∙ at.at_end here.due in
    let grow : d.frame * (i.copying.syncs + 1 + 1) ≡ d.frame * (i.copying.syncs + 1) + d.frame = omega arith in
    let sync : f.resumed_run + (d.frame - f.resumed_run % d.frame) ≤ i.revived_run + d.frame * (j.copying.syncs + 1) =
    subst (λ (n : ℕ). f.resumed_run + (d.frame - f.resumed_run % d.frame) ≤ i.revived_run + d.frame * (n + 1)) (sym one_more) (omega arith) in
    counted_now k g j w.invariant (w.repair.opened j refl) refl (omega arith) (record { rising = omega arith; ticks = omega arith })
    (subst (λ (b : Bool). next_sync d.frame b g.resumed_run ≤ i.revived_run + d.frame * (j.copying.syncs + 1)) (sym due) sync)
    (repair_progresses.syncs i.copied old_copying rest (repair_progresses.stores i.copied i.copying old_copying.clean flags h.progress))

-- saved words that are not the last leave some
more_left : (c : CopyState) (n : ℕ) (left : List Item) → SavedWordsLast c → c.left ≡ Saved n ∷ left → is_last_item (Saved n) ≡ false → none_left left ≡ false
more_left c n left o next last = by_locals o.locals o.is
  where
    item_is : (a : ℕ) → Saved n ≡ Saved a → n ≡ a
    item_is a h = cc

    head_is : (a b : Item) (xs ys : List Item) → (a ∷ xs) ≡ (b ∷ ys) → a ≡ b
    head_is a b xs ys h = cc

    some_left : (a m : ℕ) → m ≡ 176 - (a + 1) → 0 < m → none_left (map Saved (range_with_len (a + 1) m)) ≡ false
    some_left a zero e h = absurd (omega arith)
    some_left a (suc m) e h = refl

    by_locals : (locals : List ℕ) → c.left ≡ map Local locals ++ map Saved (range_with_len o.first (176 - o.first)) → none_left left ≡ false
    by_locals (i ∷ locals) is =
        let e : Saved n ≡ Local i = head_is (Saved n) (Local i) left (map Local locals ++ map Saved (range_with_len o.first (176 - o.first))) (sym next ∙ is) in
        absurd cc
    by_locals [] is =
        let x = saved_next c (Saved n) left o.first _ refl next is o.most o.clean in
        let at = item_is o.first x.0 in
        let other : n ≢ 175 = grind (arith, nat_tests) in
        let low = x.1 in
        ap none_left x.2 ∙ some_left o.first (176 - (o.first + 1)) refl (omega arith)

-- a word is copied
syncs_stay : (c : CopyState) (ws : List Item) → (copy_after_first c ws).syncs ≡ c.syncs
syncs_stay c [] = refl
syncs_stay c (item ∷ ws) = refl

word_counts : (k : TriplexCore) (d g : TriplexState) (i : Reintegration) (s : CanStepInRepair k d) → IsAtHold d → IsRepairCounted d i → TriplexInvariant k g → IsOpenReintegration g (after_copy i) → g.frame ≡ d.frame → g.resumed ≡ d.ticks + 1 → g.ticks ≡ d.ticks + 1 → g.resumed_run ≡ d.resumed_run →
    ((q : ℕ) → q < 3 → IsGood g q → IsGood d q) → ((q : ℕ) → q < 3 → IsGood g q → replica_of (module_at g.modules q) ≡ replica_of (module_at d.modules q)) → RepairProgress (i.copied + 1) (copy_after_item i.copying) → IsRepairCounted g (after_copy i)
word_counts k d g i s hold h v o frame resumed ticks run good same progress =
    let next = sync_stays k s.core d g s.invariant.masking.replicas frame run good same in
    let more = (repair_counts.word (repair_tally d i) h.ticks).ticks in
    let syncs = syncs_stay i.copying i.copying.left in
    let now = hold.now in
    let low = h.ticks.rising in
    let past = h.past in
    let was = h.sync in
    let bound : next_sync_of g ≤ i.revived_run + d.frame * (i.copying.syncs + 1) = omega arith in
    counted_now k g (after_copy i) v o (omega arith) (omega arith) (record { rising = omega arith; ticks = omega arith })
    (subst (λ (f : ℕ). next_sync_of g ≤ i.revived_run + f * ((after_copy i).copying.syncs + 1)) (sym frame) (subst (λ (n : ℕ). next_sync_of g ≤ i.revived_run + d.frame * (n + 1)) (sym syncs) bound)) progress

item_counts : (k : TriplexCore) (d : TriplexState) (mask : ℕ) (i : Reintegration) (ws : List Item) (s : CanStepInRepair k d) → d.reintegration ≡ Some i → is_holding (Some i) ≡ true → i.copying.left ≡ ws → IsRepairCounted d i → RepairStep k d (item_copied (after_idle_tick d mask) i ws) no_effects →
    RepairCounted (item_copied (after_idle_tick d mask) i ws)
item_counts k d mask i [] s is held words h w x x_is = absurd (clash (is_holding (Some i)) held (ap (λ (ws : List Item). not (none_left ws)) words))
item_counts k d mask i (Local n ∷ left) s is held words h w x x_is =
    let o = s.repair.opened i is in
    let e = after_idle_tick d mask in
    let next = after_copy i in
    let stays : (q : ℕ) → q < 3 → IsGood e q → module_at (word_copied e i n).modules q ≡ module_at e.modules q = λ q hq g. copied_place e i n q hq (other_good d i q o g) in
    subst (IsRepairCounted (word_copied e i n)) (some_is next x x_is)
    (word_counts k d (word_copied e i n) i s (o.hold held) h w.invariant (w.repair.opened next refl) refl refl refl refl (λ q hq g. g) (λ q hq g. ap replica_of (stays q hq g) ∙ (idles_at d mask q hq).replica)
    (repair_progresses.local i.copied n left i.copying words h.progress))
item_counts k d mask i (Saved n ∷ left) s is held words h w x x_is = by_last (is_last_item (Saved n)) refl w x_is
  where
    by_last : (b : Bool) → is_last_item (Saved n) ≡ b → RepairStep k d (saved_word_copied b (after_idle_tick d mask) i) no_effects → (saved_word_copied b (after_idle_tick d mask) i).reintegration ≡ Some x → IsRepairCounted (saved_word_copied b (after_idle_tick d mask) i) x
    by_last true last w is_now = absurd (none_some x is_now)
    by_last false last w is_now =
        let o = s.repair.opened i is in
        let e = after_idle_tick d mask in
        let next = after_copy i in
        subst (IsRepairCounted (saved_word_copied false e i)) (some_is next x is_now)
        (word_counts k d (saved_word_copied false e i) i s (o.hold held) h w.invariant (w.repair.opened next refl) refl refl refl refl (λ q hq g. g) (λ q hq g. (idles_at d mask q hq).replica)
        (repair_progresses.saved i.copied n left i.copying words (more_left i.copying n left o.copied.order words last) o.copied.order h.progress))

hold_counts : (k : TriplexCore) (d : TriplexState) (mask : ℕ) (r : Option Reintegration) (s : CanStepInRepair k d) → d.reintegration ≡ r → is_holding r ≡ true → RepairCounted d → RepairStep k d (copied (after_idle_tick d mask) r) no_effects → RepairCounted (copied (after_idle_tick d mask) r)
hold_counts k d mask None s is held counts w = absurd cc
hold_counts k d mask (Some i) s is held counts w = item_counts k d mask i i.copying.left s is held refl (counts i is) w

-- a decision
hold_begun_counts : (k : TriplexCore) (d : TriplexState) (mask : ℕ) (s : CanStepInRepair k d) → d.ticks < 2 ^ 40 → tick_refusal d mask ≡ None → is_holding d.reintegration ≡ false → RepairCounted d → (r : Request) (differ late : Option ℕ) →
    VerdictTold k (after_firings k d mask) r differ late → LatchAgreement k (after_firings k d mask) → AsksSync (slow_replica (after_firings k d mask)) r → (effects : StepEffects) (open_before : Option Reintegration) → d.reintegration ≡ open_before →
    let f = (after_verdict k (after_firings k d mask) (Done r differ late)).next in RepairStep k d (hold_begun f open_before) effects → RepairCounted (hold_begun f open_before)
hold_begun_counts k d mask s room lawful free counts r differ late t c here effects None is w x x_is = absurd (none_some x (sym is ∙ x_is))
hold_begun_counts k d mask s room lawful free counts r differ late t c here effects (Some i) is w x x_is =
    let f = (after_verdict k (after_firings k d mask) (Done r differ late)).next in
    subst (IsRepairCounted (hold_begun f (Some i))) (some_is (repair_after_sync f i) x x_is) (sync_counts k d mask i s room lawful is (rest_of i d.reintegration is free) (counts i is) r differ late t c here effects w)

abbrev VerdictCounts : TriplexCore → TriplexState → TriplexState → Verdict → Type 0
VerdictCounts k d e v = VerdictStep k d e v → RepairCounted (hold_begun_if (is_sync_verdict v) (after_verdict k e v).next)

decision_counts : (k : TriplexCore) (d : TriplexState) (mask : ℕ) (s : CanStepInRepair k d) → d.ticks < 2 ^ 40 → tick_refusal d mask ≡ None → is_holding d.reintegration ≡ false → RepairCounted d → (r : Request) (differ late : Option ℕ) →
    VerdictTold k (after_firings k d mask) r differ late → LatchAgreement k (after_firings k d mask) → VerdictCounts k d (after_firings k d mask) (Done r differ late)
decision_counts k d mask s room lawful free counts r differ late t c = by_kind (is_sync r.kind) refl
  where
    by_kind : (b : Bool) → is_sync r.kind ≡ b → RepairStep k d (hold_begun_if b (after_verdict k (after_firings k d mask) (Done r differ late)).next) (after_verdict k (after_firings k d mask) (Done r differ late)).effects →
        RepairCounted (hold_begun_if b (after_verdict k (after_firings k d mask) (Done r differ late)).next)
    by_kind true kind w = elim (asks_cases k s.core (slow_replica (after_firings k d mask)) r t.agrees.asks) [
      | inl here ↦ hold_begun_counts k d mask s room lawful free counts r differ late t c here (after_verdict k (after_firings k d mask) (Done r differ late)).effects d.reintegration refl w
      | inr here ↦ absurd (clash (is_sync r.kind) kind here.kind)
    ]
    by_kind false kind w = elim (asks_cases k s.core (slow_replica (after_firings k d mask)) r t.agrees.asks) [
      | inl here ↦ absurd (clash (is_sync r.kind) (end_kind (slow_replica (after_firings k d mask)) r here) kind)
      | inr here ↦ λ x x_is. access_counts k d mask x s room lawful x_is (counts x x_is) r differ late t c here w
    ]

working_counts : (k : TriplexCore) (d : TriplexState) (mask : ℕ) (s : CanStepInRepair k d) → d.ticks < 2 ^ 40 → tick_refusal d mask ≡ None → is_holding d.reintegration ≡ false → RepairCounted d → (b : Bool) → is_due (after_firings k d mask).voter ≡ b →
    VerdictCounts k d (after_firings k d mask) (tick_verdict k d mask)
working_counts k d mask s room lawful free counts true due =
    let e = after_firings k d mask in
    let f = firings_mask k d mask (record { core = s.core; masking = s.invariant.masking; room = room; halt = s.halt }) in
    let x = due_verdict k e f.masking (all_latched k d mask (can_step k d s) lawful due) due in
    let differ = differing_member e.voter x.0 in
    let late = late_member e.voter in
    subst (VerdictCounts k d e) (sym x.2) (decision_counts k d mask s room lawful free counts x.0 differ late (record { agrees = x.1; differ_is = refl; late_is = refl }) f.masking.agreement)
working_counts k d mask s room lawful free counts false due =
    let e = after_firings k d mask in
    subst (VerdictCounts k d e) (sym (verdict_waits e.voter due)) (λ w. firings_count k d mask s room due w counts)

pub tick_counts_repair : TickCountsRepair
tick_counts_repair k d mask s room lawful counts = by_hold (is_holding d.reintegration) refl (tick_keeps_repair k d mask s room lawful)
  where
    by_hold : (b : Bool) → is_holding d.reintegration ≡ b → (let t = (if b then record { next = after_hold_tick d mask; effects = no_effects } else after_working_tick k d mask) in RepairStep k d t.next t.effects → RepairCounted t.next)
    by_hold true is w = hold_counts k d mask d.reintegration s refl is counts w
    by_hold false is w =
        idled_counted (after_voting_tick k d mask) (is_idle_verdict (tick_verdict k d mask))
        (working_counts k d mask s room lawful is counts (is_due (after_firings k d mask).voter) refl (voting_keeps k d mask s room lawful is))

-- how long a reintegration lasts
pub reintegration_ends_in_time : ReintegrationEndsInTime
reintegration_ends_in_time k d i c v r counts is =
    let h = counts i is in
    let within = v.next.within in
    let past = v.skew.past in
    let j = v.next.cycles + 1 in
    let fits = v.masking.agreement.frame in
    let near = skew_fits d.frame j fits (omega arith) (omega arith) in
    let whole = (skew_bounds_wait (timer_of d.frame) j (skew_of d.frame) (skew_data d) near v.skew).whole in
    let grows = span_grows j (d.frame + 1) (omega arith) (omega arith) in
    let low = sync_low d.frame (is_sync_due d) d.resumed_run in
    let sync = h.sync in
    stated_reintegration.in_time d.frame (repair_tally d i) i.copying d.ticks fits refl h.progress (omega arith) (omega arith) h.ticks
  where
    sync_low : (frame : ℕ) (b : Bool) (run : ℕ) → run ≤ next_sync frame b run
    sync_low frame true run = omega arith
    sync_low frame false run = omega arith
