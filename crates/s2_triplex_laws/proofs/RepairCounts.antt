-- The count of a reintegration: what it tells, and that acts keep it.
use Rattle.std.proofs.Common.{◌≡◌, ℕ, zero, suc, ◌+◌, ◌-◌, ◌*◌, ◌<◌, ◌≤◌, refl, sym, ap, subst, ◌∙◌, arith}
use Rattle.std.specs.Prelude.{Bool, true, false, ◌==◌, ◌&&◌, Some, None, is_some, if◌then◌else◌}
use Rattle.std.specs.declared.option.Option.{Option}
use Rattle.std.proofs.lemmas.Bool.Decides.{nat_tests}
use Rattle.s2_ports.specs.declared.requests.Posted.{Posted}
use Rattle.s2_join.specs.CopyOrder.{CopyState}
use Rattle.s2_voter.specs.VoterState.{VoterState, is_member, latch_of}
use Rattle.s2_plant_laws.specs.RepairProgress.{RepairProgress}
use Rattle.s2_plant_laws.specs.RepairBound.{TicksCounted, next_sync}
use Rattle.s2_plant_laws.proofs.RepairNumbers.{repair_progresses}
use Rattle.s2_triplex.specs.TriplexCores.{TriplexCore, IsTriplexCore}
use Rattle.s2_triplex.specs.ModuleState.{Replica, replica_of, after_local_cycles}
use Rattle.s2_triplex.specs.TriplexState.{TriplexState, Reintegration, module_at}
use Rattle.s2_triplex.specs.ReferenceMachine.{run_at, slowest}
use Rattle.s2_triplex.specs.ActStep.{event_received, reintegration_disturbed, module_disturbed, reintegration_begun, revived}
use Rattle.s2_triplex_laws.specs.LatchAgreement.{IsGood, LatchAgreement}
use Rattle.s2_triplex_laws.specs.ReplicaEquality.{ReplicaEquality}
use Rattle.s2_triplex_laws.specs.TriplexInvariant.{TriplexInvariant}
use Rattle.s2_triplex_laws.specs.RepairInvariant.{IsOpenReintegration}
use Rattle.s2_triplex_laws.specs.RepairTallies.{is_sync_due, GoodAgreeOnSync, next_sync_of, AllMembersLatched, repair_tally, IsRepairCounted, FaultCountsRepair, RemovalCountsRepair, ReviveCountsRepair, EventCountsRepair}
use Rattle.s2_triplex_laws.proofs.LocalCycles.{Quiet}
use Rattle.s2_triplex_laws.proofs.SlowestProcessor.{slowest_is}
use Rattle.s2_triplex_laws.proofs.ReferenceGoesOn.{run_of_reached}
use Rattle.s2_triplex_laws.proofs.Firings.{good_member}
use Rattle.s2_triplex_laws.proofs.Acts.{ActEffect, fault_acts, event_acts}
use Rattle.s2_triplex_laws.proofs.MaskingLaws.{ask_by_due}
use Rattle.s2_triplex_laws.proofs.LawfulSteps.{tainted_by}
use Rattle.s2_triplex_laws.proofs.RepairDuringTicks.{joining_out}
use Rattle.s2_triplex_laws.proofs.HoldBegins.{good_other, now_empty}
use Rattle.s2_triplex_laws.proofs.ActsInRepair.{fault_keeps_repair, revive_keeps_repair, event_keeps_repair}

clash : (b : Bool) → b ≡ true → b ≡ false → ⊥
clash b x y = cc

some_is : (x y : Reintegration) → Some x ≡ Some y → x ≡ y
some_is x y h = cc

none_some : (x : Reintegration) → None ≡ Some x → ⊥
none_some x h = cc

-- whether a frame's end is due at the run count of the last resume
due_by : (k : TriplexCore) (start : Replica) (run at n : ℕ) (s : Replica) → s ≡ after_local_cycles k n start → run ≡ at + n → Quiet k n start → (s.due && (run == at)) ≡ start.due
due_by k start run at zero s is to q = ap (λ (x : Replica). x.due && (run == at)) is ∙ by_test (run == at) (grind (arith, nat_tests))
  where
    by_test : (b : Bool) → b ≡ true → (start.due && b) ≡ start.due
    by_test true h = both start.due
      where
        both : (x : Bool) → (x && true) ≡ x
        both true = refl
        both false = refl
    by_test false h = absurd cc
due_by k start run at (suc n) s is to q = by_test s.due (run == at) (grind (arith, nat_tests)) ∙ sym (ask_by_due k start start.due (q 0 (omega arith)))
  where
    by_test : (x b : Bool) → b ≡ false → (x && b) ≡ false
    by_test true b h = h
    by_test false b h = refl

due_at : (k : TriplexCore) (c : IsTriplexCore k) (d : TriplexState) (a : ReplicaEquality k d) (p : ℕ) (hp : p < 3) (g : IsGood d p) → ((module_at d.modules p).due && (run_at d.modules p == d.resumed_run)) ≡ a.start.due
due_at k c d a p hp g =
    let x = a.each p hp g in
    let to = run_of_reached k c d a p hp g in
    let at = a.at in
    due_by k a.start (run_at d.modules p) d.resumed_run x.cycles (replica_of (module_at d.modules p)) x.is (omega arith) x.quiet

pub due_now : (k : TriplexCore) (c : IsTriplexCore k) (d : TriplexState) (a : ReplicaEquality k d) → is_sync_due d ≡ a.start.due
due_now k c d a = let p = slowest_is d.tainted d.modules in due_at k c d a (slowest d.tainted d.modules) p.low p.good

pub good_agree_on_sync : GoodAgreeOnSync
good_agree_on_sync k d c a p hp g = due_at k c d a p hp g ∙ sym (due_now k c d a)

-- after a step that leaves the good processors and the last run count
due_stays : (k : TriplexCore) (c : IsTriplexCore k) (d e : TriplexState) (a : ReplicaEquality k d) → e.resumed_run ≡ d.resumed_run → ((q : ℕ) → q < 3 → IsGood e q → IsGood d q) →
    ((q : ℕ) → q < 3 → IsGood e q → replica_of (module_at e.modules q) ≡ replica_of (module_at d.modules q)) → is_sync_due e ≡ is_sync_due d
due_stays k c d e a run good same =
    let p = slowest_is e.tainted e.modules in
    let q = slowest e.tainted e.modules in
    let i = same q p.low p.good in
    ap (λ (s : Replica). s.due && (s.cpu.run == e.resumed_run)) i ∙ (ap (λ (n : ℕ). (module_at d.modules q).due && (run_at d.modules q == n)) run ∙ (due_at k c d a q p.low (good q p.low p.good) ∙ sym (due_now k c d a)))

pub sync_stays : (k : TriplexCore) (c : IsTriplexCore k) (d e : TriplexState) (a : ReplicaEquality k d) → e.frame ≡ d.frame → e.resumed_run ≡ d.resumed_run → ((q : ℕ) → q < 3 → IsGood e q → IsGood d q) →
    ((q : ℕ) → q < 3 → IsGood e q → replica_of (module_at e.modules q) ≡ replica_of (module_at d.modules q)) → next_sync_of e ≡ next_sync_of d
sync_stays k c d e a frame run good same =
    ap (λ (f : ℕ). next_sync f (is_sync_due e) e.resumed_run) frame ∙
    (ap (λ (b : Bool). next_sync d.frame b e.resumed_run) (due_stays k c d e a run good same) ∙ ap (λ (n : ℕ). next_sync d.frame (is_sync_due d) n) run)

-- where all good processors stand at the last resume
pub due_level : (e : TriplexState) (t : Replica) → ((q : ℕ) → q < 3 → IsGood e q → replica_of (module_at e.modules q) ≡ t) → e.resumed_run ≡ t.cpu.run → is_sync_due e ≡ t.due
due_level e t same run =
    let p = slowest_is e.tainted e.modules in
    ap (λ (s : Replica). s.due && (s.cpu.run == e.resumed_run)) (same (slowest e.tainted e.modules) p.low p.good) ∙ by_test t.due (t.cpu.run == e.resumed_run) (number_same t.cpu.run e.resumed_run (sym run))
  where
    number_same : (n m : ℕ) → n ≡ m → (n == m) ≡ true
    number_same n m h = grind (arith, nat_tests)

    by_test : (x b : Bool) → b ≡ true → (x && b) ≡ x
    by_test true b h = h
    by_test false b h = refl

-- a member that posted is latched
pub posts_of : (k : TriplexCore) (e : TriplexState) (j : Reintegration) → LatchAgreement k e → IsOpenReintegration e j → (p : ℕ) → p < 3 → is_member e.voter p ≡ true → is_some (module_at e.modules p).port ≡ true → is_some (latch_of e.voter p) ≡ true
posts_of k e j h o p hp member full =
    let g : IsGood e p = good_other e j p o (λ same. clash (is_member e.voter p) member (ap (is_member e.voter) (sym same) ∙ joining_out k e j h o)) in
    ap (λ (l : Option Posted). is_some l) (h.good p hp g).latch ∙ full

-- right after a resume no member is latched
no_wait : (k : TriplexCore) (e : TriplexState) → TriplexInvariant k e → e.resumed ≡ e.ticks → AllMembersLatched e → ⊥
no_wait k e i now all =
    let h = i.masking.agreement in
    let p = slowest_is e.tainted e.modules in
    let q = slowest e.tainted e.modules in
    let latched = all q p.low (good_member k e q p.low p.good h) in
    clash (is_some (latch_of e.voter q)) latched (ap (λ (l : Option Posted). is_some l) ((h.good q p.low p.good).latch ∙ now_empty k e i.masking.replicas now q p.low p.good))

pub counted_now : (k : TriplexCore) (e : TriplexState) (j : Reintegration) → TriplexInvariant k e → IsOpenReintegration e j → e.resumed ≡ e.ticks → j.revived ≤ e.ticks → TicksCounted (repair_tally e j) →
    next_sync_of e ≤ j.revived_run + e.frame * (j.copying.syncs + 1) → RepairProgress j.copied j.copying → IsRepairCounted e j
counted_now k e j i o now past ticks sync progress = record {
  ticks = ticks;
  sync = sync;
  posts = posts_of k e j i.masking.agreement o;
  past = past;
  waits = λ all. absurd (no_wait k e i now all);
  progress = progress;
}

-- an act leaves the count
pub record SameCount (i j : Reintegration) : Type 0 where
  pub copying : j.copying ≡ i.copying
  pub revived : j.revived ≡ i.revived
  pub revived_run : j.revived_run ≡ i.revived_run
  pub copied : j.copied ≡ i.copied

pub act_counts : (k : TriplexCore) (c : IsTriplexCore k) (d e : TriplexState) (i j : Reintegration) → TriplexInvariant k d → TriplexInvariant k e → ActEffect d e → e.voter ≡ d.voter → IsOpenReintegration e j → SameCount i j → IsRepairCounted d i → IsRepairCounted e j
act_counts k c d e i j old new acts voter o same h =
    let s = sync_stays k c d e old.masking.replicas acts.frame acts.resumed_run acts.good (λ q hq g. ap replica_of (acts.modules q hq g)) in
    let ticks = acts.ticks in
    let resumed = acts.resumed in
    let run = acts.resumed_run in
    let low = h.ticks.rising in
    let past = h.past in
    let revived = same.revived in
    let revived_run = same.revived_run in
    let copied = same.copied in
    let counted : d.resumed ≤ i.revived + 7 * (d.resumed_run - i.revived_run + j.copying.syncs) + i.copied =
    subst (λ (x : CopyState). d.resumed ≤ i.revived + 7 * (d.resumed_run - i.revived_run + x.syncs) + i.copied) (sym same.copying) h.ticks.ticks in
    let next : next_sync_of d ≤ i.revived_run + d.frame * (j.copying.syncs + 1) = subst (λ (x : CopyState). next_sync_of d ≤ i.revived_run + d.frame * (x.syncs + 1)) (sym same.copying) h.sync in
    record {
      ticks = record { rising = omega arith; ticks = omega arith };
      sync = subst (λ (f : ℕ). next_sync_of e ≤ j.revived_run + f * (j.copying.syncs + 1)) (sym acts.frame) (omega arith);
      posts = posts_of k e j new.masking.agreement o;
      past = omega arith;
      waits = λ all.
          let w = h.waits (λ p hp member. ap (λ (v : VoterState). is_some (latch_of v p)) (sym voter) ∙ all p hp (ap (λ (v : VoterState). is_member v p) voter ∙ member)) in
          omega arith;
      progress = subst (λ (x : CopyState). RepairProgress j.copied x) (sym same.copying) (subst (λ (n : ℕ). RepairProgress n i.copying) (sym copied) h.progress);
    }

pub fault_counts_repair : FaultCountsRepair
fault_counts_repair k d p m s lawful fits counts x is = by_open d.reintegration refl
  where
    by_open : (open_before : Option Reintegration) → d.reintegration ≡ open_before → IsRepairCounted (module_disturbed p m d) x
    by_open None e = absurd (none_some x (ap reintegration_disturbed (sym e) ∙ is))
    by_open (Some i) e =
        let w = fault_keeps_repair k d p m s lawful fits in
        let same : record i { disturbed = true } ≡ x = some_is (record i { disturbed = true }) x (ap reintegration_disturbed (sym e) ∙ is) in
        act_counts k s.core d (module_disturbed p m d) i x s.invariant w.invariant (fault_acts p m d (tainted_by d.tainted p lawful)) refl (w.repair.opened x is)
        (record {
          copying = ap (λ (y : Reintegration). y.copying) (sym same);
          revived = ap (λ (y : Reintegration). y.revived) (sym same);
          revived_run = ap (λ (y : Reintegration). y.revived_run) (sym same);
          copied = ap (λ (y : Reintegration). y.copied) (sym same);
        }) (counts i e)

pub removal_counts_repair : RemovalCountsRepair
removal_counts_repair k d p x is = absurd (none_some x is)

event_by : (b : Bool) (x y : TriplexState) → x.voter ≡ y.voter → x.reintegration ≡ y.reintegration → ((if b then x else y).voter ≡ y.voter) × ((if b then x else y).reintegration ≡ y.reintegration)
event_by true x y a b = (a, b)
event_by false x y a b = (refl, refl)

pub event_counts_repair : EventCountsRepair
event_counts_repair k d event s counts x is =
    let w = event_keeps_repair k d event s in
    let t = event_acts k event d s.invariant.masking.agreement in
    let same : ((event_received event d).voter ≡ d.voter) × ((event_received event d).reintegration ≡ d.reintegration) = event_by _ _ d refl refl in
    act_counts k s.core d (event_received event d) x x s.invariant w.invariant t.acts same.0 (w.repair.opened x is) (record { copying = refl; revived = refl; revived_run = refl; copied = refl }) (counts x (sym same.1 ∙ is))

-- the begin of a reintegration
pub revive_counts_repair : ReviveCountsRepair
revive_counts_repair k d p s hp out x is =
    let w = revive_keeps_repair k d p s hp out in
    let first = reintegration_begun p d in
    let o = w.repair.opened first refl in
    let past = s.invariant.skew.past in
    subst (IsRepairCounted (revived p d)) (some_is first x is) (record {
      ticks = record { rising = omega arith; ticks = omega arith };
      sync = first_sync d.frame (is_sync_due (revived p d)) d.resumed_run;
      posts = posts_of k (revived p d) first w.invariant.masking.agreement o;
      past = omega arith;
      waits = λ all. refl;
      progress = repair_progresses.start p;
    })
  where
    first_sync : (frame : ℕ) (b : Bool) (run : ℕ) → next_sync frame b run ≤ run + frame * (0 + 1)
    first_sync frame true run = omega arith
    first_sync frame false run = omega arith
