-- The reference machine goes on by local cycles.
use Rattle.std.proofs.Common.{◌≡◌, ℕ, ◌+◌, ◌-◌, ◌<◌, ◌≤◌, sym, ap, subst, inl, inr, ◌∙◌, arith}
use Rattle.std.specs.Prelude.{None}
use Rattle.std.proofs.lemmas.Bool.{cases_lt}
use Rattle.s2_ports.specs.declared.requests.Request.{Request}
use Rattle.s2_revive.specs.MendingBoards.{memory_of}
use Rattle.s2_machine.specs.declared.ask.Ask.{Ask}
use Rattle.s2_machine.specs.declared.ask.Ask.TheVariants.{Local, Outside}
use Rattle.s2_triplex.specs.ModuleState.{Replica, after_local_cycles, replica_ask, replica_of}
use Rattle.s2_triplex.specs.ReferenceMachine.{run_at, runs, slowest}
use Rattle.s2_triplex.specs.TriplexCores.{IsTriplexCore, TriplexCore}
use Rattle.s2_triplex.specs.TriplexState.{TriplexState, module_at}
use Rattle.s2_triplex.specs.VoterDecision.{no_effects}
use Rattle.s2_triplex_laws.specs.LatchAgreement.{IsGood}
use Rattle.s2_triplex_laws.specs.ReferenceAdvance.{ReferenceRuns}
use Rattle.s2_triplex_laws.specs.ReplicaEquality.{ReplicaEquality}
use Rattle.s2_triplex_laws.proofs.LocalCycles.{Quiet, cycles_add, frame_after_cycles, quiet_after, run_after_cycles, run_between}
use Rattle.s2_triplex_laws.proofs.SlowestProcessor.{slowest_is}

-- a good processor's run count is that of the start and its cycles
pub run_of_reached : (k : TriplexCore) (c : IsTriplexCore k) (d : TriplexState) (a : ReplicaEquality k d) (p : ℕ) (hp : p < 3) (g : IsGood d p) → run_at d.modules p ≡ a.start.cpu.run + (a.each p hp g).cycles
run_of_reached k c d a p hp g =
    let r = a.each p hp g in
    let low = a.low in
    let room = a.room in
    let at = a.at in
    let spent = r.spent in
    ap (λ (s : Replica). s.cpu.run) r.is ∙ run_after_cycles k c r.cycles a.start r.quiet (omega arith)

-- and its frame is that of the machine
pub frame_of_reached : (k : TriplexCore) (d : TriplexState) (a : ReplicaEquality k d) (p : ℕ) (hp : p < 3) (g : IsGood d p) → (module_at d.modules p).frame ≡ d.frame
frame_of_reached k d a p hp g = let r = a.each p hp g in ap (λ (s : Replica). s.frame) r.is ∙ (frame_after_cycles k r.cycles a.start ∙ a.frame)

-- two good processors that wait for the outside have done the same cycles
pub same_cycles : (k : TriplexCore) (s : Replica) (n m : ℕ) (r q : Request) → Quiet k n s → Quiet k m s → replica_ask k (after_local_cycles k n s) ≡ Outside r → replica_ask k (after_local_cycles k m s) ≡ Outside q → n ≡ m
same_cycles k s n m r q hn hm an am =
    elim (cases_lt n m) [
      | inl less ↦ absurd (let x = hm n less in clash x an)
      | inr more ↦ elim (cases_lt m n) [ inl less ↦ absurd (let x = hn m less in clash x am) | inr same ↦ omega arith ]
    ]
  where
    clash : {a : Ask} {r : Request} → a ≡ Local → a ≡ Outside r → ⊥
    clash x y = cc

pub same_replica : (k : TriplexCore) (d : TriplexState) (a : ReplicaEquality k d) (p q : ℕ) (hp : p < 3) (gp : IsGood d p) (hq : q < 3) (gq : IsGood d q) (r s : Request) →
    replica_ask k (replica_of (module_at d.modules p)) ≡ Outside r → replica_ask k (replica_of (module_at d.modules q)) ≡ Outside s → replica_of (module_at d.modules p) ≡ replica_of (module_at d.modules q)
same_replica k d a p q hp gp hq gq r s ap_is aq_is =
    let x = a.each p hp gp in
    let y = a.each q hq gq in
    let n = same_cycles k a.start x.cycles y.cycles r s x.quiet y.quiet (subst (λ (t : Replica). replica_ask k t ≡ Outside r) x.is ap_is) (subst (λ (t : Replica). replica_ask k t ≡ Outside s) y.is aq_is) in
    x.is ∙ (ap (λ (i : ℕ). after_local_cycles k i a.start) n ∙ sym y.is)

-- a state whose good processors have gone on by local work, some of them perhaps no longer good
pub record GoesOn (k : TriplexCore) (d e : TriplexState) (a : ReplicaEquality k d) (b : ReplicaEquality k e) : Type 0 where
  pub frame : e.frame ≡ d.frame
  pub start : b.start ≡ a.start
  pub halt : d.halt ≡ None
  pub still : e.halt ≡ None
  pub global : memory_of e.boards ≡ memory_of d.boards
  pub device : e.device ≡ d.device
  pub good : (p : ℕ) → p < 3 → IsGood e p → IsGood d p
  pub grows : (p : ℕ) → p < 3 → IsGood e p → run_at d.modules p ≤ run_at e.modules p

pub record RunsLater (k : TriplexCore) (d e : TriplexState) : Type 0 where
  pub grows : runs d ≤ runs e
  pub reference_runs : ReferenceRuns k d e no_effects

pub reference_goes_on : (k : TriplexCore) (c : IsTriplexCore k) (d e : TriplexState) (a : ReplicaEquality k d) (b : ReplicaEquality k e) → GoesOn k d e a b → RunsLater k d e
reference_goes_on k c d e a b h =
    let p = slowest_is d.tainted d.modules in
    let q = slowest_is e.tainted e.modules in
    let x = a.each (slowest d.tainted d.modules) p.low p.good in
    let y = b.each (slowest e.tainted e.modules) q.low q.good in
    let back = p.least (slowest e.tainted e.modules) q.low (h.good (slowest e.tainted e.modules) q.low q.good) in
    let on = h.grows (slowest e.tainted e.modules) q.low q.good in
    let rx = run_of_reached k c d a (slowest d.tainted d.modules) p.low p.good in
    let ry = run_of_reached k c e b (slowest e.tainted e.modules) q.low q.good in
    let same : b.start.cpu.run ≡ a.start.cpu.run = ap (λ (s : Replica). s.cpu.run) h.start in
    let n : runs e - runs d ≡ y.cycles - x.cycles = omega arith in
    let split : (y.cycles - x.cycles) + x.cycles ≡ y.cycles = omega arith in
    record {
      grows = omega arith;
      reference_runs =
          run_between k (runs e - runs d) (runs d) (memory_of d.boards) (memory_of e.boards) d.device e.device d.halt e.halt (module_at d.modules (slowest d.tainted d.modules))
          (module_at e.modules (slowest e.tainted e.modules)) h.halt h.still h.global h.device
          (subst (λ (i : ℕ). Quiet k i (replica_of (module_at d.modules (slowest d.tainted d.modules)))) (sym n)
          (subst (λ (s : Replica). Quiet k (y.cycles - x.cycles) s) (sym x.is)
          (quiet_after k (y.cycles - x.cycles) x.cycles a.start
          (subst (λ (i : ℕ). Quiet k i a.start) (sym split) (subst (λ (s : Replica). Quiet k y.cycles s) h.start y.quiet)))))
          (y.is ∙
          (ap (λ (s : Replica). after_local_cycles k y.cycles s) h.start ∙
          (ap (λ (i : ℕ). after_local_cycles k i a.start) (sym split) ∙
          (cycles_add k (y.cycles - x.cycles) x.cycles a.start ∙
          (ap (λ (s : Replica). after_local_cycles k (y.cycles - x.cycles) s) (sym x.is) ∙ ap (λ (i : ℕ). after_local_cycles k i (replica_of (module_at d.modules (slowest d.tainted d.modules)))) (sym n))))));
    }
