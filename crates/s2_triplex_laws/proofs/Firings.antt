-- What the firings of a tick keep: latch agreement and replica equality.
use Rattle.std.proofs.Common.{◌≡◌, ℕ, zero, suc, ◌+◌, ◌%◌, ◌^◌, ◌<◌, ◌≤◌, refl, sym, ap, subst, inl, inr, ◌∙◌, arith}
use Rattle.std.specs.Prelude.{Bool, true, false, Some, None, if◌then◌else◌}
use Rattle.std.specs.declared.option.Option.{Option}
use Rattle.std.proofs.lemmas.Bool.{cases_lt}
use Rattle.s2_ports.specs.declared.requests.Posted.{Posted}
use Rattle.s2_ports.specs.declared.requests.Request.{Request}
use Rattle.s2_clock.specs.ClockWatch.{is_firing}
use Rattle.s2_voter.specs.VoterState.{is_member, latch_of}
use Rattle.s2_machine.specs.declared.ask.Ask.{Ask}
use Rattle.s2_machine.specs.declared.ask.Ask.TheVariants.{Local, Outside}
use Rattle.s2_triplex.specs.ModuleFiring.{after_work, after_work_unless_waiting, is_working, module_ticked}
use Rattle.s2_triplex.specs.ModuleState.{ModuleState, Replica, after_local_cycle, after_local_cycles, replica_ask, replica_of}
use Rattle.s2_triplex.specs.TickFirings.{after_firings, latch_taken, ticked_at}
use Rattle.s2_triplex.specs.TriplexCores.{IsTriplexCore, TriplexCore}
use Rattle.s2_triplex.specs.TriplexState.{TriplexState, is_in, module_at}
use Rattle.s2_triplex_laws.specs.LatchAgreement.{GoodMember, IsGood, IsOwnPort, LatchAgreement}
use Rattle.s2_triplex_laws.specs.ReplicaEquality.{ReachedByCycles, ReplicaEquality, posting_ticks}
use Rattle.s2_triplex_laws.proofs.LatchCounts.{voter_latched}
use Rattle.s2_triplex_laws.proofs.LocalCycles.{asked_local}
use Rattle.s2_triplex_laws.proofs.ReferenceGoesOn.{GoesOn, run_of_reached}

-- what a module's part of a tick is
pub data FiredModule (k : TriplexCore) (seen : ℕ) (m n : ModuleState) : Type 0 where
  stays : n.muted ≡ m.muted → replica_of n ≡ replica_of m → n.port ≡ m.port → n.marks ≡ m.marks → FiredModule k seen m n
  posts : (r : Request) → n.muted ≡ m.muted → m.port ≡ None → replica_ask k (replica_of m) ≡ Outside r → replica_of n ≡ replica_of m → n.port ≡ Some (record { request = r; seen = seen }) → n.marks ≡ m.marks → FiredModule k seen m n
  works : n.muted ≡ m.muted → m.port ≡ None → replica_ask k (replica_of m) ≡ Local → replica_of n ≡ after_local_cycle k (replica_of m) → n.port ≡ None → n.marks ≡ k.core.marks_after_turn m.cpu m.local m.marks → FiredModule k seen m n

fired_worked : (k : TriplexCore) (seen f : ℕ) (m : ModuleState) (a : Ask) → m.port ≡ None → replica_ask k (replica_of m) ≡ a → FiredModule k seen m (after_work k seen (record m { fires = f }) a)
fired_worked k seen f m Local e h = works refl e h refl e refl
fired_worked k seen f m (Outside r) e h = posts r refl e h refl refl refl

fired_full : (k : TriplexCore) (seen f : ℕ) (m : ModuleState) (port : Option Posted) → m.port ≡ port → FiredModule k seen m (after_work_unless_waiting k seen (record m { fires = f }) port)
fired_full k seen f m (Some posted) e = stays refl refl refl refl
fired_full k seen f m None e = fired_worked k seen f m (replica_ask k (replica_of m)) e refl

fired_if : (k : TriplexCore) (seen f : ℕ) (m : ModuleState) (b : Bool) → FiredModule k seen m (if b then after_work_unless_waiting k seen (record m { fires = f }) m.port else record m { fires = f })
fired_if k seen f m true = fired_full k seen f m m.port refl
fired_if k seen f m false = stays refl refl refl refl

pub module_fires : (k : TriplexCore) (seen : ℕ) (member fires : Bool) (m : ModuleState) → FiredModule k seen m (module_ticked k seen member fires m)
module_fires k seen member true m = fired_if k seen ((m.fires + 1) % 256) m (is_working m member)
module_fires k seen member false m = stays refl refl refl refl

-- the port, the lines and the latch of a good processor
muted_next : {k : TriplexCore} {seen : ℕ} {m n : ModuleState} → FiredModule k seen m n → m.muted ≡ false → n.muted ≡ false
muted_next (stays e i p mk) h = e ∙ h
muted_next (posts r e x a i p mk) h = e ∙ h
muted_next (works e x a i p mk) h = e ∙ h

pub port_moved : (k : TriplexCore) (delivered accepted : ℕ) (s t : Replica) (x y : Option Posted) → t ≡ s → y ≡ x → IsOwnPort k delivered accepted s x → IsOwnPort k delivered accepted t y
port_moved k delivered accepted s t x y i p h =
    subst (λ (u : Replica). IsOwnPort k delivered accepted u y) (sym i) (subst (λ (v : Option Posted). IsOwnPort k delivered accepted s v) (sym p) h)

port_next : (k : TriplexCore) (delivered accepted : ℕ) (m n : ModuleState) → delivered ≤ accepted → FiredModule k accepted m n → IsOwnPort k delivered accepted (replica_of m) m.port → IsOwnPort k delivered accepted (replica_of n) n.port
port_next k delivered accepted m n low (stays e i p mk) h = port_moved k delivered accepted (replica_of m) (replica_of n) m.port n.port i p h
port_next k delivered accepted m n low (posts r e x a i p mk) h =
    port_moved k delivered accepted (replica_of m) (replica_of n) (Some (record { request = r; seen = accepted })) n.port i p (record { own = a; from = low; to = omega arith })
port_next k delivered accepted m n low (works e x a i p mk) h = port_moved k delivered accepted (replica_of n) (replica_of n) None n.port refl p tt

lines_next : (k : TriplexCore) (c : IsTriplexCore k) (seen lines : ℕ) (m n : ModuleState) → FiredModule k seen m n → m.cpu.lines ≡ lines → n.cpu.lines ≡ lines
lines_next k c seen lines m n (stays e i p mk) h = ap (λ (s : Replica). s.cpu.lines) i ∙ h
lines_next k c seen lines m n (posts r e x a i p mk) h = ap (λ (s : Replica). s.cpu.lines) i ∙ h
lines_next k c seen lines m n (works e x a i p mk) h = ap (λ (s : Replica). s.cpu.lines) i ∙ (c.core.lines_after_turn m.cpu m.local (asked_local k (replica_of m) a) ∙ h)

latch_next : (k : TriplexCore) (seen : ℕ) (m n : ModuleState) (l : Option Posted) → FiredModule k seen m n → l ≡ m.port → latch_taken true l n.port ≡ n.port
latch_next k seen m n None f h = refl
latch_next k seen m n (Some x) (stays e i p mk) h = h ∙ sym p
latch_next k seen m n (Some x) (posts r e y a i p mk) h = absurd cc
latch_next k seen m n (Some x) (works e y a i p mk) h = absurd cc

-- what stands at each processor's place
pub module_is : (k : TriplexCore) (d : TriplexState) (mask p : ℕ) → p < 3 → module_at (after_firings k d mask).modules p ≡ ticked_at k d mask p
module_is k d mask zero h = refl
module_is k d mask (suc zero) h = refl
module_is k d mask (suc (suc zero)) h = refl
module_is k d mask (suc (suc (suc p))) h = absurd (omega arith)

pub latch_is : (k : TriplexCore) (d : TriplexState) (mask p : ℕ) → p < 3 → latch_of (after_firings k d mask).voter p ≡ latch_taken (is_member d.voter p) (latch_of d.voter p) (module_at (after_firings k d mask).modules p).port
latch_is k d mask zero h = refl
latch_is k d mask (suc zero) h = refl
latch_is k d mask (suc (suc zero)) h = refl
latch_is k d mask (suc (suc (suc p))) h = absurd (omega arith)

pub fires_at : (k : TriplexCore) (d : TriplexState) (mask p : ℕ) → p < 3 → FiredModule k d.accepted (module_at d.modules p) (module_at (after_firings k d mask).modules p)
fires_at k d mask p h =
    subst (λ (n : ModuleState). FiredModule k d.accepted (module_at d.modules p) n) (sym (module_is k d mask p h)) (module_fires k d.accepted (is_member d.voter p) (is_firing mask p) (module_at d.modules p))

pub good_member : (k : TriplexCore) (d : TriplexState) (p : ℕ) (hp : p < 3) (g : IsGood d p) → LatchAgreement k d → is_member d.voter p ≡ true
good_member k d p hp g h = h.members p hp ∙ ap is_in (h.good p hp g).membership

member_next : (k : TriplexCore) (c : IsTriplexCore k) (d : TriplexState) (mask p : ℕ) (hp : p < 3) (g : IsGood d p) → LatchAgreement k d → GoodMember k (after_firings k d mask) p
member_next k c d mask p hp g h =
    let t = h.good p hp g in
    let f = fires_at k d mask p hp in
    let m = module_at d.modules p in
    let n = module_at (after_firings k d mask).modules p in
    let inbox = h.inbox in
    record {
      membership = t.membership;
      awake = muted_next f t.awake;
      port = port_next k d.delivered d.accepted m n (omega arith) f t.port;
      latch =
          latch_is k d mask p hp ∙ (ap (λ (b : Bool). latch_taken b (latch_of d.voter p) n.port) (good_member k d p hp g h) ∙ latch_next k d.accepted m n (latch_of d.voter p) f t.latch);
      lines = lines_next k c d.accepted _ m n f t.lines;
    }

pub firings_agree : (k : TriplexCore) → IsTriplexCore k → (d : TriplexState) (mask : ℕ) → LatchAgreement k d → LatchAgreement k (after_firings k d mask)
firings_agree k c d mask h = record {
  members = h.members;
  voter = voter_latched (λ p. (module_at (after_firings k d mask).modules p).port) d.voter h.voter;
  good = λ p hp g. member_next k c d mask p hp g h;
  inbox = h.inbox;
  frame = h.frame;
  timer = h.timer;
  boards = h.boards;
  room = h.room;
}

-- a module that has come from a replica comes further
pub record Further (k : TriplexCore) (start : Replica) (resumed ticks : ℕ) (m : ModuleState) (least : ℕ) : Type 0 where
  pub reached : ReachedByCycles k start resumed ticks m
  pub more : least ≤ reached.cycles

full_by : (port : Option Posted) (x : Option Posted) → port ≡ x → posting_ticks port ≡ posting_ticks x
full_by port x e = ap posting_ticks e

reached_further : (k : TriplexCore) (seen resumed ticks : ℕ) (start : Replica) (m n : ModuleState) → FiredModule k seen m n → (r : ReachedByCycles k start resumed ticks m) → Further k start resumed (ticks + 1) n r.cycles
reached_further k seen resumed ticks start m n (stays e i p mk) r =
    let spent = r.spent in
    let full = full_by n.port m.port p in
    record { reached = record { cycles = r.cycles; quiet = r.quiet; is = i ∙ r.is; spent = omega arith }; more = omega arith }
reached_further k seen resumed ticks start m n (posts q e x a i p mk) r =
    let spent = r.spent in
    let full : posting_ticks n.port ≡ 1 = full_by n.port (Some (record { request = q; seen = seen })) p in
    record { reached = record { cycles = r.cycles; quiet = r.quiet; is = i ∙ r.is; spent = omega arith }; more = omega arith }
reached_further k seen resumed ticks start m n (works e x a i p mk) r =
    let spent = r.spent in
    let full : posting_ticks n.port ≡ 0 = full_by n.port None p in
    record {
      reached = record {
        cycles = suc r.cycles;
        quiet = λ j h. elim (cases_lt j r.cycles) [
          | inl less ↦ r.quiet j less
          | inr more ↦ (let same : j ≡ r.cycles = omega arith in subst (λ (t : ℕ). replica_ask k (after_local_cycles k t start) ≡ Local) (sym same) (subst (λ (s : Replica). replica_ask k s ≡ Local) r.is a))
        ];
        is = i ∙ ap (after_local_cycle k) r.is;
        spent = omega arith;
      };
      more = omega arith;
    }

-- a state whose good processors go on from the same replica
pub record StepGoesOn (k : TriplexCore) (d e : TriplexState) (a : ReplicaEquality k d) : Type 0 where
  pub replicas : ReplicaEquality k e
  pub continues : GoesOn k d e a replicas

further_at : (k : TriplexCore) (d : TriplexState) (mask : ℕ) (a : ReplicaEquality k d) (p : ℕ) (hp : p < 3) (g : IsGood d p) →
    Further k a.start d.resumed (d.ticks + 1) (module_at (after_firings k d mask).modules p) (a.each p hp g).cycles
further_at k d mask a p hp g = reached_further k d.accepted d.resumed d.ticks a.start (module_at d.modules p) (module_at (after_firings k d mask).modules p) (fires_at k d mask p hp) (a.each p hp g)

firings_equal : (k : TriplexCore) (d : TriplexState) (mask : ℕ) (a : ReplicaEquality k d) → d.ticks < 2 ^ 40 → ReplicaEquality k (after_firings k d mask)
firings_equal k d mask a room = record {
  start = a.start;
  frame = a.frame;
  at = a.at;
  ends = a.ends;
  low = a.low;
  room = omega arith;
  each = λ p hp g. (further_at k d mask a p hp g).reached;
}

pub firings_go_on : (k : TriplexCore) (c : IsTriplexCore k) (d : TriplexState) (mask : ℕ) (a : ReplicaEquality k d) → d.ticks < 2 ^ 40 → d.halt ≡ None → StepGoesOn k d (after_firings k d mask) a
unfolding firings_equal
firings_go_on k c d mask a room halt = record {
  replicas = firings_equal k d mask a room;
  continues = record {
    frame = refl;
    start = refl;
    halt = halt;
    still = halt;
    global = refl;
    device = refl;
    good = λ p hp g. g;
    grows = λ p hp g.
        let before = run_of_reached k c d a p hp g in
        let after = run_of_reached k c (after_firings k d mask) (firings_equal k d mask a room) p hp g in
        let more = (further_at k d mask a p hp g).more in
        omega arith;
  };
}
