-- What a decision leaves: latches agree, replicas are equal, and the reference machine did the same.
use Rattle.std.proofs.Common.{◌≡◌, ℕ, zero, suc, ◌+◌, ◌-◌, ◌^◌, ◌<◌, ◌≤◌, List, [], ◌∷◌, length, take, refl, sym, ap, subst, ◌∙◌, arith}
use Rattle.std.specs.Prelude.{not, ◌&&◌, slice_index_or, Bool, true, false, Some, None, is_some, if◌then◌else◌}
use Rattle.std.specs.declared.option.Option.{Option}
use Rattle.std.proofs.lemmas.List.{length-drop}
use Rattle.s2_base.specs.Map.{place_at}
use Rattle.s2_ports.specs.declared.events.Event.{Event}
use Rattle.s2_ports.specs.declared.events.Event.TheVariants.{Private}
use Rattle.s2_ports.specs.declared.requests.Kind.{Kind}
use Rattle.s2_ports.specs.declared.requests.Kind.TheVariants.{Load, Store, Sync}
use Rattle.s2_ports.specs.declared.requests.Posted.{Posted}
use Rattle.s2_ports.specs.declared.requests.Request.{Request}
use Rattle.s2_agree.specs.AgreedCount.{agreed_count}
use Rattle.s2_agree.specs.CountBounds.{IsCountWithin}
use Rattle.s2_device.specs.DeviceState.{lines_of, Device}
use Rattle.s2_revive.specs.MendingBoards.{MendingRead, AreMendingBoards, memory_of}
use Rattle.s2_voter.specs.VoterCalls.{no_latches}
use Rattle.s2_voter.specs.VoterState.{IsTimer, IsVoter, is_member, latch_of}
use Rattle.s2_machine.specs.Cores.{is_sync}
use Rattle.s2_machine.specs.OutsideAccess.{AccessResult}
use Rattle.s2_machine.specs.PrivateArea.{stores_at}
use Rattle.s2_triplex.specs.ModuleAnswer.{finished_replica}
use Rattle.s2_triplex.specs.ModuleState.{ModuleState, Replica, is_frame_end, replica_ask, replica_of}
use Rattle.s2_triplex.specs.ReferenceMachine.{runs, slowest}
use Rattle.s2_triplex.specs.TriplexCores.{IsTriplexCore, TriplexCore}
use Rattle.s2_triplex.specs.TriplexState.{TriplexState, is_in, membership_at, module_at}
use Rattle.s2_triplex.specs.VotedAccess.{VotedAccess, access_after, access_of_kind, deliveries_at, device_after_events, outside_access, private_events, seen_in, sync_access}
use Rattle.s2_triplex.specs.VoterDecision.{StepEffects, after_decision, answered_at, answered_if, decision_effects, membership_unless_left, stays_member}
use Rattle.s2_triplex.specs.declared.numbers.TheConstants.{INBOX_EVENTS}
use Rattle.s2_triplex_laws.specs.LatchAgreement.{IsGood, IsOwnPort, LatchAgreement}
use Rattle.s2_triplex_laws.specs.ReferenceAdvance.{DueFrom, DueUpTo, ReferenceAdvance}
use Rattle.s2_triplex_laws.specs.ReplicaEquality.{ReplicaEquality, posting_ticks}
use Rattle.s2_triplex_laws.proofs.Acts.{left_in}
use Rattle.s2_triplex_laws.proofs.AnsweredModules.{AsksAccess, AsksSync, CycleEnds, access_between, after_access_is, after_sync_is, answer_finishes, cycle_ends, module_after_answer, replica_after_access, replica_after_sync, sync_between}
use Rattle.s2_triplex_laws.proofs.CountsWithin.{count_within}
use Rattle.s2_triplex_laws.proofs.Firings.{good_member}
use Rattle.s2_triplex_laws.proofs.LatchCounts.{two_three}
use Rattle.s2_triplex_laws.proofs.ReferenceGoesOn.{frame_of_reached, run_of_reached}
use Rattle.s2_triplex_laws.proofs.RightDecisions.{AllAsk}
use Rattle.s2_triplex_laws.proofs.SlowestProcessor.{slowest_is}

-- what stands at each processor's place
pub module_is : (k : TriplexCore) (d : TriplexState) (r : Request) (e : VotedAccess) (named : ℕ → Bool) (p : ℕ) → p < 3 → module_at (after_decision k d r e named).modules p ≡ answered_at k d r e named p
module_is k d r e named zero h = refl
module_is k d r e named (suc zero) h = refl
module_is k d r e named (suc (suc zero)) h = refl
module_is k d r e named (suc (suc (suc p))) h = absurd (omega arith)

pub state_is : (k : TriplexCore) (d : TriplexState) (r : Request) (e : VotedAccess) (named : ℕ → Bool) (p : ℕ) → p < 3 → membership_at (after_decision k d r e named).memberships p ≡ membership_unless_left (named p) (membership_at d.memberships p)
state_is k d r e named zero h = refl
state_is k d r e named (suc zero) h = refl
state_is k d r e named (suc (suc zero)) h = refl
state_is k d r e named (suc (suc (suc p))) h = absurd (omega arith)

member_is : (k : TriplexCore) (d : TriplexState) (r : Request) (e : VotedAccess) (named : ℕ → Bool) (p : ℕ) → p < 3 → is_member (after_decision k d r e named).voter p ≡ stays_member d named p
member_is k d r e named zero h = refl
member_is k d r e named (suc zero) h = refl
member_is k d r e named (suc (suc zero)) h = refl
member_is k d r e named (suc (suc (suc p))) h = absurd (omega arith)

latch_is : (k : TriplexCore) (d : TriplexState) (r : Request) (e : VotedAccess) (named : ℕ → Bool) (p : ℕ) → p < 3 → latch_of (after_decision k d r e named).voter p ≡ None
latch_is k d r e named zero h = refl
latch_is k d r e named (suc zero) h = refl
latch_is k d r e named (suc (suc zero)) h = refl
latch_is k d r e named (suc (suc (suc p))) h = absurd (omega arith)

-- all good processors are one replica and ask for one request, and none of them is named
pub record DecisionFor (k : TriplexCore) (d : TriplexState) (s : Replica) (r : Request) (named : ℕ → Bool) : Type 0 where
  pub agrees : AllAsk k d s r
  pub unnamed : (p : ℕ) → p < 3 → IsGood d p → named p ≡ false

pub good_module : (k : TriplexCore) (d : TriplexState) (s : Replica) (r : Request) (e : VotedAccess) (named : ℕ → Bool) → LatchAgreement k d → DecisionFor k d s r named → (p : ℕ) → p < 3 → IsGood d p →
    module_at (after_decision k d r e named).modules p ≡ module_after_answer k r e.word (lines_of e.device) (module_at d.modules p)
good_module k d s r e named h x p hp g =
    let m = module_at d.modules p in
    let member : stays_member d named p ≡ true = ap (λ (b : Bool). not b && is_member d.voter p) (x.unnamed p hp g) ∙ good_member k d p hp g h in
    module_is k d r e named p hp ∙
    (ap (λ (b : Bool). answered_if b k r e.word (lines_of e.device) m) member ∙
    answer_finishes k r e.word (lines_of e.device) m (ap (replica_ask k) (x.agrees.each p hp g) ∙ x.agrees.asks))

-- the new replica of every good processor
abbrev pub next_replica : TriplexCore → Request → VotedAccess → Replica → Replica
next_replica k r e s = finished_replica k r.kind e.word (lines_of e.device) s

pub good_replica : (k : TriplexCore) (d : TriplexState) (s : Replica) (r : Request) (e : VotedAccess) (named : ℕ → Bool) → LatchAgreement k d → DecisionFor k d s r named → (p : ℕ) → p < 3 → IsGood d p →
    replica_of (module_at (after_decision k d r e named).modules p) ≡ next_replica k r e s
good_replica k d s r e named h x p hp g = ap replica_of (good_module k d s r e named h x p hp g) ∙ ap (next_replica k r e) (x.agrees.each p hp g)

-- what is used of the access
pub record AccessFits (d : TriplexState) (e : VotedAccess) : Type 0 where
  pub inbox : e.delivered + length e.inbox ≡ d.accepted
  pub boards : AreMendingBoards e.boards
  pub room : length e.inbox ≤ INBOX_EVENTS

cleared_voter : (a b c : Bool) (timer : ℕ) → IsTimer timer → IsVoter (record { members = a ∷ b ∷ c ∷ []; latches = no_latches; age = None; timer = timer })
cleared_voter a b c timer one = record { members = refl; latches = refl; latched = λ p some. by_place p some; aged = sym (two_three None None None); age = tt; timer = one }
  where
    by_place : (p : ℕ) → is_some (slice_index_or no_latches p None) ≡ true → slice_index_or (a ∷ b ∷ c ∷ []) p false ≡ true
    by_place zero some = absurd cc
    by_place (suc zero) some = absurd cc
    by_place (suc (suc zero)) some = absurd cc
    by_place (suc (suc (suc p))) some = absurd cc

pub decision_agrees : (k : TriplexCore) (d : TriplexState) (s : Replica) (r : Request) (e : VotedAccess) (named : ℕ → Bool) → LatchAgreement k d → DecisionFor k d s r named → AccessFits d e →
    CycleEnds k s (next_replica k r e s) (lines_of e.device) → LatchAgreement k (after_decision k d r e named)
decision_agrees k d s r e named h x fits f = record {
  members = λ p hp. member_is k d r e named p hp ∙ (left_in (named p) (membership_at d.memberships p) (is_member d.voter p) (h.members p hp) ∙ ap is_in (sym (state_is k d r e named p hp)));
  voter = cleared_voter (stays_member d named 0) (stays_member d named 1) (stays_member d named 2) d.voter.timer h.voter.timer;
  good = λ p hp g.
      let t = h.good p hp g in
      let is = good_module k d s r e named h x p hp g in
      record {
        membership = state_is k d r e named p hp ∙ (ap (λ (b : Bool). membership_unless_left b (membership_at d.memberships p)) (x.unnamed p hp g) ∙ t.membership);
        awake = ap (λ (m : ModuleState). m.muted) is ∙ t.awake;
        port = subst (λ (m : ModuleState). IsOwnPort k e.delivered d.accepted (replica_of m) m.port) (sym is) tt;
        latch = latch_is k d r e named p hp ∙ sym (ap (λ (m : ModuleState). m.port) is);
        lines = ap (λ (i : Replica). i.cpu.lines) (good_replica k d s r e named h x p hp g) ∙ f.lines_are;
      };
  inbox = fits.inbox;
  frame = h.frame;
  timer = h.timer;
  boards = fits.boards;
  room = fits.room;
}

-- a request that waits has taken a tick
posting_takes : (port : Option Posted) → is_some port ≡ true → posting_ticks port ≡ 1
posting_takes None h = absurd cc
posting_takes (Some posted) h = refl

-- the replica of the good processors has run as far as the slowest, and has room for a cycle more
pub record ReplicaStands (d : TriplexState) (s : Replica) : Type 0 where
  pub run : s.cpu.run ≡ runs d
  pub soon : s.cpu.run + 1 ≤ d.ticks
  pub room : s.cpu.run + 1 < 2 ^ 64
  pub frame : s.frame ≡ d.frame

pub replica_stands : (k : TriplexCore) (c : IsTriplexCore k) (d : TriplexState) (a : ReplicaEquality k d) (s : Replica) (r : Request) → AllAsk k d s r → ReplicaStands d s
replica_stands k c d a s r h =
    let p = slowest_is d.tainted d.modules in
    let x = a.each (slowest d.tainted d.modules) p.low p.good in
    let is = ap (λ (i : Replica). i.cpu.run) (h.each (slowest d.tainted d.modules) p.low p.good) in
    let run = run_of_reached k c d a (slowest d.tainted d.modules) p.low p.good in
    let full = posting_takes (module_at d.modules (slowest d.tainted d.modules)).port (h.full (slowest d.tainted d.modules) p.low p.good) in
    let spent = x.spent in
    let low = a.low in
    let at = a.at in
    let room = a.room in
    record {
      run = sym is;
      soon = omega arith;
      room = omega arith;
      frame = ap (λ (i : Replica). i.frame) (sym (h.each (slowest d.tainted d.modules) p.low p.good)) ∙ frame_of_reached k d a (slowest d.tainted d.modules) p.low p.good;
    }

pub runs_after_decision : (k : TriplexCore) (d : TriplexState) (s : Replica) (r : Request) (e : VotedAccess) (named : ℕ → Bool) → LatchAgreement k d → DecisionFor k d s r named →
    runs (after_decision k d r e named) ≡ (next_replica k r e s).cpu.run
runs_after_decision k d s r e named h x =
    let q = slowest_is d.tainted (after_decision k d r e named).modules in
    ap (λ (i : Replica). i.cpu.run) (good_replica k d s r e named h x (slowest d.tainted (after_decision k d r e named).modules) q.low q.good)

pub decision_equal : (k : TriplexCore) (d : TriplexState) (s : Replica) (r : Request) (e : VotedAccess) (named : ℕ → Bool) → LatchAgreement k d → ReplicaEquality k d → DecisionFor k d s r named → ReplicaStands d s →
    CycleEnds k s (next_replica k r e s) (lines_of e.device) → ReplicaEquality k (after_decision k d r e named)
decision_equal k d s r e named h a x at f =
    let run = f.run in
    let soon = at.soon in
    let to = runs_after_decision k d s r e named h x in
    record {
      start = next_replica k r e s;
      frame = f.frame ∙ at.frame;
      at = sym to;
      ends = λ due. subst (λ (frame : ℕ). is_frame_end frame (next_replica k r e s).cpu.run ≡ true) at.frame (f.ends due);
      low = omega arith;
      room = a.room;
      each = λ p hp g.
          let empty : posting_ticks (module_at (after_decision k d r e named).modules p).port ≡ 0 = ap (λ (m : ModuleState). posting_ticks m.port) (good_module k d s r e named h x p hp g) in
          record { cycles = 0; quiet = λ i less. absurd (omega arith); is = good_replica k d s r e named h x p hp g; spent = omega arith };
    }

-- the reference machine at a load or a store
-- the good processor that is furthest behind
abbrev pub slow_replica : TriplexState → Replica
slow_replica d = replica_of (module_at d.modules (slowest d.tainted d.modules))

all_up_to : (n run : ℕ) (es : List Event) → run ≤ n → DueUpTo n (deliveries_at run es)
all_up_to n run [] h = tt
all_up_to n run (e ∷ es) h = (h, all_up_to n run es h)

all_from : (n run : ℕ) (es : List Event) → n ≤ run → DueFrom n (deliveries_at run es)
all_from n run [] h = tt
all_from n run (e ∷ es) h = (h, all_from n run es h)

access_advances_reference : (k : TriplexCore) (c : IsTriplexCore k) (d : TriplexState) (r : Request) (es : List Event) (named : ℕ → Bool) (differ late : Option ℕ) → LatchAgreement k d → DecisionFor k d (slow_replica d) r named →
    ReplicaStands d (slow_replica d) → d.halt ≡ None → AsksAccess k (slow_replica d) r →
    lines_of (device_after_events d.device es) ≡ lines_of d.device → let e = access_after k d r es in ReferenceAdvance k d (after_decision k d r e named) (decision_effects e differ late)
access_advances_reference k c d r es named differ late h x at halt here quiet =
    let s = slow_replica d in
    let dv = device_after_events d.device es in
    let a = k.core.access (memory_of d.boards) dv r in
    let same : memory_of (k.boards_after d.boards r).boards ≡ a.global = (c.boards d.boards dv r h.boards).memory in
    let e = access_after k d r es in
    let next = after_decision k d r e named in
    let q = slowest_is d.tainted next.modules in
    let done : next_replica k r e s ≡ replica_after_access k a.word (lines_of a.device) s = after_access_is k r a.word (lines_of a.device) s here in
    let is : slow_replica next ≡ replica_after_access k a.word (lines_of a.device) s = good_replica k d s r e named h x (slowest d.tainted next.modules) q.low q.good ∙ done in
    let room = at.room in
    let one_more = c.core.run_after_finish s.cpu s.local r a.word (lines_of a.device) here.asks in
    let new_run : runs next ≡ (k.core.after_finish s.cpu s.local a.word (lines_of a.device)).run = ap (λ (i : Replica). i.cpu.run) is in
    let one : runs next - runs d ≡ 1 = omega arith in
    let at_run : r.run ≡ runs d = c.core.ask_run s.cpu s.local r here.asks in
    let p = slowest_is d.tainted d.modules in
    let lines = (h.good (slowest d.tainted d.modules) p.low p.good).lines in
    record {
      grows = omega arith;
      from = all_from (runs d) r.run es (omega arith);
      to = all_up_to (runs next) r.run es (omega arith);
      reference_runs =
          access_between k (runs next - runs d) (runs d) r.run (memory_of d.boards) (memory_of next.boards) d.device d.halt s (slow_replica next) r es here.asks one at_run halt lines quiet same is;
    }

-- and at a frame's end
sync_advances_reference : (k : TriplexCore) (d : TriplexState) (r : Request) (count : ℕ) (named : ℕ → Bool) (differ late : Option ℕ) → LatchAgreement k d → DecisionFor k d (slow_replica d) r named → ReplicaStands d (slow_replica d) →
    d.halt ≡ None → AsksSync (slow_replica d) r → let e = sync_access d r.run count in ReferenceAdvance k d (after_decision k d r e named) (decision_effects e differ late)
sync_advances_reference k d r count named differ late h x at halt here =
    let s = slow_replica d in
    let e = sync_access d r.run count in
    let next = after_decision k d r e named in
    let p = slowest_is d.tainted d.modules in
    let q = slowest_is d.tainted next.modules in
    let done : next_replica k r e s ≡ replica_after_sync (lines_of e.device) s = after_sync_is k r e.word (lines_of e.device) s here in
    let is : slow_replica next ≡ replica_after_sync (lines_of e.device) s = good_replica k d s r e named h x (slowest d.tainted next.modules) q.low q.good ∙ done in
    let new_run : runs next ≡ runs d = ap (λ (i : Replica). i.cpu.run) is in
    let at_run : r.run ≡ runs d = ap (λ (w : Request). w.run) here.is in
    let none : runs next - runs d ≡ 0 = omega arith in
    let lines = (h.good (slowest d.tainted d.modules) p.low p.good).lines in
    let es = take (count - d.delivered) d.inbox in
    record {
      grows = omega arith;
      from = all_from (runs d) r.run es (omega arith);
      to = all_up_to (runs next) r.run es (omega arith);
      reference_runs =
          sync_between k (runs next - runs d) (runs d) r.run (memory_of d.boards) d.device d.halt s (slow_replica next) es none at_run halt lines is;
    }

-- the access by its kind
access_by : (k : TriplexCore) (d : TriplexState) (r : Request) (kind : Kind) → is_sync kind ≡ false → access_of_kind k d r kind ≡ access_after k d r (private_events d r kind)
access_by k d r Load h = refl
access_by k d r Store h = refl
access_by k d r Sync h = absurd cc

pub access_is_outside : (k : TriplexCore) (d : TriplexState) (s : Replica) (r : Request) → AsksAccess k s r → access_of_kind k d r r.kind ≡ access_after k d r (private_events d r r.kind)
access_is_outside k d s r h = access_by k d r r.kind h.kind

pub access_is_sync : (k : TriplexCore) (d : TriplexState) (s : Replica) (r : Request) → AsksSync s r → access_of_kind k d r r.kind ≡ sync_access d r.run (agreed_count (seen_in d.voter r) d.delivered)
access_is_sync k d s r h = ap (λ (q : Request). access_of_kind k d r q.kind) h.is

access_fits : (d : TriplexState) (r : Request) (es : List Event) (a : AccessResult) (t : MendingRead) → AreMendingBoards t.boards → d.delivered + length d.inbox ≡ d.accepted → length d.inbox ≤ INBOX_EVENTS → AccessFits d (outside_access d r es a t)
access_fits d r es a t boards inbox room = record { inbox = inbox; room = room; boards = boards }

sync_fits : (d : TriplexState) (run count : ℕ) → AreMendingBoards d.boards → IsCountWithin count d.delivered d.accepted → d.delivered + length d.inbox ≡ d.accepted → length d.inbox ≤ INBOX_EVENTS → AccessFits d (sync_access d run count)
sync_fits d run count boards between inbox room =
    let low = between.from in
    let high = between.to in
    let left = length-drop (count - d.delivered) d.inbox in
    record { inbox = omega arith; room = omega arith; boards = boards }

-- private values leave the lines
quiet_if : (b : Bool) (device : Device) (x y z : ℕ) → lines_of (device_after_events device (if b then Private x y z ∷ [] else [])) ≡ lines_of device
quiet_if true device x y z = refl
quiet_if false device x y z = refl

private_quiet : (d : TriplexState) (r : Request) (kind : Kind) → lines_of (device_after_events d.device (private_events d r kind)) ≡ lines_of d.device
private_quiet d r kind = quiet_if (stores_at kind (place_at r.address)) d.device _ _ _

-- a decision keeps all
pub record DecisionMasking (k : TriplexCore) (d e : TriplexState) (effects : StepEffects) : Type 0 where
  pub agreement : LatchAgreement k e
  pub replicas : ReplicaEquality k e
  pub advance : ReferenceAdvance k d e effects

abbrev MaskingBy : TriplexCore → TriplexState → Request → (ℕ → Bool) → Option ℕ → Option ℕ → VotedAccess → Type 0
MaskingBy k d r named differ late e = DecisionMasking k d (after_decision k d r e named) (decision_effects e differ late)

pub access_masks : (k : TriplexCore) (c : IsTriplexCore k) (d : TriplexState) (r : Request) (named : ℕ → Bool) (differ late : Option ℕ) → LatchAgreement k d → ReplicaEquality k d → DecisionFor k d (slow_replica d) r named →
    d.halt ≡ None → AsksAccess k (slow_replica d) r → DecisionMasking k d (after_decision k d r (access_of_kind k d r r.kind) named) (decision_effects (access_of_kind k d r r.kind) differ late)
access_masks k c d r named differ late h a x halt here =
    let es = private_events d r r.kind in
    let dv = device_after_events d.device es in
    let e = access_after k d r es in
    let at = replica_stands k c d a (slow_replica d) r x.agrees in
    let f = cycle_ends k c r e.word (lines_of e.device) (slow_replica d) at.room x.agrees.asks in
    subst (MaskingBy k d r named differ late) (sym (access_is_outside k d (slow_replica d) r here)) (record {
      agreement = decision_agrees k d (slow_replica d) r e named h x (access_fits d r es (k.core.access (memory_of d.boards) dv r) (k.boards_after d.boards r) (c.boards d.boards dv r h.boards).boards h.inbox h.room) f;
      replicas = decision_equal k d (slow_replica d) r e named h a x at f;
      advance = access_advances_reference k c d r es named differ late h x at halt here (private_quiet d r r.kind);
    })

pub sync_masks : (k : TriplexCore) (c : IsTriplexCore k) (d : TriplexState) (r : Request) (named : ℕ → Bool) (differ late : Option ℕ) → LatchAgreement k d → ReplicaEquality k d → DecisionFor k d (slow_replica d) r named →
    d.halt ≡ None → AsksSync (slow_replica d) r → DecisionMasking k d (after_decision k d r (access_of_kind k d r r.kind) named) (decision_effects (access_of_kind k d r r.kind) differ late)
sync_masks k c d r named differ late h a x halt here =
    let count = agreed_count (seen_in d.voter r) d.delivered in
    let e = sync_access d r.run count in
    let at = replica_stands k c d a (slow_replica d) r x.agrees in
    let f = cycle_ends k c r e.word (lines_of e.device) (slow_replica d) at.room x.agrees.asks in
    subst (MaskingBy k d r named differ late) (sym (access_is_sync k d (slow_replica d) r here)) (record {
      agreement = decision_agrees k d (slow_replica d) r e named h x (sync_fits d r.run count h.boards (count_within k d (slow_replica d) r x.agrees) h.inbox h.room) f;
      replicas = decision_equal k d (slow_replica d) r e named h a x at f;
      advance = sync_advances_reference k d r count named differ late h x at halt here;
    })
