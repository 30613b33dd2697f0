-- A module that asks for what was agreed, and its answer; and the same cycle on the reference machine.
use Rattle.std.proofs.Common.{◌≡◌, ℕ, suc, ◌+◌, ◌^◌, ◌<◌, ◌≤◌, List, [], ◌∷◌, ◌++◌, refl, sym, ap, subst, ◌∙◌, inl, inr, arith}
use Rattle.std.specs.declared.option.Option.{Option}
use Rattle.std.specs.Prelude.{Bool, true, false, nat_le, None, ◌⊎◌, if◌then◌else◌}
use Rattle.std.proofs.lemmas.Bool.Decides.{nat_tests}
use Rattle.s2_voter.proofs.EqualRequests.{same_self}
use Rattle.s2_ports.specs.declared.events.Event.{Event}
use Rattle.s2_ports.specs.declared.requests.Kind.{Kind}
use Rattle.s2_ports.specs.declared.requests.Kind.TheVariants.{Load, Store, Sync}
use Rattle.s2_ports.specs.declared.requests.Request.{Request}
use Rattle.s2_device.specs.DeviceState.{Device, device_after, lines_of}
use Rattle.s2_cpu.specs.Processor.{Processor}
use Rattle.s2_machine.specs.Cores.{core_cycle_by, halt_after, is_sync}
use Rattle.s2_machine.specs.Machine.{Machine}
use Rattle.s2_machine.specs.MachineRun.{RunState, after_due_deliveries, bytes_of, core_after_cycle, core_run_of_cycles, later_deliveries}
use Rattle.s2_machine.specs.declared.deliveries.Delivery.{Delivery}
use Rattle.s2_machine.specs.OutsideAccess.{AccessResult}
use Rattle.s2_machine.specs.WriteBack.{with_lines}
use Rattle.s2_machine.specs.declared.ask.Ask.{Ask}
use Rattle.s2_machine.specs.declared.ask.Ask.TheVariants.{Outside}
use Rattle.s2_triplex.specs.ModuleAnswer.{answered, finished_replica, is_asking}
use Rattle.s2_triplex.specs.ModuleState.{ModuleState, Replica, ask_unless_due, is_frame_end, replica_ask, replica_of, sync_request, with_replica}
use Rattle.s2_triplex.specs.TriplexCores.{IsTriplexCore, TriplexCore}
use Rattle.s2_triplex.specs.VotedAccess.{deliveries_at, device_after_events}
use Rattle.s2_triplex_laws.proofs.LocalCycles.{at_rest}

-- a request is that of a frame's end, or of the processor
pub record AsksSync (s : Replica) (r : Request) : Type 0 where
  pub is : r ≡ sync_request s.cpu.run
  pub due : s.due ≡ true

pub record AsksAccess (k : TriplexCore) (s : Replica) (r : Request) : Type 0 where
  pub asks : k.core.ask_of s.cpu s.local ≡ Outside r
  pub kind : is_sync r.kind ≡ false

asks_by : (k : TriplexCore) (c : IsTriplexCore k) (s : Replica) (r : Request) (due : Bool) → s.due ≡ due → ask_unless_due k s due ≡ Outside r → AsksSync s r ⊎ AsksAccess k s r
asks_by k c s r true e h = inl (record { is = one (sync_request s.cpu.run) r h; due = e })
  where
    one : (q r : Request) → Outside q ≡ Outside r → r ≡ q
    one q r h = cc
asks_by k c s r false e h = inr (record { asks = h; kind = c.core.ask_kind s.cpu s.local r h })

pub asks_cases : (k : TriplexCore) (c : IsTriplexCore k) (s : Replica) (r : Request) → replica_ask k s ≡ Outside r → AsksSync s r ⊎ AsksAccess k s r
asks_cases k c s r h = asks_by k c s r s.due refl h

-- the module after its answer
abbrev pub module_after_answer : TriplexCore → Request → ℕ → ℕ → ModuleState → ModuleState
module_after_answer k r word lines m = record (with_replica m (finished_replica k r.kind word lines (replica_of m))) { port = None }

pub answer_finishes : (k : TriplexCore) (r : Request) (word lines : ℕ) (m : ModuleState) → replica_ask k (replica_of m) ≡ Outside r → answered k r word lines m ≡ module_after_answer k r word lines m
answer_finishes k r word lines m h =
    subst (λ (a : Ask). record (if is_asking a r then with_replica m (finished_replica k r.kind word lines (replica_of m)) else m) { port = None } ≡ module_after_answer k r word lines m) (sym h)
    (subst (λ (b : Bool). record (if b then with_replica m (finished_replica k r.kind word lines (replica_of m)) else m) { port = None } ≡ module_after_answer k r word lines m) (sym (same_self r)) refl)

-- after a load or a store, and after a frame's end
abbrev pub replica_after_access : TriplexCore → ℕ → ℕ → Replica → Replica
replica_after_access k word lines s = let p = k.core.after_finish s.cpu s.local word lines in record { cpu = p; local = s.local; due = is_frame_end s.frame p.run; frame = s.frame }

abbrev pub replica_after_sync : ℕ → Replica → Replica
replica_after_sync lines s = record s { cpu = with_lines s.cpu lines; due = false }

after_access_by : (k : TriplexCore) (kind : Kind) (word lines : ℕ) (s : Replica) → is_sync kind ≡ false → finished_replica k kind word lines s ≡ replica_after_access k word lines s
after_access_by k Load word lines s h = refl
after_access_by k Store word lines s h = refl
after_access_by k Sync word lines s h = absurd cc

pub after_access_is : (k : TriplexCore) (r : Request) (word lines : ℕ) (s : Replica) → AsksAccess k s r → finished_replica k r.kind word lines s ≡ replica_after_access k word lines s
after_access_is k r word lines s h = after_access_by k r.kind word lines s h.kind

pub after_sync_is : (k : TriplexCore) (r : Request) (word lines : ℕ) (s : Replica) → AsksSync s r → finished_replica k r.kind word lines s ≡ replica_after_sync lines s
after_sync_is k r word lines s h = ap (λ (q : Request). finished_replica k q.kind word lines s) h.is

-- what is used of the replica after its answer
pub record CycleEnds (k : TriplexCore) (s t : Replica) (lines : ℕ) : Type 0 where
  pub run : t.cpu.run ≤ s.cpu.run + 1
  pub same : s.cpu.run ≤ t.cpu.run
  pub lines_are : t.cpu.lines ≡ lines
  pub frame : t.frame ≡ s.frame
  pub ends : t.due ≡ true → is_frame_end s.frame t.cpu.run ≡ true

pub cycle_ends : (k : TriplexCore) (c : IsTriplexCore k) (r : Request) (word lines : ℕ) (s : Replica) → s.cpu.run + 1 < 2 ^ 64 → replica_ask k s ≡ Outside r → CycleEnds k s (finished_replica k r.kind word lines s) lines
cycle_ends k c r word lines s room h = elim (asks_cases k c s r h) [
  | inl e ↦ subst (λ (t : Replica). CycleEnds k s t lines) (sym (after_sync_is k r word lines s e)) at_end
  | inr a ↦ subst (λ (t : Replica). CycleEnds k s t lines) (sym (after_access_is k r word lines s a)) (at_access a)
]
  where
    at_end : CycleEnds k s (replica_after_sync lines s) lines
    at_end = record { run = omega arith; same = omega arith; lines_are = refl; frame = refl; ends = λ x. absurd cc }

    at_access : AsksAccess k s r → CycleEnds k s (replica_after_access k word lines s) lines
    at_access a =
        let run = c.core.run_after_finish s.cpu s.local r word lines a.asks in
        record { run = omega arith; same = omega arith; lines_are = c.core.lines_after_finish s.cpu s.local r word lines a.asks; frame = refl; ends = λ x. x }

-- the reference machine does the same access
abbrev pub with_access : TriplexCore → List ℕ → Device → Request → Replica → Machine
with_access k g dv r s =
    let a = k.core.access g dv r in
    record { cpu = k.core.after_finish s.cpu s.local a.word (lines_of a.device); local = s.local; global = a.global; device = a.device; halt = halt_after None a.halt }

pub run_of_access : (k : TriplexCore) (run : ℕ) (g : List ℕ) (dv : Device) (s : Replica) (r : Request) → k.core.ask_of s.cpu s.local ≡ Outside r →
    core_run_of_cycles k.core 1 run (at_rest (record { cpu = s.cpu; local = s.local; global = g; device = dv; halt = None })) [] ≡ record { machine = with_access k g dv r s; bytes = bytes_of (k.core.access g dv r).out }
run_of_access k run g dv s r h =
    subst
    (λ (a : Ask).
    let o = core_cycle_by k.core (record { cpu = s.cpu; local = s.local; global = g; device = dv; halt = None }) a in
    core_run_of_cycles k.core 0 (suc run) (record { machine = o.next; bytes = [] ++ bytes_of o.out }) [] ≡ record { machine = with_access k g dv r s; bytes = bytes_of (k.core.access g dv r).out })
    (sym h) refl

-- and sees the same events
le_self : (n : ℕ) → nat_le n n ≡ true
le_self n = grind (arith, nat_tests)

pub all_delivered : (es : List Event) (run : ℕ) (cpu : Processor) (local g : List ℕ) (dv : Device) → cpu.lines ≡ lines_of dv →
    after_due_deliveries (at_rest (record { cpu = cpu; local = local; global = g; device = dv; halt = None })) run (deliveries_at run es) ≡
    at_rest (record { cpu = with_lines cpu (lines_of (device_after_events dv es)); local = local; global = g; device = device_after_events dv es; halt = None })
all_delivered [] run cpu local g dv h =
    ap (λ (l : ℕ). at_rest (record { cpu = with_lines cpu l; local = local; global = g; device = dv; halt = None })) h
all_delivered (e ∷ es) run cpu local g dv h =
    let dw = device_after dv e in
    let after = at_rest (record { cpu = with_lines cpu (lines_of dw); local = local; global = g; device = dw; halt = None }) in
    subst
    (λ (b : Bool).
    (if b then after_due_deliveries after run (deliveries_at run es) else at_rest (record { cpu = cpu; local = local; global = g; device = dv; halt = None })) ≡
    at_rest (record { cpu = with_lines cpu (lines_of (device_after_events dw es)); local = local; global = g; device = device_after_events dw es; halt = None }))
    (sym (le_self run)) (all_delivered es run (with_lines cpu (lines_of dw)) local g dw refl)

-- a run of the one cycle of a load or a store, and one of the deliveries of a frame's end, between two replicas
abbrev run_machine : Replica → List ℕ → Device → Option ℕ → Machine
run_machine s g dv halt = record { cpu = s.cpu; local = s.local; global = g; device = dv; halt = halt }

abbrev access_run : Replica → List ℕ → Option ℕ → AccessResult → RunState
access_run t h halt a = record { machine = run_machine t h a.device (halt_after halt a.halt); bytes = bytes_of a.out }

-- no delivery is left for later
none_later : (es : List Event) (run : ℕ) → later_deliveries run (deliveries_at run es) ≡ []
none_later [] run = refl
none_later (e ∷ es) run = subst (λ (b : Bool). (if b then later_deliveries run (deliveries_at run es) else record { run = run; event = e } ∷ deliveries_at run es) ≡ []) (sym (le_self run)) (none_later es run)

-- events that leave the lines
delivered_quietly : (es : List Event) (run : ℕ) (g : List ℕ) (dv : Device) (s : Replica) → s.cpu.lines ≡ lines_of dv → lines_of (device_after_events dv es) ≡ lines_of dv →
    after_due_deliveries (at_rest (run_machine s g dv None)) run (deliveries_at run es) ≡ at_rest (run_machine s g (device_after_events dv es) None)
delivered_quietly es run g dv s lines same =
    all_delivered es run s.cpu s.local g dv lines ∙
    ap (λ (l : ℕ). at_rest (record { cpu = with_lines s.cpu l; local = s.local; global = g; device = device_after_events dv es; halt = None })) (same ∙ sym lines)

-- the access after them
access_after_events : (k : TriplexCore) (run : ℕ) (g : List ℕ) (dv : Device) (s : Replica) (r : Request) (es : List Event) → k.core.ask_of s.cpu s.local ≡ Outside r → s.cpu.lines ≡ lines_of dv → lines_of (device_after_events dv es) ≡ lines_of dv →
    core_run_of_cycles k.core 1 run (at_rest (run_machine s g dv None)) (deliveries_at run es) ≡
    record { machine = with_access k g (device_after_events dv es) r s; bytes = bytes_of (k.core.access g (device_after_events dv es) r).out }
access_after_events k run g dv s r es asks lines same =
    ap (λ (x : RunState). core_run_of_cycles k.core 0 (suc run) (core_after_cycle k.core x) (later_deliveries run (deliveries_at run es))) (delivered_quietly es run g dv s lines same) ∙
    (ap (λ (ds : List Delivery). core_run_of_cycles k.core 0 (suc run) (core_after_cycle k.core (at_rest (run_machine s g (device_after_events dv es) None))) ds) (none_later es run) ∙
    run_of_access k run g (device_after_events dv es) s r asks)

pub access_between : (k : TriplexCore) (n run at : ℕ) (g h : List ℕ) (dv : Device) (halt : Option ℕ) (s t : Replica) (r : Request) (es : List Event) → k.core.ask_of s.cpu s.local ≡ Outside r → n ≡ 1 → at ≡ run → halt ≡ None →
    s.cpu.lines ≡ lines_of dv → lines_of (device_after_events dv es) ≡ lines_of dv → h ≡ (k.core.access g (device_after_events dv es) r).global →
    t ≡ replica_after_access k (k.core.access g (device_after_events dv es) r).word (lines_of (k.core.access g (device_after_events dv es) r).device) s →
    core_run_of_cycles k.core n run (at_rest (run_machine s g dv halt)) (deliveries_at at es) ≡ access_run t h halt (k.core.access g (device_after_events dv es) r)
access_between k n run at g h dv halt s t r es asks one here running lines quiet same is =
    let a = k.core.access g (device_after_events dv es) r in
    subst (λ (i : ℕ). core_run_of_cycles k.core i run (at_rest (run_machine s g dv halt)) (deliveries_at at es) ≡ access_run t h halt a) (sym one)
    (subst (λ (v : ℕ). core_run_of_cycles k.core 1 run (at_rest (run_machine s g dv halt)) (deliveries_at v es) ≡ access_run t h halt a) (sym here)
    (subst (λ (v : Option ℕ). core_run_of_cycles k.core 1 run (at_rest (run_machine s g dv v)) (deliveries_at run es) ≡ access_run t h v a) (sym running)
    (subst (λ (v : List ℕ). core_run_of_cycles k.core 1 run (at_rest (run_machine s g dv None)) (deliveries_at run es) ≡ access_run t v None a) (sym same)
    (subst (λ (v : Replica). core_run_of_cycles k.core 1 run (at_rest (run_machine s g dv None)) (deliveries_at run es) ≡ access_run v a.global None a) (sym is)
    (access_after_events k run g dv s r es asks lines quiet)))))

pub sync_between : (k : TriplexCore) (n run at : ℕ) (g : List ℕ) (dv : Device) (halt : Option ℕ) (s t : Replica) (es : List Event) → n ≡ 0 → at ≡ run → halt ≡ None → s.cpu.lines ≡ lines_of dv →
    t ≡ replica_after_sync (lines_of (device_after_events dv es)) s →
    core_run_of_cycles k.core n run (at_rest (run_machine s g dv halt)) (deliveries_at at es) ≡ at_rest (run_machine t g (device_after_events dv es) halt)
sync_between k n run at g dv halt s t es none here running lines is =
    subst (λ (i : ℕ). core_run_of_cycles k.core i run (at_rest (run_machine s g dv halt)) (deliveries_at at es) ≡ at_rest (run_machine t g (device_after_events dv es) halt)) (sym none)
    (subst (λ (v : ℕ). after_due_deliveries (at_rest (run_machine s g dv halt)) run (deliveries_at v es) ≡ at_rest (run_machine t g (device_after_events dv es) halt)) (sym here)
    (subst (λ (v : Option ℕ). after_due_deliveries (at_rest (run_machine s g dv v)) run (deliveries_at run es) ≡ at_rest (run_machine t g (device_after_events dv es) v)) (sym running)
    (subst (λ (v : Replica). after_due_deliveries (at_rest (run_machine s g dv None)) run (deliveries_at run es) ≡ at_rest (run_machine v g (device_after_events dv es) None)) (sym is)
    (all_delivered es run s.cpu s.local g dv lines))))
