-- Cycles of local work, and runs of the machine with flat memories.
use Rattle.std.proofs.Common.{◌≡◌, ℕ, zero, suc, ◌+◌, ◌^◌, ◌<◌, List, [], ◌++◌, refl, sym, ap, subst, ◌∙◌, arith}
use Rattle.std.specs.Prelude.{Bool, true, false, None}
use Rattle.std.specs.declared.option.Option.{Option}
use Rattle.s2_device.specs.DeviceState.{Device}
use Rattle.s2_machine.specs.Cores.{core_cycle_by}
use Rattle.s2_machine.specs.Machine.{Machine}
use Rattle.s2_machine.specs.MachineRun.{RunState, bytes_of, core_run_of_cycles}
use Rattle.s2_machine.specs.declared.ask.Ask.{Ask}
use Rattle.s2_machine.specs.declared.ask.Ask.TheVariants.{Local}
use Rattle.s2_triplex.specs.ModuleState.{ModuleState, Replica, after_local_cycle, after_local_cycles, ask_unless_due, replica_ask, replica_of}
use Rattle.s2_triplex.specs.TriplexCores.{IsTriplexCore, TriplexCore}

abbrev pub Quiet : TriplexCore → ℕ → Replica → Type 0
Quiet k n s = (i : ℕ) → i < n → replica_ask k (after_local_cycles k i s) ≡ Local

-- a module that asks for nothing has a processor that asks for nothing
asked_by : (k : TriplexCore) (s : Replica) (due : Bool) → ask_unless_due k s due ≡ Local → k.core.ask_of s.cpu s.local ≡ Local
asked_by k s true h = absurd cc
asked_by k s false h = h

pub asked_local : (k : TriplexCore) (s : Replica) → replica_ask k s ≡ Local → k.core.ask_of s.cpu s.local ≡ Local
asked_local k s h = asked_by k s s.due h

pub cycles_front : (k : TriplexCore) (n : ℕ) (s : Replica) → after_local_cycles k n (after_local_cycle k s) ≡ after_local_cycles k (suc n) s
cycles_front k zero s = refl
cycles_front k (suc n) s = ap (after_local_cycle k) (cycles_front k n s)

pub cycles_add : (k : TriplexCore) (n m : ℕ) (s : Replica) → after_local_cycles k (n + m) s ≡ after_local_cycles k n (after_local_cycles k m s)
cycles_add k zero m s = let e : 0 + m ≡ m = omega arith in ap (λ (t : ℕ). after_local_cycles k t s) e
cycles_add k (suc n) m s = let e : suc n + m ≡ suc (n + m) = omega arith in ap (λ (t : ℕ). after_local_cycles k t s) e ∙ ap (after_local_cycle k) (cycles_add k n m s)

pub quiet_after : (k : TriplexCore) (n m : ℕ) (s : Replica) → Quiet k (n + m) s → Quiet k n (after_local_cycles k m s)
quiet_after k n m s q i h = subst (λ (t : Replica). replica_ask k t ≡ Local) (cycles_add k i m s) (q (i + m) (omega arith))

-- the run count grows by one in each cycle
pub run_after_cycles : (k : TriplexCore) (c : IsTriplexCore k) (n : ℕ) (s : Replica) → Quiet k n s → s.cpu.run + n < 2 ^ 64 → (after_local_cycles k n s).cpu.run ≡ s.cpu.run + n
run_after_cycles k c zero s q h = omega arith
run_after_cycles k c (suc n) s q h =
    let before = run_after_cycles k c n s (λ i small. q i (omega arith)) (omega arith) in
    let step = c.core.run_after_turn (after_local_cycles k n s).cpu (after_local_cycles k n s).local (asked_local k (after_local_cycles k n s) (q n (omega arith))) in
    omega arith

-- the frame stays
pub frame_after_cycles : (k : TriplexCore) (n : ℕ) (s : Replica) → (after_local_cycles k n s).frame ≡ s.frame
frame_after_cycles k zero s = refl
frame_after_cycles k (suc n) s = frame_after_cycles k n s

-- the lines stay
pub lines_after_cycles : (k : TriplexCore) (c : IsTriplexCore k) (n : ℕ) (s : Replica) → Quiet k n s → (after_local_cycles k n s).cpu.lines ≡ s.cpu.lines
lines_after_cycles k c zero s q = refl
lines_after_cycles k c (suc n) s q = c.core.lines_after_turn (after_local_cycles k n s).cpu (after_local_cycles k n s).local (asked_local k (after_local_cycles k n s) (q n (omega arith))) ∙ lines_after_cycles k c n s (λ i small. q i (omega arith))

abbrev pub machine_at : List ℕ → Device → Replica → Machine
machine_at g dv s = record { cpu = s.cpu; local = s.local; global = g; device = dv; halt = None }

abbrev pub at_rest : Machine → RunState
at_rest m = record { machine = m; bytes = [] }

-- local work changes the processor and its local list alone
pub run_is_quiet : (k : TriplexCore) (n run : ℕ) (g : List ℕ) (dv : Device) (s : Replica) → Quiet k n s → core_run_of_cycles k.core n run (at_rest (machine_at g dv s)) [] ≡ at_rest (machine_at g dv (after_local_cycles k n s))
run_is_quiet k zero run g dv s q = refl
run_is_quiet k (suc n) run g dv s q =
    subst
    (λ (a : Ask).
    core_run_of_cycles k.core n (suc run) (record { machine = (core_cycle_by k.core (machine_at g dv s) a).next; bytes = [] ++ bytes_of (core_cycle_by k.core (machine_at g dv s) a).out }) [] ≡
    at_rest (machine_at g dv (after_local_cycles k (suc n) s)))
    (sym (asked_local k s (q 0 (omega arith))))
    (run_is_quiet k n (suc run) g dv (after_local_cycle k s) (λ i h. subst (λ (t : Replica). replica_ask k t ≡ Local) (sym (cycles_front k i s)) (q (suc i) (omega arith))) ∙
    ap (λ (t : Replica). at_rest (machine_at g dv t)) (cycles_front k n s))

-- the same, between two modules
pub run_between : (k : TriplexCore) (n run : ℕ) (g h : List ℕ) (dv dw : Device) (x y : Option ℕ) (m w : ModuleState) → x ≡ None → y ≡ None → h ≡ g → dw ≡ dv → Quiet k n (replica_of m) →
    replica_of w ≡ after_local_cycles k n (replica_of m) →
    core_run_of_cycles k.core n run (at_rest (record { cpu = m.cpu; local = m.local; global = g; device = dv; halt = x })) [] ≡ at_rest (record { cpu = w.cpu; local = w.local; global = h; device = dw; halt = y })
run_between k n run g h dv dw x y m w ex ey eh ed q is =
    ap (λ (v : Option ℕ). core_run_of_cycles k.core n run (at_rest (record { cpu = m.cpu; local = m.local; global = g; device = dv; halt = v })) []) ex ∙
    (run_is_quiet k n run g dv (replica_of m) q ∙
    (ap (λ (t : Replica). at_rest (machine_at g dv t)) (sym is) ∙
    (ap (λ (v : Option ℕ). at_rest (record { cpu = w.cpu; local = w.local; global = g; device = dv; halt = v })) (sym ey) ∙
    (ap (λ (v : List ℕ). at_rest (record { cpu = w.cpu; local = w.local; global = v; device = dv; halt = y })) (sym eh) ∙
    ap (λ (v : Device). at_rest (record { cpu = w.cpu; local = w.local; global = h; device = v; halt = y })) (sym ed)))))
