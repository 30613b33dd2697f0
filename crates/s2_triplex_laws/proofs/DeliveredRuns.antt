-- A run under deliveries, in two parts.
use Rattle.std.proofs.Common.{◌≡◌, ℕ, zero, suc, ◌+◌, ◌-◌, ◌<◌, ◌≤◌, List, [], ◌∷◌, ◌++◌, refl, sym, ap, subst, ◌∙◌, arith, append_assoc}
use Rattle.std.specs.Prelude.{Bool, true, false, Some, None, nat_le, if◌then◌else◌}
use Rattle.std.specs.declared.option.Option.{Option}
use Rattle.std.proofs.lemmas.Bool.Decides.{nat_tests}
use Rattle.s2_ports.specs.declared.events.Event.{Event}
use Rattle.s2_machine.specs.Cores.{core_cycle}
use Rattle.s2_machine.specs.Machine.{Machine}
use Rattle.s2_machine.specs.MachineRun.{RunState, after_delivery, after_delivery_unless, after_due_deliveries, bytes_of, core_after_cycle, core_after_cycle_unless, core_machine_run, core_run_of_cycles, later_deliveries}
use Rattle.s2_machine.specs.declared.deliveries.Delivery.{Delivery}
use Rattle.s2_triplex.specs.ReferenceMachine.{reference, runs}
use Rattle.s2_triplex.specs.TriplexCores.{TriplexCore}
use Rattle.s2_triplex.specs.TriplexState.{TriplexState}
use Rattle.s2_triplex.specs.VoterDecision.{StepEffects}
use Rattle.s2_triplex_laws.specs.ReferenceAdvance.{DueFrom, DueUpTo, ReferenceAdvance}
use Rattle.s2_triplex_laws.proofs.LocalCycles.{at_rest}

-- a delivery is due, or not
due : (n run : ℕ) → n ≤ run → nat_le n run ≡ true
due n run h = grind (arith, nat_tests)

not_due : (n run : ℕ) → run < n → nat_le n run ≡ false
not_due n run h = grind (arith, nat_tests)

-- where all of the first part are due
all_due : (run : ℕ) (r : RunState) (ds es : List Delivery) → DueUpTo run ds → after_due_deliveries r run (ds ++ es) ≡ after_due_deliveries (after_due_deliveries r run ds) run es
all_due run r [] es h = refl
all_due run r (d ∷ ds) es h =
    subst
    (λ (b : Bool).
    (if b then after_due_deliveries (after_delivery r d.event) run (ds ++ es) else r) ≡ after_due_deliveries (if b then after_due_deliveries (after_delivery r d.event) run ds else r) run es)
    (sym (due d.run run h.0)) (all_due run (after_delivery r d.event) ds es h.1)

all_gone : (run : ℕ) (ds es : List Delivery) → DueUpTo run ds → later_deliveries run (ds ++ es) ≡ later_deliveries run es
all_gone run [] es h = refl
all_gone run (d ∷ ds) es h = subst (λ (b : Bool). (if b then later_deliveries run (ds ++ es) else d ∷ (ds ++ es)) ≡ later_deliveries run es) (sym (due d.run run h.0)) (all_gone run ds es h.1)

-- where none of the second part is due
none_due : (run : ℕ) (r : RunState) (es : List Delivery) → DueFrom (suc run) es → after_due_deliveries r run es ≡ r
none_due run r [] h = refl
none_due run r (e ∷ es) h = subst (λ (b : Bool). (if b then after_due_deliveries (after_delivery r e.event) run es else r) ≡ r) (sym (not_due e.run run (omega arith))) refl

none_gone : (run : ℕ) (es : List Delivery) → DueFrom (suc run) es → later_deliveries run es ≡ es
none_gone run [] h = refl
none_gone run (e ∷ es) h = subst (λ (b : Bool). (if b then later_deliveries run es else e ∷ es) ≡ e ∷ es) (sym (not_due e.run run (omega arith))) refl

first_due : (run : ℕ) (r : RunState) (ds es : List Delivery) → DueFrom (suc run) es → after_due_deliveries r run (ds ++ es) ≡ after_due_deliveries r run ds
first_due run r [] es h = none_due run r es h
first_due run r (d ∷ ds) es h = by_test (nat_le d.run run) (first_due run (after_delivery r d.event) ds es h)
  where
    by_test : (b : Bool) → after_due_deliveries (after_delivery r d.event) run (ds ++ es) ≡ after_due_deliveries (after_delivery r d.event) run ds →
        (if b then after_due_deliveries (after_delivery r d.event) run (ds ++ es) else r) ≡ (if b then after_due_deliveries (after_delivery r d.event) run ds else r)
    by_test true e = e
    by_test false e = refl

first_gone : (run : ℕ) (ds es : List Delivery) → DueFrom (suc run) es → later_deliveries run (ds ++ es) ≡ later_deliveries run ds ++ es
first_gone run [] es h = none_gone run es h
first_gone run (d ∷ ds) es h = by_test (nat_le d.run run) (first_gone run ds es h)
  where
    by_test : (b : Bool) → later_deliveries run (ds ++ es) ≡ later_deliveries run ds ++ es → (if b then later_deliveries run (ds ++ es) else d ∷ (ds ++ es)) ≡ (if b then later_deliveries run ds else d ∷ ds) ++ es
    by_test true e = e
    by_test false e = refl

left_up_to : (n run : ℕ) (ds : List Delivery) → DueUpTo n ds → DueUpTo n (later_deliveries run ds)
left_up_to n run [] h = tt
left_up_to n run (d ∷ ds) h = by_test (nat_le d.run run) (left_up_to n run ds h.1)
  where
    by_test : (b : Bool) → DueUpTo n (later_deliveries run ds) → DueUpTo n (if b then later_deliveries run ds else d ∷ ds)
    by_test true rest = rest
    by_test false rest = h

pub up_to_at : (n m : ℕ) (ds : List Delivery) → n ≤ m → DueUpTo n ds → DueUpTo m ds
up_to_at n m [] le h = tt
up_to_at n m (d ∷ ds) le h = (let a = h.0 in omega arith, up_to_at n m ds le h.1)

pub from_at : (n m : ℕ) (ds : List Delivery) → m ≤ n → DueFrom n ds → DueFrom m ds
from_at n m [] le h = tt
from_at n m (d ∷ ds) le h = (let a = h.0 in omega arith, from_at n m ds le h.1)

pub up_to_both : (n : ℕ) (ds es : List Delivery) → DueUpTo n ds → DueUpTo n es → DueUpTo n (ds ++ es)
up_to_both n [] es h g = g
up_to_both n (d ∷ ds) es h g = (h.0, up_to_both n ds es h.1 g)

run_at_once : (k : TriplexCore) (b run : ℕ) (r : RunState) (ds es : List Delivery) → DueUpTo run ds → core_run_of_cycles k.core b run r (ds ++ es) ≡ core_run_of_cycles k.core b run (after_due_deliveries r run ds) es
run_at_once k zero run r ds es h = all_due run r ds es h
run_at_once k (suc b) run r ds es h =
    ap (λ (x : RunState). core_run_of_cycles k.core b (suc run) (core_after_cycle k.core x) (later_deliveries run (ds ++ es))) (all_due run r ds es h) ∙
    ap (λ (x : List Delivery). core_run_of_cycles k.core b (suc run) (core_after_cycle k.core (after_due_deliveries (after_due_deliveries r run ds) run es)) x) (all_gone run ds es h)

-- so many cycles and then so many more
pub runs_add : (k : TriplexCore) (a b run : ℕ) (r : RunState) (ds es : List Delivery) → DueUpTo (run + a) ds → DueFrom (run + a) es →
    core_run_of_cycles k.core (a + b) run r (ds ++ es) ≡ core_run_of_cycles k.core b (run + a) (core_run_of_cycles k.core a run r ds) es
runs_add k zero b run r ds es h g =
    let left : 0 + b ≡ b = omega arith in
    let right : run + 0 ≡ run = omega arith in
    ap (λ (n : ℕ). core_run_of_cycles k.core n run r (ds ++ es)) left ∙
    (run_at_once k b run r ds es (up_to_at (run + 0) run ds (omega arith) h) ∙ ap (λ (n : ℕ). core_run_of_cycles k.core b n (after_due_deliveries r run ds) es) (sym right))
runs_add k (suc a) b run r ds es h g =
    let left : suc a + b ≡ suc (a + b) = omega arith in
    let right : suc run + a ≡ run + suc a = omega arith in
    let later = from_at (run + suc a) (suc run) es (omega arith) g in
    ap (λ (n : ℕ). core_run_of_cycles k.core n run r (ds ++ es)) left ∙
    (ap (λ (x : RunState). core_run_of_cycles k.core (a + b) (suc run) (core_after_cycle k.core x) (later_deliveries run (ds ++ es))) (first_due run r ds es later) ∙
    (ap (λ (x : List Delivery). core_run_of_cycles k.core (a + b) (suc run) (core_after_cycle k.core (after_due_deliveries r run ds)) x) (first_gone run ds es later) ∙
    (runs_add k a b (suc run) (core_after_cycle k.core (after_due_deliveries r run ds)) (later_deliveries run ds) es
    (up_to_at (run + suc a) (suc run + a) (later_deliveries run ds) (omega arith) (left_up_to (run + suc a) run ds h)) (from_at (run + suc a) (suc run + a) es (omega arith) g) ∙
    ap (λ (n : ℕ). core_run_of_cycles k.core b n (core_run_of_cycles k.core a (suc run) (core_after_cycle k.core (after_due_deliveries r run ds)) (later_deliveries run ds)) es) right)))

-- the bytes written before stay in front
abbrev pub after_bytes : List ℕ → RunState → RunState
after_bytes bs r = record r { bytes = bs ++ r.bytes }

delivery_bytes : (bs : List ℕ) (r : RunState) (e : Event) (h : Option ℕ) → after_delivery_unless (after_bytes bs r) e h ≡ after_bytes bs (after_delivery_unless r e h)
delivery_bytes bs r e (Some v) = refl
delivery_bytes bs r e None = refl

due_bytes : (bs : List ℕ) (run : ℕ) (r : RunState) (ds : List Delivery) → after_due_deliveries (after_bytes bs r) run ds ≡ after_bytes bs (after_due_deliveries r run ds)
due_bytes bs run r [] = refl
due_bytes bs run r (d ∷ ds) = by_test (nat_le d.run run) (ap (λ (x : RunState). after_due_deliveries x run ds) (delivery_bytes bs r d.event r.machine.halt) ∙ due_bytes bs run (after_delivery r d.event) ds)
  where
    by_test : (b : Bool) → after_due_deliveries (after_delivery (after_bytes bs r) d.event) run ds ≡ after_bytes bs (after_due_deliveries (after_delivery r d.event) run ds) →
        (if b then after_due_deliveries (after_delivery (after_bytes bs r) d.event) run ds else after_bytes bs r) ≡ after_bytes bs (if b then after_due_deliveries (after_delivery r d.event) run ds else r)
    by_test true e = e
    by_test false e = refl

assoc : (a b c : List ℕ) → (a ++ b) ++ c ≡ a ++ (b ++ c)
assoc a b c = rw append_assoc refl

cycle_bytes : (k : TriplexCore) (bs : List ℕ) (r : RunState) (h : Option ℕ) → core_after_cycle_unless k.core (after_bytes bs r) h ≡ after_bytes bs (core_after_cycle_unless k.core r h)
cycle_bytes k bs r (Some v) = refl
cycle_bytes k bs r None =
    ap (λ (x : List ℕ). record { machine = (core_cycle k.core r.machine).next; bytes = x }) (assoc bs r.bytes (bytes_of (core_cycle k.core r.machine).out))

pub run_bytes : (k : TriplexCore) (n run : ℕ) (bs : List ℕ) (r : RunState) (ds : List Delivery) → core_run_of_cycles k.core n run (after_bytes bs r) ds ≡ after_bytes bs (core_run_of_cycles k.core n run r ds)
run_bytes k zero run bs r ds = due_bytes bs run r ds
run_bytes k (suc n) run bs r ds =
    ap (λ (x : RunState). core_run_of_cycles k.core n (suc run) (core_after_cycle k.core x) (later_deliveries run ds)) (due_bytes bs run r ds) ∙
    (ap (λ (x : RunState). core_run_of_cycles k.core n (suc run) x (later_deliveries run ds)) (cycle_bytes k bs (after_due_deliveries r run ds) (after_due_deliveries r run ds).machine.halt) ∙
    run_bytes k n (suc run) bs (core_after_cycle k.core (after_due_deliveries r run ds)) (later_deliveries run ds))

pub append_none : (bs : List ℕ) → bs ++ [] ≡ bs
append_none [] = refl
append_none (b ∷ bs) = ap (λ (x : List ℕ). b ∷ x) (append_none bs)

-- a run to a run count, and on to another
pub machine_runs_add : (k : TriplexCore) (m mid last : Machine) (n o : ℕ) (ds es : List Delivery) (bs cs : List ℕ) → m.cpu.run ≤ n → n ≤ o → mid.cpu.run ≡ n → DueUpTo n ds → DueFrom n es →
    core_machine_run k.core m ds n ≡ record { machine = mid; bytes = bs } → core_machine_run k.core mid es o ≡ record { machine = last; bytes = cs } →
    core_machine_run k.core m (ds ++ es) o ≡ record { machine = last; bytes = bs ++ cs }
machine_runs_add k m mid last n o ds es bs cs low high is up from first second =
    let split : o - m.cpu.run ≡ (n - m.cpu.run) + (o - n) = omega arith in
    let reached : m.cpu.run + (n - m.cpu.run) ≡ n = omega arith in
    ap (λ (x : ℕ). core_run_of_cycles k.core x m.cpu.run (at_rest m) (ds ++ es)) split ∙
    (runs_add k (n - m.cpu.run) (o - n) m.cpu.run (at_rest m) ds es (up_to_at n (m.cpu.run + (n - m.cpu.run)) ds (omega arith) up) (from_at n (m.cpu.run + (n - m.cpu.run)) es (omega arith) from) ∙
    (ap (λ (x : ℕ). core_run_of_cycles k.core (o - n) x (core_run_of_cycles k.core (n - m.cpu.run) m.cpu.run (at_rest m) ds) es) reached ∙
    (ap (λ (x : RunState). core_run_of_cycles k.core (o - n) n x es) first ∙
    (ap (λ (x : List ℕ). core_run_of_cycles k.core (o - n) n (record { machine = mid; bytes = x }) es) (sym (append_none bs)) ∙
    (run_bytes k (o - n) n bs (at_rest mid) es ∙
    (ap (λ (x : ℕ). after_bytes bs (core_run_of_cycles k.core (o - x) x (at_rest mid) es)) (sym is) ∙ ap (after_bytes bs) second))))))

-- one step after another
pub advances_add : (k : TriplexCore) (d e f : TriplexState) (first effects : StepEffects) → first.deliveries ≡ [] → first.out ≡ None → ReferenceAdvance k d e first → ReferenceAdvance k e f effects → ReferenceAdvance k d f effects
advances_add k d e f first effects none quiet a b =
    let low = a.grows in
    let high = b.grows in
    record {
      grows = omega arith;
      from = from_at (runs e) (runs d) effects.deliveries (omega arith) b.from;
      to = b.to;
      reference_runs =
          machine_runs_add k (reference d) (reference e) (reference f) (runs e) (runs f) [] effects.deliveries [] (bytes_of effects.out) a.grows b.grows refl tt b.from
          (ap (λ (ds : List Delivery). core_machine_run k.core (reference d) ds (runs e)) (sym none) ∙ (a.reference_runs ∙ ap (λ (o : Option ℕ). record { machine = reference e; bytes = bytes_of o }) quiet)) b.reference_runs;
    }
