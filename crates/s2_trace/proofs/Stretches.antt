-- Loops over cycles and over deliveries.
use Rattle.std.proofs.Common.{◌≡◌, ℕ, zero, suc, ◌+◌, ◌-◌, ◌<◌, ◌≤◌, Bool, true, false, cond, List, [], ◌∷◌, ◌++◌, length, length-append, refl, sym, ap, arith, ◌∙◌, subst}
use Rattle.std.specs.Prelude.{slice_index_or, Some, None, is_some}
use Rattle.std.specs.declared.option.Option.{Option}
use Rattle.s2_machine.specs.Machine.{Machine}
use Rattle.s2_machine.specs.R2000.{r2000}
use Rattle.s2_machine.specs.MachineRun.{RunState, core_cycles, after_delivery, after_due_deliveries, later_deliveries}
use Rattle.s2_machine.specs.declared.deliveries.Delivery.{Delivery}
use Rattle.s2_core.proofs.CoreFacts.{runs_add}
use Rattle.s2_single.specs.SingleMachine.{in_run}
use Rattle.s2_ports.specs.Events.{IsEventInRange}
use Rattle.s2_single.proofs.ProgramCycles.{halted_cycles}
use Rattle.s2_single.proofs.DueDeliveries.{is_due, is_later}
use Rattle.s2_trace.specs.Timeline.{after_cycles, after_event_unless}
use Rattle.s2_trace.specs.Travel.{AreInRange}
use Rattle.s2_trace.proofs.Reaching.{cycles_alike, due_alike}

-- a burst, and then the cycles that are left
pub burst_more : (m m' : Machine) (bytes : List ℕ) (left left' : ℕ) → left' < left → core_cycles r2000 (left - left') (in_run m []) ≡ in_run m' bytes → after_cycles left' m' ≡ after_cycles left m
burst_more m m' bytes left left' less step =
    let all : (left - left') + left' ≡ left = omega (arith, less) in
    cycles_alike left' (in_run m' []) (core_cycles r2000 (left - left') (in_run m [])) (sym (ap (λ (r : RunState). r.machine) step))
    ∙ (ap (λ (r : RunState). r.machine) (runs_add r2000 (left - left') left' (in_run m []))
    ∙ ap (λ (k : ℕ). after_cycles k m) all)

pub stays_halted : (m : Machine) (n value : ℕ) → m.halt ≡ Some value → after_cycles n m ≡ m
stays_halted m n value h = ap (λ (r : RunState). r.machine) (halted_cycles n (in_run m []) value h)

pub stays_where_halted : (m : Machine) (n : ℕ) (halt : Option ℕ) → m.halt ≡ halt → is_some halt ≡ true → after_cycles n m ≡ m
stays_where_halted m n (Some value) h some = stays_halted m n value h
stays_where_halted m n None h some = absurd cc

-- a delivery is in range where all are, and all are with one more
pub range_at : (ds : List Delivery) (n : ℕ) (d : Delivery) → AreInRange ds → n < length ds → IsEventInRange (slice_index_or ds n d).event
range_at [] n d r less = absurd (omega arith)
range_at (x ∷ ds) zero d r less = r.0
range_at (x ∷ ds) (suc n) d r less = range_at ds n d r.1 (omega arith)

range_more : (ds : List Delivery) (d : Delivery) → AreInRange ds → IsEventInRange d.event → AreInRange (ds ++ d ∷ [])
range_more [] d r one = (one, tt)
range_more (x ∷ ds) d r one = (r.0, range_more ds d r.1 one)

-- a timeline's places and deliveries, with one more that was taken or not
pub range_pushed : (r : Bool) (ds ds' : List Delivery) (d : Delivery) → AreInRange ds → IsEventInRange d.event → ds' ≡ cond r (ds ++ d ∷ []) ds → AreInRange ds'
range_pushed true ds ds' d range one is = subst AreInRange (sym is) (range_more ds d range one)
range_pushed false ds ds' d range one is = subst AreInRange (sym is) range

pub place_pushed : (r : Bool) (n : ℕ) (ds ds' : List Delivery) (d : Delivery) → n ≤ length ds → ds' ≡ cond r (ds ++ d ∷ []) ds → n ≤ length ds'
place_pushed true n ds ds' d within is =
    let size : length ds' ≡ length ds + 1 = ap length is ∙ length-append ds (d ∷ []) in
    omega arith
place_pushed false n ds ds' d within is = subst (λ (xs : List Delivery). n ≤ length xs) (sym is) within

-- deliveries that have acted up to one of them: where the machine comes to, and those that will be left
pub record Delivered (run : ℕ) (m0 m : Machine) (all ds : List Delivery) : Type 0 where
  pub comes_to : (after_due_deliveries (in_run m []) run ds).machine ≡ (after_due_deliveries (in_run m0 []) run all).machine
  pub left : later_deliveries run ds ≡ later_deliveries run all

pub delivered_none : (run : ℕ) (m : Machine) (ds : List Delivery) → Delivered run m m ds ds
delivered_none run m ds = record { comes_to = refl; left = refl }

pub delivered_more : {run : ℕ} {m0 m : Machine} {all ds : List Delivery} (m' : Machine) (d : Delivery) (rest : List Delivery) → Delivered run m0 m all ds → ds ≡ d ∷ rest → d.run ≤ run → m' ≡ after_event_unless m d.event
    → Delivered run m0 m' all rest
delivered_more {run} {m0} {m} {all} {ds} m' d rest h parts due acts = record {
  comes_to =
      due_alike run (in_run m' []) (after_delivery (in_run m []) d.event) rest acts
      ∙ (sym (ap (λ (xs : List Delivery). (after_due_deliveries (in_run m []) run xs).machine) parts
      ∙ ap (λ (t : Bool). (cond t (after_due_deliveries (after_delivery (in_run m []) d.event) run rest) (in_run m [])).machine) (is_due d run due))
      ∙ h.comes_to);
  left =
      sym (ap (λ (xs : List Delivery). later_deliveries run xs) parts
      ∙ ap (λ (t : Bool). cond t (later_deliveries run rest) (d ∷ rest)) (is_due d run due))
      ∙ h.left;
}

-- none of the others is due
pub record Stopped (run : ℕ) (m0 m : Machine) (all ds : List Delivery) : Type 0 where
  pub machine_is : m ≡ (after_due_deliveries (in_run m0 []) run all).machine
  pub left_is : ds ≡ later_deliveries run all

pub stopped_all : {run : ℕ} {m0 m : Machine} {all ds : List Delivery} → Delivered run m0 m all ds → ds ≡ [] → Stopped run m0 m all ds
stopped_all {run} {m0} {m} {all} {ds} h none = record {
  machine_is = sym (ap (λ (xs : List Delivery). (after_due_deliveries (in_run m []) run xs).machine) none) ∙ h.comes_to;
  left_is = none ∙ (sym (ap (later_deliveries run) none) ∙ h.left);
}

pub stopped_at : {run : ℕ} {m0 m : Machine} {all ds : List Delivery} (d : Delivery) (rest : List Delivery) → Delivered run m0 m all ds → ds ≡ d ∷ rest → run < d.run → Stopped run m0 m all ds
stopped_at {run} {m0} {m} {all} {ds} d rest h parts later = record {
  machine_is =
      sym (ap (λ (xs : List Delivery). (after_due_deliveries (in_run m []) run xs).machine) parts
      ∙ ap (λ (t : Bool). (cond t (after_due_deliveries (after_delivery (in_run m []) d.event) run rest) (in_run m [])).machine) (is_later d run later))
      ∙ h.comes_to;
  left_is =
      parts
      ∙ (sym (ap (λ (xs : List Delivery). later_deliveries run xs) parts
      ∙ ap (λ (t : Bool). cond t (later_deliveries run rest) (d ∷ rest)) (is_later d run later))
      ∙ h.left);
}
