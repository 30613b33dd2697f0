-- A run under deliveries, cut in two at a run count.
use Rattle.std.proofs.Common.{◌≡◌, ℕ, zero, suc, ◌+◌, ◌<◌, ◌≤◌, Bool, true, false, cond, List, [], ◌∷◌, ◌++◌, refl, sym, ap, arith, ◌∙◌, subst}
use Rattle.std.specs.Prelude.{nat_le}
use Rattle.s2_machine.specs.R2000.{r2000}
use Rattle.s2_machine.specs.MachineRun.{RunState, core_cycles, after_cycle, after_delivery, after_due_deliveries, later_deliveries, run_of_cycles}
use Rattle.s2_machine.specs.declared.deliveries.Delivery.{Delivery}
use Rattle.s2_single.proofs.DueDeliveries.{is_due, is_later}
use Rattle.s2_run.proofs.Executions.{run_is_cycles}

-- deliveries that are due at a run count
abbrev pub AreDue : ℕ → List Delivery → Type 0
AreDue run [] = Unit {0}
AreDue run (d ∷ ds) = (d.run ≤ run) × AreDue run ds

none_later : (run : ℕ) (ds : List Delivery) → AreDue run ds → later_deliveries run ds ≡ []
none_later run [] due = refl
none_later run (d ∷ ds) due = ap (λ (t : Bool). cond t (later_deliveries run ds) (d ∷ ds)) (is_due d run due.0) ∙ none_later run ds due.1

later_by : (run at : ℕ) (d : Delivery) (ds : List Delivery) (t : Bool) → AreDue run (later_deliveries at ds) → AreDue run (d ∷ ds) → AreDue run (cond t (later_deliveries at ds) (d ∷ ds))
later_by run at d ds true rest due = rest
later_by run at d ds false rest due = due

later_due : (run at : ℕ) (ds : List Delivery) → AreDue run ds → AreDue run (later_deliveries at ds)
later_due run at [] due = tt
later_due run at (d ∷ ds) due = later_by run at d ds (nat_le d.run at) (later_due run at ds due.1) due

-- after the last delivery a run is its cycles
due_cycles : (b run : ℕ) (ran : RunState) (ds : List Delivery) → AreDue run ds → run_of_cycles b run ran ds ≡ core_cycles r2000 b (after_due_deliveries ran run ds)
due_cycles zero run ran ds due = refl
due_cycles (suc b) run ran ds due =
    ap (λ (xs : List Delivery). run_of_cycles b (suc run) (after_cycle (after_due_deliveries ran run ds)) xs) (none_later run ds due)
    ∙ run_is_cycles b (suc run) (after_cycle (after_due_deliveries ran run ds))

pub cycles_more : (a b n run : ℕ) (ran : RunState) (ds : List Delivery) → n ≡ a + b → AreDue (run + a) ds → run_of_cycles n run ran ds ≡ core_cycles r2000 b (run_of_cycles a run ran ds)
cycles_more zero b n run ran ds sum due =
    let same : n ≡ b = omega arith in
    let here : run + zero ≡ run = omega arith in
    ap (λ (k : ℕ). run_of_cycles k run ran ds) same ∙ due_cycles b run ran ds (subst (λ (k : ℕ). AreDue k ds) here due)
cycles_more (suc a) b zero run ran ds sum due = absurd (omega arith)
cycles_more (suc a) b (suc n) run ran ds sum due =
    let on : run + suc a ≡ suc run + a = omega arith in
    cycles_more a b n (suc run) (after_cycle (after_due_deliveries ran run ds)) (later_deliveries run ds) (omega arith)
    (later_due (suc run + a) run ds (subst (λ (k : ℕ). AreDue k ds) on due))

-- ---- one delivery more, at the end

due_more : (run : ℕ) (ran : RunState) (ds : List Delivery) (d : Delivery) → AreDue run ds → d.run ≤ run → after_due_deliveries ran run (ds ++ d ∷ []) ≡ after_delivery (after_due_deliveries ran run ds) d.event
due_more run ran [] d due h = ap (λ (t : Bool). cond t (after_delivery ran d.event) ran) (is_due d run h)
due_more run ran (x ∷ ds) d due h =
    ap (λ (t : Bool). cond t (after_due_deliveries (after_delivery ran x.event) run (ds ++ d ∷ [])) ran) (is_due x run due.0)
    ∙ (due_more run (after_delivery ran x.event) ds d due.1 h
    ∙ ap (λ (t : Bool). after_delivery (cond t (after_due_deliveries (after_delivery ran x.event) run ds) ran) d.event) (sym (is_due x run due.0)))

due_other_by : (run : ℕ) (ran : RunState) (x : Delivery) (ds : List Delivery) (d : Delivery) (t : Bool) → after_due_deliveries (after_delivery ran x.event) run (ds ++ d ∷ []) ≡ after_due_deliveries (after_delivery ran x.event) run ds
    → cond t (after_due_deliveries (after_delivery ran x.event) run (ds ++ d ∷ [])) ran ≡ cond t (after_due_deliveries (after_delivery ran x.event) run ds) ran
due_other_by run ran x ds d true h = h
due_other_by run ran x ds d false h = refl

-- a delivery that is not due
due_other : (run : ℕ) (ran : RunState) (ds : List Delivery) (d : Delivery) → run < d.run → after_due_deliveries ran run (ds ++ d ∷ []) ≡ after_due_deliveries ran run ds
due_other run ran [] d h = ap (λ (t : Bool). cond t (after_delivery ran d.event) ran) (is_later d run h)
due_other run ran (x ∷ ds) d h = due_other_by run ran x ds d (nat_le x.run run) (due_other run (after_delivery ran x.event) ds d h)

later_other_by : (run : ℕ) (x : Delivery) (ds : List Delivery) (d : Delivery) (t : Bool) → later_deliveries run (ds ++ d ∷ []) ≡ later_deliveries run ds ++ d ∷ []
    → cond t (later_deliveries run (ds ++ d ∷ [])) (x ∷ (ds ++ d ∷ [])) ≡ cond t (later_deliveries run ds) (x ∷ ds) ++ d ∷ []
later_other_by run x ds d true h = h
later_other_by run x ds d false h = refl

later_other : (run : ℕ) (ds : List Delivery) (d : Delivery) → run < d.run → later_deliveries run (ds ++ d ∷ []) ≡ later_deliveries run ds ++ d ∷ []
later_other run [] d h = ap (λ (t : Bool). cond t [] (d ∷ [])) (is_later d run h)
later_other run (x ∷ ds) d h = later_other_by run x ds d (nat_le x.run run) (later_other run ds d h)

pub delivery_more : (a run : ℕ) (ran : RunState) (ds : List Delivery) (d : Delivery) → d.run ≡ run + a → AreDue (run + a) ds → run_of_cycles a run ran (ds ++ d ∷ []) ≡ after_delivery (run_of_cycles a run ran ds) d.event
delivery_more zero run ran ds d at due =
    let here : run + zero ≡ run = omega arith in
    due_more run ran ds d (subst (λ (k : ℕ). AreDue k ds) here due) (omega arith)
delivery_more (suc a) run ran ds d at due =
    let on : run + suc a ≡ suc run + a = omega arith in
    let q : RunState = after_cycle (after_due_deliveries ran run ds) in
    ap (λ (x : RunState). run_of_cycles a (suc run) (after_cycle x) (later_deliveries run (ds ++ d ∷ []))) (due_other run ran ds d (omega arith))
    ∙ (ap (λ (xs : List Delivery). run_of_cycles a (suc run) q xs) (later_other run ds d (omega arith))
    ∙ delivery_more a (suc run) q (later_deliveries run ds) d (at ∙ on) (later_due (suc run + a) run ds (subst (λ (k : ℕ). AreDue k ds) on due)))
