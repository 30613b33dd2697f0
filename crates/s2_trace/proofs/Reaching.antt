-- A run under deliveries, cut at a run count, and the machine that it comes to.
use Rattle.std.proofs.Common.{◌≡◌, ℕ, zero, suc, ◌+◌, ◌<◌, ◌≤◌, Bool, true, false, cond, List, [], ◌∷◌, refl, sym, ap, arith, ◌∙◌}
use Rattle.std.specs.Prelude.{nat_le, Some, None, ◌^◌}
use Rattle.std.specs.declared.option.Option.{Option}
use Rattle.s2_ports.specs.declared.events.Event.{Event}
use Rattle.s2_machine.specs.Machine.{Machine}
use Rattle.s2_machine.specs.R2000.{r2000}
use Rattle.s2_machine.specs.MachineRun.{RunState, core_cycles, after_cycle, after_cycle_unless, after_delivery, after_delivery_unless, after_due_deliveries, later_deliveries, run_of_cycles}
use Rattle.s2_machine.specs.declared.deliveries.Delivery.{Delivery}
use Rattle.s2_single.specs.SingleMachine.{in_run}
use Rattle.s2_single.proofs.ProgramCycles.{cycle_counts, cycles_count}
use Rattle.s2_single.proofs.DueDeliveries.{is_due, is_later, due_is, later_is}
use Rattle.s2_trace.specs.Timeline.{after_cycles, after_due, reached}
use Rattle.s2_trace.specs.Travel.{NeverFall}
use Rattle.s2_trace.specs.TraceState.{deliveries_to}

-- ---- the machine of a run does not depend on the bytes before it

cycle_alike_by : (a : RunState) (h : Option ℕ) → (after_cycle_unless a h).machine ≡ (after_cycle_unless (in_run a.machine []) h).machine
cycle_alike_by a (Some value) = refl
cycle_alike_by a None = refl

cycle_alone : (a : RunState) → (after_cycle a).machine ≡ (after_cycle (in_run a.machine [])).machine
cycle_alone a = cycle_alike_by a a.machine.halt

pub cycle_alike : (a b : RunState) → a.machine ≡ b.machine → (after_cycle a).machine ≡ (after_cycle b).machine
cycle_alike a b h = cycle_alone a ∙ (ap (λ (m : Machine). (after_cycle (in_run m [])).machine) h ∙ sym (cycle_alone b))

delivery_alike_by : (a : RunState) (e : Event) (h : Option ℕ) → (after_delivery_unless a e h).machine ≡ (after_delivery_unless (in_run a.machine []) e h).machine
delivery_alike_by a e (Some value) = refl
delivery_alike_by a e None = refl

delivery_alone : (a : RunState) (e : Event) → (after_delivery a e).machine ≡ (after_delivery (in_run a.machine []) e).machine
delivery_alone a e = delivery_alike_by a e a.machine.halt

delivery_alike : (a b : RunState) (e : Event) → a.machine ≡ b.machine → (after_delivery a e).machine ≡ (after_delivery b e).machine
delivery_alike a b e h = delivery_alone a e ∙ (ap (λ (m : Machine). (after_delivery (in_run m []) e).machine) h ∙ sym (delivery_alone b e))

due_alike_by : (t : Bool) (x y a b : RunState) → x.machine ≡ y.machine → a.machine ≡ b.machine → (cond t x a).machine ≡ (cond t y b).machine
due_alike_by true x y a b h g = h
due_alike_by false x y a b h g = g

pub due_alike : (run : ℕ) (a b : RunState) (ds : List Delivery) → a.machine ≡ b.machine → (after_due_deliveries a run ds).machine ≡ (after_due_deliveries b run ds).machine
due_alike run a b [] h = h
due_alike run a b (d ∷ ds) h =
    due_alike_by (nat_le d.run run) (after_due_deliveries (after_delivery a d.event) run ds) (after_due_deliveries (after_delivery b d.event) run ds) a b
    (due_alike run (after_delivery a d.event) (after_delivery b d.event) ds (delivery_alike a b d.event h)) h

pub run_alike : (n run : ℕ) (a b : RunState) (ds : List Delivery) → a.machine ≡ b.machine → (run_of_cycles n run a ds).machine ≡ (run_of_cycles n run b ds).machine
run_alike zero run a b ds h = due_alike run a b ds h
run_alike (suc n) run a b ds h =
    run_alike n (suc run) (after_cycle (after_due_deliveries a run ds)) (after_cycle (after_due_deliveries b run ds)) (later_deliveries run ds)
    (cycle_alike (after_due_deliveries a run ds) (after_due_deliveries b run ds) (due_alike run a b ds h))

pub cycles_alike : (n : ℕ) (a b : RunState) → a.machine ≡ b.machine → (core_cycles r2000 n a).machine ≡ (core_cycles r2000 n b).machine
cycles_alike zero a b h = h
cycles_alike (suc n) a b h = cycles_alike n (after_cycle a) (after_cycle b) (cycle_alike a b h)

-- ---- deliveries that have acted

later_again_by : (run j : ℕ) (d : Delivery) (ds : List Delivery) (t : Bool) → nat_le d.run run ≡ t → run ≤ j → later_deliveries j (later_deliveries run ds) ≡ later_deliveries j ds
    → later_deliveries j (cond t (later_deliveries run ds) (d ∷ ds)) ≡ cond (nat_le d.run j) (later_deliveries j ds) (d ∷ ds)
later_again_by run j d ds true is most h =
    h ∙ ap (λ (t : Bool). cond t (later_deliveries j ds) (d ∷ ds)) (sym (is_due d j (let low = due_is d run is in omega arith)))
later_again_by run j d ds false is most h = refl

pub later_again : (run j : ℕ) (ds : List Delivery) → run ≤ j → later_deliveries j (later_deliveries run ds) ≡ later_deliveries j ds
later_again run j [] most = refl
later_again run j (d ∷ ds) most = later_again_by run j d ds (nat_le d.run run) refl most (later_again run j ds most)

none_due_by : (run : ℕ) (ran : RunState) (d : Delivery) (ds : List Delivery) (t : Bool) → nat_le d.run run ≡ t → after_due_deliveries ran run (later_deliveries run ds) ≡ ran
    → after_due_deliveries ran run (cond t (later_deliveries run ds) (d ∷ ds)) ≡ ran
none_due_by run ran d ds true is h = h
none_due_by run ran d ds false is h = ap (λ (t : Bool). cond t (after_due_deliveries (after_delivery ran d.event) run ds) ran) is

pub none_due : (run : ℕ) (ran : RunState) (ds : List Delivery) → after_due_deliveries ran run (later_deliveries run ds) ≡ ran
none_due run ran [] = refl
none_due run ran (d ∷ ds) = none_due_by run ran d ds (nat_le d.run run) refl (none_due run ran ds)

-- ---- a run in two parts

split_none : (b run : ℕ) (ran : RunState) (ds : List Delivery) → run_of_cycles b run ran ds ≡ run_of_cycles b run (after_due_deliveries ran run ds) (later_deliveries run ds)
split_none zero run ran ds = sym (none_due run (after_due_deliveries ran run ds) ds)
split_none (suc b) run ran ds =
    let here = after_due_deliveries ran run ds in
    sym (ap (λ (x : RunState). run_of_cycles b (suc run) (after_cycle x) (later_deliveries run (later_deliveries run ds))) (none_due run here ds)
    ∙ ap (λ (xs : List Delivery). run_of_cycles b (suc run) (after_cycle here) xs) (later_again run run ds (omega arith)))

pub split : (a b n at run : ℕ) (ran : RunState) (ds : List Delivery) → n ≡ a + b → at ≡ run + a → run_of_cycles n run ran ds ≡ run_of_cycles b at (run_of_cycles a run ran ds) (later_deliveries at ds)
split zero b n at run ran ds sum place =
    let same : n ≡ b = omega arith in
    let here : run ≡ at = omega arith in
    ap (λ (k : ℕ). run_of_cycles k run ran ds) same
    ∙ (split_none b run ran ds
    ∙ ap (λ (k : ℕ). run_of_cycles b k (after_due_deliveries ran run ds) (later_deliveries k ds)) here)
split (suc a) b zero at run ran ds sum place = absurd (omega arith)
split (suc a) b (suc n) at run ran ds sum place =
    let next = after_cycle (after_due_deliveries ran run ds) in
    split a b n at (suc run) next (later_deliveries run ds) (omega arith) (omega arith)
    ∙ ap (λ (xs : List Delivery). run_of_cycles b at (run_of_cycles a (suc run) next (later_deliveries run ds)) xs) (later_again run at ds (omega arith))

-- no delivery acts before a run count
abbrev pub NoneBefore : ℕ → List Delivery → Type 0
NoneBefore run [] = Unit {0}
NoneBefore run (d ∷ ds) = run ≤ d.run

quiet_due : (run at : ℕ) (ran : RunState) (ds : List Delivery) → NoneBefore at ds → run < at → after_due_deliveries ran run ds ≡ ran
quiet_due run at ran [] none low = refl
quiet_due run at ran (d ∷ ds) none low = ap (λ (t : Bool). cond t (after_due_deliveries (after_delivery ran d.event) run ds) ran) (is_later d run (omega arith))

quiet_later : (run at : ℕ) (ds : List Delivery) → NoneBefore at ds → run < at → later_deliveries run ds ≡ ds
quiet_later run at [] none low = refl
quiet_later run at (d ∷ ds) none low = ap (λ (t : Bool). cond t (later_deliveries run ds) (d ∷ ds)) (is_later d run (omega arith))

pub quiet : (a at run : ℕ) (ran : RunState) (ds : List Delivery) → at ≡ run + a → NoneBefore at ds → run_of_cycles a run ran ds ≡ after_due_deliveries (core_cycles r2000 a ran) at ds
quiet zero at run ran ds place none = let here : run ≡ at = omega arith in ap (λ (k : ℕ). after_due_deliveries ran k ds) here
quiet (suc a) at run ran ds place none =
    let low : run < at = omega arith in
    ap (λ (x : RunState). run_of_cycles a (suc run) (after_cycle x) (later_deliveries run ds)) (quiet_due run at ran ds none low)
    ∙ (ap (λ (xs : List Delivery). run_of_cycles a (suc run) (after_cycle ran) xs) (quiet_later run at ds none low)
    ∙ quiet a at (suc run) (after_cycle ran) ds (omega arith) none)

-- ---- a machine that has halted stays

halted_delivery : (ran : RunState) (e : Event) (value : ℕ) → ran.machine.halt ≡ Some value → after_delivery ran e ≡ ran
halted_delivery ran e value h = ap (λ (o : Option ℕ). after_delivery_unless ran e o) h

halted_due_by : (t : Bool) (x ran : RunState) → x ≡ ran → cond t x ran ≡ ran
halted_due_by true x ran h = h
halted_due_by false x ran h = refl

pub halted_due : (run : ℕ) (ran : RunState) (ds : List Delivery) (value : ℕ) → ran.machine.halt ≡ Some value → after_due_deliveries ran run ds ≡ ran
halted_due run ran [] value h = refl
halted_due run ran (d ∷ ds) value h =
    halted_due_by (nat_le d.run run) (after_due_deliveries (after_delivery ran d.event) run ds) ran
    (ap (λ (x : RunState). after_due_deliveries x run ds) (halted_delivery ran d.event value h) ∙ halted_due run ran ds value h)

halted_cycle : (ran : RunState) (value : ℕ) → ran.machine.halt ≡ Some value → after_cycle ran ≡ ran
halted_cycle ran value h = ap (λ (o : Option ℕ). after_cycle_unless ran o) h

pub halted_run : (n run : ℕ) (ran : RunState) (ds : List Delivery) (value : ℕ) → ran.machine.halt ≡ Some value → run_of_cycles n run ran ds ≡ ran
halted_run zero run ran ds value h = halted_due run ran ds value h
halted_run (suc n) run ran ds value h =
    ap (λ (x : RunState). run_of_cycles n (suc run) (after_cycle x) (later_deliveries run ds)) (halted_due run ran ds value h)
    ∙ (ap (λ (x : RunState). run_of_cycles n (suc run) x (later_deliveries run ds)) (halted_cycle ran value h)
    ∙ halted_run n (suc run) ran (later_deliveries run ds) value h)

-- ---- the run count of a run

delivery_counts_by : (ran : RunState) (e : Event) (h : Option ℕ) → (after_delivery_unless ran e h).machine.cpu.run ≡ ran.machine.cpu.run
delivery_counts_by ran e (Some value) = refl
delivery_counts_by ran e None = refl

due_counts_by : (t : Bool) (x ran : RunState) → x.machine.cpu.run ≡ ran.machine.cpu.run → (cond t x ran).machine.cpu.run ≡ ran.machine.cpu.run
due_counts_by true x ran h = h
due_counts_by false x ran h = refl

pub due_counts : (run : ℕ) (ran : RunState) (ds : List Delivery) → (after_due_deliveries ran run ds).machine.cpu.run ≡ ran.machine.cpu.run
due_counts run ran [] = refl
due_counts run ran (d ∷ ds) =
    due_counts_by (nat_le d.run run) (after_due_deliveries (after_delivery ran d.event) run ds) ran
    (due_counts run (after_delivery ran d.event) ds ∙ delivery_counts_by ran d.event ran.machine.halt)

-- ---- the machine at a run count

-- a run to a run count comes to a machine whose run count is that, or which has halted before; and it is the machine at
-- its own run count
pub record Settles (start : Machine) (ds : List Delivery) (n : ℕ) : Type 0 where
  pub within : (reached start ds n).cpu.run ≤ n
  pub same : reached start ds (reached start ds n).cpu.run ≡ reached start ds n
  pub reaches : (reached start ds n).halt ≡ None → (reached start ds n).cpu.run ≡ n

settles_here : (start : Machine) (ds : List Delivery) (n : ℕ) → (reached start ds n).cpu.run ≡ n → Settles start ds n
settles_here start ds n h = record { within = omega arith; same = ap (reached start ds) h; reaches = λ e. h }

settles_halted : (start : Machine) (ds : List Delivery) (n m : ℕ) → reached start ds m ≡ reached start ds n → n ≤ m → Settles start ds n → (value : ℕ) → (reached start ds n).halt ≡ Some value → Settles start ds m
settles_halted start ds n m h more s value halted =
    let same_run : (reached start ds m).cpu.run ≡ (reached start ds n).cpu.run = ap (λ (x : Machine). x.cpu.run) h in
    record {
      within = let w = s.within in omega arith;
      same = ap (reached start ds) same_run ∙ (s.same ∙ sym h);
      reaches = λ e. absurd (let f : Some value ≡ None = sym halted ∙ (ap (λ (x : Machine). x.halt) (sym h) ∙ e) in cc);
    }

one_more : (start : Machine) (ds : List Delivery) (n m : ℕ) → m ≡ n + 1 → reached start ds m ≡ (run_of_cycles 1 n (run_of_cycles n 0 (in_run start []) ds) (later_deliveries n ds)).machine
one_more start ds n m more = ap (λ (x : RunState). x.machine) (split n 1 m n 0 (in_run start []) ds more (omega arith))

settles_by : (start : Machine) (ds : List Delivery) (n m : ℕ) (halt : Option ℕ) → (reached start ds n).halt ≡ halt → m ≡ n + 1 → m < 2 ^ 64 → Settles start ds n → Settles start ds m
settles_by start ds n m (Some value) h more small s =
    settles_halted start ds n m
    (one_more start ds n m more ∙ ap (λ (x : RunState). x.machine) (halted_run 1 n (run_of_cycles n 0 (in_run start []) ds) (later_deliveries n ds) value h)) (omega arith) s value h
settles_by start ds n m None h more small s =
    let ran = run_of_cycles n 0 (in_run start []) ds in
    let later = later_deliveries n ds in
    let here : ran.machine.cpu.run ≡ n = s.reaches h in
    let still : after_due_deliveries ran n later ≡ ran = none_due n ran ds in
    let one : (after_cycle ran).machine.cpu.run ≡ ran.machine.cpu.run + 1 = cycle_counts ran h (omega arith) in
    settles_here start ds m
    (ap (λ (x : Machine). x.cpu.run) (one_more start ds n m more)
    ∙ (due_counts (suc n) (after_cycle (after_due_deliveries ran n later)) (later_deliveries n later)
    ∙ (ap (λ (x : RunState). (after_cycle x).machine.cpu.run) still
    ∙ omega arith)))

pub settles : (start : Machine) (ds : List Delivery) (n : ℕ) → start.cpu.run ≡ 0 → n < 2 ^ 64 → Settles start ds n
settles start ds zero at small = settles_here start ds 0 (due_counts 0 (in_run start []) ds ∙ at)
settles start ds (suc n) at small = settles_by start ds n (suc n) (reached start ds n).halt refl (omega arith) small (settles start ds n at (omega arith))

-- ---- cycles without deliveries

pub grows : (n : ℕ) (m : Machine) → m.cpu.run + n < 2 ^ 64 → m.cpu.run ≤ (after_cycles n m).cpu.run
grows n m small = let c = (cycles_count n (in_run m []) small).bytes in omega arith

pub moves : (n : ℕ) (m : Machine) → m.halt ≡ None → 0 < n → m.cpu.run + n < 2 ^ 64 → m.cpu.run < (after_cycles n m).cpu.run
moves zero m h some small = absurd (omega arith)
moves (suc n) m h some small =
    let next = (after_cycle (in_run m [])).machine in
    let one : next.cpu.run ≡ m.cpu.run + 1 = cycle_counts (in_run m []) h (omega arith) in
    let same : (after_cycles (suc n) m).cpu.run ≡ (after_cycles n next).cpu.run = ap (λ (x : Machine). x.cpu.run) (cycles_alike n (after_cycle (in_run m [])) (in_run next []) refl) in
    let rest : next.cpu.run ≤ (after_cycles n next).cpu.run = grows n next (omega arith) in
    omega arith

-- ---- one stretch

-- a stretch of cycles before which no delivery acts, and then the deliveries that are due
stretch_by : (m : Machine) (ds : List Delivery) (n : ℕ) (halt : Option ℕ) → m.halt ≡ halt → (halt ≡ None → m.cpu.run ≡ n) → (after_due_deliveries (in_run m []) n ds).machine ≡ after_due ds m
stretch_by m ds n (Some value) h place =
    ap (λ (x : RunState). x.machine) (halted_due n (in_run m []) ds value h ∙ sym (halted_due m.cpu.run (in_run m []) ds value h))
stretch_by m ds n None h place = ap (λ (k : ℕ). (after_due_deliveries (in_run m []) k ds).machine) (sym (place refl))

pub stretch : (start m : Machine) (all ds : List Delivery) (a n : ℕ) → m ≡ reached start all m.cpu.run → ds ≡ later_deliveries m.cpu.run all → n ≡ m.cpu.run + a → NoneBefore n ds → n < 2 ^ 64
    → after_due ds (after_cycles a m) ≡ reached start all n
stretch start m all ds a n here wait place none small =
    let run = m.cpu.run in
    let ran = run_of_cycles run 0 (in_run start []) all in
    let m1 = after_cycles a m in
    let counted = cycles_count a (in_run m []) (omega arith) in
    let parts : reached start all n ≡ (run_of_cycles a run ran (later_deliveries run all)).machine = ap (λ (x : RunState). x.machine) (split run a n run 0 (in_run start []) all place (omega arith)) in
    let alone : (run_of_cycles a run ran (later_deliveries run all)).machine ≡ (run_of_cycles a run (in_run m []) (later_deliveries run all)).machine = run_alike a run ran (in_run m []) (later_deliveries run all) (sym here) in
    let listed : (run_of_cycles a run (in_run m []) (later_deliveries run all)).machine ≡ (run_of_cycles a run (in_run m []) ds).machine = ap (λ (xs : List Delivery). (run_of_cycles a run (in_run m []) xs).machine) (sym wait) in
    let still : (run_of_cycles a run (in_run m []) ds).machine ≡ (after_due_deliveries (core_cycles r2000 a (in_run m [])) n ds).machine = ap (λ (x : RunState). x.machine) (quiet a n run (in_run m []) ds place none) in
    let bare : (after_due_deliveries (core_cycles r2000 a (in_run m [])) n ds).machine ≡ (after_due_deliveries (in_run m1 []) n ds).machine = due_alike n (core_cycles r2000 a (in_run m [])) (in_run m1 []) ds refl in
    let last : (after_due_deliveries (in_run m1 []) n ds).machine ≡ after_due ds m1 = stretch_by m1 ds n m1.halt refl (λ e. counted.reaches e ∙ sym place) in
    sym (parts ∙ (alone ∙ (listed ∙ (still ∙ (bare ∙ last)))))

-- ---- the deliveries up to a run count

order_later_by : (low run : ℕ) (d : Delivery) (ds : List Delivery) (t : Bool) → NeverFall low (d ∷ ds) → ((l : ℕ) → l ≤ d.run → NeverFall l ds) → NeverFall low (later_deliveries run ds) → NeverFall low (cond t (later_deliveries run ds) (d ∷ ds))
order_later_by low run d ds true order rest h = h
order_later_by low run d ds false order rest h = order

pub lower : (low l : ℕ) (ds : List Delivery) → NeverFall low ds → l ≤ low → NeverFall l ds
lower low l [] order less = tt
lower low l (d ∷ ds) order less = let first = order.0 in (omega arith, order.1)

pub order_later : (low run : ℕ) (ds : List Delivery) → NeverFall low ds → NeverFall low (later_deliveries run ds)
order_later low run [] order = tt
order_later low run (d ∷ ds) order =
    order_later_by low run d ds (nat_le d.run run) order (λ l less. lower d.run l ds order.1 less) (order_later low run ds (lower d.run low ds order.1 order.0))

none_to : (n low : ℕ) (ds : List Delivery) → NeverFall low ds → n < low → deliveries_to n ds ≡ []
none_to n low [] order past = refl
none_to n low (d ∷ ds) order past =
    let first = order.0 in
    ap (λ (t : Bool). cond t (d ∷ deliveries_to n ds) (deliveries_to n ds)) (is_later d n (omega arith)) ∙ none_to n d.run ds order.1 (omega arith)

due_to_by : (run n : ℕ) (ran : RunState) (d : Delivery) (ds : List Delivery) (t : Bool) → nat_le d.run n ≡ t → NeverFall d.run ds → run ≤ n
    → after_due_deliveries (after_delivery ran d.event) run (deliveries_to n ds) ≡ after_due_deliveries (after_delivery ran d.event) run ds
    → after_due_deliveries ran run (cond t (d ∷ deliveries_to n ds) (deliveries_to n ds)) ≡ after_due_deliveries ran run (d ∷ ds)
due_to_by run n ran d ds true is order most h = ap (λ (x : RunState). cond (nat_le d.run run) x ran) h
due_to_by run n ran d ds false is order most h =
    let past : n < d.run = later_is d n is in
    ap (λ (xs : List Delivery). after_due_deliveries ran run xs) (none_to n d.run ds order past)
    ∙ sym (ap (λ (t : Bool). cond t (after_due_deliveries (after_delivery ran d.event) run ds) ran) (is_later d run (omega arith)))

due_to : (run n low : ℕ) (ran : RunState) (ds : List Delivery) → NeverFall low ds → run ≤ n → after_due_deliveries ran run (deliveries_to n ds) ≡ after_due_deliveries ran run ds
due_to run n low ran [] order most = refl
due_to run n low ran (d ∷ ds) order most =
    due_to_by run n ran d ds (nat_le d.run n) refl order.1 most (due_to run n d.run (after_delivery ran d.event) ds order.1 most)

later_to_in : (run n : ℕ) (d : Delivery) (ds : List Delivery) (t : Bool) → nat_le d.run n ≡ true → later_deliveries run (deliveries_to n ds) ≡ deliveries_to n (later_deliveries run ds)
    → cond t (later_deliveries run (deliveries_to n ds)) (d ∷ deliveries_to n ds) ≡ deliveries_to n (cond t (later_deliveries run ds) (d ∷ ds))
later_to_in run n d ds true is h = h
later_to_in run n d ds false is h = sym (ap (λ (t : Bool). cond t (d ∷ deliveries_to n ds) (deliveries_to n ds)) is)

later_to_by : (run n : ℕ) (d : Delivery) (ds : List Delivery) (t : Bool) → nat_le d.run n ≡ t → NeverFall d.run ds → run ≤ n
    → later_deliveries run (deliveries_to n ds) ≡ deliveries_to n (later_deliveries run ds)
    → later_deliveries run (cond t (d ∷ deliveries_to n ds) (deliveries_to n ds)) ≡ deliveries_to n (later_deliveries run (d ∷ ds))
later_to_by run n d ds true is order most h = later_to_in run n d ds (nat_le d.run run) is h
later_to_by run n d ds false is order most h =
    let past : n < d.run = later_is d n is in
    let none = none_to n d.run ds order past in
    ap (later_deliveries run) none
    ∙ sym (ap (λ (t : Bool). deliveries_to n (cond t (later_deliveries run ds) (d ∷ ds))) (is_later d run (omega arith))
    ∙ (ap (λ (t : Bool). cond t (d ∷ deliveries_to n ds) (deliveries_to n ds)) is ∙ none))

later_to : (run n low : ℕ) (ds : List Delivery) → NeverFall low ds → run ≤ n → later_deliveries run (deliveries_to n ds) ≡ deliveries_to n (later_deliveries run ds)
later_to run n low [] order most = refl
later_to run n low (d ∷ ds) order most = later_to_by run n d ds (nat_le d.run n) refl order.1 most (later_to run n d.run ds order.1 most)

-- later deliveries do nothing before their run counts
pub run_to : (a n run low : ℕ) (ran : RunState) (ds : List Delivery) → n ≡ run + a → NeverFall low ds → run_of_cycles a run ran (deliveries_to n ds) ≡ run_of_cycles a run ran ds
run_to zero n run low ran ds place order = due_to run n low ran ds order (omega arith)
run_to (suc a) n run low ran ds place order =
    let most : run ≤ n = omega arith in
    ap (λ (x : RunState). run_of_cycles a (suc run) (after_cycle x) (later_deliveries run (deliveries_to n ds))) (due_to run n low ran ds order most)
    ∙ (ap (λ (xs : List Delivery). run_of_cycles a (suc run) (after_cycle (after_due_deliveries ran run ds)) xs) (later_to run n low ds order most)
    ∙ run_to a n (suc run) low (after_cycle (after_due_deliveries ran run ds)) (later_deliveries run ds) (omega arith) (order_later low run ds order))
