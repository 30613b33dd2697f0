-- The replay of one line more.
use Rattle.std.proofs.Common.{◌≡◌, ℕ, ◌+◌, ◌-◌, ◌<◌, ◌≤◌, max, List, [], ◌∷◌, ◌++◌, append-nil, refl, sym, ap, arith, ◌∙◌, subst}
use Rattle.std.specs.Prelude.{Some, None, nat_lt, false, ◌^◌}
use Rattle.std.specs.declared.option.Option.{Option}
use Rattle.std.proofs.lemmas.Bool.Decides.{nat_tests}
use Rattle.s2_ports.specs.declared.events.Event.{Event}
use Rattle.s2_machine.specs.Machine.{Machine}
use Rattle.s2_machine.specs.R2000.{r2000}
use Rattle.s2_machine.specs.MachineRun.{RunState, core_cycles, after_delivery, after_delivery_unless, run_of_cycles, machine_run}
use Rattle.s2_machine.specs.declared.deliveries.Delivery.{Delivery as DeliveryAt}
use Rattle.s2_single.specs.SingleMachine.{in_run}
use Rattle.s2_journal.specs.declared.note.ReportLine.{ReportLine}
use Rattle.s2_journal.specs.declared.note.ReportLine.TheVariants.{Delivery, Other, Runs, Ticks, Bytes, End as Ending}
use Rattle.s2_journal.specs.ReportOrder.{closing_count, greatest_run, order_state, order_fault}
use Rattle.s2_journal.proofs.WholeReports.{in_order}
use Rattle.s2_run.specs.Replay.{deliveries_of, run_of, last_run, replayed}
use Rattle.s2_run.specs.ReplayParts.{reached, after_line}
use Rattle.s2_single.proofs.ProgramCycles.{behind, halted_cycles, cycles_from, delivery_behind, cycles_count}
use Rattle.s2_run.proofs.Deliveries.{AreDue, cycles_more, delivery_more}

-- ---- lists of lines

last_more : (said : List ReportLine) (x : ReportLine) → last_run (said ++ x ∷ []) ≡ max (last_run said) (run_of x)
last_more [] x = grind arith
last_more (y ∷ said) x = (let h = last_more said x in grind arith)

due_up : (ds : List DeliveryAt) (a b : ℕ) → a ≤ b → AreDue a ds → AreDue b ds
due_up [] a b h due = tt
due_up (d ∷ ds) a b h due = (omega (arith, due.0), due_up ds a b h due.1)

all_due : (said : List ReportLine) → AreDue (last_run said) (deliveries_of said)
all_due [] = tt
all_due (Delivery run event ∷ said) = (grind arith, due_up (deliveries_of said) (last_run said) (last_run (Delivery run event ∷ said)) (grind arith) (all_due said))
all_due (Other ∷ said) = due_up (deliveries_of said) (last_run said) (last_run (Other ∷ said)) (grind arith) (all_due said)
all_due (Runs n ∷ said) = due_up (deliveries_of said) (last_run said) (last_run (Runs n ∷ said)) (grind arith) (all_due said)
all_due (Ticks ∷ said) = due_up (deliveries_of said) (last_run said) (last_run (Ticks ∷ said)) (grind arith) (all_due said)
all_due (Bytes ∷ said) = due_up (deliveries_of said) (last_run said) (last_run (Bytes ∷ said)) (grind arith) (all_due said)
all_due (Ending ∷ said) = due_up (deliveries_of said) (last_run said) (last_run (Ending ∷ said)) (grind arith) (all_due said)

deliveries_more : (said : List ReportLine) (x : ReportLine) → deliveries_of (said ++ x ∷ []) ≡ deliveries_of said ++ deliveries_of (x ∷ [])
deliveries_more [] x = refl
deliveries_more (Delivery run event ∷ said) x = ap (λ (ds : List DeliveryAt). (record { run = run; event = event }) ∷ ds) (deliveries_more said x)
deliveries_more (Other ∷ said) x = deliveries_more said x
deliveries_more (Runs n ∷ said) x = deliveries_more said x
deliveries_more (Ticks ∷ said) x = deliveries_more said x
deliveries_more (Bytes ∷ said) x = deliveries_more said x
deliveries_more (Ending ∷ said) x = deliveries_more said x

-- before the `runs` line the last run count is that of the last `d` line
last_is_greatest : (said : List ReportLine) → closing_count said ≡ 0 → last_run said ≡ greatest_run said
last_is_greatest [] none = refl
last_is_greatest (Delivery run event ∷ said) none = ap (max run) (last_is_greatest said (omega arith))
last_is_greatest (Other ∷ said) none = ap (max 0) (last_is_greatest said (omega arith))
last_is_greatest (Runs n ∷ said) none = absurd (omega arith)
last_is_greatest (Ticks ∷ said) none = absurd (omega arith)
last_is_greatest (Bytes ∷ said) none = absurd (omega arith)
last_is_greatest (Ending ∷ said) none = absurd (omega arith)

-- a line in order that names a run count names none below those before it
delivery_on : (said : List ReportLine) (line : List ℕ) (run : ℕ) (event : Event) → order_fault (order_state said) line (Delivery run event) ≡ None → last_run said ≤ run
delivery_on said line run event e =
    let o = in_order said line (Delivery run event) e in
    let same = last_is_greatest said o.place in
    let test : nat_lt run (greatest_run said) ≡ false = o.onward in
    let least : greatest_run said ≤ run = grind (arith, nat_tests) in
    omega arith

runs_on : (said : List ReportLine) (line : List ℕ) (n : ℕ) → order_fault (order_state said) line (Runs n) ≡ None → last_run said ≤ n
runs_on said line n e =
    let o = in_order said line (Runs n) e in
    let same = last_is_greatest said o.place in
    let test : nat_lt n (greatest_run said) ≡ false = o.enough in
    let least : greatest_run said ≤ n = grind (arith, nat_tests) in
    omega arith

-- ---- the machine

-- where it has not halted, a replay has come to its run count
pub record HasCome (said : List ReportLine) (m : Machine) : Type 0 where
  pub come : m.halt ≡ None → m.cpu.run ≡ last_run said

-- a run from a machine at its start
pub from_start : (m : Machine) (ds : List DeliveryAt) (n : ℕ) → m.cpu.run ≡ 0 → machine_run m ds n ≡ run_of_cycles n 0 (in_run m []) ds
from_start m ds n fresh =
    let all : n - 0 ≡ n = omega arith in
    ap (λ (r : ℕ). run_of_cycles (n - r) r (in_run m []) ds) fresh ∙ ap (λ (k : ℕ). run_of_cycles k 0 (in_run m []) ds) all

-- the cycles to a later run count
cycles_to_by : (ran : RunState) (last n : ℕ) (halt : Option ℕ) → ran.machine.halt ≡ halt → (ran.machine.halt ≡ None → ran.machine.cpu.run ≡ last) → core_cycles r2000 (n - last) ran ≡ core_cycles r2000 (n - ran.machine.cpu.run) ran
cycles_to_by ran last n (Some value) h come = halted_cycles (n - last) ran value h ∙ sym (halted_cycles (n - ran.machine.cpu.run) ran value h)
cycles_to_by ran last n None h come = ap (λ (r : ℕ). core_cycles r2000 (n - r) ran) (sym (come h))

cycles_to : (m : Machine) (said : List ReportLine) (n : ℕ) → m.cpu.run ≡ 0 → last_run said ≤ n → HasCome said (replayed m said).machine
    → run_of_cycles n 0 (in_run m []) (deliveries_of said) ≡ behind (replayed m said).bytes (reached n (replayed m said).machine)
cycles_to m said n fresh on has =
    let ran : RunState = replayed m said in
    let start = from_start m (deliveries_of said) (last_run said) fresh in
    let sum : n ≡ last_run said + (n - last_run said) = omega arith in
    let here : 0 + last_run said ≡ last_run said = omega arith in
    let due : AreDue (0 + last_run said) (deliveries_of said) = subst (λ (k : ℕ). AreDue k (deliveries_of said)) (sym here) (all_due said) in
    cycles_more (last_run said) (n - last_run said) n 0 (in_run m []) (deliveries_of said) sum due
    ∙ (ap (core_cycles r2000 (n - last_run said)) (sym start)
    ∙ (cycles_to_by ran (last_run said) n ran.machine.halt refl has.come
    ∙ cycles_from (n - ran.machine.cpu.run) ran.machine ran.bytes))

-- a line that does nothing
same_line : (m : Machine) (said : List ReportLine) (x : ReportLine) → deliveries_of (x ∷ []) ≡ [] → run_of x ≡ 0 → replayed m (said ++ x ∷ []) ≡ replayed m said
same_line m said x none zero_run =
    let same : last_run (said ++ x ∷ []) ≡ last_run said = last_more said x ∙ (ap (max (last_run said)) zero_run ∙ grind arith) in
    let ds : deliveries_of (said ++ x ∷ []) ≡ deliveries_of said = deliveries_more said x ∙ (ap (λ (e : List DeliveryAt). deliveries_of said ++ e) none ∙ append-nil (deliveries_of said)) in
    ap (λ (n : ℕ). machine_run m (deliveries_of (said ++ x ∷ [])) n) same ∙ ap (λ (e : List DeliveryAt). machine_run m e (last_run said)) ds

quiet_line : (m : Machine) (said : List ReportLine) (x : ReportLine) → deliveries_of (x ∷ []) ≡ [] → run_of x ≡ 0 → replayed m (said ++ x ∷ []) ≡ behind (replayed m said).bytes (in_run (replayed m said).machine [])
quiet_line m said x none zero_run = same_line m said x none zero_run ∙ ap (in_run (replayed m said).machine) (sym (append-nil (replayed m said).bytes))

-- the replay of one line more is that of the line, behind the bytes of the lines before it
pub line_more : (m : Machine) (said : List ReportLine) (line : List ℕ) (x : ReportLine) → m.cpu.run ≡ 0 → order_fault (order_state said) line x ≡ None → HasCome said (replayed m said).machine
    → replayed m (said ++ x ∷ []) ≡ behind (replayed m said).bytes (after_line x (replayed m said).machine)
line_more m said line (Delivery run event) fresh e has =
    let on = delivery_on said line run event e in
    let ran : RunState = replayed m said in
    let d : DeliveryAt = record { run = run; event = event } in
    let last : last_run (said ++ Delivery run event ∷ []) ≡ run = last_more said (Delivery run event) ∙ grind arith in
    let here : 0 + run ≡ run = omega arith in
    let due : AreDue (0 + run) (deliveries_of said) = due_up (deliveries_of said) (last_run said) (0 + run) (omega arith) (all_due said) in
    ap (λ (ds : List DeliveryAt). machine_run m ds (last_run (said ++ Delivery run event ∷ []))) (deliveries_more said (Delivery run event))
    ∙ (ap (λ (n : ℕ). machine_run m (deliveries_of said ++ d ∷ []) n) last
    ∙ (from_start m (deliveries_of said ++ d ∷ []) run fresh
    ∙ (delivery_more run 0 (in_run m []) (deliveries_of said) d (sym here) due
    ∙ (ap (λ (q : RunState). after_delivery q event) (cycles_to m said run fresh on has)
    ∙ delivery_behind ran.bytes (reached run ran.machine) event))))
line_more m said line (Runs n) fresh e has =
    let on = runs_on said line n e in
    let last : last_run (said ++ Runs n ∷ []) ≡ n = last_more said (Runs n) ∙ grind arith in
    ap (λ (ds : List DeliveryAt). machine_run m ds (last_run (said ++ Runs n ∷ []))) (deliveries_more said (Runs n) ∙ append-nil (deliveries_of said))
    ∙ (ap (λ (k : ℕ). machine_run m (deliveries_of said) k) last
    ∙ (from_start m (deliveries_of said) n fresh ∙ cycles_to m said n fresh on has))
line_more m said line Other fresh e has = quiet_line m said Other refl refl
line_more m said line Ticks fresh e has = quiet_line m said Ticks refl refl
line_more m said line Bytes fresh e has = quiet_line m said Bytes refl refl
line_more m said line Ending fresh e has = quiet_line m said Ending refl refl

-- ---- the run count

delivery_run_by : (ran : RunState) (event : Event) (halt : Option ℕ) → (after_delivery_unless ran event halt).machine.cpu.run ≡ ran.machine.cpu.run
delivery_run_by ran event (Some value) = refl
delivery_run_by ran event None = refl

delivery_halt_by : (ran : RunState) (event : Event) (halt : Option ℕ) → (after_delivery_unless ran event halt).machine.halt ≡ ran.machine.halt
delivery_halt_by ran event (Some value) = refl
delivery_halt_by ran event None = refl

none_before : (n : ℕ) (m : Machine) (halt : Option ℕ) → m.halt ≡ halt → (core_cycles r2000 n (in_run m [])).machine.halt ≡ None → m.halt ≡ None
none_before n m (Some value) h after = absurd (let e : Some value ≡ None = sym h ∙ (sym (ap (λ (q : RunState). q.machine.halt) (halted_cycles n (in_run m []) value h)) ∙ after) in cc)
none_before n m None h after = h

reached_run : (m : Machine) (last n : ℕ) → (m.halt ≡ None → m.cpu.run ≡ last) → last ≤ n → n < 2 ^ 64 → (reached n m).machine.halt ≡ None → (reached n m).machine.cpu.run ≡ n
reached_run m last n come on small after =
    let running = none_before (n - m.cpu.run) m m.halt refl after in
    let here = come running in
    let counted = (cycles_count (n - m.cpu.run) (in_run m []) (omega arith)).reaches after in
    counted ∙ omega arith

pub has_come_none : (m : Machine) → m.cpu.run ≡ 0 → HasCome [] m
has_come_none m fresh = record { come = λ h. fresh }

stays_come : (m m' : Machine) (said : List ReportLine) (x : ReportLine) → run_of x ≡ 0 → HasCome said m → m' ≡ m → HasCome (said ++ x ∷ []) m'
stays_come m m' said x zero_run has is =
    let same : last_run (said ++ x ∷ []) ≡ last_run said = last_more said x ∙ (ap (max (last_run said)) zero_run ∙ grind arith) in
    record { come = λ after. ap (λ (q : Machine). q.cpu.run) is ∙ (has.come (sym (ap (λ (q : Machine). q.halt) is) ∙ after) ∙ sym same) }

pub has_come : (m m' : Machine) (said : List ReportLine) (line : List ℕ) (x : ReportLine) → run_of x < 2 ^ 64 → order_fault (order_state said) line x ≡ None → HasCome said m → m' ≡ (after_line x m).machine → HasCome (said ++ x ∷ []) m'
has_come m m' said line (Delivery run event) small e has is =
    let on = delivery_on said line run event e in
    let last : last_run (said ++ Delivery run event ∷ []) ≡ run = last_more said (Delivery run event) ∙ grind arith in
    let r : RunState = reached run m in
    record {
      come = λ after.
          let halt : r.machine.halt ≡ None = sym (delivery_halt_by r event r.machine.halt) ∙ (sym (ap (λ (q : Machine). q.halt) is) ∙ after) in
          ap (λ (q : Machine). q.cpu.run) is ∙ (delivery_run_by r event r.machine.halt ∙ (reached_run m (last_run said) run has.come on small halt ∙ sym last));
    }
has_come m m' said line (Runs n) small e has is =
    let on = runs_on said line n e in
    let last : last_run (said ++ Runs n ∷ []) ≡ n = last_more said (Runs n) ∙ grind arith in
    record {
      come = λ after.
          let halt : (reached n m).machine.halt ≡ None = sym (ap (λ (q : Machine). q.halt) is) ∙ after in
          ap (λ (q : Machine). q.cpu.run) is ∙ (reached_run m (last_run said) n has.come on small halt ∙ sym last);
    }
has_come m m' said line Other small e has is = stays_come m m' said Other refl has is
has_come m m' said line Ticks small e has is = stays_come m m' said Ticks refl has is
has_come m m' said line Bytes small e has is = stays_come m m' said Bytes refl has is
has_come m m' said line Ending small e has is = stays_come m m' said Ending refl has is
