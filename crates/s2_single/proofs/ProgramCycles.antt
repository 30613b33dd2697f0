-- Cycles of a program on the single machine, one after another.
use Rattle.std.proofs.Common.{◌≡◌, ℕ, zero, suc, ◌+◌, ◌%◌, ◌<◌, ◌≤◌, List, [], ◌++◌, length, append_assoc, append-nil, length-append, refl, sym, ap, arith, ◌∙◌, subst}
use Rattle.std.specs.Prelude.{Some, None, ◌^◌}
use Rattle.std.specs.declared.option.Option.{Option}
use Rattle.s2_ports.specs.declared.events.Event.{Event}
use Rattle.s2_machine.specs.Machine.{Machine}
use Rattle.s2_machine.specs.R2000.{r2000}
use Rattle.s2_machine.specs.Cycle.{cycle}
use Rattle.s2_machine.specs.MachineRun.{RunState, bytes_of, core_cycles, after_cycle, after_cycle_unless, after_delivery, after_delivery_unless}
use Rattle.s2_core.proofs.CoreFacts.{r2000_core, each_cycle_counts}
use Rattle.s2_single.specs.SingleMachine.{in_run}

-- a machine that has halted stays
pub halted_cycles : (n : ℕ) (ran : RunState) (value : ℕ) → ran.machine.halt ≡ Some value → core_cycles r2000 n ran ≡ ran
halted_cycles zero ran value h = refl
halted_cycles (suc n) ran value h =
    ap (λ (o : Option ℕ). core_cycles r2000 n (after_cycle_unless ran o)) h ∙ halted_cycles n ran value h

-- a cycle of a machine that has not halted
pub cycled_is : (ran : RunState) → ran.machine.halt ≡ None → after_cycle ran ≡ in_run (cycle ran.machine).next (ran.bytes ++ bytes_of (cycle ran.machine).out)
cycled_is ran h = ap (λ (o : Option ℕ). after_cycle_unless ran o) h

-- it counts
pub cycle_counts : (ran : RunState) → ran.machine.halt ≡ None → ran.machine.cpu.run + 1 < 2 ^ 64 → (after_cycle ran).machine.cpu.run ≡ ran.machine.cpu.run + 1
cycle_counts ran h small =
    let count : (cycle ran.machine).next.cpu.run ≡ (ran.machine.cpu.run + 1) % 2 ^ 64 = each_cycle_counts r2000 ran.machine r2000_core in
    ap (λ (q : RunState). q.machine.cpu.run) (cycled_is ran h) ∙ (count ∙ omega arith)

-- ---- bytes that were written before

-- a run, behind bytes that were written before it
abbrev pub behind : List ℕ → RunState → RunState
behind bytes ran = in_run ran.machine (bytes ++ ran.bytes)

cycle_behind : (bytes : List ℕ) (ran : RunState) (halt : Option ℕ) → after_cycle_unless (behind bytes ran) halt ≡ behind bytes (after_cycle_unless ran halt)
cycle_behind bytes ran (Some value) = refl
cycle_behind bytes ran None = ap (in_run (cycle ran.machine).next) (append_assoc bytes ran.bytes (bytes_of (cycle ran.machine).out))

cycles_behind : (n : ℕ) (bytes : List ℕ) (ran : RunState) → core_cycles r2000 n (behind bytes ran) ≡ behind bytes (core_cycles r2000 n ran)
cycles_behind zero bytes ran = refl
cycles_behind (suc n) bytes ran =
    ap (core_cycles r2000 n) (cycle_behind bytes ran ran.machine.halt) ∙ cycles_behind n bytes (after_cycle ran)

pub cycles_from : (n : ℕ) (m : Machine) (bytes : List ℕ) → core_cycles r2000 n (in_run m bytes) ≡ behind bytes (core_cycles r2000 n (in_run m []))
cycles_from n m bytes = ap (λ (x : List ℕ). core_cycles r2000 n (in_run m x)) (sym (append-nil bytes)) ∙ cycles_behind n bytes (in_run m [])

delivery_behind_by : (bytes : List ℕ) (ran : RunState) (event : Event) (halt : Option ℕ) → after_delivery_unless (behind bytes ran) event halt ≡ behind bytes (after_delivery_unless ran event halt)
delivery_behind_by bytes ran event (Some value) = refl
delivery_behind_by bytes ran event None = refl

pub delivery_behind : (bytes : List ℕ) (ran : RunState) (event : Event) → after_delivery (behind bytes ran) event ≡ behind bytes (after_delivery ran event)
delivery_behind bytes ran event = delivery_behind_by bytes ran event ran.machine.halt

-- ---- how many cycles were run

-- a cycle writes at most one byte
pub bytes_few : (o : Option ℕ) → length (bytes_of o) ≤ 1
bytes_few None = omega arith
bytes_few (Some b) = omega arith

-- at most n cycles were run, n of them where the machine has not halted, and each wrote at most one byte
pub record Counted (n : ℕ) (before after : RunState) : Type 0 where
  pub reaches : after.machine.halt ≡ None → after.machine.cpu.run ≡ before.machine.cpu.run + n
  pub within : after.machine.cpu.run ≤ before.machine.cpu.run + n
  pub bytes : before.machine.cpu.run + length after.bytes ≤ after.machine.cpu.run + length before.bytes

counted_none : (n : ℕ) (ran : RunState) (value : ℕ) → ran.machine.halt ≡ Some value → Counted n ran ran
counted_none n ran value h = record { reaches = λ e. absurd (let f : Some value ≡ None = sym h ∙ e in cc); within = omega arith; bytes = omega arith }

counted_more : (n : ℕ) (before ran after : RunState) → ran.machine.cpu.run ≡ before.machine.cpu.run + 1 → length ran.bytes ≤ length before.bytes + 1 → Counted n ran after → Counted (suc n) before after
counted_more n before ran after one few c = record {
  reaches = λ e. let all = c.reaches e in omega arith;
  within = let w = c.within in omega arith;
  bytes = let b = c.bytes in omega arith;
}

counts_by : (n : ℕ) (ran : RunState) (halt : Option ℕ) → ran.machine.halt ≡ halt → ran.machine.cpu.run + suc n < 2 ^ 64
    → ((next : RunState) → next.machine.cpu.run + n < 2 ^ 64 → Counted n next (core_cycles r2000 n next)) → Counted (suc n) ran (core_cycles r2000 (suc n) ran)
counts_by n ran (Some value) h small rest =
    subst (λ (q : RunState). Counted (suc n) ran q) (sym (halted_cycles (suc n) ran value h)) (counted_none (suc n) ran value h)
counts_by n ran None h small rest =
    let is = cycled_is ran h in
    let one = cycle_counts ran h (omega arith) in
    let size : length (after_cycle ran).bytes ≡ length ran.bytes + length (bytes_of (cycle ran.machine).out) =
    ap (λ (q : RunState). length q.bytes) is ∙ length-append ran.bytes (bytes_of (cycle ran.machine).out) in
    let few = bytes_few (cycle ran.machine).out in
    counted_more n ran (after_cycle ran) (core_cycles r2000 n (after_cycle ran)) one (omega arith) (rest (after_cycle ran) (omega arith))

pub cycles_count : (n : ℕ) (ran : RunState) → ran.machine.cpu.run + n < 2 ^ 64 → Counted n ran (core_cycles r2000 n ran)
cycles_count zero ran small = record { reaches = λ e. omega arith; within = omega arith; bytes = omega arith }
cycles_count (suc n) ran small = counts_by n ran ran.machine.halt refl small (λ next few. cycles_count n next few)
