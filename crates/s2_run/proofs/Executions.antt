-- Runs without deliveries.
use Rattle.std.proofs.Common.{◌≡◌, ℕ, zero, suc, [], refl}
use Rattle.s2_machine.specs.R2000.{r2000}
use Rattle.s2_machine.specs.MachineRun.{RunState, after_cycle, run_of_cycles, core_cycles}

-- without deliveries a run is its cycles
pub run_is_cycles : (n run : ℕ) (ran : RunState) → run_of_cycles n run ran [] ≡ core_cycles r2000 n ran
run_is_cycles zero run ran = refl
run_is_cycles (suc n) run ran = run_is_cycles n (suc run) (after_cycle ran)
