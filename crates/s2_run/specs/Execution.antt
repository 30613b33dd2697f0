-- The machine of one processor at the start of a program, and where it comes to without deliveries.
use Rattle.std.specs.Prelude.{ℕ, []}
use Rattle.s2_machine.specs.Machine.{Machine, started}
use Rattle.s2_machine.specs.R2000.{r2000}
use Rattle.s2_machine.specs.MachineRun.{RunState, core_cycles}
use Rattle.s2_single.specs.SingleMachine.{in_run}
use Rattle.s2_elf.specs.MemoryImage.{MemoryImage}

-- the machine of a program at its start
abbrev pub started_image : MemoryImage → Machine
started_image image = started image.entry image.local image.global

-- where a machine comes to in at most n cycles, at its halt or after the n-th, with its console bytes
abbrev pub run_within : Machine → ℕ → RunState
run_within m n = core_cycles r2000 n (in_run m [])
