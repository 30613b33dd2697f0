-- One processor with flat memories.
use Rattle.std.specs.Prelude.{ℕ, List, None}
use Rattle.std.specs.declared.option.Option.{Option}
use Rattle.s2_cpu.specs.Processor.{Processor, start_of}
use Rattle.s2_device.specs.DeviceState.{Device, quiet_device}

-- the processor, its local list (local memory, then the boot store), the global list, the devices,
-- and the halt value once it has halted
pub record Machine : Type 0 where
  pub cpu : Processor
  pub local : List ℕ
  pub global : List ℕ
  pub device : Device
  pub halt : Option ℕ

-- the machine at the start of a program
abbrev pub started : ℕ → List ℕ → List ℕ → Machine
started entry local global = record { cpu = start_of entry; local = local; global = global; device = quiet_device; halt = None }
