-- A run of one machine under a list of deliveries, over any core, and that of the R2000.
use Rattle.std.specs.Prelude.{ℕ, zero, suc, ◌-◌, List, [], ◌∷◌, ◌++◌, nat_le, Some, None, if◌then◌else◌}
use Rattle.std.specs.declared.option.Option.{Option}
use Rattle.s2_ports.specs.declared.events.Event.{Event}
use Rattle.s2_device.specs.DeviceState.{device_after, lines_of}
use Rattle.s2_machine.specs.declared.deliveries.Delivery.{Delivery}
use Rattle.s2_machine.specs.Machine.{Machine, started}
use Rattle.s2_machine.specs.WriteBack.{with_lines}
use Rattle.s2_machine.specs.Cores.{Core, core_cycle}
use Rattle.s2_machine.specs.R2000.{r2000}

-- a machine, and the bytes that it has written to the console, in order
pub record RunState : Type 0 where
  pub machine : Machine
  pub bytes : List ℕ

-- the bytes of an optional byte
abbrev pub bytes_of : Option ℕ → List ℕ
bytes_of None = []
bytes_of (Some byte) = byte ∷ []

-- one cycle; after a halt nothing more happens
abbrev pub core_after_cycle_unless : Core → RunState → Option ℕ → RunState
core_after_cycle_unless k ran (Some value) = ran
core_after_cycle_unless k ran None = record { machine = (core_cycle k ran.machine).next; bytes = ran.bytes ++ bytes_of (core_cycle k ran.machine).out }

abbrev pub core_after_cycle : Core → RunState → RunState
core_after_cycle k ran = core_after_cycle_unless k ran ran.machine.halt

-- so many cycles without deliveries
abbrev pub core_cycles : Core → ℕ → RunState → RunState
core_cycles k zero ran = ran
core_cycles k (suc n) ran = core_cycles k n (core_after_cycle k ran)

-- an event acts on the device, and the processor sees the lines; after a halt nothing more happens
abbrev pub after_delivery_unless : RunState → Event → Option ℕ → RunState
after_delivery_unless ran event (Some value) = ran
after_delivery_unless ran event None =
    let d = device_after ran.machine.device event in
    record ran { machine = record ran.machine { device = d; cpu = with_lines ran.machine.cpu (lines_of d) } }

abbrev pub after_delivery : RunState → Event → RunState
after_delivery ran event = after_delivery_unless ran event ran.machine.halt

-- the deliveries that are due at a run count act in their order; the others are left
abbrev pub after_due_deliveries : RunState → ℕ → List Delivery → RunState
after_due_deliveries ran run [] = ran
after_due_deliveries ran run (d ∷ ds) = if nat_le d.run run then after_due_deliveries (after_delivery ran d.event) run ds else ran

abbrev pub later_deliveries : ℕ → List Delivery → List Delivery
later_deliveries run [] = []
later_deliveries run (d ∷ ds) = if nat_le d.run run then later_deliveries run ds else d ∷ ds

-- so many cycles from a run count on, each after the deliveries that are due before it, and then those
-- that are due after the last
abbrev pub core_run_of_cycles : Core → ℕ → ℕ → RunState → List Delivery → RunState
core_run_of_cycles k zero run ran ds = after_due_deliveries ran run ds
core_run_of_cycles k (suc n) run ran ds = core_run_of_cycles k n (suc run) (core_after_cycle k (after_due_deliveries ran run ds)) (later_deliveries run ds)

-- from a machine to a run count, under deliveries whose run counts never fall and lie between
abbrev pub core_machine_run : Core → Machine → List Delivery → ℕ → RunState
core_machine_run k m ds n = core_run_of_cycles k (n - m.cpu.run) m.cpu.run (record { machine = m; bytes = [] }) ds

-- the same of the R2000
abbrev pub after_cycle_unless : RunState → Option ℕ → RunState
after_cycle_unless ran halt = core_after_cycle_unless r2000 ran halt

abbrev pub after_cycle : RunState → RunState
after_cycle ran = core_after_cycle r2000 ran

abbrev pub run_of_cycles : ℕ → ℕ → RunState → List Delivery → RunState
run_of_cycles n run ran ds = core_run_of_cycles r2000 n run ran ds

abbrev pub machine_run : Machine → List Delivery → ℕ → RunState
machine_run m ds n = core_machine_run r2000 m ds n

-- a program alone: an entry and the two lists, under deliveries, to a run count
abbrev pub single_run : ℕ → List ℕ → List ℕ → List Delivery → ℕ → RunState
single_run entry local global ds n = machine_run (started entry local global) ds n
