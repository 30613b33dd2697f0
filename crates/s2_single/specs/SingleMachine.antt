-- What a call does to the machine of one processor, and what it gives.
use Rattle.std.specs.Prelude.{ℕ, zero, suc, List, ◌+◌, if◌then◌else◌}
use Rattle.std.specs.declared.option.Option.{Option}
use Rattle.s2_ports.specs.declared.events.Event.{Event}
use Rattle.s2_device.specs.DeviceState.{Device, device_after, lines_of}
use Rattle.s2_device.specs.declared.effect.Effect.{Effect}
use Rattle.s2_cpu.specs.Processor.{Processor}
use Rattle.s2_machine.specs.Machine.{Machine}
use Rattle.s2_machine.specs.WriteBack.{with_lines}
use Rattle.s2_machine.specs.LocalWork.{ask_of}
use Rattle.s2_machine.specs.Cores.{Outcome}
use Rattle.s2_machine.specs.Cycle.{cycle}
use Rattle.s2_machine.specs.MachineRun.{RunState}
use Rattle.s2_core.specs.Working.{is_local}

-- an event acts on the devices, and the processor sees their lines
abbrev pub after_event : Machine → Event → Machine
after_event m event = record m { device = device_after m.device event; cpu = with_lines m.cpu (lines_of (device_after m.device event)) }

-- a machine by its parts
abbrev pub machine_of : Processor → List ℕ → List ℕ → Device → Option ℕ → Machine
machine_of cpu local global device halt = record { cpu = cpu; local = local; global = global; device = device; halt = halt }

-- what a cycle gives outside: its byte for the console and its halt value, and no word
abbrev pub effect_by : Outcome → Effect
effect_by outcome = record { word = 0; out = outcome.out; halt = outcome.next.halt }

abbrev pub cycle_effect : Machine → Effect
cycle_effect m = effect_by (cycle m)

-- a machine within a run that has written these bytes so far
abbrev pub in_run : Machine → List ℕ → RunState
in_run m bytes = record { machine = m; bytes = bytes }

-- how many cycles a burst has: at most so many, up to the first that asks for an access, that one included
abbrev pub burst_cycles : ℕ → Machine → ℕ
burst_cycles zero m = 0
burst_cycles (suc n) m = if is_local (ask_of m.cpu m.local) then 1 + burst_cycles n (cycle m).next else 1
