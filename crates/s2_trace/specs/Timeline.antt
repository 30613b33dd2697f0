-- A run of one processor that is stopped at chosen run counts, with machines that are kept on the way.
use Rattle.std.specs.Prelude.{ℕ, ◌-◌, ◌*◌, ◌/◌, ◌%◌, ◌==◌, ◌&&◌, min, max, nat_lt, List, [], ◌∷◌, slice_set, Some, Bool, if◌then◌else◌}
use Rattle.std.specs.declared.option.Option.{Option}
use Rattle.s2_ports.specs.declared.events.Event.{Event}
use Rattle.s2_machine.specs.declared.deliveries.Delivery.{Delivery}
use Rattle.s2_machine.specs.Machine.{Machine}
use Rattle.s2_machine.specs.R2000.{r2000}
use Rattle.s2_machine.specs.MachineRun.{core_cycles, after_delivery, after_due_deliveries, later_deliveries, run_of_cycles}
use Rattle.s2_single.specs.SingleMachine.{in_run}
use Rattle.s2_trace.specs.declared.numbers.TheConstants.{CHECKPOINTS}

-- the machine at the start, the distance of the run counts at which a machine is kept, all deliveries, the present
-- machine, the deliveries that have not acted on it, and the kept machines
pub record Timeline : Type 0 where
  pub start : Machine
  pub every : ℕ
  pub deliveries : List Delivery
  pub present : Machine
  pub waiting : List Delivery
  pub slots : List (Option Machine)

-- a machine after so many cycles without deliveries, or at its halt
abbrev pub after_cycles : ℕ → Machine → Machine
after_cycles n m = (core_cycles r2000 n (in_run m [])).machine

-- a machine after an event, which does nothing after a halt
abbrev pub after_event_unless : Machine → Event → Machine
after_event_unless m event = (after_delivery (in_run m []) event).machine

-- a machine after the deliveries that are due at its run count
abbrev pub after_due : List Delivery → Machine → Machine
after_due ds m = (after_due_deliveries (in_run m []) m.cpu.run ds).machine

-- the machine that a started machine is at a run count, under all deliveries
abbrev pub reached : Machine → List Delivery → ℕ → Machine
reached start ds n = (run_of_cycles n 0 (in_run start []) ds).machine

-- the deliveries act that are due
abbrev pub settled : Timeline → Timeline
settled t = record t { present = after_due t.waiting t.present; waiting = later_deliveries t.present.cpu.run t.waiting }

-- how many cycles there are before something is to be done: to the run count that is asked for, to the next one at
-- which a machine is kept, or to the next delivery
abbrev pub to_delivery : ℕ → ℕ → List Delivery → ℕ
to_delivery most run [] = most
to_delivery most run (d ∷ ds) = min most (d.run - run)

abbrev pub to_checkpoint : ℕ → ℕ → ℕ
to_checkpoint every run = every - run % every

abbrev pub cycles_ahead : ℕ → Timeline → ℕ
cycles_ahead n t = to_delivery (min (n - t.present.cpu.run) (to_checkpoint t.every t.present.cpu.run)) t.present.cpu.run t.waiting

abbrev pub after_stretch : ℕ → Timeline → Timeline
after_stretch n t = record t { present = after_cycles (cycles_ahead n t) t.present }

-- the slot of a run count, and whether the machine is to be kept at it
abbrev pub slot_of : ℕ → ℕ → ℕ
slot_of every run = run / every % CHECKPOINTS

abbrev pub is_checkpoint : ℕ → ℕ → ℕ → Bool
is_checkpoint every floor run = nat_lt floor run && run % every == 0

abbrev pub with_checkpoint : ℕ → Timeline → Timeline
with_checkpoint floor t =
    if is_checkpoint t.every floor t.present.cpu.run then record t { slots = slice_set t.slots (slot_of t.every t.present.cpu.run) (Some t.present) } else t

-- the run count above which machines are kept on a run from one run count to another: the last 16 multiples are above it
abbrev pub keeps_above : ℕ → ℕ → ℕ → ℕ
keeps_above every floor end = max floor (end - CHECKPOINTS * every)

-- one stretch of a run to a run count: the cycles, the deliveries that are due, and the machine is kept
abbrev pub after_step : ℕ → ℕ → Timeline → Timeline
after_step floor n t = with_checkpoint floor (settled (after_stretch n t))
