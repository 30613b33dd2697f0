-- The state of one processor at any run count, under a list of deliveries.
use Rattle.std.specs.Prelude.{ℕ, ◌≡◌, ◌≢◌, ◌+◌, ◌*◌, ◌%◌, ◌<◌, ◌≤◌, Bool, true, false, nat_le, List, [], ◌∷◌, replicate, Some, None, if◌then◌else◌}
use Rattle.std.specs.declared.option.Option.{Option}
use Rattle.s2_machine.specs.declared.deliveries.Delivery.{Delivery}
use Rattle.s2_machine.specs.Machine.{Machine, started}
use Rattle.s2_machine.specs.MachineRun.{machine_run}
use Rattle.s2_elf.specs.MemoryImage.{MemoryImage}
use Rattle.s2_trace.specs.declared.numbers.TheConstants.{CHECKPOINTS}
use Rattle.s2_trace.specs.Timeline.{Timeline}
use Rattle.s2_trace.specs.Travel.{slot, IsFresh, IsHere, IsTimeline}

-- the machine at the start, the distance of the run counts at which a machine is kept, the deliveries, the present
-- machine, the slots, each of which is empty or keeps a machine, and whether a run count was asked for
pub record TraceState : Type 0 where
  pub start : Machine
  pub every : ℕ
  pub deliveries : List Delivery
  pub present : Machine
  pub slots : List (Option Machine)
  pub asked : Bool

-- the deliveries whose run counts are at most n
abbrev pub deliveries_to : ℕ → List Delivery → List Delivery
deliveries_to n [] = []
deliveries_to n (d ∷ ds) = if nat_le d.run n then d ∷ deliveries_to n ds else deliveries_to n ds

-- the machine at a run count: that of the processor alone, under the deliveries up to there
abbrev pub machine_at : TraceState → ℕ → Machine
machine_at t n = (machine_run t.start (deliveries_to n t.deliveries) n).machine

-- the slots after a run from one run count on: each of the last 16 multiples of the distance that are passed or reached
-- is kept, and each slot stays in which none of them is kept
pub record KeepsLast (old new : TraceState) : Type 0 where
  pub kept : (j : ℕ) → old.present.cpu.run < j * old.every → j * old.every ≤ new.present.cpu.run → new.present.cpu.run < (j + CHECKPOINTS) * old.every
      → slot new.slots (j % CHECKPOINTS) ≡ Some (machine_at old (j * old.every))
  pub stays : (i : ℕ) → ((j : ℕ) → old.present.cpu.run < j * old.every → j * old.every ≤ new.present.cpu.run → j % CHECKPOINTS ≢ i) → slot new.slots i ≡ slot old.slots i

-- what a trace keeps: nothing is kept before a run count was asked for
abbrev pub IsAsked : Timeline → Bool → Type 0
IsAsked t false = IsFresh t × ((i : ℕ) → slot t.slots i ≡ None)
IsAsked t true = IsHere t

pub record IsTrace (t : Timeline) (asked : Bool) : Type 0 where
  pub timeline : IsTimeline t
  pub known : IsAsked t asked

-- the run counts of deliveries are at most this
abbrev pub AreUpTo : ℕ → List Delivery → Type 0
AreUpTo run [] = Unit {0}
AreUpTo run (d ∷ ds) = (d.run ≤ run) × AreUpTo run ds

-- a trace at its start
abbrev pub fresh_trace : MemoryImage → ℕ → TraceState
fresh_trace image every =
    let start = started image.entry image.local image.global in
    record { start = start; every = every; deliveries = []; present = start; slots = replicate CHECKPOINTS None; asked = false }
