-- What a timeline keeps, and what a run to a run count does to it.
use Rattle.std.specs.Prelude.{ℕ, ◌≡◌, ◌≢◌, ◌+◌, ◌*◌, ◌%◌, ◌<◌, ◌≤◌, ◌⊎◌, List, [], ◌∷◌, ◌++◌, replicate, length, slice_index_or, Some, None, IsSome}
use Rattle.std.specs.declared.option.Option.{Option}
use Rattle.s2_machine.specs.declared.deliveries.Delivery.{Delivery}
use Rattle.s2_ports.specs.Events.{IsEventInRange}
use Rattle.s2_machine.specs.Machine.{Machine}
use Rattle.s2_machine.specs.MachineRun.{later_deliveries}
use Rattle.s2_trace.specs.declared.numbers.TheConstants.{CHECKPOINTS, MOST_DELIVERIES}
use Rattle.s2_trace.specs.Timeline.{Timeline, reached}

abbrev pub slot : List (Option Machine) → ℕ → Option Machine
slot slots i = slice_index_or slots i None

-- the run count of a kept machine
abbrev pub kept_run : Option Machine → Option ℕ
kept_run None = None
kept_run (Some m) = Some m.cpu.run

-- of the machines that are kept up to run count n, this is the newest; where there is none, each is later
abbrev pub IsNewestTo : ℕ → List (Option Machine) → Option Machine → Type 0
IsNewestTo n slots None = (i : ℕ) (m : Machine) → slot slots i ≡ Some m → n < m.cpu.run
IsNewestTo n slots (Some newest) = (newest.cpu.run ≤ n) × ((i : ℕ) (m : Machine) → slot slots i ≡ Some m → m.cpu.run ≤ n → m.cpu.run ≤ newest.cpu.run)

-- a slot has it
abbrev pub IsLatestSlot : ℕ → List (Option Machine) → Option ℕ → Type 0
IsLatestSlot n slots None = IsNewestTo n slots None
IsLatestSlot n slots (Some i) = (i < length slots) × IsSome (slot slots i) × IsNewestTo n slots (slot slots i)

-- the numbers of the deliveries' events are in their ranges
abbrev pub AreInRange : List Delivery → Type 0
AreInRange [] = Unit {0}
AreInRange (d ∷ ds) = IsEventInRange d.event × AreInRange ds

-- the run counts of deliveries never fall from a run count on
abbrev pub NeverFall : ℕ → List Delivery → Type 0
NeverFall low [] = Unit {0}
NeverFall low (d ∷ ds) = (low ≤ d.run) × NeverFall d.run ds

-- no run count was asked for
pub record IsFresh (t : Timeline) : Type 0 where
  pub present_is : t.present ≡ t.start
  pub waiting_are : t.waiting ≡ t.deliveries

-- the present machine is that of its run count, and the deliveries up to there have acted
pub record IsHere (t : Timeline) : Type 0 where
  pub here : t.present ≡ reached t.start t.deliveries t.present.cpu.run
  pub wait : t.waiting ≡ later_deliveries t.present.cpu.run t.deliveries

-- each kept machine is that of its run count
abbrev pub AreSound : Timeline → Type 0
AreSound t = (i : ℕ) (m : Machine) → slot t.slots i ≡ Some m → m ≡ reached t.start t.deliveries m.cpu.run

-- what a timeline keeps
pub record IsTimeline (t : Timeline) : Type 0 where
  pub at_start : t.start.cpu.run ≡ 0
  pub some : 0 < t.every
  pub order : NeverFall 0 t.deliveries
  pub few : length t.deliveries ≤ MOST_DELIVERIES
  pub places : length t.slots ≡ CHECKPOINTS
  pub ready : IsFresh t ⊎ IsHere t
  pub sound : AreSound t

-- the program, the distance and the deliveries are the same
pub record IsSameProgram (old new : Timeline) : Type 0 where
  pub start_is : new.start ≡ old.start
  pub every_is : new.every ≡ old.every
  pub deliveries_are : new.deliveries ≡ old.deliveries

-- the slots after a run from one timeline to another: each of the last 16 multiples of the distance above a run count,
-- up to that of the present machine, is kept, and each slot stays in which none of them is kept
pub record Keeps (floor : ℕ) (old new : Timeline) : Type 0 where
  pub kept : (j : ℕ) → floor < j * new.every → j * new.every ≤ new.present.cpu.run → new.present.cpu.run < (j + CHECKPOINTS) * new.every
      → slot new.slots (j % CHECKPOINTS) ≡ Some (reached new.start new.deliveries (j * new.every))
  pub stays : (i : ℕ) → ((j : ℕ) → floor < j * new.every → j * new.every ≤ new.present.cpu.run → j % CHECKPOINTS ≢ i) → slot new.slots i ≡ slot old.slots i

-- a run to a run count that goes on
pub record IsOnTheWay (floor n : ℕ) (old new : Timeline) : Type 0 where
  pub at_start : new.start.cpu.run ≡ 0
  pub some : 0 < new.every
  pub same : IsSameProgram old new
  pub place : IsHere new
  pub within : new.present.cpu.run ≤ n
  pub places : length new.slots ≡ CHECKPOINTS
  pub keeps : Keeps floor old new
  pub sound : AreSound new

-- and one that is over
pub record HasArrived (floor n : ℕ) (old new : Timeline) : Type 0 where
  pub way : IsOnTheWay floor n old new
  pub present_is : new.present ≡ reached new.start new.deliveries n

-- a timeline before such a run: its machine was put back where its run count is above n, to the newest one that is kept up
-- to there, or to the started one
pub record IsPutBack (n : ℕ) (old new : Timeline) : Type 0 where
  pub same : IsSameProgram old new
  pub slots_are : new.slots ≡ old.slots
  pub ready : IsFresh new ⊎ IsHere new
  pub within : new.present.cpu.run ≤ n
  pub stays : old.present.cpu.run ≤ n → new.present ≡ old.present
  pub newest : n < old.present.cpu.run → (i : ℕ) (m : Machine) → slot old.slots i ≡ Some m → m.cpu.run ≤ n → m.cpu.run ≤ new.present.cpu.run

-- the machine is the started one again, and a kept one
abbrev pub restarted : Timeline → Timeline
restarted t = record t { present = t.start; waiting = t.deliveries }

abbrev pub resumed : Timeline → Machine → Timeline
resumed t m = record t { present = m; waiting = later_deliveries m.cpu.run t.deliveries }

-- one delivery more
abbrev pub pushed : Timeline → Delivery → Timeline
pushed t d = record t { deliveries = t.deliveries ++ d ∷ []; waiting = t.waiting ++ d ∷ [] }

-- a timeline at its start
abbrev pub fresh_timeline : Machine → ℕ → Timeline
fresh_timeline start every = record { start = start; every = every; deliveries = []; present = start; waiting = []; slots = replicate CHECKPOINTS None }
