-- What the machines above rest on: the R2000 is a core; and laws of every core.
use Rattle.std.specs.Prelude.{ℕ, ◌≡◌, ◌+◌, ◌%◌, ◌^◌, List, None}
use Rattle.s2_cpu.specs.Processor.{Processor}
use Rattle.s2_machine.specs.Machine.{Machine}
use Rattle.s2_machine.specs.Cores.{Core, IsCore, core_cycle}
use Rattle.s2_machine.specs.R2000.{r2000}
use Rattle.s2_machine.specs.MachineRun.{RunState, core_cycles}
use Rattle.s2_machine.specs.declared.ask.Ask.TheVariants.{Local}

abbrev pub R2000IsCore : Type 0
R2000IsCore = IsCore r2000

-- equal processors and local lists ask the same, and are equal after a cycle that asks nothing, and after one
-- that was answered the same
pub record SameCycle (k : Core) (p q : Processor) (local other : List ℕ) : Type 0 where
  pub ask_of : k.ask_of p local ≡ k.ask_of q other
  pub after_turn : k.after_turn p local ≡ k.after_turn q other
  pub local_after_turn : k.local_after_turn p local ≡ k.local_after_turn q other
  pub after_finish : (word lines : ℕ) → k.after_finish p local word lines ≡ k.after_finish q other word lines

abbrev pub EqualCycles : Type 0
EqualCycles = (k : Core) (p q : Processor) (local other : List ℕ) → p ≡ q → local ≡ other → SameCycle k p q local other

-- a cycle that asks nothing changes neither the global list, nor the devices, nor the halt value, and writes no
-- byte
pub record IsInside (k : Core) (m : Machine) : Type 0 where
  pub global : (core_cycle k m).next.global ≡ m.global
  pub device : (core_cycle k m).next.device ≡ m.device
  pub halt : (core_cycle k m).next.halt ≡ m.halt
  pub out : (core_cycle k m).out ≡ None

abbrev pub LocalCyclesStayInside : Type 0
LocalCyclesStayInside = (k : Core) (m : Machine) → k.ask_of m.cpu m.local ≡ Local → IsInside k m

-- a run of n and then m cycles is a run of n + m
abbrev pub RunsAdd : Type 0
RunsAdd = (k : Core) (n m : ℕ) (ran : RunState) → core_cycles k m (core_cycles k n ran) ≡ core_cycles k (n + m) ran

-- the run count grows by one in each cycle
abbrev pub EachCycleCounts : Type 0
EachCycleCounts = (k : Core) (m : Machine) → IsCore k → (core_cycle k m).next.cpu.run ≡ (m.cpu.run + 1) % 2 ^ 64
