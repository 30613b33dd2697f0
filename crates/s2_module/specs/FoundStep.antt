-- For proofs alone: what a module keeps of the cycle that asked last.
use Rattle.std.specs.Prelude.{◌≡◌, ℕ, List, Some, None}
use Rattle.std.specs.declared.option.Option.{Option}
use Rattle.s2_cpu.specs.Processor.{Processor}
use Rattle.s2_machine.specs.InstructionRows.{step_of}
use Rattle.s2_machine.specs.StepRanges.{IsSound}
use Rattle.s2_machine.specs.declared.step.Step.{Step}

-- a step that was found is that of the next cycle
abbrev pub IsFound : Option Step → Processor → List ℕ → Type 0
IsFound None cpu local = Unit {0}
IsFound (Some step) cpu local = (step ≡ step_of cpu local) × IsSound step
