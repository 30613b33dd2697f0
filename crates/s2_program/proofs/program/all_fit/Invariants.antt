use Rattle.std.proofs.Common.{take}
use Rattle.s2_program.specs.Programs.{FitParts}
use Rattle.s2_program.proofs.program.all_fit.Given as goal

abbrev pub invariant-loop-part : goal.invariant-loop-part
invariant-loop-part l = FitParts (take l.part-index l.parts)
