-- No header before the index asks for dynamic linking or an interpreter.
use Rattle.std.proofs.Common.{◌≡◌}
use Rattle.s2_elf.proofs.HeaderLoops.{static_from}
use Rattle.s2_elf.proofs.conditions.static_fault.Given as goal

abbrev pub invariant-loop-i : goal.invariant-loop-i
invariant-loop-i l = static_from l.bytes 0 ≡ static_from l.bytes l.i
