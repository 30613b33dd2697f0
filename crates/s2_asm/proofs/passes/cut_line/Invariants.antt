use Rattle.std.proofs.Common.{◌≡◌, ◌++◌, drop, take}
use Rattle.s2_asm.specs.Cutting.{cut}
use Rattle.s2_asm.proofs.passes.cut_line.Given as goal

abbrev pub invariant-loop-i : goal.invariant-loop-i
invariant-loop-i l = ((cut l.text).0 ≡ take l.i l.text ++ (cut (drop l.i l.text)).0) × ((cut l.text).1 ≡ (cut (drop l.i l.text)).1)
