use Rattle.s2_asm.proofs.Walk.{Going}
use Rattle.s2_asm.proofs.passes.first_pass.Given as goal

abbrev pub invariant-loop-i : goal.invariant-loop-i
invariant-loop-i l = Going l.text l.rest l.progress l.i
