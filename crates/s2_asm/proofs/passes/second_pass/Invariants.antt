use Rattle.s2_asm.proofs.LaterWalk.{Later}
use Rattle.s2_asm.proofs.passes.second_pass.Given as goal

abbrev pub invariant-loop-i : goal.invariant-loop-i
invariant-loop-i l = Later l.text l.rest l.labels l.building l.i
