use Rattle.s2_trace.proofs.NewestKept.{IsBest}
use Rattle.s2_trace.proofs.checkpoint.latest.Given as goal

abbrev pub invariant-loop-i : goal.invariant-loop-i
invariant-loop-i l = IsBest l.n l.i l.slots l.best l.best_run
