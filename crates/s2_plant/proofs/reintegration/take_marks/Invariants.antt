use Rattle.std.proofs.Common.{◌≡◌}
use Rattle.s2_plant.proofs.TakenMarks.{with_marks}
use Rattle.s2_plant.proofs.reintegration.take_marks.Given as goal

abbrev pub invariant-loop-page : goal.invariant-loop-page
invariant-loop-page l = l.copying ≡ with_marks l.fn.copying l.lowest.marks l.page
