use Rattle.std.proofs.Common.{◌≡◌, ℕ, ◌-◌, ◌<◌}
use Rattle.std.specs.Prelude.{Ok}
use Rattle.s2_triplex.specs.R2000Triplex.{r2000_triplex}
use Rattle.s2_plant.specs.StepParts.{blank_turn}
use Rattle.s2_plant.specs.StepPromises.{IsPlant}
use Rattle.s2_plant.specs.TickRuns.{after_ticks, answer_after}
use Rattle.s2_plant.proofs.plant.Plant.run_ticks.Given as goal

-- the ticks so far made nothing known
abbrev pub invariant-loop-run : goal.invariant-loop-run
invariant-loop-run l = record {
  within : l.before < l.n;
  silent : (j : ℕ) → j < l.before → answer_after r2000_triplex l.mask j l.fn.self ≡ Ok blank_turn;
  machine : l.self ≡ after_ticks r2000_triplex l.mask l.before l.fn.self;
  was : IsPlant l.fn.self;
  blank : l.turn ≡ blank_turn;
}

abbrev pub decreases-loop-run : goal.decreases-loop-run
decreases-loop-run l = l.n - l.before
