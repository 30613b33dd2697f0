use Rattle.std.proofs.Common.{arith}
use Rattle.s2_plant.specs.TickRuns.{after_ticks}
use Rattle.s2_plant.proofs.parts.Parts.tick_on.Goals as goal

pub returns-else-is_clear : goal.returns-else-is_clear
unfolding after_ticks
returns-else-is_clear c = record {
  within = c.requires.some;
  silent = λ j low. absurd (omega (arith, low));
  answer = c.tick_into-refused.ensures.turn;
  machine = c.tick_into-refused.ensures.machine;
}
