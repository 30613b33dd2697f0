use Rattle.std.proofs.Common.{ap, ◌∙◌}
use Rattle.s2_voter.specs.Verdicts.{verdict_of}
use Rattle.s2_triplex.specs.TriplexState.{TriplexState}
use Rattle.s2_triplex.specs.R2000Triplex.{r2000_triplex}
use Rattle.s2_plant.specs.StepParts.{after_voters_turn, voters_turn}
use Rattle.s2_plant.proofs.parts.Parts.working_tick.Goals as goal

pub returns-clause-machine : goal.returns-clause-machine
returns-clause-machine c = c.decide.ensures.machine ∙ ap (λ (d : TriplexState). (after_voters_turn r2000_triplex d (verdict_of d.voter)).next) c.fire.ensures

pub returns-clause-turn : goal.returns-clause-turn
returns-clause-turn c = c.decide.ensures.turn ∙ ap (λ (d : TriplexState). voters_turn r2000_triplex d (verdict_of d.voter)) c.fire.ensures
