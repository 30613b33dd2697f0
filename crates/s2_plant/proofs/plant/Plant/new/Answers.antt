use Rattle.s2_triplex_laws.proofs.FirstState.{first_frame}
use Rattle.s2_plant.proofs.PlantSteps.{plant_started}
use Rattle.s2_plant.proofs.PlantPromises.{plant_facts}
use Rattle.s2_plant.proofs.plant.Plant.new.Goals as goal

pub invariant_of-result : goal.invariant_of-result
invariant_of-result c = rw c.in_ok-parts.ensures.machine (plant_started 1024 c.args.image.now.entry c.args.image.now.local c.args.image.now.global first_frame c.in_ok-parts.ensures.local c.in_ok-parts.ensures.global)

pub returns-clause-kept : goal.returns-clause-kept
returns-clause-kept c = rw c.in_ok-parts.ensures.machine (plant_started 1024 c.args.image.now.entry c.args.image.now.local c.args.image.now.global first_frame c.in_ok-parts.ensures.local c.in_ok-parts.ensures.global)

pub returns-clause-facts : goal.returns-clause-facts
returns-clause-facts c =
    rw c.in_ok-parts.ensures.machine
    (plant_facts _
    (plant_started 1024 c.args.image.now.entry c.args.image.now.local c.args.image.now.global first_frame c.in_ok-parts.ensures.local c.in_ok-parts.ensures.global))
