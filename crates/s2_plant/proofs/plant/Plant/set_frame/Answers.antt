use Rattle.std.proofs.Common.{sym, subst}
use Rattle.s2_plant.specs.StepPromises.{IsFirstPlant}
use Rattle.s2_plant.proofs.PlantSteps.{plant_framed}
use Rattle.s2_plant.proofs.PlantPromises.{plant_facts}
use Rattle.s2_plant.proofs.plant.Plant.set_frame.Goals as goal

pub invariant_of-self : goal.invariant_of-self
invariant_of-self c = rw c.set_frame.ensures (plant_framed _ c.args.frame (subst IsFirstPlant (sym c.self.view_is) c.requires.first) c.requires.frame)

pub returns-clause-kept : goal.returns-clause-kept
returns-clause-kept c = rw c.set_frame.ensures (plant_framed _ c.args.frame (subst IsFirstPlant (sym c.self.view_is) c.requires.first) c.requires.frame)

pub returns-clause-facts : goal.returns-clause-facts
returns-clause-facts c =
    rw c.set_frame.ensures
    (plant_facts _ (plant_framed _ c.args.frame (subst IsFirstPlant (sym c.self.view_is) c.requires.first) c.requires.frame))
