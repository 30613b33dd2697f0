use Rattle.std.proofs.Common.{◌≡◌, ◌<◌, ◌^◌, ap, sym, subst, ◌∙◌}
use Rattle.std.specs.Prelude.{None}
use Rattle.s2_triplex.specs.R2000Triplex.{r2000_triplex}
use Rattle.s2_triplex.specs.TriplexState.{TriplexState}
use Rattle.s2_triplex.specs.StepTurns.{next_after_tick, tick_answer}
use Rattle.s2_plant.specs.StepPromises.{TickPromises}
use Rattle.s2_plant.proofs.PlantSteps.{delivered_room, few_copied, never_saved, plant_ticked}
use Rattle.s2_plant.proofs.PlantPromises.{plant_facts, tick_promises}
use Rattle.s2_plant.proofs.plant.Plant.step_tick.Goals as goal

pub tick-requires-clause-delivered : goal.tick-requires-clause-delivered
tick-requires-clause-delivered c = delivered_room _ c.self.invariant

pub tick-requires-clause-open : goal.tick-requires-clause-open
tick-requires-clause-open c = never_saved _ c.self.invariant

pub tick-requires-clause-few : goal.tick-requires-clause-few
tick-requires-clause-few c = few_copied _ c.self.invariant

pub invariant_of-self : goal.invariant_of-self
invariant_of-self c =
    let running = subst (λ (d : TriplexState). d.halt ≡ None) (sym c.self.view_is) c.requires.running in
    let room = subst (λ (d : TriplexState). d.ticks < 2 ^ 40) (sym c.self.view_is) c.requires.ticks in
    rw c.tick.ensures.machine (plant_ticked _ c.args.mask c.self.invariant running room)

pub returns-clause-machine : goal.returns-clause-machine
returns-clause-machine c = c.tick.ensures.machine ∙ ap (λ (d : TriplexState). next_after_tick r2000_triplex d c.args.mask) c.self.view_is

pub returns-clause-turn : goal.returns-clause-turn
returns-clause-turn c = c.tick.ensures.turn ∙ ap (λ (d : TriplexState). tick_answer r2000_triplex d c.args.mask) c.self.view_is

pub returns-clause-kept : goal.returns-clause-kept
returns-clause-kept c =
    let running = subst (λ (d : TriplexState). d.halt ≡ None) (sym c.self.view_is) c.requires.running in
    let room = subst (λ (d : TriplexState). d.ticks < 2 ^ 40) (sym c.self.view_is) c.requires.ticks in
    rw c.tick.ensures.machine (plant_ticked _ c.args.mask c.self.invariant running room)

pub returns-clause-facts : goal.returns-clause-facts
returns-clause-facts c =
    let running = subst (λ (d : TriplexState). d.halt ≡ None) (sym c.self.view_is) c.requires.running in
    let room = subst (λ (d : TriplexState). d.ticks < 2 ^ 40) (sym c.self.view_is) c.requires.ticks in
    rw c.tick.ensures.machine (plant_facts _ (plant_ticked _ c.args.mask c.self.invariant running room))

pub returns-clause-tells : goal.returns-clause-tells
returns-clause-tells c =
    let running = subst (λ (d : TriplexState). d.halt ≡ None) (sym c.self.view_is) c.requires.running in
    let room = subst (λ (d : TriplexState). d.ticks < 2 ^ 40) (sym c.self.view_is) c.requires.ticks in
    subst (λ (d : TriplexState). TickPromises d c.args.mask c.tick.new.self c.tick.result) c.self.view_is
    (rw (c.tick.ensures.turn, c.tick.ensures.machine) (tick_promises _ c.args.mask c.self.invariant running room))
