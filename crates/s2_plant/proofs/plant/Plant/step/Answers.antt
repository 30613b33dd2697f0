use Rattle.std.proofs.Common.{◌≡◌, ◌<◌, ◌^◌, ap, sym, subst, ◌∙◌}
use Rattle.std.specs.Prelude.{None}
use Rattle.s2_triplex.specs.TriplexState.{TriplexState}
use Rattle.s2_triplex.specs.StepTurns.{act_answer, next_after_act}
use Rattle.s2_plant.specs.StepPromises.{ActPromises}
use Rattle.s2_plant.proofs.PlantSteps.{plant_acted}
use Rattle.s2_plant.proofs.PlantPromises.{act_promises, plant_facts}
use Rattle.s2_plant.proofs.ProperActs.{act_in_range}
use Rattle.s2_plant.proofs.plant.Plant.step.Goals as goal

pub act-requires-clause-act : goal.act-requires-clause-act
act-requires-clause-act c = act_in_range c.args.act.now c.requires.proper

pub act-requires-clause-events : goal.act-requires-clause-events
act-requires-clause-events c = subst (λ (d : TriplexState). d.accepted < 2 ^ 60) (sym c.self.view_is) c.requires.events

pub invariant_of-self : goal.invariant_of-self
invariant_of-self c =
    let running = subst (λ (d : TriplexState). d.halt ≡ None) (sym c.self.view_is) c.requires.running in
    let room = subst (λ (d : TriplexState). d.accepted < 2 ^ 60) (sym c.self.view_is) c.requires.events in
    rw c.act.ensures.machine (plant_acted _ c.args.act.now c.self.invariant running room (act_in_range c.args.act.now c.requires.proper))

pub returns-clause-machine : goal.returns-clause-machine
returns-clause-machine c = c.act.ensures.machine ∙ ap (λ (d : TriplexState). next_after_act d c.args.act.now) c.self.view_is

pub returns-clause-turn : goal.returns-clause-turn
returns-clause-turn c = c.act.ensures.turn ∙ ap (λ (d : TriplexState). act_answer d c.args.act.now) c.self.view_is

pub returns-clause-kept : goal.returns-clause-kept
returns-clause-kept c =
    let running = subst (λ (d : TriplexState). d.halt ≡ None) (sym c.self.view_is) c.requires.running in
    let room = subst (λ (d : TriplexState). d.accepted < 2 ^ 60) (sym c.self.view_is) c.requires.events in
    rw c.act.ensures.machine (plant_acted _ c.args.act.now c.self.invariant running room (act_in_range c.args.act.now c.requires.proper))

pub returns-clause-facts : goal.returns-clause-facts
returns-clause-facts c =
    let running = subst (λ (d : TriplexState). d.halt ≡ None) (sym c.self.view_is) c.requires.running in
    let room = subst (λ (d : TriplexState). d.accepted < 2 ^ 60) (sym c.self.view_is) c.requires.events in
    rw c.act.ensures.machine (plant_facts _ (plant_acted _ c.args.act.now c.self.invariant running room (act_in_range c.args.act.now c.requires.proper)))

pub returns-clause-tells : goal.returns-clause-tells
returns-clause-tells c =
    let running = subst (λ (d : TriplexState). d.halt ≡ None) (sym c.self.view_is) c.requires.running in
    subst (λ (d : TriplexState). ActPromises d c.args.act.now c.act.new.self c.act.result) c.self.view_is
    (rw (c.act.ensures.turn, c.act.ensures.machine) (act_promises _ c.args.act.now c.self.invariant running (act_in_range c.args.act.now c.requires.proper)))
