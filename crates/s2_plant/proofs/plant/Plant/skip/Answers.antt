use Rattle.std.proofs.Common.{◌≡◌, ◌+◌, ◌≤◌, ◌^◌, sym, subst}
use Rattle.std.specs.Prelude.{None}
use Rattle.s2_triplex.specs.TriplexState.{TriplexState}
use Rattle.s2_plant.specs.TickRuns.{IsSkip}
use Rattle.s2_plant.proofs.PlantPromises.{plant_facts}
use Rattle.s2_plant.proofs.TickRuns.{skip_kept}
use Rattle.s2_plant.proofs.plant.Plant.skip.Goals as goal

pub invariant_of-self : goal.invariant_of-self
invariant_of-self c =
    let running = subst (λ (d : TriplexState). d.halt ≡ None) (sym c.self.view_is) c.requires.running in
    let room = subst (λ (d : TriplexState). d.ticks + c.args.n ≤ 2 ^ 40) (sym c.self.view_is) c.requires.ticks in
    skip_kept _ c.args.mask c.args.n _ _ c.skip.ensures c.self.invariant running room

pub returns-clause-skip : goal.returns-clause-skip
returns-clause-skip c = subst (λ (d : TriplexState). IsSkip d c.args.mask c.args.n c.skip.result c.skip.new.self) c.self.view_is c.skip.ensures

pub returns-clause-kept : goal.returns-clause-kept
returns-clause-kept c =
    let running = subst (λ (d : TriplexState). d.halt ≡ None) (sym c.self.view_is) c.requires.running in
    let room = subst (λ (d : TriplexState). d.ticks + c.args.n ≤ 2 ^ 40) (sym c.self.view_is) c.requires.ticks in
    skip_kept _ c.args.mask c.args.n _ _ c.skip.ensures c.self.invariant running room

pub returns-clause-facts : goal.returns-clause-facts
returns-clause-facts c =
    let running = subst (λ (d : TriplexState). d.halt ≡ None) (sym c.self.view_is) c.requires.running in
    let room = subst (λ (d : TriplexState). d.ticks + c.args.n ≤ 2 ^ 40) (sym c.self.view_is) c.requires.ticks in
    plant_facts _ (skip_kept _ c.args.mask c.args.n _ _ c.skip.ensures c.self.invariant running room)
