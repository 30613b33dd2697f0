use Rattle.std.proofs.Common.{◌≡◌, ◌+◌, ◌≤◌, ◌^◌, sym, subst}
use Rattle.std.specs.Prelude.{None}
use Rattle.s2_triplex.specs.TriplexState.{TriplexState}
use Rattle.s2_plant.specs.TickRuns.{IsTickRun, answer_of}
use Rattle.s2_plant.proofs.PlantSteps.{delivered_room, few_copied, never_saved}
use Rattle.s2_plant.proofs.TickRuns.{run_kept}
use Rattle.s2_plant.proofs.plant.Plant.tick_on.Goals as goal

pub tick_on-requires-clause-delivered : goal.tick_on-requires-clause-delivered
tick_on-requires-clause-delivered c = delivered_room _ c.self.invariant

pub tick_on-requires-clause-open : goal.tick_on-requires-clause-open
tick_on-requires-clause-open c = never_saved _ c.self.invariant

pub tick_on-requires-clause-few : goal.tick_on-requires-clause-few
tick_on-requires-clause-few c = few_copied _ c.self.invariant

pub invariant_of-self : goal.invariant_of-self
invariant_of-self c =
    let running = subst (λ (d : TriplexState). d.halt ≡ None) (sym c.self.view_is) c.requires.running in
    let room = subst (λ (d : TriplexState). d.ticks + c.args.limit ≤ 2 ^ 40) (sym c.self.view_is) c.requires.ticks in
    run_kept _ c.args.mask c.args.limit _ _ _ c.tick_on.ensures c.self.invariant running room

pub returns-clause-run : goal.returns-clause-run
returns-clause-run c = subst (λ (d : TriplexState). IsTickRun d c.args.mask c.args.limit c.tick_on.result.before c.tick_on.new.self (answer_of c.tick_on.result.refused c.tick_on.new.turn)) c.self.view_is c.tick_on.ensures

pub returns-clause-kept : goal.returns-clause-kept
returns-clause-kept c =
    let running = subst (λ (d : TriplexState). d.halt ≡ None) (sym c.self.view_is) c.requires.running in
    let room = subst (λ (d : TriplexState). d.ticks + c.args.limit ≤ 2 ^ 40) (sym c.self.view_is) c.requires.ticks in
    run_kept _ c.args.mask c.args.limit _ _ _ c.tick_on.ensures c.self.invariant running room
