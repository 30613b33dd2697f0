use Rattle.std.proofs.Common.{sym, ap, refl}
use Rattle.s2_machine.specs.Cores.{Outcome}
use Rattle.s2_single.specs.SingleMachine.{machine_of}
use Rattle.s2_single.proofs.SingleCycles.{cycle_of_parts, effect_of_cycle, run_of_cycle}
use Rattle.s2_single.proofs.single.Single.cycle.Goals as goal

pub returns-clause-machine : goal.returns-clause-machine
returns-clause-machine c =
    sym (ap (λ (o : Outcome). o.next) (cycle_of_parts c.args.self.now _ _ _ _ c.self.inside.halt _ c.self.view_is c.requires c.cycle_of-out.ensures.cycle))

pub returns-clause-effect : goal.returns-clause-effect
returns-clause-effect c =
    let new = c.cycle_of-out.new in
    effect_of_cycle c.args.self.now (machine_of new.cpu new.local new.global new.board new.halt) _ refl
    (cycle_of_parts c.args.self.now _ _ _ _ c.self.inside.halt _ c.self.view_is c.requires c.cycle_of-out.ensures.cycle)

pub returns-clause-run : goal.returns-clause-run
returns-clause-run c bytes =
    run_of_cycle c.args.self.now _ c.cycle_of-out.result bytes c.requires
    (cycle_of_parts c.args.self.now _ _ _ _ c.self.inside.halt _ c.self.view_is c.requires c.cycle_of-out.ensures.cycle)
