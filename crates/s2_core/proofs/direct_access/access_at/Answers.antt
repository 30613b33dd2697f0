use Rattle.std.proofs.Common.{◌≡◌, rules}
use Rattle.s2_machine.specs.declared.step.Step.TheVariants.{Load, Store}
use Rattle.s2_core.specs.declared.reach.Reach.TheVariants.{At}
use Rattle.s2_core.specs.TestOrder.{reached_step}
use Rattle.s2_core.proofs.CarriedOut.{carried}
use Rattle.s2_core.proofs.direct_access.access_at.Goals as goal

pub returns-then-is_store-clause-done : goal.returns-then-is_store-clause-done
returns-then-is_store-clause-done g c = λ address.
    let same : Store c.stored_word-word.result c.stored_mask.result address c.args.place ≡ reached_step c.args.cpu.now c.args.op c.args.rt c.args.byte (At address c.args.place) = search rules in
    carried c.args.cpu.now _ _ _ _ _ _ _ _ same (c.store_at.ensures.done address)

pub returns-else-is_store-clause-done : goal.returns-else-is_store-clause-done
returns-else-is_store-clause-done g c = λ address.
    let same : Load c.args.op c.args.rt c.args.byte address c.args.place ≡ reached_step c.args.cpu.now c.args.op c.args.rt c.args.byte (At address c.args.place) = search rules in
    carried c.args.cpu.now _ _ _ _ _ _ _ _ same (c.load_at.ensures.done address)
