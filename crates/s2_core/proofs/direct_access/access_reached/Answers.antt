use Rattle.std.proofs.Common.{ap, sym}
use Rattle.s2_core.specs.declared.reach.Reach.{Reach}
use Rattle.s2_core.specs.TestOrder.{reached_step}
use Rattle.s2_core.proofs.CarriedOut.{carried}
use Rattle.s2_core.proofs.direct_access.access_reached.Goals as goal

pub returns-in-Refused-clause-done : goal.returns-in-Refused-clause-done
returns-in-Refused-clause-done g c =
    carried c.args.cpu.now _ _ _ _ _ _ _ _ (ap (λ (r : Reach). reached_step c.args.cpu.now c.args.op c.args.rt c.args.byte r) (sym c.in-Refused.is))
    (c.raised.ensures (g.S.Store.words c.args.store.now) (g.S.Store.marks c.args.store.now))

pub returns-in-Isolated-clause-done : goal.returns-in-Isolated-clause-done
returns-in-Isolated-clause-done g c =
    carried c.args.cpu.now _ _ _ _ _ _ _ _ (ap (λ (r : Reach). reached_step c.args.cpu.now c.args.op c.args.rt c.args.byte r) (sym c.in-Isolated.is))
    (c.access_isolated.ensures (g.S.Store.words c.args.store.now) (g.S.Store.marks c.args.store.now))
