use Rattle.std.proofs.Common.{ℕ, ap, sym, Result}
use Rattle.s2_cpu.specs.declared.exceptions.Exc.{Exc}
use Rattle.s2_core.specs.TestOrder.{step_of_fetch}
use Rattle.s2_core.proofs.CarriedOut.{carried}
use Rattle.s2_core.proofs.execution.carry_out_fetched.Goals as goal

pub returns-in-Err-clause-done : goal.returns-in-Err-clause-done
returns-in-Err-clause-done g c =
    carried c.args.cpu.now _ _ _ _ _ _ _ _ (ap (λ (fetch : Result ℕ Exc). step_of_fetch c.args.cpu.now fetch) (sym c.in-Err.is))
    (c.raised.ensures (g.S.Store.words c.args.store.now) (g.S.Store.marks c.args.store.now))
