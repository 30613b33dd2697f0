use Rattle.std.proofs.Common.{ℕ, Result, ap}
use Rattle.s2_cpu.specs.declared.exceptions.Exc.{Exc}
use Rattle.s2_core.specs.TestOrder.{step_of_fetch}
use Rattle.s2_core.proofs.CarriedOut.{carried}
use Rattle.s2_core.proofs.execution.carry_out_anywhere.Goals as goal

pub returns-clause-done : goal.returns-clause-done
returns-clause-done g c =
    carried c.args.cpu.now _ _ _ _ _ _ _ _ (ap (λ (fetch : Result ℕ Exc). step_of_fetch c.args.cpu.now fetch) c.fetch-word.ensures.value)
    c.carry_out_fetched.ensures.done
