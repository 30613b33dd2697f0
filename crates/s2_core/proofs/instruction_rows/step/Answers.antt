use Rattle.std.proofs.Common.{ℕ, ap, sym, ◌∙◌, Result}
use Rattle.s2_cpu.specs.declared.exceptions.Exc.{Exc}
use Rattle.s2_core.specs.TestOrder.{step_of_fetch}
use Rattle.s2_core.proofs.CaseOrder.{step_executed}
use Rattle.s2_core.proofs.instruction_rows.step.Goals as goal

pub returns-clause-step : goal.returns-clause-step
returns-clause-step g c =
    c.execute_fetched.ensures.step
    ∙ (ap (λ (fetch : Result ℕ Exc). step_of_fetch c.args.cpu.now fetch) c.fetch.ensures.value
    ∙ step_executed c.args.cpu.now (g.S.Store.words c.args.store.now) (sym c.interrupted.ensures ∙ c.if-interrupted.false))
