use Rattle.std.proofs.Common.{ℕ, Result, Ok, ap, sym, ◌∙◌}
use Rattle.s2_cpu.specs.declared.exceptions.Exc.{Exc}
use Rattle.s2_core.specs.TestOrder.{step_of_fetch}
use Rattle.s2_core.proofs.CarriedOut.{carried}
use Rattle.s2_core.proofs.execution.carry_out_recalled.Goals as goal

pub returns-clause-done : goal.returns-clause-done
returns-clause-done g c =
    carried c.args.cpu.now _ _ _ _ _ _ _ _
    (ap (λ (word : ℕ). step_of_fetch c.args.cpu.now (Ok word)) c.word-word.ensures
    ∙ ap (λ (fetch : Result ℕ Exc). step_of_fetch c.args.cpu.now fetch) (sym c.requires.fetched))
    c.carry_out_row.ensures.done
