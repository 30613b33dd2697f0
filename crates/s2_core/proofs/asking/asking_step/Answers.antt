use Rattle.std.proofs.Common.{ℕ, ap, sym, ◌∙◌, Result, Ok}
use Rattle.s2_cpu.specs.declared.exceptions.Exc.{Exc}
use Rattle.s2_decode.specs.Table.{decoded}
use Rattle.s2_machine.specs.InstructionRows.{step_of_instruction}
use Rattle.s2_core.specs.TestOrder.{step_of_fetch}
use Rattle.s2_core.proofs.CaseOrder.{step_executed}
use Rattle.s2_core.proofs.asking.asking_step.Goals as goal

pub returns-in-Some-clause-step : goal.returns-in-Some-clause-step
returns-in-Some-clause-step g c =
    c.execute_known.ensures.step
    ∙ (ap (λ (word : ℕ). step_of_instruction c.args.cpu.now (decoded word)) c.word.ensures
    ∙ (ap (λ (fetch : Result ℕ Exc). step_of_fetch c.args.cpu.now fetch) (sym (c.in-Some.ensures.fetched (g.S.Store.words c.args.store.now)))
    ∙ step_executed c.args.cpu.now (g.S.Store.words c.args.store.now) c.in-Some.ensures.running))
