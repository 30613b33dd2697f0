use Rattle.std.proofs.Common.{ℕ, Result, Ok, ap, ◌∙◌}
use Rattle.std.specs.Prelude.{slice_index}
use Rattle.s2_cpu.specs.declared.exceptions.Exc.{Exc}
use Rattle.s2_core.specs.TestOrder.{step_of_fetch}
use Rattle.s2_core.proofs.CarriedOut.{carried}
use Rattle.s2_core.proofs.NearWords.{fetched_near}
use Rattle.s2_core.proofs.execution.carry_out_near.Goals as goal

pub returns-clause-done : goal.returns-clause-done
returns-clause-done g c =
    carried c.args.cpu.now _ _ _ _ _ _ _ _
    (ap (λ (word : ℕ). step_of_fetch c.args.cpu.now (Ok word)) (c.word-word.ensures ∙ ap (λ (i : ℕ). slice_index (g.S.Store.words c.args.store.now) i) c.requires.index)
    ∙ ap (λ (fetch : Result ℕ Exc). step_of_fetch c.args.cpu.now fetch) (fetched_near c.args.cpu.now (g.S.Store.words c.args.store.now) c.requires.near))
    c.carry_out_row.ensures.done
