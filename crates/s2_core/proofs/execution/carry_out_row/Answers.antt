use Rattle.std.proofs.Common.{◌∙◌, ap}
use Rattle.s2_decode.specs.declared.instr.Instr.{Instr}
use Rattle.s2_machine.specs.InstructionRows.{step_of_instruction}
use Rattle.s2_core.proofs.CarriedOut.{carried}
use Rattle.s2_core.proofs.execution.carry_out_row.Goals as goal

pub returns-in-Some-clause-done : goal.returns-in-Some-clause-done
returns-in-Some-clause-done g c =
    carried c.args.cpu.now _ _ _ _ _ _ _ _
    (c.in-Some.ensures.step ∙ ap (λ (i : Instr). step_of_instruction c.args.cpu.now i) c.decode-instr.ensures.row)
    (c.set_or_overflow.ensures (g.S.Store.words c.args.store.now) (g.S.Store.marks c.args.store.now))
