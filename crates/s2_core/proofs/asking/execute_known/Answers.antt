use Rattle.std.proofs.Common.{ap, sym, ◌∙◌}
use Rattle.s2_decode.specs.declared.instr.Instr.{Instr}
use Rattle.s2_machine.specs.InstructionRows.{step_of_instruction}
use Rattle.s2_core.proofs.CaseOrder.{memory_cut}
use Rattle.s2_core.proofs.asking.execute_known.Goals as goal

pub returns-in-Memory-clause-step : goal.returns-in-Memory-clause-step
returns-in-Memory-clause-step c =
    c.access_known.ensures.step
    ∙ (sym (memory_cut c.args.cpu.now c.in-Memory.op c.in-Memory.rt c.in-Memory.base c.in-Memory.off)
    ∙ (ap (λ (i : Instr). step_of_instruction c.args.cpu.now i) (sym c.in-Memory.is)
    ∙ ap (λ (i : Instr). step_of_instruction c.args.cpu.now i) c.decode-instr.ensures.row))
