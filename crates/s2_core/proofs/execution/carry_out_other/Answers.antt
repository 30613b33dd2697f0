-- Each arm carries out the step of its row, whose operands are the fields of the word.
use Rattle.std.proofs.Common.{◌≡◌, ap, sym, ◌∙◌, rules}
use Rattle.s2_decode.specs.Table.{decoded}
use Rattle.s2_decode.specs.declared.instr.Instr.{Instr}
use Rattle.s2_decode.specs.declared.instr.Instr.TheVariants.{Jump, JumpReg, Branch, Memory}
use Rattle.s2_machine.specs.InstructionRows.{step_of_instruction}
use Rattle.s2_core.proofs.CaseOrder.{memory_cut}
use Rattle.s2_core.proofs.CarriedOut.{carried}
use Rattle.s2_core.proofs.Operands.{operands}
use Rattle.s2_core.proofs.execution.carry_out_other.Goals as goal

pub returns-in-Jump-clause-done : goal.returns-in-Jump-clause-done
returns-in-Jump-clause-done g c =
    let row : Jump c.in-Jump.link c.in-Jump.target ≡ decoded c.args.word = search rules in
    let kept = operands c.args.word _ row in
    let same : Jump c.in-Jump.link c.target.result ≡ c.args.instr = search rules in
    carried c.args.cpu.now _ _ _ _ _ _ _ _ (ap (λ (i : Instr). step_of_instruction c.args.cpu.now i) same)
    (c.jump.ensures (g.S.Store.words c.args.store.now) (g.S.Store.marks c.args.store.now))

pub returns-in-JumpReg-clause-done : goal.returns-in-JumpReg-clause-done
returns-in-JumpReg-clause-done g c =
    let row : JumpReg c.in-JumpReg.rs ≡ decoded c.args.word = search rules in
    let kept = operands c.args.word _ row in
    let same : JumpReg c.rs.result ≡ c.args.instr = search rules in
    carried c.args.cpu.now _ _ _ _ _ _ _ _ (ap (λ (i : Instr). step_of_instruction c.args.cpu.now i) same)
    (c.jump_to_register.ensures (g.S.Store.words c.args.store.now) (g.S.Store.marks c.args.store.now))

pub returns-in-Branch-clause-done : goal.returns-in-Branch-clause-done
returns-in-Branch-clause-done g c =
    let row : Branch c.in-Branch.op c.in-Branch.rs c.in-Branch.rt c.in-Branch.off ≡ decoded c.args.word = search rules in
    let kept = operands c.args.word _ row in
    let same : Branch c.in-Branch.op c.rs-in-Branch.result c.in-Branch.rt c.immediate.result ≡ c.args.instr = search rules in
    carried c.args.cpu.now _ _ _ _ _ _ _ _ (ap (λ (i : Instr). step_of_instruction c.args.cpu.now i) same)
    (c.branch-cpu.ensures (g.S.Store.words c.args.store.now) (g.S.Store.marks c.args.store.now))

pub returns-in-Memory-clause-done : goal.returns-in-Memory-clause-done
returns-in-Memory-clause-done g c =
    let row : Memory c.in-Memory.op c.in-Memory.rt c.in-Memory.base c.in-Memory.off ≡ decoded c.args.word = search rules in
    let kept = operands c.args.word _ row in
    let same : Memory c.in-Memory.op c.rt.result c.rs-in-Memory.result c.immediate-in-Memory.result ≡ c.args.instr = search rules in
    carried c.args.cpu.now _ _ _ _ _ _ _ _
    ((sym (memory_cut c.args.cpu.now c.in-Memory.op c.rt.result c.rs-in-Memory.result c.immediate-in-Memory.result) ∙ ap (λ (i : Instr). step_of_instruction c.args.cpu.now i) same))
    c.access_memory.ensures.done
