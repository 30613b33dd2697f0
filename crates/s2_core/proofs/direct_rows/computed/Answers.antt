-- The operands are the fields of the word, and the value is the row's.
use Rattle.std.proofs.Common.{◌≡◌, ◌*◌, ap, ◌∙◌, rules}
use Rattle.s2_decode.specs.Table.{decoded}
use Rattle.s2_decode.specs.declared.instr.Instr.{Instr}
use Rattle.s2_decode.specs.declared.instr.Instr.TheVariants.{Three, Shift, Imm, Lui}
use Rattle.s2_machine.specs.InstructionRows.{step_of_instruction}
use Rattle.s2_machine.specs.declared.step.Step.TheVariants.{Set}
use Rattle.s2_core.specs.TestOrder.{set_or_overflow}
use Rattle.s2_core.proofs.Operands.{operands}
use Rattle.s2_core.proofs.direct_rows.computed.Goals as goal

pub returns-in-Three-clause-step : goal.returns-in-Three-clause-step
returns-in-Three-clause-step c =
    let row : Three c.in-Three.op c.in-Three.rd c.in-Three.rs c.in-Three.rt ≡ decoded c.args.word = search rules in
    let kept = operands c.args.word _ row in
    let same : Three c.in-Three.op c.rd.result c.rs.result c.rt.result ≡ c.args.instr = search rules in
    let value : set_or_overflow c.rd.result c.three-value.result ≡ step_of_instruction c.args.cpu.now (Three c.in-Three.op c.rd.result c.rs.result c.rt.result) = search rules in
    value ∙ ap (λ (i : Instr). step_of_instruction c.args.cpu.now i) same

pub returns-in-Shift-clause-step : goal.returns-in-Shift-clause-step
returns-in-Shift-clause-step c =
    let row : Shift c.in-Shift.op c.in-Shift.rd c.in-Shift.rt c.in-Shift.sa ≡ decoded c.args.word = search rules in
    let kept = operands c.args.word _ row in
    let same : Shift c.in-Shift.op c.rd-in-Shift.result c.rt-in-Shift.result c.amount.result ≡ c.args.instr = search rules in
    let value : Set c.rd-in-Shift.result c.shift-value.result ≡ step_of_instruction c.args.cpu.now (Shift c.in-Shift.op c.rd-in-Shift.result c.rt-in-Shift.result c.amount.result) = search rules in
    value ∙ ap (λ (i : Instr). step_of_instruction c.args.cpu.now i) same

pub returns-in-Imm-clause-step : goal.returns-in-Imm-clause-step
returns-in-Imm-clause-step c =
    let row : Imm c.in-Imm.op c.in-Imm.rt c.in-Imm.rs c.in-Imm.imm ≡ decoded c.args.word = search rules in
    let kept = operands c.args.word _ row in
    let same : Imm c.in-Imm.op c.rt-in-Imm.result c.rs-in-Imm.result c.immediate.result ≡ c.args.instr = search rules in
    let value : set_or_overflow c.rt-in-Imm.result c.immediate-value.result ≡ step_of_instruction c.args.cpu.now (Imm c.in-Imm.op c.rt-in-Imm.result c.rs-in-Imm.result c.immediate.result) = search rules in
    value ∙ ap (λ (i : Instr). step_of_instruction c.args.cpu.now i) same

pub returns-in-Lui-clause-step : goal.returns-in-Lui-clause-step
returns-in-Lui-clause-step c =
    let row : Lui c.in-Lui.rt c.in-Lui.imm ≡ decoded c.args.word = search rules in
    let kept = operands c.args.word _ row in
    let same : Lui c.rt-in-Lui.result c.immediate-in-Lui.result ≡ c.args.instr = search rules in
    let value : Set c.rt-in-Lui.result (c.immediate-in-Lui.result * 65536) ≡ step_of_instruction c.args.cpu.now (Lui c.rt-in-Lui.result c.immediate-in-Lui.result) = search rules in
    value ∙ ap (λ (i : Instr). step_of_instruction c.args.cpu.now i) same
