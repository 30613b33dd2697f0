use Rattle.std.proofs.Common.{ℕ, Result, subst}
use Rattle.s2_asm.specs.declared.fault.AsmFault.{AsmFault}
use Rattle.s2_asm.specs.LineFaults.{WordOrFault}
use Rattle.s2_asm.proofs.Stages.{word_builds}
use Rattle.s2_asm.proofs.building.write_line.Goals as goal

pub returns-in-Ok : goal.returns-in-Ok
returns-in-Ok c = λ list holds.
    word_builds list c.args.building.now c.write.new.building c.args.n c.next_address-at.result c.in-Ok.word c.args.line.now c.write.result c.requires.written c.next_address-at.ensures
    (subst (λ (r : Result ℕ AsmFault). WordOrFault list c.next_address-at.result c.args.n c.args.line.now r) c.in-Ok.is (c.line_word.ensures list holds).is)
    c.write.ensures.closed c.write.ensures.opens c.write.ensures.entry c.write.ensures.memory
