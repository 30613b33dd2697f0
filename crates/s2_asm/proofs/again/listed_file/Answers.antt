use Rattle.std.proofs.Common.{List, ℕ, Result, Ok, ◌∙◌, subst}
use Rattle.s2_program.specs.Programs.{ProgramData}
use Rattle.s2_asm.specs.declared.fault.AsmFail.{AsmFail}
use Rattle.s2_asm.specs.Building.{Assembled}
use Rattle.s2_asm.proofs.again.listed_file.Goals as goal

pub returns-in-Ok-to_elf-clause-image : goal.returns-in-Ok-to_elf-clause-image
returns-in-Ok-to_elf-clause-image c =
    let r : Result ProgramData AsmFail = Ok c.in-Ok-assemble.program in
    let text : Assembled c.in-Ok.text.items r = subst (λ (t : List ℕ). Assembled t r) c.as_slice.ensures.value c.in-Ok-assemble.ensures.meaning in
    c.in-Ok-to_elf.ensures.image ∙ (c.in-Ok.ensures.again r text).image

pub returns-in-Ok-to_elf-clause-accepted : goal.returns-in-Ok-to_elf-clause-accepted
returns-in-Ok-to_elf-clause-accepted c = λ entry.
    let r : Result ProgramData AsmFail = Ok c.in-Ok-assemble.program in
    let text : Assembled c.in-Ok.text.items r = subst (λ (t : List ℕ). Assembled t r) c.as_slice.ensures.value c.in-Ok-assemble.ensures.meaning in
    c.in-Ok-to_elf.ensures.places ∙ (c.in-Ok.ensures.again r text).placed entry
