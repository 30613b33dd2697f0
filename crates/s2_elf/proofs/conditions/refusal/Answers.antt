-- A fault in the file's header comes first.
use Rattle.std.proofs.Common.{sym, ap, ◌∙◌}
use Rattle.s2_elf.specs.Files.{first_false, file_conditions, rest_conditions}
use Rattle.s2_elf.proofs.FirstFalse.{first_false_append, or_then}
use Rattle.s2_elf.proofs.conditions.refusal.Goals as goal

pub returns-in-Some-clause-refusal : goal.returns-in-Some-clause-refusal
returns-in-Some-clause-refusal c =
    let bytes = c.args.bytes.now in
    sym (first_false_append (file_conditions bytes) (rest_conditions bytes)
    ∙ ap (λ o. or_then o (first_false (rest_conditions bytes))) (sym c.file_fault.ensures.fault ∙ c.in-Some.is))
