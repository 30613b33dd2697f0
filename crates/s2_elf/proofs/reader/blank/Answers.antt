-- Both lists are zeros.
use Rattle.std.proofs.Common.{List, ℕ, ap, ◌∙◌}
use Rattle.s2_elf.specs.MemoryImage.{MemoryImage}
use Rattle.s2_elf.proofs.reader.blank.Goals as goal

pub returns : goal.returns
returns c =
    let made = λ (l g : List ℕ). let i : MemoryImage = record { entry = c.args.entry; local = l; global = g } in i in
    ap (λ l. made l c.in_ok-global.global.items) c.in_ok-local.ensures.all ∙ ap (λ g. made _ g) c.in_ok-global.ensures.all
