-- The room at the first byte decides.
use Rattle.std.proofs.Common.{leb, sym, ap, ◌∙◌}
use Rattle.s2_elf.proofs.Room.{all_loadable}
use Rattle.s2_elf.proofs.conditions.is_placed.Goals as goal

pub returns : goal.returns
returns c = ap (λ n. leb c.args.size n) c.room_at.ensures ∙ sym (all_loadable c.args.va c.args.size)
