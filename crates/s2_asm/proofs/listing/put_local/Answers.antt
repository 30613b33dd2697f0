use Rattle.std.proofs.Common.{List, ℕ, subst}
use Rattle.s2_asm.specs.ImageListings.{parts_of_memory, WritesParts}
use Rattle.s2_asm.proofs.ListedLines.{parts_two, on_map}
use Rattle.s2_asm.proofs.listing.put_local.Goals as goal

pub returns : goal.returns
returns c =
    on_map c.put_memory-2.result _ _
    (λ w. parts_two _ _ c.args.text.now.items c.put_memory.new.text.items c.put_memory-2.new.text.items
    (subst (λ (t : List ℕ). WritesParts (parts_of_memory 0x80000000 t) c.args.text.now.items c.put_memory.new.text.items) c.front.ensures.words c.in_ok-put_memory.ensures)
    (subst (λ (t : List ℕ). WritesParts (parts_of_memory 0x9FC00000 t) c.put_memory.new.text.items c.put_memory-2.new.text.items) c.back.ensures.words w))
    c.put_memory-2.ensures
