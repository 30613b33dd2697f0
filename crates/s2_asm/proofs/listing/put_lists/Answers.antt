use Rattle.std.proofs.Common.{List, subst, append_assoc, take, drop}
use Rattle.s2_program.specs.Programs.{PartData}
use Rattle.s2_asm.specs.ImageListings.{parts_of_memory, WritesParts}
use Rattle.s2_asm.proofs.ListedLines.{parts_two, on_map}
use Rattle.s2_asm.proofs.listing.put_lists.Goals as goal

pub returns : goal.returns
returns c =
    on_map c.put_memory.result _ _
    (λ w. subst (λ (ps : List PartData). WritesParts ps c.args.text.now.items c.put_memory.new.text.items)
    (append_assoc (parts_of_memory 0x80000000 (take c.args.boundary c.args.local.now)) (parts_of_memory 0x9FC00000 (drop c.args.boundary c.args.local.now)) (parts_of_memory 0x84000000 c.args.global.now))
    (parts_two _ _ c.args.text.now.items c.put_local.new.text.items c.put_memory.new.text.items c.in_ok-put_local.ensures w))
    c.put_memory.ensures
