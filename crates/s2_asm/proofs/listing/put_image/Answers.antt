use Rattle.std.proofs.Common.{List, subst}
use Rattle.s2_program.specs.Programs.{PartData}
use Rattle.s2_asm.specs.ImageListings.{WritesParts}
use Rattle.s2_asm.proofs.ListedLines.{on_map, image_parts}
use Rattle.s2_asm.proofs.listing.put_image.Goals as goal

pub returns : goal.returns
returns c =
    on_map c.put_lists.result _ _
    (λ w. subst (λ (ps : List PartData). WritesParts ps c.args.text.now.items c.put_lists.new.text.items)
    (image_parts c.args.image.now c.local_words-local.result.now c.global_words.result.now c.local_words-local.ensures.words c.global_words.ensures.words) w)
    c.put_lists.ensures
