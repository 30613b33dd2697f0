-- The two parts make up the list.
use Rattle.std.proofs.Common.{refl}
use Rattle.s2_elf.specs.Placing.{header_of, placed_word}
use Rattle.s2_elf.proofs.Parts.{parts_placed}
use Rattle.s2_elf.proofs.placing.place_local.Goals as goal

pub returns : goal.returns
returns c =
    parts_placed (λ pa old. placed_word c.args.bytes.now pa old (header_of c.args.header)) c.args.boundary _ c.args.words.now
    c.place_over.new.words c.place_over-2.new.words c.requires.parts refl c.place_over.auto.words c.place_over.ensures
    c.place_over-2.auto.words c.place_over-2.ensures
