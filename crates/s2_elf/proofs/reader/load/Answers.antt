-- The lists with all segments laid are those of the image.
use Rattle.s2_elf.proofs.ImageWords.{image_from}
use Rattle.s2_elf.proofs.reader.load.Goals as goal

pub returns : goal.returns
returns c =
    image_from c.args.bytes.now _ c.entry_of-entry.ensures c.in_ok-local.ensures.local_long c.in_ok-local.ensures.global_long
    c.in_ok-local.ensures.local c.in_ok-local.ensures.global
