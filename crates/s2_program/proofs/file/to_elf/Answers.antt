use Rattle.std.proofs.Common.{sym, subst, ◌∙◌, ap}
use Rattle.s2_elf.specs.Files.{refusal}
use Rattle.s2_elf.specs.Images.{image_of}
use Rattle.s2_program.specs.ProgramImages.{IsOfPlace}
use Rattle.s2_program.proofs.FileConditions.{plain_refusal, refusal_of_place}
use Rattle.s2_program.proofs.FileWords.{plain_image}
use Rattle.s2_program.proofs.file.to_elf.Goals as goal

pub returns-in-Ok-clause-places : goal.returns-in-Ok-clause-places
returns-in-Ok-clause-places c = ap refusal c.in-Ok.ensures ∙ plain_refusal c.args.p.now c.fits.ensures.entry c.requires.parts c.requires.words c.fits.ensures.parts

pub returns-in-Ok-clause-refused : goal.returns-in-Ok-clause-refused
returns-in-Ok-clause-refused c =
    let is = ap refusal c.in-Ok.ensures ∙ plain_refusal c.args.p.now c.fits.ensures.entry c.requires.parts c.requires.words c.fits.ensures.parts in
    subst IsOfPlace (sym is) (refusal_of_place c.args.p.now)

pub returns-in-Ok-clause-image : goal.returns-in-Ok-clause-image
returns-in-Ok-clause-image c = ap image_of c.in-Ok.ensures ∙ plain_image c.args.p.now c.fits.ensures.entry c.requires.parts c.requires.words c.fits.ensures.parts c.requires.aligned
