use Rattle.s2_asm.proofs.ListedLines.{image_listed}
use Rattle.s2_asm.proofs.listing.list.Goals as goal

pub returns-in-Ok-clause-again : goal.returns-in-Ok-clause-again
returns-in-Ok-clause-again c = image_listed c.args.image.now c.in-Ok.text.items c.image_fits.ensures.entry c.image_fits.ensures.local c.image_fits.ensures.global c.in-Ok.ensures
