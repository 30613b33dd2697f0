use Rattle.s2_program.proofs.PartWords.{fit_step}
use Rattle.s2_program.proofs.program.all_fit.Goals as goal

pub loop-part-preserved : goal.loop-part-preserved
loop-part-preserved c = fit_step c.args.parts.now c.loop-part.part-index c.part-item.result c.loop-part-test.true c.part-item.is c.loop-part.invariant c.fits.ensures
