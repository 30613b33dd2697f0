use Rattle.std.proofs.Common.{◌∙◌}
use Rattle.s2_clock.proofs.CoveredTicks.{covered_run, covered_lawful}
use Rattle.s2_clock.proofs.watch.Watch.record_fired.Goals as goal

pub returns-clause-windows : goal.returns-clause-windows
returns-clause-windows c = c.fire.ensures.windows ∙ covered_run c.args.mask c.args.tainted c.requires.covered c.args.n c.args.self.now c.fire.ensures.size

pub returns-clause-lawful : goal.returns-clause-lawful
returns-clause-lawful c = λ j. covered_lawful c.args.mask c.args.tainted c.requires.covered j c.args.self.now c.fire.ensures.size c.fire.ensures.first c.fire.ensures.second c.fire.ensures.third
