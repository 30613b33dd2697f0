use Rattle.std.proofs.Common.{◌-◌}
use Rattle.s2_single.proofs.SingleCycles.{run_of_parts, counted_of_parts}
use Rattle.s2_single.proofs.single.Single.burst.Goals as goal

pub returns-clause-run : goal.returns-clause-run
returns-clause-run c = run_of_parts c.args.self.now _ _ _ _ _ c.self.inside.halt _ (c.args.limit - c.burst_of.result.left) c.self.view_is c.requires.running c.burst_of.ensures.run

pub returns-clause-cycles : goal.returns-clause-cycles
returns-clause-cycles c = counted_of_parts c.args.self.now _ _ _ _ c.self.inside.halt (c.args.limit - c.burst_of.result.left) _ c.self.view_is c.requires.running c.burst_of.ensures.cycles
