use Rattle.std.proofs.Common.{◌∙◌}
use Rattle.s2_single.proofs.SingleCycles.{still_asks, same_cycle, local_cycle}
use Rattle.s2_single.proofs.single.cycle_of.Goals as goal

pub cycle_outside-requires-clause-asked : goal.cycle_outside-requires-clause-asked
cycle_outside-requires-clause-asked c = still_asks c.args.cpu.now _ c.args.local.now _ c.if-try_turn.ensures.local c.if-try_turn.ensures.cpu c.if-try_turn.ensures.words

pub returns-then-try_turn-clause-cycle : goal.returns-then-try_turn-clause-cycle
returns-then-try_turn-clause-cycle c = local_cycle c.args.cpu.now _ c.args.local.now _ _ _ _ c.if-try_turn.ensures.local c.if-try_turn.ensures.cpu c.if-try_turn.ensures.words c.requires.halt

pub returns-else-try_turn-clause-cycle : goal.returns-else-try_turn-clause-cycle
returns-else-try_turn-clause-cycle c = same_cycle c.args.cpu.now _ c.args.local.now _ _ _ c.if-try_turn.ensures.cpu c.if-try_turn.ensures.words ∙ c.cycle_outside.ensures.cycle
