use Rattle.std.proofs.Common.{sym, arith}
use Rattle.s2_run.proofs.Replaying.{halted_took, halted_stays, halted_wrote, counted_steps, counted_range}
use Rattle.s2_run.proofs.replay.run_to.Goals as goal

pub returns-in-Some-clause-bytes : goal.returns-in-Some-clause-bytes
returns-in-Some-clause-bytes g c = halted_took c.args.run c.args.machine.now c.in-Some.field-0 _ (sym c.in-Some.ensures)

pub returns-in-Some-clause-machine : goal.returns-in-Some-clause-machine
returns-in-Some-clause-machine g c = halted_stays c.args.run c.args.machine.now c.in-Some.field-0 (sym c.in-Some.ensures)

pub returns-in-Some-clause-count : goal.returns-in-Some-clause-count
returns-in-Some-clause-count g c = halted_wrote c.args.run c.args.machine.now c.in-Some.field-0 (sym c.in-Some.ensures)

pub returns-in-None-clause-steps : goal.returns-in-None-clause-steps
returns-in-None-clause-steps g c =
    counted_steps c.run_cycles.result c.args.machine.now c.run_cycles.new.machine c.saturating_sub-cycles.result (omega (arith, c.run.ensures, c.saturating_sub-cycles.ensures)) c.run_cycles.ensures.count c.run_cycles.ensures.machine

pub returns-in-None-clause-range : goal.returns-in-None-clause-range
returns-in-None-clause-range g c = λ small.
    counted_range c.run_cycles.result c.args.machine.now c.run_cycles.new.machine c.saturating_sub-cycles.result (omega (arith, c.run.ensures, c.saturating_sub-cycles.ensures)) c.run_cycles.ensures.machine
