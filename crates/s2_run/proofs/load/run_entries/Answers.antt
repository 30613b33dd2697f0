use Rattle.std.proofs.Common.{arith, refl}
use Rattle.std.proofs.Math.Seq.{drop-cons}
use Rattle.std.proofs.lemmas.Option.{slice_get-get_or}
use Rattle.s2_run.proofs.ScriptStages.{same_twice}
use Rattle.s2_run.proofs.EntryRuns.{entries_start, entries_go_on, entries_end, entries_cut, entries_over, proper_entry, drop_past}
use Rattle.s2_run.proofs.load.run_entries.Goals as goal

pub loop-i-init : goal.loop-i-init
loop-i-init g c = record {
  going = entries_start c.args.plant.now c.args.entries.now _;
  running = c.requires.running;
  ticks = omega (arith, c.requires.ticks);
  accepted = omega (arith, c.requires.events);
  room = omega arith;
  console_same = record { faults = refl; empty_takes = refl };
  report_same = record { faults = refl; empty_takes = refl };
}

pub run_entry-requires-clause-proper : goal.run_entry-requires-clause-proper
run_entry-requires-clause-proper g c = proper_entry c.args.entries.now c.loop-i.i _ c.requires.proper (slice_get-get_or c.args.entries.now c.loop-i.i _ c.loop-i-test.true)

pub returns-in-Ok-Some-clause-ran : goal.returns-in-Ok-Some-clause-ran
returns-in-Ok-Some-clause-ran g c =
    entries_end _ c.in-Ok-Some.end c.loop-i.invariant.going (drop-cons c.args.entries.now c.loop-i.i _ c.loop-i-test.true) (rw c.in-Ok-Some.field-0-is at c.in-Ok-Some.ensures.ran)

pub returns-in-Err-clause-ran : goal.returns-in-Err-clause-ran
returns-in-Err-clause-ran g c = entries_cut _ c.loop-i.invariant.going (drop-cons c.args.entries.now c.loop-i.i _ c.loop-i-test.true) c.in-Err.ensures.cut

pub returns-clause-ran : goal.returns-clause-ran
returns-clause-ran g c = entries_over c.loop-i.invariant.going (drop_past c.loop-i.i c.args.entries.now (omega (arith, c.loop-i-test.false)))

pub loop-i-preserved : goal.loop-i-preserved
loop-i-preserved g c =
    let one = rw c.in-Ok-None.field-0-is at c.in-Ok-None.ensures.ran in
    let went = rw c.in-Ok-None.field-0-is at c.in-Ok-None.ensures.went in
    record {
      going = entries_go_on _ c.loop-i.invariant.going (drop-cons c.args.entries.now c.loop-i.i _ c.loop-i-test.true) one;
      running = went.running;
      ticks = went.ticks;
      accepted = omega (arith, went.accepted, c.loop-i.invariant.accepted);
      room = omega (arith, went.room, c.loop-i.invariant.room);
      console_same = same_twice c.loop-i.invariant.console_same c.in-Ok-None.ensures.cause.passed.0;
      report_same = same_twice c.loop-i.invariant.report_same c.in-Ok-None.ensures.cause.passed.1;
    }
