use Rattle.std.proofs.Common.{arith, refl, inl, ◌∙◌}
use Rattle.s2_run.proofs.LineList.{fed_more, none_rest}
use Rattle.s2_run.proofs.ScriptStages.{same_twice}
use Rattle.s2_run.proofs.FrameChoice.{at_grammar, at_keeps}
use Rattle.s2_run.proofs.ScriptReading.{going_line, line_ends, line_cut, line_long, script_ends, chosen_at_end, chosen_at_long, first_same, from_start, ready, unread_from}
use Rattle.s2_run.proofs.script_lines.run_lines.Goals as goal

pub loop-size-init : goal.loop-size-init
loop-size-init g c = record {
  told = λ s h. from_start c.args.plant.now s _ _ c.requires.first c.requires.frame h;
  first = λ none. refl;
  ended = λ s h e. absurd cc;
  fed = λ s h e. inl refl;
  running = c.requires.running;
  ticks = omega (arith, c.requires.ticks);
  accepted = omega (arith, c.requires.events);
  below = omega arith;
  lines = omega arith;
  room = omega arith;
  faults = refl;
  console_same = record { faults = refl; empty_takes = refl };
  report_same = record { faults = refl; empty_takes = refl };
}

pub run_read-requires-clause-grammar : goal.run_read-requires-clause-grammar
run_read-requires-clause-grammar g c = (_, at_grammar _ _ _ _ _ c.read_at-read.ensures)

pub returns-in-Err-clause-told : goal.returns-in-Err-clause-told
returns-in-Err-clause-told g c = λ s h.
    let f = c.loop-size.invariant.told s h in
    let r = f.going in
    unread_from f (c.in-Err.ensures.told r.rest r.left_is (λ e. none_rest r.left_is (c.loop-size.invariant.ended s h e))) c.loop-size.invariant.below (c.loop-size.invariant.fed s h c.in-Err.ensures.going)

pub returns-in-Ok-End-clause-told : goal.returns-in-Ok-End-clause-told
returns-in-Ok-End-clause-told g c = λ s h.
    let f = c.loop-size.invariant.told s h in
    let r = f.going in
    let i = c.in-Ok-End in
    let end = rw i.field-0-is at (i.ensures.told r.rest r.left_is (λ e. none_rest r.left_is (c.loop-size.invariant.ended s h e))) in
    (f.frame, chosen_at_end f end.0, script_ends r end c.loop-size.invariant.below)

pub returns-in-Ok-TooLong-clause-told : goal.returns-in-Ok-TooLong-clause-told
returns-in-Ok-TooLong-clause-told g c = λ s h.
    let f = c.loop-size.invariant.told s h in
    let r = f.going in
    let i = c.in-Ok-TooLong in
    let long = rw i.field-0-is at (i.ensures.told r.rest r.left_is (λ e. none_rest r.left_is (c.loop-size.invariant.ended s h e))) in
    (f.frame, chosen_at_long f long, line_long r long c.loop-size.invariant.below)

pub returns-in-Ok-Some-clause-told : goal.returns-in-Ok-Some-clause-told
returns-in-Ok-Some-clause-told g c = λ s h.
    let g = c.loop-size.invariant.told s h in
    let r = g.going in
    let i = c.in-Ok-Line in
    let f = rw i.field-0-is at i.ensures.size in
    let one = rw c.in-Ok-Some.field-0-is at c.in-Ok-Some.ensures.ran in
    let line = rw i.field-0-is at (i.ensures.told r.rest r.left_is (λ e. none_rest r.left_is (c.loop-size.invariant.ended s h e))) in
    let on = ready c.read_at-read.result (first_same _ c.requires.first c.requires.frame) g c.loop-size.invariant.first line (omega (arith, f.1)) (rw c.line.ensures at c.read_at-read.ensures) in
    (on.frame, on.chosen, line_ends c.read_at-read.result c.in-Ok-Some.end on.going on.line on.grammar (omega (arith, f.1)) one)

pub returns-in-Err-run_read-clause-told : goal.returns-in-Err-run_read-clause-told
returns-in-Err-run_read-clause-told g c = λ s h.
    let g = c.loop-size.invariant.told s h in
    let r = g.going in
    let i = c.in-Ok-Line in
    let f = rw i.field-0-is at i.ensures.size in
    let line = rw i.field-0-is at (i.ensures.told r.rest r.left_is (λ e. none_rest r.left_is (c.loop-size.invariant.ended s h e))) in
    let on = ready c.read_at-read.result (first_same _ c.requires.first c.requires.frame) g c.loop-size.invariant.first line (omega (arith, f.1)) (rw c.line.ensures at c.read_at-read.ensures) in
    (on.frame, on.chosen, line_cut c.read_at-read.result on.going on.line on.grammar (omega (arith, f.1)) c.in-Err-run_read.ensures.cut)

pub loop-size-preserved : goal.loop-size-preserved
loop-size-preserved g c =
    let f = rw c.in-Ok-Line.field-0-is at c.in-Ok-Line.ensures.size in
    let one = rw c.in-Ok-None.field-0-is at c.in-Ok-None.ensures.ran in
    let went = rw c.in-Ok-None.field-0-is at c.in-Ok-None.ensures.went in
    let keeps = at_keeps _ _ _ _ _ c.read_at-read.ensures in
    record {
      told = λ s h.
          let g = c.loop-size.invariant.told s h in
          let r = g.going in
          let i = c.in-Ok-Line in
          let line = rw i.field-0-is at (i.ensures.told r.rest r.left_is (λ e. none_rest r.left_is (c.loop-size.invariant.ended s h e))) in
          let on = ready c.read_at-read.result (first_same _ c.requires.first c.requires.frame) g c.loop-size.invariant.first line (omega (arith, f.1)) (rw c.line.ensures at c.read_at-read.ensures) in
          record { frame = on.frame; chosen = λ some. on.chosen; none = λ none. absurd (omega arith); going = going_line c.read_at-read.result on.going on.line on.grammar (omega (arith, f.1)) one };
      first = λ none. absurd (omega arith);
      ended = λ s h.
          let r = (c.loop-size.invariant.told s h).going in
          c.in-Ok-Line.ensures.ended r.rest r.left_is (λ e. none_rest r.left_is (c.loop-size.invariant.ended s h e));
      fed = λ s h e.
          let r = (c.loop-size.invariant.told s h).going in
          let i = c.in-Ok-Line in
          fed_more s r.rest _ _ r.rest_is ((rw i.field-0-is at (i.ensures.fed r.rest r.left_is)) e);
      running = went.running;
      ticks = went.ticks;
      accepted = omega (arith, went.accepted, keeps.accepted, c.loop-size.invariant.accepted);
      below = omega (arith, f.1);
      lines = omega (arith, f.0, c.loop-size.invariant.lines);
      room = omega (arith, went.room, keeps.ticks, c.loop-size.invariant.room);
      faults = c.in-Ok-Line.ensures.passed ∙ c.loop-size.invariant.faults;
      console_same = same_twice c.loop-size.invariant.console_same c.in-Ok-None.ensures.cause.passed.0;
      report_same = same_twice c.loop-size.invariant.report_same c.in-Ok-None.ensures.cause.passed.1;
    }
