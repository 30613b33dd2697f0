use Rattle.std.proofs.Common.{arith, ◌∙◌}
use Rattle.s2_run.proofs.LineList.{none_rest}
use Rattle.s2_run.proofs.Checking.{check_line, check_bad, check_long, check_end, check_failed}
use Rattle.s2_run.proofs.check.check_lines.Goals as goal

pub returns-in-Err-clause-front : goal.returns-in-Err-clause-front
returns-in-Err-clause-front g c = λ s h.
    let r = c.loop-size.invariant.told s h in
    check_failed r (c.in-Err.ensures.told r.rest r.left_is (λ e. none_rest r.left_is (c.loop-size.invariant.ended s h e))) c.loop-size.invariant.below

pub returns-in-Ok-End-clause-told : goal.returns-in-Ok-End-clause-told
returns-in-Ok-End-clause-told g c = λ s h.
    let r = c.loop-size.invariant.told s h in
    let i = c.in-Ok-End in
    check_end r (rw i.field-0-is at (i.ensures.told r.rest r.left_is (λ e. none_rest r.left_is (c.loop-size.invariant.ended s h e)))) c.loop-size.invariant.below

pub returns-in-Ok-TooLong-clause-told : goal.returns-in-Ok-TooLong-clause-told
returns-in-Ok-TooLong-clause-told g c = λ s h.
    let r = c.loop-size.invariant.told s h in
    let i = c.in-Ok-TooLong in
    check_long r (rw i.field-0-is at (i.ensures.told r.rest r.left_is (λ e. none_rest r.left_is (c.loop-size.invariant.ended s h e)))) c.loop-size.invariant.below

pub loop-size-preserved : goal.loop-size-preserved
loop-size-preserved g c = record {
  told = λ s h.
      let r = c.loop-size.invariant.told s h in
      let i = c.in-Ok-Line in
      check_line c.in-Ok.field-0 r (rw i.field-0-is at (i.ensures.told r.rest r.left_is (λ e. none_rest r.left_is (c.loop-size.invariant.ended s h e)))) (rw c.line.ensures at c.in-Ok.ensures);
  ended = λ s h.
      let r = c.loop-size.invariant.told s h in
      c.in-Ok-Line.ensures.ended r.rest r.left_is (λ e. none_rest r.left_is (c.loop-size.invariant.ended s h e));
  below = let f = rw c.in-Ok-Line.field-0-is at c.in-Ok-Line.ensures.size in omega (arith, f.1);
  count = let f = rw c.in-Ok-Line.field-0-is at c.in-Ok-Line.ensures.size in omega (arith, f.0);
  faults = c.in-Ok-Line.ensures.passed ∙ c.loop-size.invariant.faults;
}

pub returns-in-Err-entry_at-clause-told : goal.returns-in-Err-entry_at-clause-told
returns-in-Err-entry_at-clause-told g c = λ s h.
    let r = c.loop-size.invariant.told s h in
    let i = c.in-Ok-Line in
    let f = rw i.field-0-is at i.ensures.size in
    check_bad c.in-Err-entry_at.bad r (rw i.field-0-is at (i.ensures.told r.rest r.left_is (λ e. none_rest r.left_is (c.loop-size.invariant.ended s h e)))) (rw c.line.ensures at c.in-Err-entry_at.ensures) (omega (arith, f.1))
