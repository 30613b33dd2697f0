use Rattle.std.proofs.Common.{◌≡◌, true, false, refl, sym, arith, ◌∙◌}
use Rattle.s2_run.proofs.LineList.{read_byte, read_fed, read_feed, read_end, end_none, end_some, read_long, read_failed}
use Rattle.s2_run.proofs.lines.read_line.Goals as goal

pub returns-in-Err-clause-told : goal.returns-in-Err-clause-told
returns-in-Err-clause-told g c = λ s h e. read_failed (c.loop-size.invariant.told s h) c.loop-size.invariant.below c.in-Err.ensures.rest

pub returns-then-size-eq0-clause-told : goal.returns-then-size-eq0-clause-told
returns-then-size-eq0-clause-told g c = λ s h e.
    let r = c.loop-size.invariant.told s h in
    let i = c.in-Ok-None in
    end_none (read_end _ r i.field-0-is (i.ensures.byte r.rest r.left_is) i.ensures.rest) c.if-size-eq0.true

pub returns-in-Ok-None-clause-told : goal.returns-in-Ok-None-clause-told
returns-in-Ok-None-clause-told g c = λ s h e.
    let r = c.loop-size.invariant.told s h in
    let i = c.in-Ok-None in
    end_some (read_end _ r i.field-0-is (i.ensures.byte r.rest r.left_is) i.ensures.rest) (omega arith)

pub returns-then-size-room-clause-told : goal.returns-then-size-room-clause-told
returns-then-size-room-clause-told g c = λ s h e.
    let r = c.loop-size.invariant.told s h in
    let i = c.in-Ok-Some in
    read_long _ _ r i.field-0-is (i.ensures.byte r.rest r.left_is) i.ensures.rest (omega arith)

pub returns-in-Ended-clause-told : goal.returns-in-Ended-clause-told
returns-in-Ended-clause-told g c = λ s h e.
    let r = c.loop-size.invariant.told s h in
    let i = c.in-Ok-Some in
    read_feed _ _ r i.field-0-is (i.ensures.byte r.rest r.left_is) i.ensures.rest (c.in-Ended.ensures.ended.0 refl) c.in-Ended.ensures.line

pub loop-size-preserved : goal.loop-size-preserved
loop-size-preserved g c = record {
  told = λ s h.
      let r = c.loop-size.invariant.told s h in
      let i = c.in-Ok-Some in
      read_byte _ _ r i.field-0-is (i.ensures.byte r.rest r.left_is) i.ensures.rest (λ e. (let f = c.in-Held.ensures.ended.1 e in cc)) c.in-Held.ensures.line;
  going = c.loop-size.invariant.going;
  below = omega arith;
  faults = c.in-Ok-Some.ensures.passed ∙ c.loop-size.invariant.faults;
}

pub returns-then-size-eq0-clause-ended : goal.returns-then-size-eq0-clause-ended
returns-then-size-eq0-clause-ended g c = λ s h e t.
    let r = c.loop-size.invariant.told s h in
    let i = c.in-Ok-None in
    (read_end _ r i.field-0-is (i.ensures.byte r.rest r.left_is) i.ensures.rest).left_is

pub returns-in-Ok-None-clause-ended : goal.returns-in-Ok-None-clause-ended
returns-in-Ok-None-clause-ended g c = λ s h e t.
    let r = c.loop-size.invariant.told s h in
    let i = c.in-Ok-None in
    (read_end _ r i.field-0-is (i.ensures.byte r.rest r.left_is) i.ensures.rest).left_is

pub returns-then-size-room-clause-ended : goal.returns-then-size-room-clause-ended
returns-then-size-room-clause-ended g c = λ s h e t. absurd (let f : false ≡ true = sym c.loop-size.invariant.going ∙ t in cc)

pub returns-in-Ended-clause-ended : goal.returns-in-Ended-clause-ended
returns-in-Ended-clause-ended g c = λ s h e t. absurd (let f : false ≡ true = sym c.loop-size.invariant.going ∙ t in cc)

pub returns-in-Ended-clause-fed : goal.returns-in-Ended-clause-fed
returns-in-Ended-clause-fed g c = λ s h e.
    let r = c.loop-size.invariant.told s h in
    let i = c.in-Ok-Some in
    read_fed _ _ r i.field-0-is (i.ensures.byte r.rest r.left_is) i.ensures.rest (c.in-Ended.ensures.ended.0 refl)
