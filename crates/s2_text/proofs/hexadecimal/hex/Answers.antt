use Rattle.std.proofs.Common.{◌≡◌, ◌∙◌, ◌∷◌, refl, arith}
use Rattle.s2_text.proofs.LineFields.{hex_room, next_digit, power_next, some_hex}
use Rattle.s2_text.proofs.hexadecimal.hex.Goals as goal

pub overflow_mul-value : goal.overflow_mul-value
overflow_mul-value c = let h = hex_room c.loop-i.i c.args.count c.loop-i.value 0 c.loop-i-test.true c.requires c.loop-i.invariant.1 (omega arith) in omega arith

pub overflow_add-value : goal.overflow_add-value
overflow_add-value c = let h = hex_room c.loop-i.i c.args.count c.loop-i.value c.in-Some-digit_value.digit c.loop-i-test.true c.requires c.loop-i.invariant.1 c.in-Some-digit_value.ensures.below in omega arith

pub loop-i-preserved : goal.loop-i-preserved
loop-i-preserved c =
    let h = some_hex c.in-Some.first.now c.in-Some-digit_value.digit c.in-Some-digit_value.ensures.value in
    let n = next_digit c.args.count c.loop-i.i c.loop-i.value c.in-Some.first.now c.in-Some.more.now c.loop-i-test.true h.0 in
    let r : c.loop-i.rest.now ≡ c.in-Some.first.now ∷ c.in-Some.more.now = grind arith in
    (c.loop-i.invariant.0 ∙ (rw (r, n, h.1) refl), power_next c.loop-i.i c.loop-i.value c.in-Some-digit_value.digit c.loop-i.invariant.1 c.in-Some-digit_value.ensures.below)
