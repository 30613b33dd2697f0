use Rattle.std.proofs.Common.{refl, ◌+◌}
use Rattle.s2_asm.proofs.Walk.{going_start, going_on, going_fault}
use Rattle.s2_asm.proofs.passes.first_pass.Goals as goal

pub loop-i-init : goal.loop-i-init
loop-i-init c = going_start c.args.text.now c.new.result c.new.ensures.empty

pub returns-in-Err : goal.returns-in-Err
returns-in-Err c =
    going_fault c.args.text.now c.loop-i.rest.now c.cut_line.result.0.now c.loop-i.progress c.take_line.new.progress c.loop-i.i (c.loop-i.i + 1) c.in-Err.fail
    c.loop-i.invariant c.if-rest-eq0.false c.cut_line.ensures.line refl c.in-Err.ensures.one

pub loop-i-preserved : goal.loop-i-preserved
loop-i-preserved c =
    going_on c.args.text.now c.loop-i.rest.now c.cut_line.result.0.now c.cut_line.result.1.now c.loop-i.progress c.take_line.new.progress c.loop-i.i (c.loop-i.i + 1)
    c.loop-i.invariant c.if-rest-eq0.false c.cut_line.ensures.line c.cut_line.ensures.rest refl c.in_default.ensures.one c.in_default.ensures.bounded
