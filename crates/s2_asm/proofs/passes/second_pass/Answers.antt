use Rattle.std.proofs.Common.{refl, ◌+◌, arith}
use Rattle.s2_asm.proofs.LaterWalk.{later_on, later_fails, later_done, later_place}
use Rattle.s2_asm.proofs.passes.second_pass.Goals as goal

pub returns-then-rest-eq0 : goal.returns-then-rest-eq0
returns-then-rest-eq0 c =
    later_done c.args.text.now c.loop-i.rest.now c.args.labels.now c.loop-i.building c.loop-i.i c.finish.result c.loop-i.invariant c.if-rest-eq0.true c.finish.ensures.parts c.finish.ensures.entry c.finish.ensures.memory

pub take_later-requires : goal.take_later-requires
take_later-requires c = later_place c.args.text.now c.loop-i.rest.now c.cut_line.result.0.now c.args.labels.now c.loop-i.building c.loop-i.i c.loop-i.invariant c.if-rest-eq0.false c.cut_line.ensures.line

pub returns-in-Err : goal.returns-in-Err
returns-in-Err c =
    later_fails c.args.text.now c.loop-i.rest.now c.cut_line.result.0.now c.args.labels.now c.loop-i.building c.take_later.new.building c.loop-i.i (c.loop-i.i + 1) c.in-Err.fail
    c.loop-i.invariant c.if-rest-eq0.false c.cut_line.ensures.line refl c.in-Err.ensures

pub loop-i-preserved : goal.loop-i-preserved
loop-i-preserved c =
    later_on c.args.text.now c.loop-i.rest.now c.cut_line.result.0.now c.cut_line.result.1.now c.args.labels.now c.loop-i.building c.take_later.new.building c.loop-i.i (c.loop-i.i + 1)
    c.loop-i.invariant c.if-rest-eq0.false c.cut_line.ensures.line c.cut_line.ensures.rest refl c.in_default.ensures

pub returns : goal.returns
returns c =
    later_done c.args.text.now c.loop-i.rest.now c.args.labels.now c.loop-i.building c.loop-i.i c.finish-2.result c.loop-i.invariant
    (let l = c.loop-i.invariant.left in let t = c.loop-i-test.false in omega arith) c.finish-2.ensures.parts c.finish-2.ensures.entry c.finish-2.ensures.memory
