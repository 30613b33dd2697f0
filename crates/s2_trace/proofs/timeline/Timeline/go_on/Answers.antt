use Rattle.std.proofs.Common.{◌<◌, ◌-◌, sym, subst, arith}
use Rattle.s2_trace.specs.Timeline.{Timeline}
use Rattle.s2_trace.specs.Travel.{IsOnTheWay}
use Rattle.s2_trace.proofs.Travelling.{going_on, arrived}
use Rattle.s2_trace.proofs.timeline.Timeline.go_on.Goals as goal

pub returns : goal.returns
returns c = arrived c.args.floor c.args.n _ _ c.loop-self.invariant (λ none. c.goes_on.ensures.no c.loop-self-test.false none)

pub loop-self-smaller : goal.loop-self-smaller
loop-self-smaller c =
    let yes = c.goes_on.ensures.yes c.loop-self-test.true in
    let more : c.loop-self.self.present.cpu.run < c.step.new.self.present.cpu.run =
    subst (λ (t : Timeline). c.loop-self.self.present.cpu.run < t.present.cpu.run) (sym c.step.ensures)
    (going_on c.args.floor c.args.n c.args.self.now c.loop-self.self c.loop-self.invariant yes.0 yes.1 (omega arith)).1 in
    let low : c.loop-self.self.present.cpu.run < c.args.n = yes.1 in
    let smaller : c.args.n - c.step.new.self.present.cpu.run < c.args.n - c.loop-self.self.present.cpu.run = omega arith in
    smaller

pub loop-self-preserved : goal.loop-self-preserved
loop-self-preserved c =
    let yes = c.goes_on.ensures.yes c.loop-self-test.true in
    subst (λ (t : Timeline). IsOnTheWay c.args.floor c.args.n c.args.self.now t) (sym c.step.ensures)
    (going_on c.args.floor c.args.n c.args.self.now c.loop-self.self c.loop-self.invariant yes.0 yes.1 (omega arith)).0
