use Rattle.std.proofs.Common.{arith}
use Rattle.s2_trace.proofs.Stretches.{range_pushed, place_pushed}
use Rattle.s2_trace.proofs.timeline.Timeline.push.Goals as goal

pub invariant_of-self : goal.invariant_of-self
invariant_of-self c =
    let i = c.self.invariant in
    let capacity = c.push.ensures.capacity in (
      place_pushed _ c.self.inside.next c.self.inside.deliveries.items c.push.new.self.items c.args.delivery i.0 c.push.ensures.items,
      i.1,
      i.2,
      (let most = i.3 in omega arith),
      range_pushed _ c.self.inside.deliveries.items c.push.new.self.items c.args.delivery i.4 c.requires c.push.ensures.items,
    )
