use Rattle.std.proofs.Common.{◌∷◌, [], ap, ◌∙◌, length, length-append, arith}
use Rattle.s2_plant.proofs.DeliveredEvents.{grown_outside}
use Rattle.s2_plant.proofs.inbox.Inbox.add.Goals as goal

pub invariant_of-self : goal.invariant_of-self
invariant_of-self c =
    let grown = ap length c.push.ensures.items ∙ length-append c.self.inside.events.items (c.args.event ∷ []) in
    let old = c.len.ensures.len in
    let room = c.if-len-lt-INBOX_EVENTS.true in
    (c.push.ensures.capacity ∙ c.self.invariant.0, omega arith, grown_outside _ _ _ c.self.invariant.2 c.requires c.push.ensures.items)
