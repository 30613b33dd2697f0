use Rattle.s2_plant.proofs.DeliveredEvents.{delivering_more, delivering_none}
use Rattle.s2_plant.proofs.deliveries.deliver_all.Goals as goal

pub loop-i-init : goal.loop-i-init
loop-i-init c = delivering_none _ _ _ _ c.requires.room

pub loop-i-preserved : goal.loop-i-preserved
loop-i-preserved c = delivering_more _ _ _ _ _ _ _ _ _ _ _ c.loop-i.invariant c.deliver_one.ensures.device c.deliver_one.ensures.inbox c.deliver_one.ensures.notes c.deliver_one.ensures.most
