use Rattle.s2_plant.proofs.DeliveredEvents.{Delivering}
use Rattle.s2_plant.proofs.deliveries.deliver_all.Given as goal

abbrev pub invariant-loop-i : goal.invariant-loop-i
invariant-loop-i l = Delivering l.fn.devices l.fn.inbox l.fn.notes.items l.run l.i l.devices l.inbox l.notes.items
