-- Events that wait for their delivery: they come from outside. Private values never wait.
use Rattle.std.specs.Prelude.{◌≡◌, List, [], ◌∷◌, true, if◌then◌else◌}
use Rattle.s2_ports.specs.declared.events.Event.{Event}
use Rattle.s2_ports.specs.Events.{comes_from_outside}

-- those of some events that come from outside, in their order
abbrev pub from_outside : List Event → List Event
from_outside [] = []
from_outside (e ∷ es) = if comes_from_outside e then e ∷ from_outside es else from_outside es

-- all of them do
abbrev pub AreFromOutside : List Event → Type 0
AreFromOutside [] = Unit {0}
AreFromOutside (e ∷ es) = (comes_from_outside e ≡ true) × AreFromOutside es
