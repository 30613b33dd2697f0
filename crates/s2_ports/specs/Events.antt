-- Which events come from outside, and the range of the numbers in one that the machine makes itself.
use Rattle.std.specs.Prelude.{ℕ, ◌≤◌, Bool, true, false}
use Rattle.s2_ports.specs.declared.events.Event.{Event}
use Rattle.s2_ports.specs.declared.events.Event.TheVariants.{Tick, Key, Private}
use Rattle.s2_ports.specs.declared.events.TheConstants.{NO_VALUE}

-- an event of the timer or of the keyboard comes from outside, and waits until it is delivered
abbrev pub comes_from_outside : Event → Bool
comes_from_outside Tick = true
comes_from_outside (Key byte) = true
comes_from_outside (Private a b c) = false

-- three private values, each at most NO_VALUE
pub record AreValues (a b c : ℕ) : Type 0 where
  pub first : a ≤ NO_VALUE
  pub second : b ≤ NO_VALUE
  pub third : c ≤ NO_VALUE

-- the numbers of an event are in their ranges
abbrev pub IsEventInRange : Event → Type 0
IsEventInRange Tick = Unit {0}
IsEventInRange (Key byte) = Unit {0}
IsEventInRange (Private a b c) = AreValues a b c
