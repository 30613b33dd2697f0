-- The devices, as plain data: console, keyboard, timer and halt register.
use Rattle.std.specs.Prelude.{ℕ, ◌+◌, ◌%◌, ◌^◌, Bool, true, false, List, [], ◌∷◌, ◌++◌, length, nat_lt, if◌then◌else◌}
use Rattle.s2_ports.specs.declared.events.Event.{Event}
use Rattle.s2_ports.specs.declared.events.Event.TheVariants.{Tick, Key, Private}
use Rattle.s2_ports.specs.declared.events.TheConstants.{NO_VALUE}
use Rattle.s2_device.specs.declared.slots.Slots.{Slots}
use Rattle.s2_device.specs.declared.numbers.TheConstants.{WAITING_BYTES, KEYBOARD_LINE, TIMER_LINE}

-- the waiting bytes of the keyboard, the oldest first, whether one was lost, the ticks modulo 2 ^ 32, and
-- whether the timer line is up; the private values that the next store to PRIV puts into the slots, and the slots
pub record Device : Type 0 where
  pub waiting : List ℕ
  pub overrun : Bool
  pub ticks : ℕ
  pub timer : Bool
  pub next : Slots
  pub slots : Slots

-- no processor has put a value into its slot
abbrev pub empty_slots : Slots
empty_slots = record { a = NO_VALUE; b = NO_VALUE; c = NO_VALUE }

-- nothing waits, nothing was lost, no ticks, the line down
abbrev pub quiet_device : Device
quiet_device = record { waiting = []; overrun = false; ticks = 0; timer = false; next = empty_slots; slots = empty_slots }

-- the interrupt lines: that of the keyboard is up while bytes wait
abbrev pub lines_of : Device → ℕ
lines_of d = (if nat_lt 0 (length d.waiting) then KEYBOARD_LINE else 0) + (if d.timer then TIMER_LINE else 0)

-- a delivered tick counts and raises the timer line; a delivered key waits, or is lost where no more may wait;
-- delivered private values are those of the next store to PRIV
abbrev pub device_after : Device → Event → Device
device_after d Tick = record d { ticks = (d.ticks + 1) % 2 ^ 32; timer = true }
device_after d (Key byte) = if nat_lt (length d.waiting) WAITING_BYTES then record d { waiting = d.waiting ++ byte ∷ [] } else record d { overrun = true }
device_after d (Private a b c) = record d { next = record { a = a; b = b; c = c } }
