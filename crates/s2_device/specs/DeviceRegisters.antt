-- The device registers: what a load of each gives, and what a store to it does.
use Rattle.std.specs.Prelude.{ℕ, ◌+◌, ◌%◌, ◌==◌, Bool, false, List, [], ◌∷◌, length, drop, Some, None, if◌then◌else◌}
use Rattle.s2_base.specs.declared.devices.TheConstants.{CONOUT, CONIN, CONSTAT, TICKS, TIMACK, HALT, PRIV, PRIV0, PRIV1, PRIV2}
use Rattle.s2_device.specs.DeviceState.{Device}
use Rattle.s2_device.specs.declared.numbers.TheConstants.{NO_BYTE, OVERRUN}
use Rattle.s2_device.specs.declared.effect.Effect.{Effect}

-- what an access gives, and the devices after it
pub record DeviceAccess : Type 0 where
  pub effect : Effect
  pub device : Device

-- a load that gives a word
abbrev pub load_of : ℕ → Device → DeviceAccess
load_of word d = record { effect = record { word = word; out = None; halt = None }; device = d }

-- a store that writes a byte to the console, one that ends the run, and one that acts on the devices alone
abbrev pub console_store : ℕ → Device → DeviceAccess
console_store byte d = record { effect = record { word = 0; out = Some byte; halt = None }; device = d }

abbrev pub halt_store : ℕ → Device → DeviceAccess
halt_store value d = record { effect = record { word = 0; out = None; halt = Some value }; device = d }

abbrev pub silent_store : Device → DeviceAccess
silent_store d = record { effect = record { word = 0; out = None; halt = None }; device = d }

-- the oldest of the waiting bytes, or that none waits; and the devices once it is taken
abbrev pub oldest_of : List ℕ → ℕ
oldest_of [] = NO_BYTE
oldest_of (byte ∷ later) = byte

abbrev pub without_oldest : Device → Device
without_oldest d = record d { waiting = drop 1 d.waiting }

-- how many bytes wait, and whether one was lost
abbrev pub console_state : Device → ℕ
console_state d = length d.waiting + (if d.overrun then OVERRUN else 0)

-- the private values that were delivered last are in the slots
abbrev pub with_private_values : Device → Device
with_private_values d = record d { slots = d.next }

-- a row of the table: what a load does, and what a store does
abbrev pub register_row : Bool → DeviceAccess → DeviceAccess → DeviceAccess
register_row store load_access store_access = if store then store_access else load_access

-- the access of register k, by a store of a word or by a load; there is no other register
abbrev pub device_access : Device → ℕ → Bool → ℕ → DeviceAccess
device_access d k store word =
    if k == CONOUT then register_row store (load_of 0 d) (console_store (word % 256) d)
    else if k == CONIN then register_row store (load_of (oldest_of d.waiting) (without_oldest d)) (silent_store d)
    else if k == CONSTAT then register_row store (load_of (console_state d) d) (silent_store (record d { overrun = false }))
    else if k == TICKS then register_row store (load_of d.ticks d) (silent_store d)
    else if k == TIMACK then register_row store (load_of 0 d) (silent_store (record d { timer = false }))
    else if k == HALT then register_row store (load_of 0 d) (halt_store word d)
    else if k == PRIV then register_row store (load_of 0 d) (silent_store (with_private_values d))
    else if k == PRIV0 then register_row store (load_of d.slots.a d) (silent_store d)
    else if k == PRIV1 then register_row store (load_of d.slots.b d) (silent_store d)
    else if k == PRIV2 then register_row store (load_of d.slots.c d) (silent_store d)
    else silent_store d
