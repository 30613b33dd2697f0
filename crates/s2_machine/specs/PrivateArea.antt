-- The private-write area as an access reaches it: which requests store to it and which load a slot.
use Rattle.std.specs.Prelude.{ℕ, ◌≡◌, ◌+◌, ◌<◌, ◌==◌, Bool, true, false, List, if◌then◌else◌}
use Rattle.s2_base.specs.Map.{place_at}
use Rattle.s2_base.specs.declared.devices.TheConstants.{PRIV, PRIV0}
use Rattle.s2_base.specs.declared.places.Place.{Place}
use Rattle.s2_base.specs.declared.places.Place.TheVariants.{Local, Boot, Global, Device as DevicePlace, Nowhere}
use Rattle.s2_ports.specs.declared.requests.Request.{Request}
use Rattle.s2_ports.specs.declared.requests.Kind.{Kind}
use Rattle.s2_ports.specs.declared.requests.Kind.TheVariants.{Load, Store, Sync}
use Rattle.s2_device.specs.declared.slots.Slots.{Slots}
use Rattle.s2_device.specs.DeviceState.{Device}
use Rattle.s2_machine.specs.OutsideAccess.{AccessResult}

-- a place is that of PRIV
abbrev pub is_private_place : Place → Bool
is_private_place (DevicePlace k) = k == PRIV
is_private_place (Local i) = false
is_private_place (Boot i) = false
is_private_place (Global i) = false
is_private_place Nowhere = false

-- a request stores to PRIV
abbrev pub stores_at : Kind → Place → Bool
stores_at Store place = is_private_place place
stores_at Load place = false
stores_at Sync place = false

abbrev pub is_private_store : Request → Bool
is_private_store r = stores_at r.kind (place_at r.address)

-- the slot of processor p
abbrev pub slot_of : Slots → ℕ → ℕ
slot_of s p = if p == 0 then s.a else if p == 1 then s.b else s.c

-- a request loads the slot of processor p
pub record LoadsSlot (r : Request) (p : ℕ) : Type 0 where
  pub low : p < 3
  pub kind : r.kind ≡ Load
  pub place : place_at r.address ≡ DevicePlace (PRIV0 + p)

-- what an access does to the slots: a store to PRIV puts the values into them that were delivered last; nothing
-- else changes them; and a load of one gives it
pub record KeepsSlots (access : List ℕ → Device → Request → AccessResult) : Type 0 where
  pub stored : (global : List ℕ) (device : Device) (r : Request) → is_private_store r ≡ true → (access global device r).device.slots ≡ device.next
  pub kept : (global : List ℕ) (device : Device) (r : Request) → is_private_store r ≡ false → (access global device r).device.slots ≡ device.slots
  pub loaded : (global : List ℕ) (device : Device) (r : Request) (p : ℕ) → LoadsSlot r p → (access global device r).word ≡ slot_of device.slots p
