-- An access of the R2000 keeps the slots of the private-write area.
use Rattle.std.proofs.Common.{◌≡◌, ℕ, zero, suc, ◌+◌, ◌<◌, Bool, true, false, List, refl, sym, ap, subst, ◌∙◌, arith}
use Rattle.std.specs.Prelude.{◌==◌, ◌%◌, if◌then◌else◌}
use Rattle.std.proofs.lemmas.Bool.Decides.{nat_tests}
use Rattle.s2_base.specs.Map.{place_at}
use Rattle.s2_base.specs.declared.devices.TheConstants.{CONOUT, CONIN, CONSTAT, TICKS, TIMACK, HALT, PRIV, PRIV0, PRIV1, PRIV2}
use Rattle.s2_base.specs.declared.places.Place.{Place}
use Rattle.s2_base.specs.declared.places.Place.TheVariants.{Local, Boot, Global, Device as DevicePlace, Nowhere}
use Rattle.s2_ports.specs.declared.requests.Kind.{Kind}
use Rattle.s2_ports.specs.declared.requests.Kind.TheVariants.{Load, Store, Sync}
use Rattle.s2_device.specs.declared.slots.Slots.{Slots}
use Rattle.s2_device.specs.DeviceState.{Device}
use Rattle.s2_device.specs.DeviceRegisters.{device_access, console_state, console_store, halt_store, load_of, oldest_of, register_row, silent_store, with_private_values, without_oldest}
use Rattle.s2_machine.specs.OutsideAccess.{access_at, access_of_request}
use Rattle.s2_machine.specs.PrivateArea.{KeepsSlots, slot_of, stores_at}

-- a load of a register leaves them, and so does a store to each but PRIV
load_by : (d : Device) (word : ℕ) (b0 b1 b2 b3 b4 b5 b6 b7 b8 b9 : Bool) → (if b0 then register_row false (load_of 0 d) (console_store (word % 256) d) else (if b1 then register_row false (load_of (oldest_of d.waiting) (without_oldest d)) (silent_store d) else (if b2 then register_row false (load_of (console_state d) d) (silent_store (record d { overrun = false })) else (if b3 then register_row false (load_of d.ticks d) (silent_store d) else (if b4 then register_row false (load_of 0 d) (silent_store (record d { timer = false })) else (if b5 then register_row false (load_of 0 d) (halt_store word d) else (if b6 then register_row false (load_of 0 d) (silent_store (with_private_values d)) else (if b7 then register_row false (load_of d.slots.a d) (silent_store d) else (if b8 then register_row false (load_of d.slots.b d) (silent_store d) else (if b9 then register_row false (load_of d.slots.c d) (silent_store d) else silent_store d)))))))))).device.slots ≡ d.slots
load_by d word true b1 b2 b3 b4 b5 b6 b7 b8 b9 = refl
load_by d word false true b2 b3 b4 b5 b6 b7 b8 b9 = refl
load_by d word false false true b3 b4 b5 b6 b7 b8 b9 = refl
load_by d word false false false true b4 b5 b6 b7 b8 b9 = refl
load_by d word false false false false true b5 b6 b7 b8 b9 = refl
load_by d word false false false false false true b6 b7 b8 b9 = refl
load_by d word false false false false false false true b7 b8 b9 = refl
load_by d word false false false false false false false true b8 b9 = refl
load_by d word false false false false false false false false true b9 = refl
load_by d word false false false false false false false false false true = refl
load_by d word false false false false false false false false false false = refl

load_leaves : (d : Device) (k : ℕ) (word : ℕ) → (device_access d k false word).device.slots ≡ d.slots
load_leaves d k word = load_by d word (k == CONOUT) (k == CONIN) (k == CONSTAT) (k == TICKS) (k == TIMACK) (k == HALT) (k == PRIV) (k == PRIV0) (k == PRIV1) (k == PRIV2)

store_by : (d : Device) (word : ℕ) (b0 b1 b2 b3 b4 b5 b6 b7 b8 b9 : Bool) → b6 ≡ false → (if b0 then register_row true (load_of 0 d) (console_store (word % 256) d) else (if b1 then register_row true (load_of (oldest_of d.waiting) (without_oldest d)) (silent_store d) else (if b2 then register_row true (load_of (console_state d) d) (silent_store (record d { overrun = false })) else (if b3 then register_row true (load_of d.ticks d) (silent_store d) else (if b4 then register_row true (load_of 0 d) (silent_store (record d { timer = false })) else (if b5 then register_row true (load_of 0 d) (halt_store word d) else (if b6 then register_row true (load_of 0 d) (silent_store (with_private_values d)) else (if b7 then register_row true (load_of d.slots.a d) (silent_store d) else (if b8 then register_row true (load_of d.slots.b d) (silent_store d) else (if b9 then register_row true (load_of d.slots.c d) (silent_store d) else silent_store d)))))))))).device.slots ≡ d.slots
store_by d word true b1 b2 b3 b4 b5 b6 b7 b8 b9 h = refl
store_by d word false true b2 b3 b4 b5 b6 b7 b8 b9 h = refl
store_by d word false false true b3 b4 b5 b6 b7 b8 b9 h = refl
store_by d word false false false true b4 b5 b6 b7 b8 b9 h = refl
store_by d word false false false false true b5 b6 b7 b8 b9 h = refl
store_by d word false false false false false true b6 b7 b8 b9 h = refl
store_by d word false false false false false false true b7 b8 b9 h = absurd cc
store_by d word false false false false false false false true b8 b9 h = refl
store_by d word false false false false false false false false true b9 h = refl
store_by d word false false false false false false false false false true h = refl
store_by d word false false false false false false false false false false h = refl

store_does : (d : Device) (k : ℕ) (word : ℕ) → (device_access d k true word).device.slots ≡ (if k == PRIV then d.next else d.slots)
store_does d k word = by_priv (k == PRIV) refl
  where
    by_priv : (b : Bool) → (k == PRIV) ≡ b → (device_access d k true word).device.slots ≡ (if b then d.next else d.slots)
    by_priv true is = let same : k ≡ PRIV = grind (arith, nat_tests) in subst (λ (n : ℕ). (device_access d n true word).device.slots ≡ d.next) (sym same) refl
    by_priv false is = store_by d word (k == CONOUT) (k == CONIN) (k == CONSTAT) (k == TICKS) (k == TIMACK) (k == HALT) (k == PRIV) (k == PRIV0) (k == PRIV1) (k == PRIV2) is

slots_at : (global : List ℕ) (d : Device) (kind : Kind) (word mask : ℕ) (place : Place) → (access_at global d kind word mask place).device.slots ≡ (if stores_at kind place then d.next else d.slots)
slots_at global d Load word mask (DevicePlace k) = load_leaves d k 0
slots_at global d Load word mask (Global i) = refl
slots_at global d Load word mask (Local i) = refl
slots_at global d Load word mask (Boot i) = refl
slots_at global d Load word mask Nowhere = refl
slots_at global d Store word mask (DevicePlace k) = store_does d k word
slots_at global d Store word mask (Global i) = refl
slots_at global d Store word mask (Local i) = refl
slots_at global d Store word mask (Boot i) = refl
slots_at global d Store word mask Nowhere = refl
slots_at global d Sync word mask (DevicePlace k) = refl
slots_at global d Sync word mask (Global i) = refl
slots_at global d Sync word mask (Local i) = refl
slots_at global d Sync word mask (Boot i) = refl
slots_at global d Sync word mask Nowhere = refl

by_test : (b : Bool) (s t : Slots) → b ≡ true → (if b then s else t) ≡ s
by_test true s t h = refl
by_test false s t h = absurd cc

by_other : (b : Bool) (s t : Slots) → b ≡ false → (if b then s else t) ≡ t
by_other true s t h = absurd cc
by_other false s t h = refl

slot_at : (global : List ℕ) (d : Device) (word mask p : ℕ) → p < 3 → (access_at global d Load word mask (DevicePlace (PRIV0 + p))).word ≡ slot_of d.slots p
slot_at global d word mask zero low = refl
slot_at global d word mask (suc zero) low = refl
slot_at global d word mask (suc (suc zero)) low = refl
slot_at global d word mask (suc (suc (suc p))) low = absurd (omega arith)

pub access_keeps_slots : KeepsSlots access_of_request
access_keeps_slots = record {
  stored = λ global d r h. slots_at global d r.kind r.word r.mask (place_at r.address) ∙ by_test _ _ _ h;
  kept = λ global d r h. slots_at global d r.kind r.word r.mask (place_at r.address) ∙ by_other _ _ _ h;
  loaded = λ global d r p h.
      ap (λ (kind : Kind). (access_at global d kind r.word r.mask (place_at r.address)).word) h.kind ∙
      (ap (λ (place : Place). (access_at global d Load r.word r.mask place).word) h.place ∙ slot_at global d r.word r.mask p h.low);
}
