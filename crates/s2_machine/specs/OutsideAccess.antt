-- An access of global memory or a device.
use Rattle.std.specs.Prelude.{ℕ, List, slice_index, slice_set, true, false, None}
use Rattle.std.specs.declared.option.Option.{Option}
use Rattle.s2_base.specs.Words.{bytes_into_of}
use Rattle.s2_base.specs.Map.{place_at}
use Rattle.s2_base.specs.declared.places.Place.{Place}
use Rattle.s2_base.specs.declared.places.Place.TheVariants.{Global, Device as DevicePlace}
use Rattle.s2_ports.specs.declared.requests.Request.{Request}
use Rattle.s2_ports.specs.declared.requests.Kind.{Kind}
use Rattle.s2_ports.specs.declared.requests.Kind.TheVariants.{Load, Store}
use Rattle.s2_device.specs.DeviceState.{Device}
use Rattle.s2_device.specs.DeviceRegisters.{device_access, DeviceAccess}

-- the word that a load reads, the global list and the devices after the access, the byte for the console, and
-- the halt value that a store to HALT gives
pub record AccessResult : Type 0 where
  pub word : ℕ
  pub global : List ℕ
  pub device : Device
  pub out : Option ℕ
  pub halt : Option ℕ

-- an access that leaves all as it is
abbrev pub read_as : ℕ → List ℕ → Device → AccessResult
read_as word global device = record { word = word; global = global; device = device; out = None; halt = None }

-- an access of a device
abbrev pub device_result : List ℕ → DeviceAccess → AccessResult
device_result global a = record { word = a.effect.word; global = global; device = a.device; out = a.effect.out; halt = a.effect.halt }

abbrev pub access_at : List ℕ → Device → Kind → ℕ → ℕ → Place → AccessResult
access_at global device Load word mask (Global i) = read_as (slice_index global i) global device
access_at global device Store word mask (Global i) = read_as 0 (slice_set global i (bytes_into_of (slice_index global i) word mask)) device
access_at global device Load word mask (DevicePlace k) = device_result global (device_access device k false 0)
access_at global device Store word mask (DevicePlace k) = device_result global (device_access device k true word)
access_at global device kind word mask place = read_as 0 global device

abbrev pub access_of_request : List ℕ → Device → Request → AccessResult
access_of_request global device r = access_at global device r.kind r.word r.mask (place_at r.address)
