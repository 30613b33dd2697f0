-- The ranges of what a step holds, which the code relies on.
use Rattle.std.specs.Prelude.{ℕ, ◌<◌, ◌≤◌}
use Rattle.s2_base.specs.declared.devices.TheConstants.{PRIV2}
use Rattle.s2_base.specs.declared.map.TheConstants.{LOCAL_WORDS, GLOBAL_WORDS}
use Rattle.s2_base.specs.declared.places.Place.{Place}
use Rattle.s2_base.specs.declared.places.Place.TheVariants.{Local, Boot, Global, Device, Nowhere}
use Rattle.s2_cpu.specs.Exceptions.{IsException}
use Rattle.s2_machine.specs.declared.ask.Ask.{Ask}
use Rattle.s2_machine.specs.declared.ask.Ask.TheVariants.{Local as LocalAsk, Outside}
use Rattle.s2_machine.specs.declared.step.Step.{Step}
use Rattle.s2_machine.specs.declared.step.Step.TheVariants.{Raise, Proceed, Set, SetHiLo, Jump, Delay, Load, Store, SetControl, ReadEntry, WriteEntry, ProbeEntry, Restore}

-- an index of a place is within its list
abbrev pub IsPlaced : Place → Type 0
IsPlaced (Local i) = i < LOCAL_WORDS
IsPlaced (Boot i) = i < LOCAL_WORDS
IsPlaced (Global i) = i < GLOBAL_WORDS
IsPlaced (Device k) = k ≤ PRIV2
IsPlaced Nowhere = Unit {0}

-- a load has a register, a byte of a word and a place; a store has a mask and a place
pub record IsLoad (reg byte : ℕ) (place : Place) : Type 0 where
  pub has_register : reg < 32
  pub has_byte : byte < 4
  pub has_place : IsPlaced place

pub record IsStore (mask : ℕ) (place : Place) : Type 0 where
  pub has_mask : mask < 16
  pub has_place : IsPlaced place

abbrev pub IsSound : Step → Type 0
IsSound (Raise e) = IsException e
IsSound Proceed = Unit {0}
IsSound (Set reg value) = reg < 32
IsSound (SetHiLo hi lo) = Unit {0}
IsSound (Jump target link) = link < 32
IsSound (Delay reg value) = reg < 32
IsSound (Load op reg byte address place) = IsLoad reg byte place
IsSound (Store word mask address place) = IsStore mask place
IsSound (SetControl reg value) = reg < 32
IsSound ReadEntry = Unit {0}
IsSound (WriteEntry index) = index < 64
IsSound ProbeEntry = Unit {0}
IsSound Restore = Unit {0}

-- a request has a mask of four bits
abbrev pub HasMask : Ask → Type 0
HasMask LocalAsk = Unit {0}
HasMask (Outside request) = request.mask < 16
