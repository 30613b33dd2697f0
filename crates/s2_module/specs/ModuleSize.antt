-- The ranges that every module keeps, which its callers rely on.
use Rattle.std.specs.Prelude.{◌≡◌, ◌<◌, length, Some, None}
use Rattle.std.specs.declared.option.Option.{Option}
use Rattle.s2_base.specs.declared.map.TheConstants.{LOCAL_WORDS}
use Rattle.s2_ports.specs.declared.requests.Posted.{Posted}
use Rattle.s2_pages.specs.declared.page_store.TheConstants.{LOCAL_PAGES}
use Rattle.s2_clock.specs.declared.numbers.TheConstants.{REFRESH_PERIOD}
use Rattle.s2_triplex.specs.ModuleState.{ModuleState}

-- as many words and marks as a local list has words and pages, and the number of a firing of a period
pub record IsModuleSize (m : ModuleState) : Type 0 where
  pub words : length m.local ≡ LOCAL_WORDS
  pub pages : length m.marks ≡ LOCAL_PAGES
  pub fires : m.fires < REFRESH_PERIOD

-- a request in a port has a mask of four bits, as all have that a module posts of itself
abbrev pub HasPortMask : Option Posted → Type 0
HasPortMask None = Unit {0}
HasPortMask (Some posted) = posted.request.mask < 16
