-- Firings of a module that do nothing but count.
use Rattle.std.specs.Prelude.{ℕ, ◌+◌, ◌-◌, ◌^◌, ◌%◌, ◌||◌, nat_lt, is_some, if◌then◌else◌}
use Rattle.s2_clock.specs.declared.numbers.TheConstants.{REFRESH_PERIOD}
use Rattle.s2_triplex.specs.ModuleState.{ModuleState}
use Rattle.s2_triplex.specs.ModuleFiring.{first_refresh}

-- so many firings are counted
abbrev pub module_idled_by : ℕ → ModuleState → ModuleState
module_idled_by n m = record m { fires = (m.fires + n) % REFRESH_PERIOD }

-- how many firings in a row do nothing else
abbrev pub idle_firings : ModuleState → ℕ
idle_firings m = if m.muted || is_some m.port then 2 ^ 64 - 1 else if nat_lt m.fires first_refresh then 0 else REFRESH_PERIOD - m.fires
