-- Ticks of one module alone, one after another.
use Rattle.std.specs.Prelude.{ℕ, zero, suc, ◌≡◌, ◌<◌, ◌&&◌, nat_lt, List, Bool, true, false, None}
use Rattle.s2_core.specs.Working.{is_local}
use Rattle.s2_cpu.specs.Processor.{Processor}
use Rattle.s2_machine.specs.LocalWork.{after_turn, ask_of, local_after_turn, marks_after_turn}
use Rattle.s2_triplex.specs.TriplexCores.{TriplexCore}
use Rattle.s2_triplex.specs.ModuleState.{ModuleState, is_frame_end}
use Rattle.s2_triplex.specs.ModuleFiring.{first_refresh, module_ticked, is_posting}

-- the module after so many ticks, which all are its firings, or none is
unfoldable pub module_ticks : TriplexCore → ℕ → Bool → Bool → ℕ → ModuleState → ModuleState
module_ticks k seen member fires zero m = m
module_ticks k seen member fires (suc n) m = module_ticked k seen member fires (module_ticks k seen member fires n m)

-- whether it posts a request at the tick that comes after so many
abbrev pub posts_at : TriplexCore → ℕ → Bool → Bool → ℕ → ModuleState → Bool
posts_at k seen member fires n m = fires && is_posting k (module_ticks k seen member fires n m) member

-- a processor, its local list and its marks, through cycles that ask nothing
pub record Turning : Type 0 where
  pub cpu : Processor
  pub local : List ℕ
  pub marks : List Bool

abbrev pub turned : Turning → Turning
turned s = record { cpu = after_turn s.cpu s.local; local = local_after_turn s.cpu s.local; marks = marks_after_turn s.cpu s.local s.marks }

unfoldable pub turns : ℕ → Turning → Turning
turns zero s = s
turns (suc n) s = turned (turns n s)

-- so many cycles that ask nothing, of which none but the last ends a frame of so many run cycles
pub record AreTurns (frame n : ℕ) (s : Turning) : Type 0 where
  pub stays : (j : ℕ) → j < n → is_local (ask_of (turns j s).cpu (turns j s).local) ≡ true
  pub within : (j : ℕ) → 0 < j → j < n → is_frame_end frame (turns j s).cpu.run ≡ false

abbrev pub turning_of : ModuleState → Turning
turning_of m = record { cpu = m.cpu; local = m.local; marks = m.marks }

-- a module whose firings run cycles
pub record IsRunning (m : ModuleState) : Type 0 where
  pub heard : m.muted ≡ false
  pub free : m.port ≡ None
  pub going : m.due ≡ false

-- a module whose next firing posts what its cycle asks
pub record IsAsking (m : ModuleState) : Type 0 where
  pub running : IsRunning m
  pub works : nat_lt m.fires first_refresh ≡ true
  pub asks : is_local (ask_of m.cpu m.local) ≡ false

-- where so many cycles have led
pub record IsTurned (n : ℕ) (s : Turning) (p : Processor) (l : List ℕ) (ms : List Bool) : Type 0 where
  pub cpu : p ≡ (turns n s).cpu
  pub local : l ≡ (turns n s).local
  pub marks : ms ≡ (turns n s).marks
