-- The general registers, a list of 32 words whose first is 0 (MIPS R2000, the general registers).
use Rattle.std.specs.Prelude.{ℕ, ◌≡◌, List, ◌==◌, length, replicate, slice_index, slice_set, if◌then◌else◌}
use Rattle.s2_cpu.specs.declared.general_registers.TheConstants.{REGISTERS}

-- all of them 0
abbrev pub zero_registers : List ℕ
zero_registers = replicate REGISTERS 0

-- the registers after a write; register 0 stays
abbrev pub register_set : List ℕ → ℕ → ℕ → List ℕ
register_set r n v = if n == 0 then r else slice_set r n v

-- as many words as there are general registers, of which the first is 0
pub record AreGeneralRegisters (r : List ℕ) : Type 0 where
  pub count : length r ≡ REGISTERS
  pub zero : slice_index r 0 ≡ 0
