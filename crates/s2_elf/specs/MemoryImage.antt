-- A program in memory, as plain data.
use Rattle.std.specs.Prelude.{ℕ, List}

-- the virtual address of its first instruction, the words of local memory and after them those of the
-- boot store, and the words of global memory
pub record MemoryImage : Type 0 where
  pub entry : ℕ
  pub local : List ℕ
  pub global : List ℕ
