-- Sources in memory, as plain data.
use Rattle.std.specs.Prelude.{ℕ, List, length, min, drop}
use Rattle.s2_io.specs.ListedCalls.{Calls}

-- the bytes that are left, and the most bytes of one read
pub record SourceState : Type 0 where
  pub left : List ℕ
  pub piece : ℕ

-- a source, and its calls
pub record MemSourceState : Type 0 where
  pub source : SourceState
  pub calls : Calls

-- how many bytes a read gives that does not fail
abbrev pub given_count : SourceState → ℕ → ℕ
given_count source room = min (min (length source.left) room) source.piece

-- the source after so many bytes
abbrev pub source_after : SourceState → ℕ → SourceState
source_after source n = record source { left = drop n source.left }
