-- Sinks in memory, as plain data.
use Rattle.std.specs.Prelude.{ℕ, ◌-◌, ◌++◌, List, [], length, min, take}
use Rattle.std.specs.declared.result.Result.{Result}
use Rattle.s2_io.specs.Counts.{count_of, after_take}
use Rattle.s2_io.specs.ListedCalls.{Calls}

-- what was taken, the most bytes in all and of one write, and how many writes took nothing
pub record SinkState : Type 0 where
  pub taken : List ℕ
  pub capacity : ℕ
  pub piece : ℕ
  pub empty_takes : ℕ

-- a sink, and its calls
pub record MemSinkState : Type 0 where
  pub sink : SinkState
  pub calls : Calls

-- nothing was taken
abbrev pub empty_sink : ℕ → ℕ → SinkState
empty_sink capacity piece = record { taken = []; capacity = capacity; piece = piece; empty_takes = 0 }

-- how many bytes a write takes that does not fail
abbrev pub taken_count : SinkState → ℕ → ℕ
taken_count sink size = min (min size sink.piece) (sink.capacity - length sink.taken)

-- the sink after a write with this answer
abbrev pub sink_after : {E : Type 0} → SinkState → List ℕ → Result ℕ E → SinkState
sink_after sink from result = record sink { taken = sink.taken ++ take (count_of result) from; empty_takes = after_take result sink.empty_takes }
