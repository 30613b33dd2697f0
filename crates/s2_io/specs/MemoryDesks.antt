-- Desks in memory, as plain data.
use Rattle.std.specs.Prelude.{ℕ, ◌||◌, not, Bool, List, Some, None, if◌then◌else◌}
use Rattle.std.specs.Str.{bytes_eq}
use Rattle.std.specs.declared.option.Option.{Option}
use Rattle.s2_io.specs.ListedCalls.{Calls, is_failing}

-- the bytes of one file, and how many calls found it too big
pub record DeskState : Type 0 where
  pub bytes : List ℕ
  pub large : ℕ

-- a desk whose file has a name, and its calls
pub record MemDeskState : Type 0 where
  pub name : List ℕ
  pub desk : DeskState
  pub calls : Calls

-- the bytes of a name, where it is the one that the desk holds
abbrev pub held_of : MemDeskState → List ℕ → Option (List ℕ)
held_of d name = if bytes_eq name d.name then Some d.desk.bytes else None

-- the next call for this name is one of those that fail, or the desk does not hold the name
abbrev pub is_desk_failing : MemDeskState → List ℕ → Bool
is_desk_failing d name = is_failing d.calls || not (bytes_eq name d.name)
