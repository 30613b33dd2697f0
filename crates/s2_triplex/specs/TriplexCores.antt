-- What the triple machine asks of a processor core: the core itself, and what an access does to the two boards. All that is said of the triple machine is said over any such record.
use Rattle.std.specs.Prelude.{◌≡◌}
use Rattle.s2_ports.specs.declared.requests.Request.{Request}
use Rattle.s2_device.specs.DeviceState.{Device}
use Rattle.s2_revive.specs.MendingBoards.{MendingBoards, MendingRead, AreMendingBoards, memory_of}
use Rattle.s2_machine.specs.Cores.{Core, IsCore}

-- the core; and the boards after an access, with the number of the board of which it rewrote a bad word
pub record TriplexCore : Type 0 where
  pub core : Core
  pub boards_after : MendingBoards → Request → MendingRead

-- the boards after an access are those of a list again, this list is the one that the access leaves, and the same
-- board mends as before
pub record KeepsBoards (k : TriplexCore) (s : MendingBoards) (device : Device) (r : Request) : Type 0 where
  pub boards : AreMendingBoards (k.boards_after s r).boards
  pub memory : memory_of (k.boards_after s r).boards ≡ (k.core.access (memory_of s) device r).global
  pub mending : (k.boards_after s r).boards.mending ≡ s.mending

-- what is used of it
pub record IsTriplexCore (k : TriplexCore) : Type 0 where
  pub core : IsCore k.core
  pub boards : (s : MendingBoards) (device : Device) (r : Request) → AreMendingBoards s → KeepsBoards k s device r
