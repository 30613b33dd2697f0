-- The R2000 in the triple machine, over the boards of global memory.
use Rattle.std.specs.Prelude.{ℕ, None}
use Rattle.s2_base.specs.Words.{bytes_into_of}
use Rattle.s2_base.specs.Map.{place_at}
use Rattle.s2_base.specs.declared.places.Place.{Place}
use Rattle.s2_base.specs.declared.places.Place.TheVariants.{Global}
use Rattle.s2_ports.specs.declared.requests.Request.{Request}
use Rattle.s2_ports.specs.declared.requests.Kind.{Kind}
use Rattle.s2_ports.specs.declared.requests.Kind.TheVariants.{Load, Store}
use Rattle.s2_duplex.specs.DuplexBoards.{valid_word}
use Rattle.s2_revive.specs.MendingBoards.{MendingBoards, MendingRead, mending_read, mending_written}
use Rattle.s2_machine.specs.R2000.{r2000}
use Rattle.s2_triplex.specs.TriplexCores.{TriplexCore, IsTriplexCore}

-- an access that leaves the boards
abbrev pub boards_unread : MendingBoards → MendingRead
boards_unread s = record { boards = s; repaired = None }

-- a load reads a word of global memory, and a store sets its masked bytes; everywhere else the boards stay
abbrev pub boards_after_access : MendingBoards → Kind → ℕ → ℕ → Place → MendingRead
boards_after_access s Load word mask (Global i) = mending_read s i
boards_after_access s Store word mask (Global i) = boards_unread (mending_written s i (bytes_into_of (valid_word s.pair i) word mask))
boards_after_access s kind word mask place = boards_unread s

abbrev pub boards_after_request : MendingBoards → Request → MendingRead
boards_after_request s r = boards_after_access s r.kind r.word r.mask (place_at r.address)

-- the core of the machine that is built
abbrev pub r2000_triplex : TriplexCore
r2000_triplex = record { core = r2000; boards_after = boards_after_request }

-- it is a core
abbrev pub R2000IsTriplexCore : Type 0
R2000IsTriplexCore = IsTriplexCore r2000_triplex
