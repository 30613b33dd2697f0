use Rattle.std.proofs.Common.{◌≡◌, ℕ, ◌<◌}
use Rattle.std.specs.Prelude.{true}
use Rattle.s2_duplex.specs.DuplexBoards.{has_parity}
use Rattle.s2_duplex.proofs.board.MemoryBoard.has_all_parity.Given as goal

abbrev pub invariant-loop-i : goal.invariant-loop-i
invariant-loop-i l = (k : ℕ) → k < l.i → has_parity l.self k ≡ true
