use Rattle.std.proofs.Common.{◌≡◌, ℕ, ◌<◌, length, get_or}
use Rattle.std.specs.Prelude.{false}
use Rattle.s2_duplex.specs.BoardParity.{parity_of}
use Rattle.s2_duplex.proofs.bits.ParityBits.of.Given as goal

abbrev pub invariant-loop-i : goal.invariant-loop-i
invariant-loop-i l = (length l.bits ≡ length l.words) × ((k : ℕ) → k < l.i → get_or l.bits k false ≡ parity_of (get_or l.words k 0))
