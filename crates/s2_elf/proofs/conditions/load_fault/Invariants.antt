-- No condition on a header before the index is false, and the segments there have their file bytes.
use Rattle.std.proofs.Common.{◌≡◌, List, ℕ}
use Rattle.s2_elf.proofs.HeaderLoops.{load_from, HasSegmentsBefore}
use Rattle.s2_elf.proofs.conditions.load_fault.Given as goal

pub record Passed (bytes : List ℕ) (i : ℕ) : Type 0 where
  pub none : load_from bytes 0 ≡ load_from bytes i
  pub segments : HasSegmentsBefore bytes i

abbrev pub invariant-loop-i : goal.invariant-loop-i
invariant-loop-i l = Passed l.bytes l.i
