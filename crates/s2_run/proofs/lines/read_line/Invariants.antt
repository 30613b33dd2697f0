use Rattle.std.proofs.Common.{◌≡◌, ℕ, ◌≤◌, false, List}
use Rattle.std.specs.Prelude.{Some}
use Rattle.s2_run.proofs.LineList.{ReadPart}
use Rattle.s2_run.proofs.lines.read_line.Given as goal

-- a front of the line was read, and no count rose
abbrev pub invariant-loop-size : goal.invariant-loop-size
invariant-loop-size g l = record {
  told : (s : List ℕ) → g.S.Source.left l.fn.input ≡ Some s → ReadPart s l.size l.line (g.S.Source.left l.input);
  going : l.ended ≡ false;
  below : l.size ≤ l.room;
  faults : g.S.Source.faults l.input ≡ g.S.Source.faults l.fn.input;
}
