use Rattle.std.proofs.Common.{◌≡◌, ℕ, ◌-◌, ◌≤◌, true, List, []}
use Rattle.std.specs.Prelude.{Some}
use Rattle.s2_run.specs.declared.limits.TheConstants.{INPUT_LIMIT}
use Rattle.s2_run.proofs.Checking.{Checking}
use Rattle.s2_run.proofs.check.check_lines.Given as goal

-- lines of a script were read, and no count rose
abbrev pub invariant-loop-size : goal.invariant-loop-size
invariant-loop-size g l = record {
  told : (s : List ℕ) → g.S.Source.left l.fn.input ≡ Some s → Checking s l.taken l.lines (g.S.Source.left l.input);
  ended : (s : List ℕ) → g.S.Source.left l.fn.input ≡ Some s → l.ended ≡ true → g.S.Source.left l.input ≡ Some [];
  below : l.taken ≤ INPUT_LIMIT;
  count : l.lines ≤ l.taken;
  faults : g.S.Source.faults l.input ≡ g.S.Source.faults l.fn.input;
}

abbrev pub decreases-loop-size : goal.decreases-loop-size
decreases-loop-size g l = INPUT_LIMIT - l.taken
