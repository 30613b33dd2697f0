use Rattle.std.proofs.Common.{◌≡◌, ◌≤◌, drop}
use Rattle.s2_text.specs.LineReading.{digits_from}
use Rattle.s2_text.proofs.decimal.digits.Given as goal

abbrev pub invariant-loop-i : goal.invariant-loop-i
invariant-loop-i l = (digits_from l.high l.value l.bytes ≡ digits_from l.high l.number (drop l.i l.bytes)) × (l.number ≤ l.high)
