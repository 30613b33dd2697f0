use Rattle.std.proofs.Common.{◌≡◌, ◌+◌, ◌-◌, ◌++◌, length}
use Rattle.s2_text.specs.LineReading.{name_from}
use Rattle.s2_text.proofs.names.name_tail.Given as goal

abbrev pub invariant-loop-i : goal.invariant-loop-i
invariant-loop-i l =
    (l.fn.start.items ++ (name_from 15 l.bytes).0 ≡ l.taken.items ++ (name_from (15 - l.i) l.rest).0)
    × ((name_from 15 l.bytes).1 ≡ (name_from (15 - l.i) l.rest).1)
    × (length l.taken.items ≡ l.i + 1)
