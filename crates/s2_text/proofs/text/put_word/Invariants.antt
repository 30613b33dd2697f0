use Rattle.std.proofs.Common.{◌≡◌, ◌++◌, take}
use Rattle.s2_text.proofs.text.put_word.Given as goal

abbrev pub invariant-loop-byte : goal.invariant-loop-byte
invariant-loop-byte l = l.into.items ≡ l.fn.into.items ++ take l.byte-index l.text
