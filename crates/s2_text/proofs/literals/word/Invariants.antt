use Rattle.std.proofs.Common.{◌≡◌, drop}
use Rattle.s2_text.specs.LineReading.{word_reading}
use Rattle.s2_text.proofs.literals.word.Given as goal

abbrev pub invariant-loop-expected : goal.invariant-loop-expected
invariant-loop-expected l = word_reading l.text l.bytes ≡ word_reading (drop l.expected-index l.text) l.rest
