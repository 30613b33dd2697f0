use Rattle.std.proofs.Common.{◌≡◌, ◌<◌, ◌-◌, ◌^◌}
use Rattle.s2_text.specs.LineReading.{hex_reading}
use Rattle.s2_text.proofs.hexadecimal.hex.Given as goal

abbrev pub invariant-loop-i : goal.invariant-loop-i
invariant-loop-i l = (hex_reading l.count 0 l.bytes ≡ hex_reading (l.count - l.i) l.value l.rest) × (l.value < 16 ^ l.i)
