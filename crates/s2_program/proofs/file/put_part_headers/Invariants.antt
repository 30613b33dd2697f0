use Rattle.std.proofs.Common.{◌≡◌, ◌+◌, ◌*◌, ◌++◌, take}
use Rattle.s2_program.specs.Programs.{words_in}
use Rattle.s2_program.specs.PlainFiles.{part_headers}
use Rattle.s2_program.proofs.file.put_part_headers.Given as goal

abbrev pub invariant-loop-part : goal.invariant-loop-part
invariant-loop-part l = record {
  written : l.file.items ≡ l.fn.file.items ++ part_headers l.offset (take l.part-index l.parts);
  next : l.next ≡ l.offset + 4 * words_in (take l.part-index l.parts);
}
