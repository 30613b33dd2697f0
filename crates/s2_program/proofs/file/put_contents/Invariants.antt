use Rattle.std.proofs.Common.{◌≡◌, ◌++◌, take}
use Rattle.s2_program.specs.PlainFiles.{contents}
use Rattle.s2_program.proofs.file.put_contents.Given as goal

abbrev pub invariant-loop-part : goal.invariant-loop-part
invariant-loop-part l = l.file.items ≡ l.fn.file.items ++ contents (take l.part-index l.parts)
