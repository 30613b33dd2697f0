-- The numbers of the statuses.
use Rattle.std.specs.Prelude.{ℕ}
use Rattle.s2_run.specs.declared.status.Status.{Status}
use Rattle.s2_run.specs.declared.status.Status.TheVariants.{Done, Usage, Elf, BadLine, Outside, ReadFault, WriteFault, TooBig, TooLong, Memory}

abbrev pub number_of : Status → ℕ
number_of Done = 0
number_of Usage = 2
number_of (Elf fault) = 3
number_of (BadLine line column) = 4
number_of (Outside line reason) = 5
number_of ReadFault = 6
number_of WriteFault = 7
number_of (TooBig limit) = 8
number_of (TooLong line) = 9
number_of Memory = 10
