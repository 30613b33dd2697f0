-- One cycle of the machine with one R2000.
use Rattle.s2_machine.specs.Machine.{Machine}
use Rattle.s2_machine.specs.Cores.{Outcome, core_cycle}
use Rattle.s2_machine.specs.R2000.{r2000}

abbrev pub cycle : Machine → Outcome
cycle m = core_cycle r2000 m
