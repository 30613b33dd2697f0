-- The R2000 as a core.
use Rattle.s2_machine.specs.Cores.{Core}
use Rattle.s2_machine.specs.LocalWork.{ask_of, after_turn, local_after_turn, marks_after_turn, after_finish}
use Rattle.s2_machine.specs.OutsideAccess.{access_of_request}

abbrev pub r2000 : Core
r2000 = record { ask_of = ask_of; after_turn = after_turn; local_after_turn = local_after_turn; marks_after_turn = marks_after_turn; after_finish = after_finish; access = access_of_request }
