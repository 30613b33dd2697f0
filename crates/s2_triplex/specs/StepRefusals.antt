-- Which steps are lawful, and the reason why a step is not.
use Rattle.std.specs.Prelude.{ℕ, ◌==◌, Some, None, if◌then◌else◌}
use Rattle.std.specs.declared.option.Option.{Option}
use Rattle.s2_ports.specs.declared.events.BoardFault.{BoardFault}
use Rattle.s2_clock.specs.declared.watch.Slow.{Slow}
use Rattle.s2_clock.specs.ClockWatch.{slow_of}
use Rattle.s2_duplex.specs.ToleratedFaults.{faulty_board}
use Rattle.s2_revive.specs.MendingFaults.{is_fault_tolerated}
use Rattle.s2_script.specs.declared.entry.Act.{Act}
use Rattle.s2_script.specs.declared.entry.Act.TheVariants.{Event, Poke, PokeLocal, Drive, Mute, Remove, Revive, Board, Mend}
use Rattle.s2_journal.specs.declared.note.Reason.{Reason}
use Rattle.s2_journal.specs.declared.note.Reason.TheVariants.{Second, Slow as SlowReason, BothBoards}
use Rattle.s2_triplex.specs.TriplexState.{TriplexState}

-- a tick is refused where the clock of a good processor would be too slow
abbrev pub slow_reason : Option Slow → Option Reason
slow_reason None = None
slow_reason (Some slow) = Some (SlowReason slow.p slow.misses)

abbrev pub tick_refusal : TriplexState → ℕ → Option Reason
tick_refusal d mask = slow_reason (slow_of mask d.tainted d.windows)

-- an act on a processor is refused where the tainted one is another
abbrev pub second_fault : Option ℕ → ℕ → Option Reason
second_fault None p = None
second_fault (Some tainted) p = if tainted == p then None else Some (Second tainted p)

-- a fault of a board is refused where a word could be lost on both
abbrev pub board_refusal : TriplexState → BoardFault → Option Reason
board_refusal d fault = if is_fault_tolerated d.boards fault then None else Some (BothBoards (faulty_board fault))

abbrev pub act_refusal : TriplexState → Act → Option Reason
act_refusal d (Event event) = None
act_refusal d (Poke p k v) = second_fault d.tainted p
act_refusal d (PokeLocal p i v) = second_fault d.tainted p
act_refusal d (Drive p posted) = second_fault d.tainted p
act_refusal d (Mute p) = second_fault d.tainted p
act_refusal d (Remove p) = second_fault d.tainted p
act_refusal d (Revive p) = None
act_refusal d (Board fault) = board_refusal d fault
act_refusal d (Mend board) = None
