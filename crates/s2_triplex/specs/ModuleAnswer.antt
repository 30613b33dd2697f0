-- The answer of a module, whatever state it is in.
use Rattle.std.specs.Prelude.{ℕ, Bool, false, None, if◌then◌else◌}
use Rattle.s2_ports.specs.declared.requests.Request.{Request}
use Rattle.s2_ports.specs.declared.requests.Kind.{Kind}
use Rattle.s2_ports.specs.declared.requests.Kind.TheVariants.{Load, Store, Sync}
use Rattle.s2_voter.specs.RequestEquality.{is_same_request}
use Rattle.s2_machine.specs.WriteBack.{with_lines}
use Rattle.s2_machine.specs.declared.ask.Ask.{Ask}
use Rattle.s2_machine.specs.declared.ask.Ask.TheVariants.{Local, Outside}
use Rattle.s2_triplex.specs.TriplexCores.{TriplexCore}
use Rattle.s2_triplex.specs.ModuleState.{ModuleState, Replica, replica_of, with_replica, replica_ask, is_frame_end}

-- the processor ends the cycle that asked, with the word that was read and the lines of the devices
abbrev pub after_answered_cycle : TriplexCore → ℕ → ℕ → Replica → Replica
after_answered_cycle k word lines s = let p = k.core.after_finish s.cpu s.local word lines in record { cpu = p; local = s.local; due = is_frame_end s.frame p.run; frame = s.frame }

-- at a frame's end it sees the lines of the devices, and no frame's end is due
abbrev pub finished_replica : TriplexCore → Kind → ℕ → ℕ → Replica → Replica
finished_replica k Sync word lines s = record s { cpu = with_lines s.cpu lines; due = false }
finished_replica k Load word lines s = after_answered_cycle k word lines s
finished_replica k Store word lines s = after_answered_cycle k word lines s

-- whether a module asks for this request
abbrev pub is_asking : Ask → Request → Bool
is_asking Local request = false
is_asking (Outside asked) request = is_same_request request asked

-- a module that asks for what was agreed finishes; another changes by its port alone, which becomes empty
abbrev pub answered : TriplexCore → Request → ℕ → ℕ → ModuleState → ModuleState
answered k request word lines m =
    record (if is_asking (replica_ask k (replica_of m)) request then with_replica m (finished_replica k request.kind word lines (replica_of m)) else m) { port = None }
