-- One processor module as plain data, and what it asks for.
use Rattle.std.specs.Prelude.{ℕ, zero, suc, ◌%◌, ◌==◌, ◌&&◌, nat_lt, List, [], Bool, true, false, None, replicate}
use Rattle.std.specs.declared.option.Option.{Option}
use Rattle.s2_ports.specs.declared.requests.Request.{Request}
use Rattle.s2_ports.specs.declared.requests.Posted.{Posted}
use Rattle.s2_ports.specs.declared.requests.Kind.TheVariants.{Sync}
use Rattle.s2_cpu.specs.Processor.{Processor, start_of}
use Rattle.s2_pages.specs.declared.page_store.TheConstants.{LOCAL_PAGES}
use Rattle.s2_machine.specs.declared.ask.Ask.{Ask}
use Rattle.s2_machine.specs.declared.ask.Ask.TheVariants.{Outside}
use Rattle.s2_triplex.specs.TriplexCores.{TriplexCore}

-- the processor; its local list, with a mark for each page; the number of its next firing, modulo
-- REFRESH_PERIOD; whether a frame's end is due; whether it is muted; its port, which holds what it asks for and
-- waits for; the run cycles of a frame; and its private value, the number of the next firing when the port last took what it
-- asks for
pub record ModuleState : Type 0 where
  pub cpu : Processor
  pub local : List ℕ
  pub marks : List Bool
  pub fires : ℕ
  pub due : Bool
  pub muted : Bool
  pub port : Option Posted
  pub frame : ℕ
  pub private : ℕ

-- the part of a module that is equal in all good ones that have run equally far
pub record Replica : Type 0 where
  pub cpu : Processor
  pub local : List ℕ
  pub due : Bool
  pub frame : ℕ

abbrev pub replica_of : ModuleState → Replica
replica_of m = record { cpu = m.cpu; local = m.local; due = m.due; frame = m.frame }

-- a module whose replica is another
abbrev pub with_replica : ModuleState → Replica → ModuleState
with_replica m s = record m { cpu = s.cpu; local = s.local; due = s.due; frame = s.frame }

-- the synchronisation at a frame's end
abbrev pub sync_request : ℕ → Request
sync_request run = record { kind = Sync; address = 0; word = 0; mask = 0; run = run }

-- a replica asks for the synchronisation where a frame's end is due, and else for what its processor asks
abbrev pub ask_unless_due : TriplexCore → Replica → Bool → Ask
ask_unless_due k s true = Outside (sync_request s.cpu.run)
ask_unless_due k s false = k.core.ask_of s.cpu s.local

abbrev pub replica_ask : TriplexCore → Replica → Ask
replica_ask k s = ask_unless_due k s s.due

-- a frame ends at each positive multiple of its length
abbrev pub is_frame_end : ℕ → ℕ → Bool
is_frame_end frame run = nat_lt 0 run && (run % frame == 0)

-- a replica after a cycle that asks nothing, and after so many
abbrev pub after_local_cycle : TriplexCore → Replica → Replica
after_local_cycle k s = let p = k.core.after_turn s.cpu s.local in record { cpu = p; local = k.core.local_after_turn s.cpu s.local; due = is_frame_end s.frame p.run; frame = s.frame }

abbrev pub after_local_cycles : TriplexCore → ℕ → Replica → Replica
after_local_cycles k zero s = s
after_local_cycles k (suc n) s = after_local_cycle k (after_local_cycles k n s)

-- no page is marked
unfoldable pub no_marks : List Bool
no_marks = replicate LOCAL_PAGES false

-- a module at the start of a program, with a frame
abbrev pub started_module : ℕ → ℕ → List ℕ → ModuleState
started_module frame entry local = record { cpu = start_of entry; local = local; marks = no_marks; fires = 0; due = false; muted = false; port = None; frame = frame; private = 0 }

-- a module with another frame
abbrev pub module_framed : ℕ → ModuleState → ModuleState
module_framed frame m = record m { frame = frame }

-- what is read where there is no module of a number
abbrev pub blank_module : ModuleState
blank_module = record { cpu = start_of 0; local = []; marks = []; fires = 0; due = false; muted = false; port = None; frame = 0; private = 0 }
