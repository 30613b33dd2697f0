-- Replica equality: all good processors have come from one replica, that of the last resume, by cycles at which
-- they asked nothing.
use Rattle.std.specs.Prelude.{ℕ, ◌≡◌, ◌<◌, ◌≤◌, ◌+◌, ◌^◌, true, Some, None}
use Rattle.std.specs.declared.option.Option.{Option}
use Rattle.s2_ports.specs.declared.requests.Posted.{Posted}
use Rattle.s2_machine.specs.declared.ask.Ask.TheVariants.{Local}
use Rattle.s2_triplex.specs.TriplexCores.{TriplexCore}
use Rattle.s2_triplex.specs.ModuleState.{ModuleState, Replica, replica_of, replica_ask, after_local_cycles, is_frame_end}
use Rattle.s2_triplex.specs.TriplexState.{TriplexState, module_at}
use Rattle.s2_triplex_laws.specs.LatchAgreement.{IsGood, LatchAgreement}

-- a posting takes a tick
abbrev pub posting_ticks : Option Posted → ℕ
posting_ticks None = 0
posting_ticks (Some posted) = 1

-- a processor that has come from a replica by cycles at each of which it asked nothing, and each of which took a
-- tick since the last resume
pub record ReachedByCycles (k : TriplexCore) (start : Replica) (resumed ticks : ℕ) (m : ModuleState) : Type 0 where
  pub cycles : ℕ
  pub quiet : (i : ℕ) → i < cycles → replica_ask k (after_local_cycles k i start) ≡ Local
  pub is : replica_of m ≡ after_local_cycles k cycles start
  pub spent : resumed + (cycles + posting_ticks m.port) ≤ ticks

-- all good processors have come from one replica, that of the last resume; a frame's end is due in it only at a
-- frame's end
pub record ReplicaEquality (k : TriplexCore) (d : TriplexState) : Type 0 where
  pub start : Replica
  pub frame : start.frame ≡ d.frame
  pub at : start.cpu.run ≡ d.resumed_run
  pub ends : start.due ≡ true → is_frame_end d.frame start.cpu.run ≡ true
  pub low : d.resumed_run ≤ d.resumed
  pub room : d.ticks ≤ 2 ^ 40
  pub each : (p : ℕ) → p < 3 → IsGood d p → ReachedByCycles k start d.resumed d.ticks (module_at d.modules p)

-- what masks a fault of one processor: latches agree and replicas are equal
pub record Masking (k : TriplexCore) (d : TriplexState) : Type 0 where
  pub agreement : LatchAgreement k d
  pub replicas : ReplicaEquality k d
