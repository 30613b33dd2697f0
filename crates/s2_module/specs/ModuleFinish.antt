-- For proofs alone: when a module may end what a request of a kind asked.
use Rattle.std.specs.Prelude.{ℕ, ◌≢◌, if◌then◌else◌}
use Rattle.s2_ports.specs.declared.requests.Request.{Request}
use Rattle.s2_triplex.specs.TriplexCores.{TriplexCore}
use Rattle.s2_triplex.specs.ModuleAnswer.{finished_replica, is_asking}
use Rattle.s2_ports.specs.declared.requests.Kind.{Kind}
use Rattle.s2_ports.specs.declared.requests.Kind.TheVariants.{Load, Store, Sync}
use Rattle.s2_machine.specs.LocalWork.{ask_of}
use Rattle.s2_machine.specs.declared.ask.Ask.TheVariants.{Local}
use Rattle.s2_triplex.specs.ModuleState.{ModuleState, replica_ask, replica_of, with_replica}

-- a load or a store ends a cycle, which must have asked for it
abbrev pub IsFinishing : ModuleState → Kind → Type 0
IsFinishing m Sync = Unit {0}
IsFinishing m Load = ask_of m.cpu m.local ≢ Local
IsFinishing m Store = ask_of m.cpu m.local ≢ Local

-- a module that is answered, before its port is empty
abbrev pub answered_unless : TriplexCore → Request → ℕ → ℕ → ModuleState → ModuleState
answered_unless k request word lines m = if is_asking (replica_ask k (replica_of m)) request then with_replica m (finished_replica k request.kind word lines (replica_of m)) else m
