-- What each kind of step keeps, for every processor core: latches agree and replicas are equal after it, and it
-- advances the reference machine.
use Rattle.std.specs.Prelude.{ℕ, ◌≡◌, ◌<◌, ◌^◌, ◌⊎◌, Bool, true, false, Some, None}
use Rattle.std.specs.declared.option.Option.{Option}
use Rattle.s2_base.specs.declared.map.TheConstants.{GLOBAL_WORDS}
use Rattle.s2_ports.specs.declared.events.Event.{Event}
use Rattle.s2_ports.specs.declared.events.BoardFault.{BoardFault}
use Rattle.s2_ports.specs.declared.requests.Request.{Request}
use Rattle.s2_revive.specs.MendingBoards.{memory_of}
use Rattle.s2_revive.specs.MendingFaults.{is_fault_tolerated}
use Rattle.s2_duplex.specs.ToleratedFaults.{IsFaultBelow}
use Rattle.s2_voter.specs.declared.verdicts.Verdict.TheVariants.{Waiting, Done}
use Rattle.s2_voter.specs.Verdicts.{is_due}
use Rattle.s2_machine.specs.Cores.{is_sync}
use Rattle.s2_triplex.specs.TriplexCores.{TriplexCore, IsTriplexCore}
use Rattle.s2_triplex.specs.ModuleState.{ModuleState}
use Rattle.s2_triplex.specs.TriplexState.{TriplexState}
use Rattle.s2_triplex.specs.TickFirings.{after_firings}
use Rattle.s2_triplex.specs.VoterDecision.{StepEffects, no_effects, tick_verdict, voted}
use Rattle.s2_triplex.specs.ActStep.{module_disturbed, removed, event_received, board_struck}
use Rattle.s2_triplex_laws.specs.LatchAgreement.{LatchAgreement, AllLatched}
use Rattle.s2_triplex_laws.specs.ReplicaEquality.{ReplicaEquality, Masking}
use Rattle.s2_triplex_laws.specs.ReferenceAdvance.{ReferenceAdvance}

-- a machine that masks and has not halted, and one that has room for a tick more
pub record IsRunning (k : TriplexCore) (d : TriplexState) : Type 0 where
  pub core : IsTriplexCore k
  pub masking : Masking k d
  pub halt : d.halt ≡ None

pub record CanTick (k : TriplexCore) (d : TriplexState) : Type 0 where
  pub core : IsTriplexCore k
  pub masking : Masking k d
  pub room : d.ticks < 2 ^ 40
  pub halt : d.halt ≡ None

-- a tick without a decision
abbrev pub WaitKeepsAgreement : Type 0
WaitKeepsAgreement = (k : TriplexCore) (d : TriplexState) (mask : ℕ) → CanTick k d → tick_verdict k d mask ≡ Waiting → LatchAgreement k (voted k d mask).next

abbrev pub WaitKeepsReplicas : Type 0
WaitKeepsReplicas = (k : TriplexCore) (d : TriplexState) (mask : ℕ) → CanTick k d → tick_verdict k d mask ≡ Waiting → ReplicaEquality k (voted k d mask).next

abbrev pub WaitAdvancesReference : Type 0
WaitAdvancesReference = (k : TriplexCore) (d : TriplexState) (mask : ℕ) → CanTick k d → tick_verdict k d mask ≡ Waiting → ReferenceAdvance k d (voted k d mask).next (voted k d mask).effects

-- a tick that decides a load or a store, and one that decides a frame's end
pub record Decides (k : TriplexCore) (d : TriplexState) (mask : ℕ) (sync : Bool) (r : Request) (differ late : Option ℕ) : Type 0 where
  pub can_tick : CanTick k d
  pub done : tick_verdict k d mask ≡ Done r differ late
  pub kind : is_sync r.kind ≡ sync
  pub latched : AllLatched (after_firings k d mask)

abbrev pub AccessKeepsAgreement : Type 0
AccessKeepsAgreement = (k : TriplexCore) (d : TriplexState) (mask : ℕ) (r : Request) (differ late : Option ℕ) → Decides k d mask false r differ late → LatchAgreement k (voted k d mask).next

abbrev pub AccessKeepsReplicas : Type 0
AccessKeepsReplicas = (k : TriplexCore) (d : TriplexState) (mask : ℕ) (r : Request) (differ late : Option ℕ) → Decides k d mask false r differ late → ReplicaEquality k (voted k d mask).next

abbrev pub AccessAdvancesReference : Type 0
AccessAdvancesReference = (k : TriplexCore) (d : TriplexState) (mask : ℕ) (r : Request) (differ late : Option ℕ) → Decides k d mask false r differ late → ReferenceAdvance k d (voted k d mask).next (voted k d mask).effects

abbrev pub SyncKeepsAgreement : Type 0
SyncKeepsAgreement = (k : TriplexCore) (d : TriplexState) (mask : ℕ) (r : Request) (differ late : Option ℕ) → Decides k d mask true r differ late → LatchAgreement k (voted k d mask).next

abbrev pub SyncKeepsReplicas : Type 0
SyncKeepsReplicas = (k : TriplexCore) (d : TriplexState) (mask : ℕ) (r : Request) (differ late : Option ℕ) → Decides k d mask true r differ late → ReplicaEquality k (voted k d mask).next

abbrev pub SyncAdvancesReference : Type 0
SyncAdvancesReference = (k : TriplexCore) (d : TriplexState) (mask : ℕ) (r : Request) (differ late : Option ℕ) → Decides k d mask true r differ late → ReferenceAdvance k d (voted k d mask).next (voted k d mask).effects

-- what a step keeps
pub record StepMasking (k : TriplexCore) (old new : TriplexState) (effects : StepEffects) : Type 0 where
  pub masking : Masking k new
  pub advance : ReferenceAdvance k old new effects

-- any tick, where each decision finds every good processor latched
abbrev pub TickKeepsMasking : Type 0
TickKeepsMasking = (k : TriplexCore) (d : TriplexState) (mask : ℕ) → CanTick k d → (is_due (after_firings k d mask).voter ≡ true → AllLatched (after_firings k d mask)) →
    StepMasking k d (voted k d mask).next (voted k d mask).effects

-- a fault of one processor, whatever its module is then; its removal; an event
abbrev pub FaultKeepsMasking : Type 0
FaultKeepsMasking = (k : TriplexCore) (d : TriplexState) (p : ℕ) (m : ModuleState) → IsRunning k d → (d.tainted ≡ None) ⊎ (d.tainted ≡ Some p) → StepMasking k d (module_disturbed p m d) no_effects

abbrev pub RemovalKeepsMasking : Type 0
RemovalKeepsMasking = (k : TriplexCore) (d : TriplexState) (p : ℕ) → IsRunning k d → (d.tainted ≡ None) ⊎ (d.tainted ≡ Some p) → StepMasking k d (removed p d) no_effects

abbrev pub EventKeepsMasking : Type 0
EventKeepsMasking = (k : TriplexCore) (d : TriplexState) (event : Event) → IsRunning k d → StepMasking k d (event_received event d) no_effects

-- a fault of a board that is tolerated, which leaves the contents of global memory
pub record BoardFaultMasking (k : TriplexCore) (d : TriplexState) (fault : BoardFault) : Type 0 where
  pub step : StepMasking k d (board_struck fault d) no_effects
  pub contents : memory_of (board_struck fault d).boards ≡ memory_of d.boards

abbrev pub BoardFaultKeepsMasking : Type 0
BoardFaultKeepsMasking = (k : TriplexCore) (d : TriplexState) (fault : BoardFault) → IsRunning k d → IsFaultBelow GLOBAL_WORDS fault → is_fault_tolerated d.boards fault ≡ true → BoardFaultMasking k d fault
