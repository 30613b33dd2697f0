-- The reference machine and the good processors, and how its runs add up over steps.
use Rattle.std.specs.Prelude.{ℕ, ◌≡◌, ◌<◌, ◌≤◌, List, ◌++◌, Bool, true, false}
use Rattle.s2_machine.specs.Machine.{Machine}
use Rattle.s2_machine.specs.MachineRun.{bytes_of, core_machine_run}
use Rattle.s2_machine.specs.declared.deliveries.Delivery.{Delivery}
use Rattle.s2_machine.specs.declared.ask.Ask.TheVariants.{Local}
use Rattle.s2_triplex.specs.TriplexCores.{TriplexCore, IsTriplexCore}
use Rattle.s2_triplex.specs.ModuleState.{Replica, replica_of, after_local_cycles, is_frame_end}
use Rattle.s2_triplex.specs.TriplexState.{TriplexState, module_at}
use Rattle.s2_triplex.specs.ReferenceMachine.{run_at, reference, runs}
use Rattle.s2_triplex.specs.VoterDecision.{StepEffects}
use Rattle.s2_triplex_laws.specs.LatchAgreement.{IsGood}
use Rattle.s2_triplex_laws.specs.ReplicaEquality.{ReplicaEquality}
use Rattle.s2_triplex_laws.specs.ReferenceAdvance.{DueUpTo, DueFrom, ReferenceAdvance}

-- local cycles lead from the reference machine to a processor
pub record AheadOfReference (k : TriplexCore) (d : TriplexState) (p : ℕ) : Type 0 where
  pub cycles : ℕ
  pub start : Replica
  pub cpu : start.cpu ≡ (reference d).cpu
  pub local : start.local ≡ (reference d).local
  pub quiet : (i : ℕ) → i < cycles → k.core.ask_of (after_local_cycles k i start).cpu (after_local_cycles k i start).local ≡ Local
  pub is : replica_of (module_at d.modules p) ≡ after_local_cycles k cycles start

-- they lead to every good processor
abbrev pub GoodAreAhead : Type 0
GoodAreAhead = (k : TriplexCore) (d : TriplexState) → IsTriplexCore k → ReplicaEquality k d → (p : ℕ) → p < 3 → IsGood d p → AheadOfReference k d p

-- a processor that has passed a run count has a frame's end due exactly where a frame ends, and has passed none
pub record FrameEndDue (d : TriplexState) (from p : ℕ) : Type 0 where
  pub low : from ≤ run_at d.modules p
  pub above : from < run_at d.modules p → (module_at d.modules p).due ≡ is_frame_end d.frame (run_at d.modules p)
  pub none_past : (run : ℕ) → from < run → run < run_at d.modules p → is_frame_end d.frame run ≡ false

-- so it is of every good one since the last resume; those that are still there have a frame's end due all or none,
-- and where it is due none has gone on
pub record FrameEndsDue (d : TriplexState) : Type 0 where
  pub each : (p : ℕ) → p < 3 → IsGood d p → FrameEndDue d d.resumed_run p
  pub due : Bool
  pub same : (p : ℕ) → p < 3 → IsGood d p → run_at d.modules p ≡ d.resumed_run → (module_at d.modules p).due ≡ due
  pub stops : due ≡ true → (is_frame_end d.frame d.resumed_run ≡ true) × ((p : ℕ) → p < 3 → IsGood d p → run_at d.modules p ≡ d.resumed_run)

abbrev pub FrameEndsAreDue : Type 0
FrameEndsAreDue = (k : TriplexCore) (d : TriplexState) → IsTriplexCore k → ReplicaEquality k d → FrameEndsDue d

-- a run to a run count, and on to another, is one run
abbrev pub DeliveredRunsAdd : Type 0
DeliveredRunsAdd = (k : TriplexCore) (m mid last : Machine) (n o : ℕ) (ds es : List Delivery) (bs cs : List ℕ) → m.cpu.run ≤ n → n ≤ o → mid.cpu.run ≡ n → DueUpTo n ds → DueFrom n es →
    core_machine_run k.core m ds n ≡ record { machine = mid; bytes = bs } → core_machine_run k.core mid es o ≡ record { machine = last; bytes = cs } →
    core_machine_run k.core m (ds ++ es) o ≡ record { machine = last; bytes = bs ++ cs }

-- a machine that has run to the reference machine of a state, under some deliveries and with some bytes
pub record RunToReference (k : TriplexCore) (m : Machine) (d : TriplexState) (ds : List Delivery) (bs : List ℕ) : Type 0 where
  pub low : m.cpu.run ≤ runs d
  pub due : DueUpTo (runs d) ds
  pub is : core_machine_run k.core m ds (runs d) ≡ record { machine = reference d; bytes = bs }

-- a step that advances the reference machine is a run that goes on
abbrev pub RunGoesOn : Type 0
RunGoesOn = (k : TriplexCore) (m : Machine) (d e : TriplexState) (effects : StepEffects) (ds : List Delivery) (bs : List ℕ) → RunToReference k m d ds bs → ReferenceAdvance k d e effects →
    RunToReference k m e (ds ++ effects.deliveries) (bs ++ bytes_of effects.out)
