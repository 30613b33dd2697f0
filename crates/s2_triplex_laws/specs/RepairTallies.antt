-- What is counted while a reintegration is open, and how long it lasts.
use Rattle.std.specs.Prelude.{ℕ, ◌≡◌, ◌<◌, ◌≤◌, ◌+◌, ◌*◌, ◌^◌, ◌==◌, ◌&&◌, Bool, true, Some, None, is_some}
use Rattle.s2_ports.specs.declared.events.Event.{Event}
use Rattle.s2_voter.specs.VoterState.{is_member, latch_of}
use Rattle.s2_plant_laws.specs.FrameNumbers.{stated_reintegration_of}
use Rattle.s2_plant_laws.specs.RepairProgress.{RepairProgress}
use Rattle.s2_plant_laws.specs.RepairBound.{RepairTally, TicksCounted, next_sync}
use Rattle.s2_triplex.specs.declared.membership.Membership.TheVariants.{Out}
use Rattle.s2_triplex.specs.TriplexCores.{TriplexCore, IsTriplexCore}
use Rattle.s2_triplex.specs.ModuleState.{ModuleState}
use Rattle.s2_triplex.specs.TriplexState.{TriplexState, Reintegration, module_at, membership_at}
use Rattle.s2_triplex.specs.ReferenceMachine.{run_at, slowest}
use Rattle.s2_triplex.specs.TickStep.{ticked}
use Rattle.s2_triplex.specs.StepRefusals.{tick_refusal, second_fault}
use Rattle.s2_triplex.specs.ActStep.{event_received, module_disturbed, removed, revived}
use Rattle.s2_triplex_laws.specs.LatchAgreement.{IsGood}
use Rattle.s2_triplex_laws.specs.ReplicaEquality.{ReplicaEquality}
use Rattle.s2_triplex_laws.specs.TriplexInvariant.{TriplexInvariant}
use Rattle.s2_triplex_laws.specs.RepairInvariant.{IsModule, RepairInvariant}
use Rattle.s2_triplex_laws.specs.RepairSteps.{CanStepInRepair}

-- whether a good processor at the run count of the last resume has a frame's end due: the slowest one tells
abbrev pub is_sync_due : TriplexState → Bool
is_sync_due d = (module_at d.modules (slowest d.tainted d.modules)).due && (run_at d.modules (slowest d.tainted d.modules) == d.resumed_run)

-- it is the same for each good processor there
abbrev pub GoodAgreeOnSync : Type 0
GoodAgreeOnSync = (k : TriplexCore) (d : TriplexState) → IsTriplexCore k → ReplicaEquality k d → (p : ℕ) → p < 3 → IsGood d p → ((module_at d.modules p).due && (run_at d.modules p == d.resumed_run)) ≡ is_sync_due d

-- the run count of the next Sync
abbrev pub next_sync_of : TriplexState → ℕ
next_sync_of d = next_sync d.frame (is_sync_due d) d.resumed_run

-- each member is latched
abbrev pub AllMembersLatched : TriplexState → Type 0
AllMembersLatched d = (p : ℕ) → p < 3 → is_member d.voter p ≡ true → is_some (latch_of d.voter p) ≡ true

-- the tick and run count of the last resume, those of the `revive`, and what was copied since
abbrev pub repair_tally : TriplexState → Reintegration → RepairTally
repair_tally d j = record { tick = d.resumed; run = d.resumed_run; revived = j.revived; revived_run = j.revived_run; syncs = j.copying.syncs; words = j.copied }

-- Ticks are counted from the `revive` on; the next Sync comes within a frame for each that copied, and one more; a
-- member's full port has its latch; all members are latched only where no tick was run since the `revive`; and
-- Syncs and words are within their bounds.
pub record IsRepairCounted (d : TriplexState) (j : Reintegration) : Type 0 where
  pub ticks : TicksCounted (repair_tally d j)
  pub sync : next_sync_of d ≤ j.revived_run + d.frame * (j.copying.syncs + 1)
  pub posts : (p : ℕ) → p < 3 → is_member d.voter p ≡ true → is_some (module_at d.modules p).port ≡ true → is_some (latch_of d.voter p) ≡ true
  pub past : j.revived ≤ d.ticks
  pub waits : AllMembersLatched d → d.ticks ≡ j.revived
  pub progress : RepairProgress j.copied j.copying

abbrev pub RepairCounted : TriplexState → Type 0
RepairCounted d = (j : Reintegration) → d.reintegration ≡ Some j → IsRepairCounted d j

-- every kind of step keeps it
abbrev pub TickCountsRepair : Type 0
TickCountsRepair = (k : TriplexCore) (d : TriplexState) (mask : ℕ) → CanStepInRepair k d → d.ticks < 2 ^ 40 → tick_refusal d mask ≡ None → RepairCounted d → RepairCounted (ticked k d mask).next

abbrev pub FaultCountsRepair : Type 0
FaultCountsRepair = (k : TriplexCore) (d : TriplexState) (p : ℕ) (m : ModuleState) → CanStepInRepair k d → second_fault d.tainted p ≡ None → (p < 3 → IsModule d.frame m) → RepairCounted d →
    RepairCounted (module_disturbed p m d)

abbrev pub RemovalCountsRepair : Type 0
RemovalCountsRepair = (k : TriplexCore) (d : TriplexState) (p : ℕ) → RepairCounted (removed p d)

abbrev pub ReviveCountsRepair : Type 0
ReviveCountsRepair = (k : TriplexCore) (d : TriplexState) (p : ℕ) → CanStepInRepair k d → p < 3 → membership_at d.memberships p ≡ Out → RepairCounted (revived p d)

abbrev pub EventCountsRepair : Type 0
EventCountsRepair = (k : TriplexCore) (d : TriplexState) (event : Event) → CanStepInRepair k d → RepairCounted d → RepairCounted (event_received event d)

-- while a reintegration is open, fewer ticks than the stated reintegration were run since its `revive`
abbrev pub ReintegrationEndsInTime : Type 0
ReintegrationEndsInTime = (k : TriplexCore) (d : TriplexState) (j : Reintegration) → IsTriplexCore k → TriplexInvariant k d → RepairInvariant d → RepairCounted d → d.reintegration ≡ Some j → d.ticks < j.revived + stated_reintegration_of d.frame
