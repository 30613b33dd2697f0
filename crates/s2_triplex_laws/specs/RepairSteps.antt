-- What each kind of step keeps of a reintegration, beside all else, and the state at the end of one.
use Rattle.std.specs.Prelude.{ℕ, ◌≡◌, ◌<◌, ◌^◌, true, false, ◌+◌, not, List, [], ◌∷◌, Some, None}
use Rattle.s2_ports.specs.declared.events.Event.{Event}
use Rattle.s2_join.specs.declared.item.Item.{Item}
use Rattle.s2_join.specs.CopyOrder.{is_last_item}
use Rattle.s2_machine.specs.Cores.{mark_at}
use Rattle.s2_triplex.specs.declared.membership.Membership.TheVariants.{In, Out}
use Rattle.s2_triplex.specs.TriplexCores.{TriplexCore, IsTriplexCore}
use Rattle.s2_triplex.specs.ModuleState.{ModuleState}
use Rattle.s2_triplex.specs.TriplexState.{TriplexState, Reintegration, module_at, membership_at}
use Rattle.s2_triplex.specs.VoterDecision.{StepEffects, no_effects}
use Rattle.s2_triplex.specs.TickStep.{ticked}
use Rattle.s2_triplex.specs.StepRefusals.{tick_refusal, second_fault}
use Rattle.s2_triplex.specs.ActStep.{event_received, module_disturbed, removed, revived}
use Rattle.s2_triplex.specs.StepTurns.{tick_turn}
use Rattle.s2_journal.specs.declared.note.Note.TheVariants.{Joined}
use Rattle.s2_triplex_laws.specs.ReferenceAdvance.{ReferenceAdvance}
use Rattle.s2_triplex_laws.specs.TriplexInvariant.{TriplexInvariant}
use Rattle.s2_triplex_laws.specs.RepairInvariant.{IsModule, RepairInvariant}

-- a machine that runs, with what is kept of it
pub record CanStepInRepair (k : TriplexCore) (d : TriplexState) : Type 0 where
  pub core : IsTriplexCore k
  pub invariant : TriplexInvariant k d
  pub repair : RepairInvariant d
  pub halt : d.halt ≡ None

-- a step: all of it is kept, and the reference machine goes on
pub record RepairStep (k : TriplexCore) (old new : TriplexState) (effects : StepEffects) : Type 0 where
  pub invariant : TriplexInvariant k new
  pub advance : ReferenceAdvance k old new effects
  pub repair : RepairInvariant new

-- a lawful tick, in a hold or not
abbrev pub TickKeepsRepair : Type 0
TickKeepsRepair = (k : TriplexCore) (d : TriplexState) (mask : ℕ) → CanStepInRepair k d → d.ticks < 2 ^ 40 → tick_refusal d mask ≡ None →
    RepairStep k d (ticked k d mask).next (ticked k d mask).effects

-- a lawful act on one processor, whatever its module is then
abbrev pub FaultKeepsRepair : Type 0
FaultKeepsRepair = (k : TriplexCore) (d : TriplexState) (p : ℕ) (m : ModuleState) → CanStepInRepair k d → second_fault d.tainted p ≡ None → (p < 3 → IsModule d.frame m) →
    RepairStep k d (module_disturbed p m d) no_effects

abbrev pub RemovalKeepsRepair : Type 0
RemovalKeepsRepair = (k : TriplexCore) (d : TriplexState) (p : ℕ) → CanStepInRepair k d → second_fault d.tainted p ≡ None → RepairStep k d (removed p d) no_effects

abbrev pub ReviveKeepsRepair : Type 0
ReviveKeepsRepair = (k : TriplexCore) (d : TriplexState) (p : ℕ) → CanStepInRepair k d → p < 3 → membership_at d.memberships p ≡ Out → RepairStep k d (revived p d) no_effects

abbrev pub EventKeepsRepair : Type 0
EventKeepsRepair = (k : TriplexCore) (d : TriplexState) (event : Event) → CanStepInRepair k d → RepairStep k d (event_received event d) no_effects

-- after the tick that ends a reintegration the processors, ports and marks are equal and all are in; where no
-- act disturbed it, the local lists are equal too and nobody is tainted
pub record IsReintegrated (e : TriplexState) (j : Reintegration) : Type 0 where
  pub cpus : (p q : ℕ) → p < 3 → q < 3 → (module_at e.modules p).cpu ≡ (module_at e.modules q).cpu
  pub ports : (p : ℕ) → p < 3 → (module_at e.modules p).port ≡ None
  pub due : (p : ℕ) → p < 3 → (module_at e.modules p).due ≡ false
  pub muted : (p : ℕ) → p < 3 → (module_at e.modules p).muted ≡ false
  pub marks : (p page : ℕ) → p < 3 → mark_at (module_at e.modules p).marks page ≡ false
  pub memberships : (p : ℕ) → p < 3 → membership_at e.memberships p ≡ In
  pub locals : j.disturbed ≡ false → (p q : ℕ) → p < 3 → q < 3 → (module_at e.modules p).local ≡ (module_at e.modules q).local
  pub untainted : j.disturbed ≡ false → e.tainted ≡ None
  pub still_tainted : j.disturbed ≡ true → e.tainted ≡ Some j.copying.joiner
  pub closed : e.reintegration ≡ None

-- such a tick is that of the last saved word, and its one note says so
abbrev pub LastWordReintegrates : Type 0
LastWordReintegrates = (k : TriplexCore) (d : TriplexState) (mask : ℕ) (j : Reintegration) (item : Item) (left : List Item) → CanStepInRepair k d → d.ticks < 2 ^ 40 → tick_refusal d mask ≡ None → d.reintegration ≡ Some j → j.copying.left ≡ item ∷ left → is_last_item item ≡ true →
    IsReintegrated (ticked k d mask).next j × ((tick_turn k d mask).notes ≡ Joined (d.ticks + 1) j.copying.joiner (not j.disturbed) ∷ [])
