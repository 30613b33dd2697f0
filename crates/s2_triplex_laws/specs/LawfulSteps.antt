-- Each lawful step keeps all that a state keeps, with no premise but that it is lawful; and so does the first state.
use Rattle.std.specs.Prelude.{ℕ, ◌≡◌, ◌≢◌, ◌<◌, ◌≤◌, ◌+◌, ◌^◌, List, length, true, None}
use Rattle.std.specs.declared.option.Option.{Option}
use Rattle.s2_base.specs.declared.map.TheConstants.{GLOBAL_WORDS}
use Rattle.s2_ports.specs.declared.events.Event.{Event}
use Rattle.s2_ports.specs.declared.events.BoardFault.{BoardFault}
use Rattle.s2_ports.specs.declared.requests.Request.{Request}
use Rattle.s2_revive.specs.MendingBoards.{memory_of}
use Rattle.s2_duplex.specs.ToleratedFaults.{IsFaultBelow}
use Rattle.s2_voter.specs.declared.verdicts.Verdict.TheVariants.{Done, Split}
use Rattle.s2_voter.specs.Verdicts.{is_due}
use Rattle.s2_script.specs.declared.entry.Act.{Act}
use Rattle.s2_script.specs.declared.entry.Act.TheVariants.{Event as EventAct, Poke, PokeLocal, Drive, Mute, Remove, Revive, Board, Mend}
use Rattle.s2_clock.specs.Frames.{IsFrame}
use Rattle.s2_plant_laws.specs.FrameNumbers.{stated_wait_of}
use Rattle.s2_triplex.specs.TriplexCores.{TriplexCore, IsTriplexCore}
use Rattle.s2_triplex.specs.ModuleState.{ModuleState}
use Rattle.s2_triplex.specs.TriplexState.{TriplexState, posted_at, started_triplex}
use Rattle.s2_triplex.specs.TickFirings.{after_firings}
use Rattle.s2_triplex.specs.VoterDecision.{no_effects, tick_verdict, voted}
use Rattle.s2_triplex.specs.StepRefusals.{tick_refusal, second_fault, act_refusal}
use Rattle.s2_triplex.specs.ActStep.{module_disturbed, removed, event_received, board_struck, acted}
use Rattle.s2_triplex_laws.specs.LatchAgreement.{IsGood, AllLatched}
use Rattle.s2_triplex_laws.specs.DecisionFacts.{DecisionFacts}
use Rattle.s2_triplex_laws.specs.TriplexInvariant.{TriplexInvariant, CanStep, StepInvariant}

-- a tick that is not refused, in a machine that does not hold
abbrev pub TickKeepsInvariant : Type 0
TickKeepsInvariant = (k : TriplexCore) (d : TriplexState) (mask : ℕ) → CanStep k d → d.ticks < 2 ^ 40 → tick_refusal d mask ≡ None → StepInvariant k d (voted k d mask).next (voted k d mask).effects

-- where a decision of such a tick is due, every good processor is latched
abbrev pub DecisionsFindAllLatched : Type 0
DecisionsFindAllLatched = (k : TriplexCore) (d : TriplexState) (mask : ℕ) → CanStep k d → tick_refusal d mask ≡ None → is_due (after_firings k d mask).voter ≡ true → AllLatched (after_firings k d mask)

-- so what such a tick decides is right, no verdict is split, and at a decision the request of no good processor has
-- waited longer than the stated wait
pub record TickDecisions (k : TriplexCore) (d : TriplexState) (mask : ℕ) : Type 0 where
  pub right : (r : Request) (differ late : Option ℕ) → tick_verdict k d mask ≡ Done r differ late →
      DecisionFacts k (after_firings k d mask) r differ late
  pub never_split : tick_verdict k d mask ≢ Split
  pub waits : (r : Request) (differ late : Option ℕ) → tick_verdict k d mask ≡ Done r differ late → (p : ℕ) → p < 3 → IsGood d p →
      (after_firings k d mask).ticks ≤ posted_at (after_firings k d mask).posted p + stated_wait_of d.frame

abbrev pub TicksDecideRight : Type 0
TicksDecideRight = (k : TriplexCore) (d : TriplexState) (mask : ℕ) → CanStep k d → d.ticks < 2 ^ 40 → tick_refusal d mask ≡ None → TickDecisions k d mask

-- a fault of one processor that is not refused, whatever its module is then; its removal; an event
abbrev pub FaultKeepsInvariant : Type 0
FaultKeepsInvariant = (k : TriplexCore) (d : TriplexState) (p : ℕ) (m : ModuleState) → CanStep k d → second_fault d.tainted p ≡ None → StepInvariant k d (module_disturbed p m d) no_effects

abbrev pub RemovalKeepsInvariant : Type 0
RemovalKeepsInvariant = (k : TriplexCore) (d : TriplexState) (p : ℕ) → CanStep k d → second_fault d.tainted p ≡ None → StepInvariant k d (removed p d) no_effects

abbrev pub EventKeepsInvariant : Type 0
EventKeepsInvariant = (k : TriplexCore) (d : TriplexState) (event : Event) → CanStep k d → StepInvariant k d (event_received event d) no_effects

-- a fault of a board that is not refused leaves the contents of global memory, too
pub record BoardFaultInvariant (k : TriplexCore) (d : TriplexState) (fault : BoardFault) : Type 0 where
  pub step : StepInvariant k d (board_struck fault d) no_effects
  pub contents : memory_of (board_struck fault d).boards ≡ memory_of d.boards

abbrev pub BoardFaultKeepsInvariant : Type 0
BoardFaultKeepsInvariant = (k : TriplexCore) (d : TriplexState) (fault : BoardFault) → CanStep k d → IsFaultBelow GLOBAL_WORDS fault → act_refusal d (Board fault) ≡ None → BoardFaultInvariant k d fault

-- all acts but the begin of a reintegration; a fault of a board is one of a word that it has
abbrev pub IsActWithoutRevive : Act → Type 0
IsActWithoutRevive (EventAct event) = Unit {0}
IsActWithoutRevive (Poke p k v) = Unit {0}
IsActWithoutRevive (PokeLocal p i v) = Unit {0}
IsActWithoutRevive (Drive p posted) = Unit {0}
IsActWithoutRevive (Mute p) = Unit {0}
IsActWithoutRevive (Remove p) = Unit {0}
IsActWithoutRevive (Revive p) = ⊥
IsActWithoutRevive (Board fault) = IsFaultBelow GLOBAL_WORDS fault
IsActWithoutRevive (Mend board) = Unit {0}

-- each that is not refused
abbrev pub ActKeepsInvariant : Type 0
ActKeepsInvariant = (k : TriplexCore) (d : TriplexState) (act : Act) → CanStep k d → IsActWithoutRevive act → act_refusal d act ≡ None → StepInvariant k d (acted act d) no_effects

-- the state at the start of a program
abbrev pub FirstStateInvariant : Type 0
FirstStateInvariant = (k : TriplexCore) (frame entry : ℕ) (local global : List ℕ) → IsTriplexCore k → IsFrame frame → length global ≡ GLOBAL_WORDS → TriplexInvariant k (started_triplex frame entry local global)
