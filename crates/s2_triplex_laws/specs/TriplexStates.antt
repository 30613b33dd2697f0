-- The states that a triple machine comes to from the start of a program, and the steps that lead there.
use Rattle.std.specs.Prelude.{ℕ, ◌≡◌, ◌<◌, ◌^◌, List, [], length, true, None, Ok}
use Rattle.s2_base.specs.declared.map.TheConstants.{LOCAL_WORDS, GLOBAL_WORDS}
use Rattle.s2_ports.specs.Events.{comes_from_outside}
use Rattle.s2_clock.specs.Frames.{IsFrame}
use Rattle.s2_duplex.specs.ToleratedFaults.{IsFaultBelow}
use Rattle.s2_script.specs.declared.entry.Act.{Act}
use Rattle.s2_script.specs.declared.entry.Act.TheVariants.{Event, Poke, PokeLocal, Drive, Mute, Remove, Revive, Board, Mend}
use Rattle.s2_machine.specs.Machine.{started}
use Rattle.s2_triplex.specs.TriplexCores.{TriplexCore, IsTriplexCore}
use Rattle.s2_triplex.specs.TriplexState.{TriplexState, started_triplex}
use Rattle.s2_triplex.specs.TriplexSteps.{TriplexStep, next_after_step}
use Rattle.s2_triplex.specs.StepTurns.{Turn, tick_answer, next_after_tick, act_answer, next_after_act}
use Rattle.s2_triplex_laws.specs.ReferenceAdvance.{ReferenceAdvance}
use Rattle.s2_triplex_laws.specs.ReferenceFacts.{RunToReference}
use Rattle.s2_triplex_laws.specs.StepNotes.{told_effects}
use Rattle.s2_triplex_laws.specs.TriplexInvariant.{TriplexInvariant}
use Rattle.s2_triplex_laws.specs.RepairInvariant.{RepairInvariant}
use Rattle.s2_triplex_laws.specs.PrivateFacts.{PrivateBounds}
use Rattle.s2_triplex_laws.specs.RepairTallies.{RepairCounted}

-- all that a state keeps: it masks and its skew is bounded, an open reintegration copies right, and what is
-- counted of it is within its bounds; and the events that wait and the private values are within theirs
pub record IsTriplexState (k : TriplexCore) (d : TriplexState) : Type 0 where
  pub invariant : TriplexInvariant k d
  pub repair : RepairInvariant d
  pub counted : RepairCounted d
  pub bounds : PrivateBounds d

-- the start of a program is such a state
abbrev pub StartIsState : Type 0
StartIsState = (k : TriplexCore) (frame entry : ℕ) (local global : List ℕ) → IsTriplexCore k → IsFrame frame → length local ≡ LOCAL_WORDS → length global ≡ GLOBAL_WORDS → IsTriplexState k (started_triplex frame entry local global)

-- no step changes the frame
abbrev pub StepsKeepFrame : Type 0
StepsKeepFrame = (k : TriplexCore) (d : TriplexState) (step : TriplexStep) → (next_after_step k d step).frame ≡ d.frame

-- it is the reference machine then, before any step
abbrev pub StartIsReference : Type 0
StartIsReference = (k : TriplexCore) (frame entry : ℕ) (local global : List ℕ) → RunToReference k (started entry local global) (started_triplex frame entry local global) [] []

-- the conditions of a call: a fault of a board names a board, a word of it and a bit of the word; and an event comes
-- from outside
abbrev pub IsActCall : Act → Type 0
IsActCall (Board fault) = IsFaultBelow GLOBAL_WORDS fault
IsActCall (Event event) = comes_from_outside event ≡ true
IsActCall (Poke p k v) = Unit {0}
IsActCall (PokeLocal p i v) = Unit {0}
IsActCall (Drive p posted) = Unit {0}
IsActCall (Mute p) = Unit {0}
IsActCall (Remove p) = Unit {0}
IsActCall (Revive p) = Unit {0}
IsActCall (Mend board) = Unit {0}

-- a tick and an act lead to such a state, also one that is refused
abbrev pub TickKeepsState : Type 0
TickKeepsState = (k : TriplexCore) (d : TriplexState) (mask : ℕ) → IsTriplexCore k → IsTriplexState k d → d.halt ≡ None → d.ticks < 2 ^ 40 → IsTriplexState k (next_after_tick k d mask)

abbrev pub ActKeepsState : Type 0
ActKeepsState = (k : TriplexCore) (d : TriplexState) (act : Act) → IsTriplexCore k → IsTriplexState k d → d.halt ≡ None → IsActCall act → IsTriplexState k (next_after_act d act)

-- the turn of one that is accepted tells how the reference machine goes on
abbrev pub TickAdvances : Type 0
TickAdvances = (k : TriplexCore) (d : TriplexState) (mask : ℕ) (turn : Turn) → IsTriplexCore k → IsTriplexState k d → d.halt ≡ None → d.ticks < 2 ^ 40 → tick_answer k d mask ≡ Ok turn →
    ReferenceAdvance k d (next_after_tick k d mask) (told_effects turn)

abbrev pub ActAdvances : Type 0
ActAdvances = (k : TriplexCore) (d : TriplexState) (act : Act) (turn : Turn) → IsTriplexCore k → IsTriplexState k d → d.halt ≡ None → IsActCall act → act_answer d act ≡ Ok turn →
    ReferenceAdvance k d (next_after_act d act) (told_effects turn)
