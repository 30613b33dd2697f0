-- The notes of a step: what they say of its deliveries, and how many there may be.
use Rattle.std.specs.Prelude.{ℕ, ◌≡◌, ◌≤◌, List, [], ◌∷◌, None, length}
use Rattle.s2_journal.specs.declared.note.Note.{Note}
use Rattle.s2_journal.specs.declared.note.Note.TheVariants.{Delivered, Out, Lost, Repaired, BoardDead, Mend, Mended, Join, Joined}
use Rattle.s2_script.specs.declared.entry.Act.{Act}
use Rattle.s2_machine.specs.declared.deliveries.Delivery.{Delivery}
use Rattle.s2_triplex.specs.TriplexCores.{TriplexCore}
use Rattle.s2_triplex.specs.TriplexState.{TriplexState}
use Rattle.s2_triplex.specs.VoterDecision.{StepEffects, no_effects}
use Rattle.s2_triplex.specs.TickStep.{ticked}
use Rattle.s2_triplex.specs.StepTurns.{Turn, tick_turn, act_turn}
use Rattle.s2_triplex_laws.specs.ReferenceAdvance.{ReferenceAdvance}
use Rattle.s2_triplex_laws.specs.declared.notes.TheConstants.{TURN_NOTES}

-- the deliveries among some notes
abbrev pub deliveries_in : List Note → List Delivery
deliveries_in [] = []
deliveries_in (Delivered run event ∷ ns) = record { run = run; event = event } ∷ deliveries_in ns
deliveries_in (Out tick p why ∷ ns) = deliveries_in ns
deliveries_in (Lost tick event ∷ ns) = deliveries_in ns
deliveries_in (Repaired tick board index ∷ ns) = deliveries_in ns
deliveries_in (BoardDead tick board ∷ ns) = deliveries_in ns
deliveries_in (Mend tick board ∷ ns) = deliveries_in ns
deliveries_in (Mended tick board ∷ ns) = deliveries_in ns
deliveries_in (Join tick p ∷ ns) = deliveries_in ns
deliveries_in (Joined tick p good ∷ ns) = deliveries_in ns

-- a turn tells the deliveries and the byte of a step, in at most so many notes
pub record TurnTells (turn : Turn) (effects : StepEffects) : Type 0 where
  pub deliveries : deliveries_in turn.notes ≡ effects.deliveries
  pub out : turn.out ≡ effects.out
  pub few : length turn.notes ≤ TURN_NOTES

-- the turn of a tick tells those of the tick, be it one of a hold or not
abbrev pub TickTurnTells : Type 0
TickTurnTells = (k : TriplexCore) (d : TriplexState) (mask : ℕ) → TurnTells (tick_turn k d mask) (ticked k d mask).effects

-- that of an act tells that nothing was delivered or written
abbrev pub ActTurnTells : Type 0
ActTurnTells = (d : TriplexState) (act : Act) → TurnTells (act_turn d act) no_effects

-- the deliveries and the byte of a turn
abbrev pub told_effects : Turn → StepEffects
told_effects turn = record { deliveries = deliveries_in turn.notes; out = turn.out; differ = None; late = None; repaired = None }

-- what a step does to the reference machine is told by its turn
abbrev pub TurnTellsAdvance : Type 0
TurnTellsAdvance = (k : TriplexCore) (old new : TriplexState) (effects : StepEffects) (turn : Turn) → TurnTells turn effects → ReferenceAdvance k old new effects → ReferenceAdvance k old new (told_effects turn)
