-- What a step does to the reference machine: it runs on as one processor alone would, under the deliveries of the
-- step.
use Rattle.std.specs.Prelude.{ℕ, ◌≡◌, ◌≤◌, List, [], ◌∷◌}
use Rattle.s2_machine.specs.MachineRun.{bytes_of, core_machine_run}
use Rattle.s2_machine.specs.declared.deliveries.Delivery.{Delivery}
use Rattle.s2_triplex.specs.TriplexCores.{TriplexCore}
use Rattle.s2_triplex.specs.TriplexState.{TriplexState}
use Rattle.s2_triplex.specs.ReferenceMachine.{reference, runs}
use Rattle.s2_triplex.specs.VoterDecision.{StepEffects}

-- the reference machine of the new state is that of the old one, run to the new run count under the deliveries,
-- with the byte
abbrev pub ReferenceRuns : TriplexCore → TriplexState → TriplexState → StepEffects → Type 0
ReferenceRuns k old new effects = core_machine_run k.core (reference old) effects.deliveries (runs new) ≡ record { machine = reference new; bytes = bytes_of effects.out }

-- all deliveries are due up to a run count, or from one on
abbrev pub DueUpTo : ℕ → List Delivery → Type 0
DueUpTo n [] = Unit {0}
DueUpTo n (d ∷ ds) = (d.run ≤ n) × DueUpTo n ds

abbrev pub DueFrom : ℕ → List Delivery → Type 0
DueFrom n [] = Unit {0}
DueFrom n (d ∷ ds) = (n ≤ d.run) × DueFrom n ds

-- a step advances the reference machine, and its deliveries are due between the two run counts
pub record ReferenceAdvance (k : TriplexCore) (old new : TriplexState) (effects : StepEffects) : Type 0 where
  pub grows : runs old ≤ runs new
  pub from : DueFrom (runs old) effects.deliveries
  pub to : DueUpTo (runs new) effects.deliveries
  pub reference_runs : ReferenceRuns k old new effects
