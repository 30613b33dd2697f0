-- What every state of the triple machine keeps: latches agree and replicas are equal, and the skew is bounded.
use Rattle.std.specs.Prelude.{ℕ, ◌≡◌, ◌+◌, List, Bool, None, is_some}
use Rattle.s2_clock.specs.ClockWatch.{window_at}
use Rattle.s2_voter.specs.Timers.{timer_of}
use Rattle.s2_voter.specs.VoterState.{latch_of}
use Rattle.s2_plant_laws.specs.ClockPace.{ClockData}
use Rattle.s2_plant_laws.specs.BoundedSkew.{SkewData, BoundedSkew}
use Rattle.s2_plant_laws.specs.NextRequest.{NextRequest}
use Rattle.s2_triplex.specs.TriplexCores.{TriplexCore, IsTriplexCore}
use Rattle.s2_triplex.specs.ModuleState.{ModuleState, Replica, replica_ask, after_local_cycles}
use Rattle.s2_triplex.specs.ModuleFiring.{is_outside}
use Rattle.s2_triplex.specs.TriplexState.{TriplexState, three_of, module_at, posted_at}
use Rattle.s2_triplex.specs.VoterDecision.{StepEffects}
use Rattle.s2_triplex_laws.specs.ReplicaEquality.{Masking}
use Rattle.s2_triplex_laws.specs.ReferenceAdvance.{ReferenceAdvance}

-- what the bounds of the skew read of a processor, and of the machine
abbrev pub clock_data : ModuleState → ℕ → List Bool → ClockData
clock_data m posted window = record { run = m.cpu.run; fires = m.fires; full = is_some m.port; posted = posted; watch = window }

abbrev pub clock_of : TriplexState → ℕ → ClockData
clock_of d p = clock_data (module_at d.modules p) (posted_at d.posted p) (window_at d.windows p)

abbrev pub skew_data : TriplexState → SkewData
skew_data d = record {
  clocks = three_of (clock_of d);
  latched = three_of (λ p. is_some (latch_of d.voter p));
  tainted = d.tainted;
  age = d.voter.age;
  ticks = d.ticks;
  resumed = d.resumed;
  resumed_run = d.resumed_run;
}

-- whether a replica asks for the outside after so many cycles
abbrev pub asks_from : TriplexCore → Replica → ℕ → Bool
asks_from k start i = is_outside (replica_ask k (after_local_cycles k i start))

-- latches agree and replicas are equal; the next request comes within a frame, and the skew up to it is bounded
pub record TriplexInvariant (k : TriplexCore) (d : TriplexState) : Type 0 where
  pub masking : Masking k d
  pub next : NextRequest (asks_from k masking.replicas.start) d.frame
  pub skew : BoundedSkew (timer_of d.frame) (next.cycles + 1) (skew_data d)

-- a machine that keeps it and has not halted
pub record CanStep (k : TriplexCore) (d : TriplexState) : Type 0 where
  pub core : IsTriplexCore k
  pub invariant : TriplexInvariant k d
  pub halt : d.halt ≡ None

-- a step keeps all, and advances the reference machine
pub record StepInvariant (k : TriplexCore) (old new : TriplexState) (effects : StepEffects) : Type 0 where
  pub invariant : TriplexInvariant k new
  pub advance : ReferenceAdvance k old new effects
