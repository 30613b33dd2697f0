-- How long the request of a good processor waits for its decision.
use Rattle.std.specs.Prelude.{ℕ, ◌≡◌, ◌<◌, ◌≤◌, ◌+◌, true, None, is_some}
use Rattle.s2_plant_laws.specs.FrameNumbers.{stated_wait_of}
use Rattle.s2_triplex.specs.TriplexCores.{TriplexCore}
use Rattle.s2_triplex.specs.TriplexState.{TriplexState, module_at, posted_at}
use Rattle.s2_triplex.specs.TickFirings.{after_firings}
use Rattle.s2_triplex.specs.StepRefusals.{tick_refusal}
use Rattle.s2_triplex_laws.specs.LatchAgreement.{IsGood}
use Rattle.s2_triplex_laws.specs.TriplexInvariant.{TriplexInvariant, CanStep}

-- between ticks, for less than the stated wait
abbrev pub RequestsWaitBriefly : Type 0
RequestsWaitBriefly =
    (k : TriplexCore) (d : TriplexState) → TriplexInvariant k d → (p : ℕ) → p < 3 → IsGood d p →
    is_some (module_at d.modules p).port ≡ true → d.ticks < posted_at d.posted p + stated_wait_of d.frame

-- at the verdict of a tick that is not refused, for no longer than it
abbrev pub VerdictsComeInTime : Type 0
VerdictsComeInTime =
    (k : TriplexCore) (d : TriplexState) (mask : ℕ) → CanStep k d → tick_refusal d mask ≡ None → (p : ℕ) → p < 3 → IsGood d p →
    is_some (module_at (after_firings k d mask).modules p).port ≡ true →
    (after_firings k d mask).ticks ≤ posted_at (after_firings k d mask).posted p + stated_wait_of d.frame
