-- What two equal latches decide, whatever the third holds.
use Rattle.std.specs.Prelude.{◌≡◌, ◌≢◌, ℕ, ◌<◌, length, Some, IfSome, if◌then◌else◌}
use Rattle.s2_ports.specs.declared.requests.Request.{Request}
use Rattle.s2_voter.specs.declared.verdicts.Verdict.TheVariants.{Waiting}
use Rattle.s2_voter.specs.VoterState.{VoterState, latch_of}
use Rattle.s2_voter.specs.Verdicts.{request_of, is_due, differing_member, late_member, done_with, verdict_of}

-- two processors are latched with one request
pub record TwoEqualLatches (v : VoterState) (p q : ℕ) (request : Request) : Type 0 where
  pub latches : length v.latches ≡ 3
  pub first_processor : p < 3
  pub second_processor : q < 3
  pub apart : p ≢ q
  pub first : request_of (latch_of v p) ≡ Some request
  pub second : request_of (latch_of v q) ≡ Some request

-- the verdict is their request, once a decision is due; and whoever is named is neither of the two
pub record DecidesFor (v : VoterState) (p q : ℕ) (request : Request) : Type 0 where
  pub verdict : verdict_of v ≡ (if is_due v then done_with v request else Waiting)
  pub differ : IfSome (differing_member v request) (λ named. (named ≢ p) × (named ≢ q))
  pub late : IfSome (late_member v) (λ named. (named ≢ p) × (named ≢ q))

-- two equal latches decide, whatever the third holds
abbrev pub TwoEqualLatchesDecide : Type 0
TwoEqualLatchesDecide = (v : VoterState) (p q : ℕ) (request : Request) → TwoEqualLatches v p q request → DecidesFor v p q request
