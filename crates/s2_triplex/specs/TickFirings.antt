-- The first part of a tick, up to the voter's verdict: the modules fire in the order 0, 1, 2, the age grows, and
-- each member without a latch is latched where its port holds a request.
use Rattle.std.specs.Prelude.{ℕ, ◌+◌, ◌&&◌, Bool, true, false, Some, None, if◌then◌else◌}
use Rattle.std.specs.declared.option.Option.{Option}
use Rattle.s2_ports.specs.declared.requests.Posted.{Posted}
use Rattle.s2_clock.specs.ClockWatch.{is_firing, windows_after}
use Rattle.s2_voter.specs.VoterState.{VoterState, is_member, latch_of, has_two_latches}
use Rattle.s2_voter.specs.VoterCalls.{started_age, older}
use Rattle.s2_triplex.specs.TriplexCores.{TriplexCore}
use Rattle.s2_triplex.specs.ModuleState.{ModuleState}
use Rattle.s2_triplex.specs.ModuleFiring.{module_ticked, is_posting}
use Rattle.s2_triplex.specs.TriplexState.{TriplexState, three_of, module_at, posted_at}

-- the module of processor p after its firing, or its missed one
abbrev pub ticked_at : TriplexCore → TriplexState → ℕ → ℕ → ModuleState
ticked_at k d mask p = module_ticked k d.accepted (is_member d.voter p) (is_firing mask p) (module_at d.modules p)

-- the tick of the last posting of processor p
abbrev pub posted_after : TriplexCore → TriplexState → ℕ → ℕ → ℕ
posted_after k d mask p = if (is_firing mask p && is_posting k (module_at d.modules p) (is_member d.voter p)) then d.ticks + 1 else posted_at d.posted p

-- a member without a latch takes a copy of what its port holds
abbrev pub latch_taken : Bool → Option Posted → Option Posted → Option Posted
latch_taken member (Some latch) port = Some latch
latch_taken true None port = port
latch_taken false None port = None

-- the voter after a tick of its age and the latching of what the ports hold
abbrev pub latched_from : (ℕ → Option Posted) → VoterState → VoterState
latched_from ports v =
    let latches = three_of (λ p. latch_taken (is_member v p) (latch_of v p) (ports p)) in
    record { members = v.members; latches = latches; age = started_age (has_two_latches latches) (older v.timer v.age); timer = v.timer }

-- the machine at the verdict of a tick
abbrev pub after_firings : TriplexCore → TriplexState → ℕ → TriplexState
after_firings k d mask =
    let modules = three_of (ticked_at k d mask) in
    record d {
      modules = modules;
      voter = latched_from (λ p. (module_at modules p).port) d.voter;
      ticks = d.ticks + 1;
      posted = three_of (posted_after k d mask);
      windows = windows_after mask d.tainted d.windows;
    }
