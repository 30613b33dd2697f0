-- The event of an agreed store to PRIV: the private values of the processors that agree on it.
use Rattle.std.specs.Prelude.{ℕ, List, Some, None, slice_index, if◌then◌else◌}
use Rattle.std.specs.declared.option.Option.{Option}
use Rattle.s2_ports.specs.declared.events.Event.{Event}
use Rattle.s2_ports.specs.declared.events.Event.TheVariants.{Private}
use Rattle.s2_ports.specs.declared.events.TheConstants.{NO_VALUE}
use Rattle.s2_ports.specs.declared.requests.Request.{Request}
use Rattle.s2_ports.specs.declared.requests.Posted.{Posted}
use Rattle.s2_voter.specs.RequestEquality.{is_same_request}
use Rattle.s2_voter.specs.VoterState.{VoterState, latch_of}

-- the number of a processor: its private value where its latch holds the agreed request
abbrev pub agreeing_value : Request → Option Posted → ℕ → ℕ
agreeing_value agreed None value = NO_VALUE
agreeing_value agreed (Some posted) value = if is_same_request agreed posted.request then value else NO_VALUE

-- the numbers of processors 0, 1 and 2
abbrev pub gathered : VoterState → Request → List ℕ → Event
gathered v agreed values = Private
    (agreeing_value agreed (latch_of v 0) (slice_index values 0))
    (agreeing_value agreed (latch_of v 1) (slice_index values 1))
    (agreeing_value agreed (latch_of v 2) (slice_index values 2))
