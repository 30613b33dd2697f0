-- Membership and latch agreement: what every state keeps of the members, their latches and the events that wait.
use Rattle.std.specs.Prelude.{ℕ, ◌≡◌, ◌<◌, ◌≤◌, ◌+◌, length, true, false, Some, None, is_some}
use Rattle.std.specs.declared.option.Option.{Option}
use Rattle.s2_ports.specs.declared.requests.Posted.{Posted}
use Rattle.s2_device.specs.DeviceState.{lines_of}
use Rattle.s2_revive.specs.MendingBoards.{AreMendingBoards}
use Rattle.s2_clock.specs.Frames.{IsFrame}
use Rattle.s2_voter.specs.Timers.{timer_of}
use Rattle.s2_voter.specs.VoterState.{IsVoter, is_member, latch_of}
use Rattle.s2_machine.specs.declared.ask.Ask.TheVariants.{Outside}
use Rattle.s2_triplex.specs.declared.membership.Membership.TheVariants.{In}
use Rattle.s2_triplex.specs.declared.numbers.TheConstants.{INBOX_EVENTS}
use Rattle.s2_triplex.specs.TriplexCores.{TriplexCore}
use Rattle.s2_triplex.specs.ModuleState.{Replica, replica_of, replica_ask}
use Rattle.s2_triplex.specs.TriplexState.{TriplexState, module_at, membership_at, is_in, is_good}

-- a processor is good where it is not the tainted one
abbrev pub IsGood : TriplexState → ℕ → Type 0
IsGood d p = is_good d.tainted p ≡ true

-- what a port holds is what the replica asks for, with a count of events between those delivered and accepted
pub record OwnRequest (k : TriplexCore) (delivered accepted : ℕ) (s : Replica) (posted : Posted) : Type 0 where
  pub own : replica_ask k s ≡ Outside posted.request
  pub from : delivered ≤ posted.seen
  pub to : posted.seen ≤ accepted

-- a port is empty, or holds the replica's own request
abbrev pub IsOwnPort : TriplexCore → ℕ → ℕ → Replica → Option Posted → Type 0
IsOwnPort k delivered accepted s None = Unit {0}
IsOwnPort k delivered accepted s (Some posted) = OwnRequest k delivered accepted s posted

-- a good processor is in and not muted, its port is empty or holds its own request, its latch is its port, and
-- it sees the lines of the devices
pub record GoodMember (k : TriplexCore) (d : TriplexState) (p : ℕ) : Type 0 where
  pub membership : membership_at d.memberships p ≡ In
  pub awake : (module_at d.modules p).muted ≡ false
  pub port : IsOwnPort k d.delivered d.accepted (replica_of (module_at d.modules p)) (module_at d.modules p).port
  pub latch : latch_of d.voter p ≡ (module_at d.modules p).port
  pub lines : (module_at d.modules p).cpu.lines ≡ lines_of d.device

-- the frame is one that a machine may be given, and the timer is that of it; the members are the processors that are in, the voter is in one of its states, every good processor is a
-- member whose latch is its own, the events that wait are those accepted and not delivered, and the boards stand
-- for one list, of which one that mends has the words below its cursor
pub record LatchAgreement (k : TriplexCore) (d : TriplexState) : Type 0 where
  pub frame : IsFrame d.frame
  pub timer : d.voter.timer ≡ timer_of d.frame
  pub members : (p : ℕ) → p < 3 → is_member d.voter p ≡ is_in (membership_at d.memberships p)
  pub voter : IsVoter d.voter
  pub good : (p : ℕ) → p < 3 → IsGood d p → GoodMember k d p
  pub inbox : d.delivered + length d.inbox ≡ d.accepted
  pub room : length d.inbox ≤ INBOX_EVENTS
  pub boards : AreMendingBoards d.boards

-- every good processor is latched
abbrev pub AllLatched : TriplexState → Type 0
AllLatched d = (p : ℕ) → p < 3 → IsGood d p → is_some (latch_of d.voter p) ≡ true
