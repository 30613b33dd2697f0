-- The acts of a script: what each does to the triple machine.
use Rattle.std.specs.Prelude.{ℕ, ◌+◌, ◌==◌, ◌&&◌, not, nat_lt, List, [], ◌∷◌, ◌++◌, length, Bool, true, false, Some, None, if◌then◌else◌}
use Rattle.std.specs.declared.option.Option.{Option}
use Rattle.s2_ports.specs.declared.events.Event.{Event}
use Rattle.s2_ports.specs.declared.events.BoardFault.{BoardFault}
use Rattle.s2_revive.specs.MendingBoards.{mending_begun}
use Rattle.s2_revive.specs.MendingFaults.{mending_struck}
use Rattle.s2_join.specs.CopyOrder.{copy_start}
use Rattle.s2_voter.specs.VoterState.{VoterState, is_member, latch_of, has_two_latches}
use Rattle.s2_voter.specs.VoterCalls.{remaining_age}
use Rattle.s2_script.specs.declared.entry.Act.{Act}
use Rattle.s2_script.specs.declared.entry.Act.TheVariants.{Event as EventAct, Poke, PokeLocal, Drive, Mute, Remove, Revive, Board, Mend}
use Rattle.s2_triplex.specs.declared.membership.Membership.{Membership}
use Rattle.s2_triplex.specs.declared.membership.Membership.TheVariants.{Joining}
use Rattle.s2_triplex.specs.declared.numbers.TheConstants.{INBOX_EVENTS}
use Rattle.s2_triplex.specs.ModuleState.{ModuleState}
use Rattle.s2_triplex.specs.ModuleFaults.{module_poked, module_local_poked, module_driven, module_muted, module_revived}
use Rattle.s2_triplex.specs.TriplexState.{TriplexState, Reintegration, three_of, module_at, membership_at, is_out}
use Rattle.s2_triplex.specs.VoterDecision.{membership_unless_left}

-- an event joins the inbox, or is lost where no more may wait
abbrev pub event_received : Event → TriplexState → TriplexState
event_received event d =
    if nat_lt (length d.inbox) INBOX_EVENTS then record d { inbox = d.inbox ++ event ∷ []; accepted = d.accepted + 1 } else d

-- the module of one processor is another
abbrev pub module_replaced : ℕ → ModuleState → List ModuleState → ℕ → ModuleState
module_replaced p m modules q = if p == q then m else module_at modules q

-- an open reintegration is disturbed
abbrev pub reintegration_disturbed : Option Reintegration → Option Reintegration
reintegration_disturbed None = None
reintegration_disturbed (Some j) = Some (record j { disturbed = true })

-- a fault of one processor: its module is another, and it is the tainted one. An open reintegration is that of
-- the tainted processor, so of the same.
abbrev pub module_disturbed : ℕ → ModuleState → TriplexState → TriplexState
module_disturbed p m d = record d {
  modules = three_of (module_replaced p m d.modules);
  tainted = Some p;
  reintegration = reintegration_disturbed d.reintegration;
}

-- processor p is no member, and has no latch
abbrev pub voter_without : ℕ → VoterState → VoterState
voter_without p v =
    let latches = three_of (λ q. if p == q then None else latch_of v q) in
    record { members = three_of (λ q. not (p == q) && is_member v q); latches = latches; age = remaining_age (has_two_latches latches) v.age; timer = v.timer }

-- a removal: the processor is out, and is the tainted one; its reintegration ends
abbrev pub removed : ℕ → TriplexState → TriplexState
removed p d = record d {
  memberships = three_of (λ q. membership_unless_left (p == q) (membership_at d.memberships q));
  voter = voter_without p d.voter;
  tainted = Some p;
  reintegration = None;
}

-- a reintegration begins
abbrev pub membership_revived : Bool → Membership → Membership
membership_revived true membership = Joining
membership_revived false membership = membership

abbrev pub reintegration_begun : ℕ → TriplexState → Reintegration
reintegration_begun p d = record { copying = copy_start p; revived = d.ticks; revived_run = d.resumed_run; copied = 0; disturbed = false }

abbrev pub revived : ℕ → TriplexState → TriplexState
revived p d = record d {
  modules = three_of (module_replaced p (module_revived (module_at d.modules p)) d.modules);
  memberships = three_of (λ q. membership_revived (p == q) (membership_at d.memberships q));
  reintegration = Some (reintegration_begun p d);
}

-- a processor that is not out is not brought back
abbrev pub is_revivable : ℕ → TriplexState → Bool
is_revivable p d = nat_lt p 3 && is_out (membership_at d.memberships p)

abbrev pub revived_if_out : ℕ → TriplexState → TriplexState
revived_if_out p d = if is_revivable p d then revived p d else d

-- a fault of a board
abbrev pub board_struck : BoardFault → TriplexState → TriplexState
board_struck fault d = record d { boards = mending_struck d.boards fault }

-- the mending of a board begins, where it is out and none mends
abbrev pub mend_begun : ℕ → TriplexState → TriplexState
mend_begun board d = record d { boards = mending_begun board d.boards }

-- an act that is lawful
abbrev pub acted : Act → TriplexState → TriplexState
acted (EventAct event) d = event_received event d
acted (Poke p k v) d = module_disturbed p (module_poked k v (module_at d.modules p)) d
acted (PokeLocal p i v) d = module_disturbed p (module_local_poked i v (module_at d.modules p)) d
acted (Drive p posted) d = module_disturbed p (module_driven posted (module_at d.modules p)) d
acted (Mute p) d = module_disturbed p (module_muted (module_at d.modules p)) d
acted (Remove p) d = removed p d
acted (Revive p) d = revived_if_out p d
acted (Board fault) d = board_struck fault d
acted (Mend board) d = mend_begun board d
