-- The triple machine as plain data.
use Rattle.std.specs.Prelude.{ℕ, not, List, [], ◌∷◌, Bool, true, false, None, slice_index_or}
use Rattle.std.specs.declared.option.Option.{Option}
use Rattle.s2_ports.specs.declared.events.Event.{Event}
use Rattle.s2_clock.specs.ClockWatch.{fair_windows, is_tainted}
use Rattle.s2_device.specs.DeviceState.{Device, quiet_device}
use Rattle.s2_revive.specs.MendingBoards.{MendingBoards, new_mending}
use Rattle.s2_voter.specs.VoterState.{VoterState}
use Rattle.s2_voter.specs.Timers.{timer_of}
use Rattle.s2_voter.specs.VoterCalls.{new_voter}
use Rattle.s2_join.specs.CopyOrder.{CopyState}
use Rattle.s2_triplex.specs.declared.membership.Membership.{Membership}
use Rattle.s2_triplex.specs.declared.membership.Membership.TheVariants.{In, Out, Joining}
use Rattle.s2_triplex.specs.ModuleState.{ModuleState, started_module, module_framed, blank_module}

-- an open reintegration: the order of copying, the tick of its `revive`, the run count of the last resume then,
-- the words copied so far, and whether an act disturbed the joining processor since
pub record Reintegration : Type 0 where
  pub copying : CopyState
  pub revived : ℕ
  pub revived_run : ℕ
  pub copied : ℕ
  pub disturbed : Bool

-- Three modules with their memberships, the voter, the two boards, of which one may mend, and the devices; the events that wait, how
-- many were accepted and how many delivered; the tainted processor; the ticks that were run, and the halt value;
-- the tick and run count of the last resume, the tick of each processor's last posting, and the last ticks of
-- each clock; the open reintegration; and the run cycles of a frame.
pub record TriplexState : Type 0 where
  pub frame : ℕ
  pub modules : List ModuleState
  pub memberships : List Membership
  pub voter : VoterState
  pub boards : MendingBoards
  pub device : Device
  pub inbox : List Event
  pub accepted : ℕ
  pub delivered : ℕ
  pub tainted : Option ℕ
  pub ticks : ℕ
  pub halt : Option ℕ
  pub resumed : ℕ
  pub resumed_run : ℕ
  pub posted : List ℕ
  pub windows : List (List Bool)
  pub reintegration : Option Reintegration

-- a list with a place for each of the processors 0, 1 and 2
abbrev pub three_of : {A : Type 0} → (ℕ → A) → List A
three_of f = f 0 ∷ f 1 ∷ f 2 ∷ []

-- the module, the membership and the last posting of processor p
abbrev pub module_at : List ModuleState → ℕ → ModuleState
module_at modules p = slice_index_or modules p blank_module

abbrev pub membership_at : List Membership → ℕ → Membership
membership_at memberships p = slice_index_or memberships p Out

abbrev pub posted_at : List ℕ → ℕ → ℕ
posted_at posted p = slice_index_or posted p 0

-- whether a processor is in, and whether it is out
abbrev pub is_in : Membership → Bool
is_in In = true
is_in Out = false
is_in Joining = false

abbrev pub is_out : Membership → Bool
is_out In = false
is_out Out = true
is_out Joining = false

-- a processor is good where it is not the tainted one
abbrev pub is_good : Option ℕ → ℕ → Bool
is_good tainted p = not (is_tainted tainted p)

-- at the start of a program, with a frame: an entry and the two lists. Each module has the frame, and the voter the
-- timer of it.
abbrev pub started_triplex : ℕ → ℕ → List ℕ → List ℕ → TriplexState
started_triplex frame entry local global = record {
  frame = frame;
  modules = three_of (λ _. started_module frame entry local);
  memberships = three_of (λ _. In);
  voter = record new_voter { timer = timer_of frame };
  boards = new_mending global;
  device = quiet_device;
  inbox = [];
  accepted = 0;
  delivered = 0;
  tainted = None;
  ticks = 0;
  halt = None;
  resumed = 0;
  resumed_run = 0;
  posted = three_of (λ _. 0);
  windows = fair_windows;
  reintegration = None;
}

-- a machine with another frame: that of each module is it too, and the voter's timer is that of it
abbrev pub with_frame : ℕ → TriplexState → TriplexState
with_frame frame d = record d {
  frame = frame;
  modules = three_of (λ p. module_framed frame (module_at d.modules p));
  voter = record d.voter { timer = timer_of frame };
}
