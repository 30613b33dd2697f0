-- The second part of a tick: the voter's verdict. On an agreed request the processor that is named is out, the
-- access is performed, and the members that are left are answered.
use Rattle.std.specs.Prelude.{ℕ, ◌==◌, ◌&&◌, ◌||◌, not, List, [], Bool, true, false, Some, None}
use Rattle.std.specs.declared.option.Option.{Option}
use Rattle.s2_ports.specs.declared.requests.Request.{Request}
use Rattle.s2_device.specs.DeviceState.{lines_of}
use Rattle.s2_voter.specs.declared.verdicts.Verdict.{Verdict}
use Rattle.s2_voter.specs.declared.verdicts.Verdict.TheVariants.{Waiting, Done, Split}
use Rattle.s2_voter.specs.VoterState.{is_member}
use Rattle.s2_voter.specs.VoterCalls.{no_latches}
use Rattle.s2_voter.specs.Verdicts.{verdict_of}
use Rattle.s2_machine.specs.declared.deliveries.Delivery.{Delivery}
use Rattle.s2_machine.specs.Cores.{is_sync}
use Rattle.s2_triplex.specs.declared.membership.Membership.{Membership}
use Rattle.s2_triplex.specs.declared.membership.Membership.TheVariants.{Out}
use Rattle.s2_triplex.specs.TriplexCores.{TriplexCore}
use Rattle.s2_triplex.specs.ModuleState.{ModuleState}
use Rattle.s2_triplex.specs.ModuleAnswer.{answered}
use Rattle.s2_triplex.specs.TriplexState.{TriplexState, three_of, module_at, membership_at}
use Rattle.s2_triplex.specs.ReferenceMachine.{least_run}
use Rattle.s2_triplex.specs.TickFirings.{after_firings}
use Rattle.s2_triplex.specs.VotedAccess.{VotedAccess, RepairedWord, voted_access}

-- what a step gives besides the next machine: the deliveries and the byte for the console, the processor that
-- differs and the one that is late, and the word that was rewritten on a board
pub record StepEffects : Type 0 where
  pub deliveries : List Delivery
  pub out : Option ℕ
  pub differ : Option ℕ
  pub late : Option ℕ
  pub repaired : Option RepairedWord

pub record StepResult : Type 0 where
  pub next : TriplexState
  pub effects : StepEffects

-- nothing of all this
abbrev pub no_effects : StepEffects
no_effects = record { deliveries = []; out = None; differ = None; late = None; repaired = None }

-- whether an optional processor is this one
abbrev pub is_processor : Option ℕ → ℕ → Bool
is_processor None p = false
is_processor (Some q) p = q == p

-- whether a decision names a processor
abbrev pub is_named : Option ℕ → Option ℕ → ℕ → Bool
is_named differ late p = is_processor differ p || is_processor late p

-- a processor that leaves is out
abbrev pub membership_unless_left : Bool → Membership → Membership
membership_unless_left true membership = Out
membership_unless_left false membership = membership

-- a member is answered
abbrev pub answered_if : Bool → TriplexCore → Request → ℕ → ℕ → ModuleState → ModuleState
answered_if true k r word lines m = answered k r word lines m
answered_if false k r word lines m = m

-- whether processor p is a member that is left
abbrev pub stays_member : TriplexState → (ℕ → Bool) → ℕ → Bool
stays_member d named p = not (named p) && is_member d.voter p

abbrev pub answered_at : TriplexCore → TriplexState → Request → VotedAccess → (ℕ → Bool) → ℕ → ModuleState
answered_at k d r a named p = answered_if (stays_member d named p) k r a.word (lines_of a.device) (module_at d.modules p)

-- the named processor is out, the access has its effect, the latches are cleared and the members answered: all
-- members resume
abbrev pub after_decision : TriplexCore → TriplexState → Request → VotedAccess → (ℕ → Bool) → TriplexState
after_decision k d r a named =
    let modules = three_of (answered_at k d r a named) in
    record d {
      modules = modules;
      memberships = three_of (λ p. membership_unless_left (named p) (membership_at d.memberships p));
      voter = record { members = three_of (stays_member d named); latches = no_latches; age = None; timer = d.voter.timer };
      boards = a.boards;
      device = a.device;
      inbox = a.inbox;
      delivered = a.delivered;
      halt = a.halt;
      resumed = d.ticks;
      resumed_run = least_run d.tainted modules;
    }

-- what a decision gives
abbrev pub decision_effects : VotedAccess → Option ℕ → Option ℕ → StepEffects
decision_effects a differ late = record { deliveries = a.deliveries; out = a.out; differ = differ; late = late; repaired = a.repaired }

-- the machine after a verdict
abbrev pub after_verdict : TriplexCore → TriplexState → Verdict → StepResult
after_verdict k d Waiting = record { next = d; effects = no_effects }
after_verdict k d Split = record { next = d; effects = no_effects }
after_verdict k d (Done r differ late) =
    let a = voted_access k d r in
    record { next = after_decision k d r a (is_named differ late); effects = decision_effects a differ late }

-- the verdict of a tick, and the machine after it
abbrev pub tick_verdict : TriplexCore → TriplexState → ℕ → Verdict
tick_verdict k d mask = verdict_of (after_firings k d mask).voter

abbrev pub voted : TriplexCore → TriplexState → ℕ → StepResult
voted k d mask = after_verdict k (after_firings k d mask) (tick_verdict k d mask)

-- whether a voter's turn is idle: no access is performed in it
abbrev pub is_idle_verdict : Verdict → Bool
is_idle_verdict (Done r differ late) = false
is_idle_verdict Waiting = true
is_idle_verdict Split = true

-- whether a verdict agrees on a synchronisation
abbrev pub is_sync_verdict : Verdict → Bool
is_sync_verdict (Done r differ late) = is_sync r.kind
is_sync_verdict Waiting = false
is_sync_verdict Split = false
