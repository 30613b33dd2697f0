-- Ticks with one mask, one after another, and what a run of them tells.
use Rattle.std.specs.Prelude.{ℕ, zero, suc, ◌≡◌, ◌<◌, ◌≤◌, ◌&&◌, ◌||◌, Bool, true, false, List, [], ◌∷◌, Ok, Err, is_none, is_some}
use Rattle.std.specs.declared.result.Result.{Result}
use Rattle.s2_clock.specs.ClockWatch.{is_firing, is_covered}
use Rattle.s2_journal.specs.declared.note.Note.{Note}
use Rattle.s2_journal.specs.declared.note.Reason.{Reason}
use Rattle.s2_voter.specs.VoterState.{VoterState, IsTimer, is_member}
use Rattle.s2_voter.specs.VoterCalls.{cleared_voter}
use Rattle.s2_triplex.specs.TriplexCores.{TriplexCore}
use Rattle.s2_triplex.specs.R2000Triplex.{r2000_triplex}
use Rattle.s2_triplex.specs.ModuleState.{ModuleState}
use Rattle.s2_triplex.specs.ModuleFiring.{is_posting}
use Rattle.s2_triplex.specs.TriplexState.{TriplexState, module_at}
use Rattle.s2_triplex.specs.CopyHolds.{is_holding}
use Rattle.s2_triplex.specs.StepTurns.{Turn, tick_answer, next_after_tick}
use Rattle.s2_plant.specs.TickRests.{is_quiet}
use Rattle.s2_plant.specs.StepParts.{blank_turn, fired_modules, port_of}
use Rattle.std.specs.Prelude.{None, Some, length}
use Rattle.std.specs.declared.option.Option.{Option}

-- the machine after so many ticks with a mask
unfoldable pub after_ticks : TriplexCore → ℕ → ℕ → TriplexState → TriplexState
after_ticks k mask zero d = d
after_ticks k mask (suc n) d = next_after_tick k (after_ticks k mask n d) mask

-- what the tick answers that comes after so many
abbrev pub answer_after : TriplexCore → ℕ → ℕ → TriplexState → Result Turn Reason
answer_after k mask n d = tick_answer k (after_ticks k mask n d) mask

-- A run of ticks: some that make nothing known, fewer than the limit, and then one more, with its answer and the
-- machine after it.
pub record IsTickRun (d : TriplexState) (mask limit before : ℕ) (e : TriplexState) (last : Result Turn Reason) : Type 0 where
  pub within : before < limit
  pub silent : (j : ℕ) → j < before → answer_after r2000_triplex mask j d ≡ Ok blank_turn
  pub answer : last ≡ answer_after r2000_triplex mask before d
  pub machine : e ≡ after_ticks r2000_triplex mask (suc before) d

-- Quiet ticks that were taken at once: at most so many, each quiet and without anything made known, and where they
-- are fewer the next would not be quiet.
pub record IsSkip (d : TriplexState) (mask limit n : ℕ) (e : TriplexState) : Type 0 where
  pub within : n ≤ limit
  pub quiet : (j : ℕ) → j < n → is_quiet (after_ticks r2000_triplex mask j d) mask ≡ true
  pub silent : (j : ℕ) → j < n → answer_after r2000_triplex mask j d ≡ Ok blank_turn
  pub stops : n < limit → is_quiet (after_ticks r2000_triplex mask n d) mask ≡ false
  pub machine : e ≡ after_ticks r2000_triplex mask n d

-- ---- for the parts of the machine

-- what a tick answers that was refused, or else gave a turn
abbrev pub answer_of : Option Reason → Turn → Result Turn Reason
answer_of None turn = Ok turn
answer_of (Some reason) turn = Err reason

-- whether an answer makes nothing known
abbrev pub has_no_notes : List Note → Bool
has_no_notes [] = true
has_no_notes (note ∷ notes) = false

abbrev pub is_silent : Result Turn Reason → Bool
is_silent (Ok turn) = has_no_notes turn.notes && (is_none turn.out && is_none turn.halt)
is_silent (Err reason) = false

-- the modules after the firings of so many ticks
unfoldable pub modules_run : TriplexCore → ℕ → ℕ → VoterState → ℕ → List ModuleState → List ModuleState
modules_run k seen mask v zero modules = modules
modules_run k seen mask v (suc n) modules = fired_modules k seen mask v (modules_run k seen mask v n modules)

-- whether a processor posts a request at a tick, and whether one of them does
abbrev pub is_posting_at : TriplexCore → ℕ → VoterState → List ModuleState → ℕ → Bool
is_posting_at k mask v modules p = is_firing mask p && is_posting k (module_at modules p) (is_member v p)

abbrev pub is_any_posting : TriplexCore → ℕ → VoterState → List ModuleState → Bool
is_any_posting k mask v modules = is_posting_at k mask v modules 0 || (is_posting_at k mask v modules 1 || is_posting_at k mask v modules 2)

-- no member has a request in its port
pub record NoneWait (v : VoterState) (modules : List ModuleState) : Type 0 where
  pub first : is_member v 0 ≡ true → port_of modules 0 ≡ None
  pub second : is_member v 1 ≡ true → port_of modules 1 ≡ None
  pub third : is_member v 2 ≡ true → port_of modules 2 ≡ None

-- A machine whose ticks with a mask make nothing known until a processor posts a request: no clock is too slow, no
-- word is to copy to a processor, no request is latched, and none waits; and its timer is one of a voter.
pub record IsClear (d : TriplexState) (mask : ℕ) : Type 0 where
  pub covered : is_covered mask d.tainted ≡ true
  pub free : is_holding d.reintegration ≡ false
  pub timer : IsTimer d.voter.timer
  pub unlatched : d.voter ≡ cleared_voter d.voter
  pub none_wait : NoneWait d.voter d.modules
