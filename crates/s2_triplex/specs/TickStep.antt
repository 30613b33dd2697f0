-- A tick of the triple machine.
use Rattle.std.specs.Prelude.{ℕ, Bool, true, false, if◌then◌else◌}
use Rattle.s2_revive.specs.MendingBoards.{MendingBoards, boards_idled}
use Rattle.s2_triplex.specs.TriplexCores.{TriplexCore}
use Rattle.s2_triplex.specs.TriplexState.{TriplexState}
use Rattle.s2_triplex.specs.VoterDecision.{StepResult, no_effects, tick_verdict, voted, is_idle_verdict, is_sync_verdict}
use Rattle.s2_triplex.specs.CopyHolds.{hold_begun_if, is_holding, after_hold_tick}

-- outside of a hold: the firings and the verdict, and after an agreed Sync a hold may begin
abbrev pub after_voting_tick : TriplexCore → TriplexState → ℕ → TriplexState
after_voting_tick k d mask = hold_begun_if (is_sync_verdict (tick_verdict k d mask)) (voted k d mask).next

-- in an idle turn one more word of a board that mends is copied
abbrev pub boards_idled_if : Bool → MendingBoards → MendingBoards
boards_idled_if true s = boards_idled s
boards_idled_if false s = s

abbrev pub idled_after : Bool → TriplexState → TriplexState
idled_after idle d = record d { boards = boards_idled_if idle d.boards }

abbrev pub after_working_tick : TriplexCore → TriplexState → ℕ → StepResult
after_working_tick k d mask = record {
  next = idled_after (is_idle_verdict (tick_verdict k d mask)) (after_voting_tick k d mask);
  effects = (voted k d mask).effects;
}

abbrev pub ticked : TriplexCore → TriplexState → ℕ → StepResult
ticked k d mask =
    if is_holding d.reintegration then record { next = after_hold_tick d mask; effects = no_effects }
    else after_working_tick k d mask
