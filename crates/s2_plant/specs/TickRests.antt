-- Quiet ticks outside of holds: no firing runs a cycle or posts, nothing is latched, the voter waits, and no board mends.
use Rattle.std.specs.Prelude.{ℕ, ◌+◌, ◌-◌, ◌^◌, ◌&&◌, ◌||◌, not, min, is_some, is_none, Bool, true, false, List, if◌then◌else◌}
use Rattle.s2_clock.specs.ClockWatch.{is_firing, slow_of, windows_run}
use Rattle.s2_voter.specs.declared.verdicts.Verdict.{Verdict}
use Rattle.s2_voter.specs.declared.verdicts.Verdict.TheVariants.{Waiting, Done, Split}
use Rattle.s2_voter.specs.VoterState.{VoterState, is_member}
use Rattle.s2_voter.specs.VoterCalls.{ticked_voter}
use Rattle.s2_voter.specs.VoterRests.{aged_voter, ticks_to_decision}
use Rattle.s2_voter.specs.Verdicts.{is_unlatched, verdict_of}
use Rattle.s2_module.specs.ModuleRests.{idle_firings, module_idled_by}
use Rattle.s2_triplex.specs.ModuleState.{ModuleState}
use Rattle.s2_triplex.specs.ModuleFiring.{is_working}
use Rattle.s2_triplex.specs.TriplexState.{TriplexState, module_at, three_of}
use Rattle.s2_triplex.specs.CopyHolds.{is_holding}
use Rattle.s2_plant.specs.StepParts.{port_of}

-- whether a firing of a module does more than count
abbrev pub is_stirring : ModuleState → Bool → Bool
is_stirring m member = is_working m member && not (is_some m.port)

abbrev pub is_stirring_at : ℕ → VoterState → List ModuleState → ℕ → Bool
is_stirring_at mask v modules p = is_firing mask p && is_stirring (module_at modules p) (is_member v p)

-- whether the voter would latch a processor
abbrev pub is_latching_at : VoterState → List ModuleState → ℕ → Bool
is_latching_at v modules p = is_unlatched v p && is_some (port_of modules p)

-- whether it is so for one of the three
abbrev pub any_of : (ℕ → Bool) → Bool
any_of test = test 0 || (test 1 || test 2)

abbrev pub is_waiting : Verdict → Bool
is_waiting Waiting = true
is_waiting (Done request differ late) = false
is_waiting Split = false

-- in a tick with a mask nothing works, and no decision is due
abbrev pub is_still : TriplexState → ℕ → Bool
is_still d mask = not (is_holding d.reintegration) && (not (any_of (is_stirring_at mask d.voter d.modules)) && (not (any_of (is_latching_at d.voter d.modules)) && is_waiting (verdict_of (ticked_voter d.voter))))

-- it is one of rest where no board mends, too
abbrev pub is_resting : TriplexState → ℕ → Bool
is_resting d mask = is_none d.boards.mending && is_still d mask

-- and it is lawful
abbrev pub is_quiet : TriplexState → ℕ → Bool
is_quiet d mask = is_none (slow_of mask d.tainted d.windows) && is_resting d mask

-- ---- for the parts of the machine

-- for how many ticks a processor only counts, and for how many all do
abbrev pub rest_at : ℕ → VoterState → List ModuleState → ℕ → ℕ
rest_at mask v modules p = if is_firing mask p && is_member v p then idle_firings (module_at modules p) else 2 ^ 64 - 1

abbrev pub rest_firings : ℕ → VoterState → List ModuleState → ℕ
rest_firings mask v modules = min (rest_at mask v modules 0) (min (rest_at mask v modules 1) (rest_at mask v modules 2))

-- the modules after so many such ticks
abbrev pub idled_by_if : Bool → ℕ → ModuleState → ModuleState
idled_by_if true n m = module_idled_by n m
idled_by_if false n m = m

abbrev pub rested_modules : ℕ → ℕ → List ModuleState → List ModuleState
rested_modules mask n modules = three_of (λ p. idled_by_if (is_firing mask p) n (module_at modules p))

-- the machine after them
abbrev pub rested : TriplexState → ℕ → ℕ → TriplexState
rested d mask n = record d { modules = rested_modules mask n d.modules; voter = aged_voter n d.voter; ticks = d.ticks + n; windows = windows_run mask d.tainted n d.windows }

-- for how many ticks nothing works in a machine that does not hold
abbrev pub still_ahead : TriplexState → ℕ → ℕ
still_ahead d mask = if is_holding d.reintegration || any_of (is_latching_at d.voter d.modules) then 0 else min (rest_firings mask d.voter d.modules) (ticks_to_decision d.voter)

-- how many ticks of rest it has ahead: none where a board mends
abbrev pub rest_ahead : TriplexState → ℕ → ℕ
rest_ahead d mask = if is_none d.boards.mending then still_ahead d mask else 0
