-- Ticks of a machine without a latch whose processors were run alone: the voter waits until the last of them.
use Rattle.std.proofs.Common.{◌≡◌, ℕ, zero, suc, ◌+◌, ◌<◌, ◌≤◌, List, length, refl, sym, ap, subst, ◌∙◌, arith}
use Rattle.std.specs.Prelude.{Bool, true, false, ◌&&◌, Some, None, Ok, slice_index_or, if◌then◌else◌}
use Rattle.std.specs.declared.option.Option.{Option}
use Rattle.std.specs.declared.result.Result.{Result}
use Rattle.s2_clock.specs.ClockWatch.{is_firing, slow_of, windows_after, windows_run}
use Rattle.s2_journal.specs.declared.note.Reason.{Reason}
use Rattle.s2_revive.specs.MendingBoards.{MendingBoards, mended_by}
use Rattle.s2_revive.specs.IdleRuns.{boards_idled_by}
use Rattle.s2_voter.specs.declared.verdicts.Verdict.{Verdict}
use Rattle.s2_voter.specs.declared.verdicts.Verdict.TheVariants.{Waiting}
use Rattle.s2_voter.specs.VoterState.{VoterState}
use Rattle.s2_voter.specs.Verdicts.{verdict_of}
use Rattle.s2_triplex.specs.R2000Triplex.{r2000_triplex}
use Rattle.s2_triplex.specs.ModuleState.{ModuleState}
use Rattle.s2_triplex.specs.ModuleFiring.{is_posting, module_ticked}
use Rattle.s2_triplex.specs.TriplexState.{TriplexState, module_at, posted_at, three_of}
use Rattle.s2_triplex.specs.TickFirings.{after_firings, latched_from}
use Rattle.s2_triplex.specs.VoterDecision.{StepEffects, after_verdict, no_effects, is_idle_verdict, is_sync_verdict}
use Rattle.s2_triplex.specs.CopyHolds.{hold_begun_if, is_holding}
use Rattle.s2_triplex.specs.TickStep.{after_working_tick, idled_after}
use Rattle.s2_triplex.specs.StepTurns.{Turn, next_after_tick, tick_answer, turn_notes}
use Rattle.s2_plant.specs.StepParts.{blank_turn, port_of}
use Rattle.s2_plant.specs.TickRuns.{after_ticks, answer_after, modules_run}
use Rattle.s2_plant.specs.ApartTicks.{posted_run, voter_run}
use Rattle.s2_plant.proofs.QuietTicks.{decided_none, lawful_answer, lawful_next}

members_run : (seen mask : ℕ) (v : VoterState) (modules : List ModuleState) (j : ℕ) → (voter_run r2000_triplex seen mask v modules j).members ≡ v.members
unfolding voter_run
members_run seen mask v modules zero = refl
members_run seen mask v modules (suc j) = members_run seen mask v modules j

-- the machine after so many ticks, with the boards as they are then
pub apart_with : TriplexState → ℕ → ℕ → MendingBoards → TriplexState
apart_with d mask j boards = record d {
  modules = modules_run r2000_triplex d.accepted mask d.voter j d.modules;
  voter = voter_run r2000_triplex d.accepted mask d.voter d.modules j;
  boards = boards;
  ticks = d.ticks + j;
  posted = posted_run r2000_triplex d.accepted d.ticks mask d.voter d.modules d.posted j;
  windows = windows_run mask d.tainted j d.windows;
}

pub apart_state : TriplexState → ℕ → ℕ → TriplexState
apart_state d mask j = apart_with d mask j (boards_idled_by j d.boards)

module _ (d : TriplexState) (mask : ℕ) (free : is_holding d.reintegration ≡ false) (running : d.halt ≡ None) (fair : (j : ℕ) → slow_of mask d.tainted (windows_run mask d.tainted j d.windows) ≡ None) where
  firings_at : (j : ℕ) (boards : MendingBoards) → after_firings r2000_triplex (apart_with d mask j boards) mask ≡ apart_with d mask (suc j) boards
  unfolding apart_with modules_run voter_run posted_run
  firings_at j boards =
      let run = modules_run r2000_triplex d.accepted mask d.voter j d.modules in
      let v = voter_run r2000_triplex d.accepted mask d.voter d.modules j in
      let posted = posted_run r2000_triplex d.accepted d.ticks mask d.voter d.modules d.posted j in
      let fired : List Bool → List ModuleState = λ members. three_of (λ p. module_ticked r2000_triplex d.accepted (slice_index_or members p false) (is_firing mask p) (module_at run p)) in
      let state : List Bool → ℕ → TriplexState = λ members ticks. record d {
        modules = fired members;
        voter = latched_from (port_of (fired members)) v;
        boards = boards;
        ticks = ticks;
        posted = three_of (λ p. if (is_firing mask p && is_posting r2000_triplex (module_at run p) (slice_index_or members p false)) then d.ticks + j + 1 else posted_at posted p);
        windows = windows_after mask d.tainted (windows_run mask d.tainted j d.windows);
      } in
      let next : d.ticks + j + 1 ≡ d.ticks + suc j = omega arith in
      ap (λ (members : List Bool). state members (d.ticks + j + 1)) (members_run d.accepted mask d.voter d.modules j)
      ∙ ap (state d.voter.members) next

  apart_zero : d ≡ apart_state d mask 0
  unfolding apart_state apart_with modules_run voter_run posted_run boards_idled_by
  apart_zero = let same : d.ticks ≡ d.ticks + 0 = omega arith in ap (λ (t : ℕ). record d { ticks = t }) same

  -- the machine at the verdict of the tick after so many
  fired_at : (j : ℕ) → after_firings r2000_triplex (apart_state d mask j) mask ≡ apart_with d mask (suc j) (boards_idled_by j d.boards)
  unfolding apart_state
  fired_at j = firings_at j (boards_idled_by j d.boards)

  module _ (j : ℕ) (waits : verdict_of (voter_run r2000_triplex d.accepted mask d.voter d.modules (suc j)) ≡ Waiting) where
    verdict_waits : verdict_of (after_firings r2000_triplex (apart_state d mask j) mask).voter ≡ Waiting
    unfolding apart_with
    verdict_waits = ap (λ (e : TriplexState). verdict_of e.voter) (fired_at j) ∙ waits

    decides_none : (idled_after (is_idle_verdict (verdict_of (after_firings r2000_triplex (apart_state d mask j) mask).voter)) (hold_begun_if (is_sync_verdict (verdict_of (after_firings r2000_triplex (apart_state d mask j) mask).voter)) (after_verdict r2000_triplex (after_firings r2000_triplex (apart_state d mask j) mask) (verdict_of (after_firings r2000_triplex (apart_state d mask j) mask).voter)).next) ≡ idled_after true (after_firings r2000_triplex (apart_state d mask j) mask))
        × ((after_verdict r2000_triplex (after_firings r2000_triplex (apart_state d mask j) mask) (verdict_of (after_firings r2000_triplex (apart_state d mask j) mask).voter)).effects ≡ no_effects)
    decides_none = decided_none r2000_triplex (after_firings r2000_triplex (apart_state d mask j) mask) (verdict_of (after_firings r2000_triplex (apart_state d mask j) mask).voter) true verdict_waits

    idled_at : idled_after true (apart_with d mask (suc j) (boards_idled_by j d.boards)) ≡ apart_state d mask (suc j)
    unfolding apart_state apart_with boards_idled_by
    idled_at = refl

    lawful_at : next_after_tick r2000_triplex (apart_state d mask j) mask ≡ (after_working_tick r2000_triplex (apart_state d mask j) mask).next
    unfolding apart_state apart_with
    lawful_at = lawful_next (apart_state d mask j) mask (fair j) free

    apart_next : next_after_tick r2000_triplex (apart_state d mask j) mask ≡ apart_state d mask (suc j)
    apart_next = lawful_at ∙ (decides_none.0 ∙ (ap (idled_after true) (fired_at j) ∙ idled_at))

    apart_answer : mended_by (boards_idled_by j d.boards).mending ≡ None → tick_answer r2000_triplex (apart_state d mask j) mask ≡ Ok blank_turn
    unfolding apart_state apart_with
    apart_answer mends =
        let e = apart_state d mask j in
        let turn : Bool → Option ℕ → StepEffects → Option ℕ → Result Turn Reason = λ b o x h. Ok (record { notes = turn_notes b (e.ticks + 1) o x; out = x.out; halt = h }) in
        let halt : Option ℕ = (after_working_tick r2000_triplex e mask).next.halt in
        let effects : StepEffects = (after_verdict r2000_triplex (after_firings r2000_triplex e mask) (verdict_of (after_firings r2000_triplex e mask).voter)).effects in
        lawful_answer e mask (fair j) free
        ∙ (ap (λ (v : Verdict). turn (is_idle_verdict v) (mended_by e.boards.mending) effects halt) verdict_waits
        ∙ (ap (λ (o : Option ℕ). turn true o effects halt) mends
        ∙ (ap (λ (x : StepEffects). turn true None x halt) decides_none.1
        ∙ (ap (λ (s : TriplexState). turn true None no_effects s.halt) decides_none.0
        ∙ ap (turn true None no_effects) running))))

  module _ (r : ℕ) (waits : (j : ℕ) → 0 < j → j ≤ r → verdict_of (voter_run r2000_triplex d.accepted mask d.voter d.modules j) ≡ Waiting) where
    pub apart_run : (j : ℕ) → j ≤ r → after_ticks r2000_triplex mask j d ≡ apart_state d mask j
    unfolding after_ticks
    apart_run zero h = apart_zero
    apart_run (suc j) h = ap (λ (e : TriplexState). next_after_tick r2000_triplex e mask) (apart_run j (omega arith)) ∙ apart_next j (waits (suc j) (omega arith) h)

    pub apart_silent : ((j : ℕ) → j < r → mended_by (boards_idled_by j d.boards).mending ≡ None) → (j : ℕ) → j < r → answer_after r2000_triplex mask j d ≡ Ok blank_turn
    apart_silent mends j h = ap (λ (e : TriplexState). tick_answer r2000_triplex e mask) (apart_run j (omega arith)) ∙ apart_answer j (waits (suc j) (omega arith) (omega arith)) (mends j h)

    -- and the firings of one more
    pub apart_last : (modules : List ModuleState) (v : VoterState) (boards : MendingBoards) (ticks : ℕ) (posted : List ℕ) (windows : List (List Bool))
        → modules ≡ modules_run r2000_triplex d.accepted mask d.voter (suc r) d.modules
        → v ≡ voter_run r2000_triplex d.accepted mask d.voter d.modules (suc r)
        → boards ≡ boards_idled_by r d.boards
        → ticks ≡ d.ticks + (r + 1)
        → posted ≡ posted_run r2000_triplex d.accepted d.ticks mask d.voter d.modules d.posted (suc r)
        → windows ≡ windows_run mask d.tainted (r + 1) d.windows
        → record d { modules = modules; voter = v; boards = boards; ticks = ticks; posted = posted; windows = windows } ≡ after_firings r2000_triplex (after_ticks r2000_triplex mask r d) mask
    unfolding apart_with
    apart_last modules v boards ticks posted windows m w b t p o =
        let one : r + 1 ≡ suc r = omega arith in
        let count : ticks ≡ d.ticks + suc r = omega arith in
        let shown : windows ≡ windows_run mask d.tainted (suc r) d.windows = o ∙ ap (λ (i : ℕ). windows_run mask d.tainted i d.windows) one in
        let ms = modules_run r2000_triplex d.accepted mask d.voter (suc r) d.modules in
        let vs = voter_run r2000_triplex d.accepted mask d.voter d.modules (suc r) in
        let bs = boards_idled_by r d.boards in
        let ps = posted_run r2000_triplex d.accepted d.ticks mask d.voter d.modules d.posted (suc r) in
        ap (λ (x : List ModuleState). record d { modules = x; voter = v; boards = boards; ticks = ticks; posted = posted; windows = windows }) m
        ∙ (ap (λ (x : VoterState). record d { modules = ms; voter = x; boards = boards; ticks = ticks; posted = posted; windows = windows }) w
        ∙ (ap (λ (x : MendingBoards). record d { modules = ms; voter = vs; boards = x; ticks = ticks; posted = posted; windows = windows }) b
        ∙ (ap (λ (x : ℕ). record d { modules = ms; voter = vs; boards = bs; ticks = x; posted = posted; windows = windows }) count
        ∙ (ap (λ (x : List ℕ). record d { modules = ms; voter = vs; boards = bs; ticks = d.ticks + suc r; posted = x; windows = windows }) p
        ∙ (ap (λ (x : List (List Bool)). record d { modules = ms; voter = vs; boards = bs; ticks = d.ticks + suc r; posted = ps; windows = x }) shown
        ∙ (sym (fired_at r) ∙ ap (λ (e : TriplexState). after_firings r2000_triplex e mask) (sym (apart_run r (omega arith)))))))))

    -- what is known of the machine before it
    pub apart_lawful : (slow_of mask (after_ticks r2000_triplex mask r d).tainted (after_ticks r2000_triplex mask r d).windows ≡ None) × (is_holding (after_ticks r2000_triplex mask r d).reintegration ≡ false)
    unfolding apart_state apart_with
    apart_lawful =
        (ap (λ (e : TriplexState). slow_of mask e.tainted e.windows) (apart_run r (omega arith)) ∙ fair r, ap (λ (e : TriplexState). is_holding e.reintegration) (apart_run r (omega arith)) ∙ free)
