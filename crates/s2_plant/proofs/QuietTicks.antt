-- Ticks of a machine at which every firing that works runs a cycle: nothing is latched, decided or made known.
use Rattle.std.proofs.Common.{◌≡◌, ℕ, zero, suc, ◌+◌, ◌<◌, ◌≤◌, List, [], ◌∷◌, length, refl, sym, ap, subst, ◌∙◌, arith}
use Rattle.std.specs.Prelude.{Bool, true, false, not, is_none, is_some, ◌&&◌, ◌||◌, Some, None, Ok, Err, if◌then◌else◌}
use Rattle.std.specs.declared.option.Option.{Option}
use Rattle.std.specs.declared.result.Result.{Result}
use Rattle.s2_ports.specs.declared.requests.Posted.{Posted}
use Rattle.s2_clock.specs.declared.watch.Slow.{Slow}
use Rattle.s2_clock.specs.ClockWatch.{is_firing, slow_of, windows_after, windows_run}
use Rattle.s2_journal.specs.declared.note.Reason.{Reason}
use Rattle.s2_machine.specs.declared.ask.Ask.{Ask}
use Rattle.s2_machine.specs.declared.ask.Ask.TheVariants.{Local, Outside}
use Rattle.s2_voter.specs.declared.verdicts.Verdict.{Verdict}
use Rattle.s2_voter.specs.declared.verdicts.Verdict.TheVariants.{Waiting, Done, Split}
use Rattle.s2_voter.specs.VoterState.{VoterState, is_member, latch_of, has_two_latches}
use Rattle.s2_voter.specs.VoterCalls.{cleared_voter, no_latches, older, started_age}
use Rattle.s2_voter.specs.Verdicts.{is_due, verdict_of}
use Rattle.s2_revive.specs.MendingBoards.{MendingBoards, boards_idled, idled_in, mending_board}
use Rattle.s2_revive.specs.declared.revive.Mending.{Mending}
use Rattle.s2_triplex.specs.TriplexCores.{TriplexCore}
use Rattle.s2_triplex.specs.R2000Triplex.{r2000_triplex}
use Rattle.s2_triplex.specs.ModuleState.{ModuleState, replica_ask, replica_of}
use Rattle.s2_triplex.specs.ModuleFiring.{after_work, after_work_unless_waiting, is_outside, is_posting, is_working, module_idled, module_ticked}
use Rattle.s2_triplex.specs.TriplexState.{TriplexState, module_at, posted_at, three_of}
use Rattle.s2_triplex.specs.TickFirings.{after_firings, latch_taken, latched_from, posted_after}
use Rattle.s2_triplex.specs.VoterDecision.{StepEffects, StepResult, after_verdict, no_effects, is_idle_verdict, is_sync_verdict}
use Rattle.s2_triplex.specs.CopyHolds.{hold_begun_if, is_holding}
use Rattle.s2_triplex.specs.TickStep.{after_working_tick, idled_after, ticked}
use Rattle.s2_triplex.specs.StepRefusals.{slow_reason, tick_refusal}
use Rattle.s2_triplex.specs.StepTurns.{Turn, effect_notes, next_after_tick, next_unless_refused, tick_answer, tick_turn, unless_refused, working_turn}
use Rattle.s2_plant.specs.StepParts.{blank_turn, fired_modules, port_of, posting_ticks}
use Rattle.s2_plant.specs.TickRuns.{IsClear, NoneWait, after_ticks, answer_after, is_any_posting, is_posting_at, modules_run}
use Rattle.s2_plant.proofs.HoldTicks.{tick_of_work}

-- a module that has nothing in its port and does not post has nothing in it after the tick
work_port : (k : TriplexCore) (seen : ℕ) (m : ModuleState) (ask : Ask) → is_outside ask ≡ false → (after_work k seen m ask).port ≡ m.port
work_port k seen m Local h = refl
work_port k seen m (Outside request) h = absurd cc

fired_port : (k : TriplexCore) (seen : ℕ) (m : ModuleState) (w : Bool) (o : Option Posted) → m.port ≡ o → o ≡ None → (w && (not (is_some o) && is_outside (replica_ask k (replica_of m)))) ≡ false
    → (if w then after_work_unless_waiting k seen (module_idled m) o else module_idled m).port ≡ None
fired_port k seen m false o e n q = e ∙ n
fired_port k seen m true None e n q = work_port k seen (module_idled m) (replica_ask k (replica_of m)) q ∙ e
fired_port k seen m true (Some posted) e n q = absurd cc

pub ticked_port : (k : TriplexCore) (seen : ℕ) (m : ModuleState) (fires member : Bool) → (fires && is_posting k m member) ≡ false → m.port ≡ None → (module_ticked k seen member fires m).port ≡ None
ticked_port k seen m false member q n = n
ticked_port k seen m true member q n = fired_port k seen m (is_working m member) m.port refl n q

-- nobody posts
or_first : (a b : Bool) → (a || b) ≡ false → a ≡ false
or_first true b h = absurd cc
or_first false b h = refl

or_second : (a b : Bool) → (a || b) ≡ false → b ≡ false
or_second true b h = absurd cc
or_second false b h = h

module _ (k : TriplexCore) (mask : ℕ) (v : VoterState) (modules : List ModuleState) (quiet : is_any_posting k mask v modules ≡ false) where
  first_quiet : is_posting_at k mask v modules 0 ≡ false
  first_quiet = or_first (is_posting_at k mask v modules 0) (is_posting_at k mask v modules 1 || is_posting_at k mask v modules 2) quiet

  others_quiet : (is_posting_at k mask v modules 1 || is_posting_at k mask v modules 2) ≡ false
  others_quiet = or_second (is_posting_at k mask v modules 0) (is_posting_at k mask v modules 1 || is_posting_at k mask v modules 2) quiet

  second_quiet : is_posting_at k mask v modules 1 ≡ false
  second_quiet = or_first (is_posting_at k mask v modules 1) (is_posting_at k mask v modules 2) others_quiet

  third_quiet : is_posting_at k mask v modules 2 ≡ false
  third_quiet = or_second (is_posting_at k mask v modules 1) (is_posting_at k mask v modules 2) others_quiet

  none_wait_after : (seen : ℕ) → NoneWait v modules → NoneWait v (fired_modules k seen mask v modules)
  none_wait_after seen h = record {
    first = λ m. ticked_port k seen (module_at modules 0) (is_firing mask 0) (is_member v 0) first_quiet (h.first m);
    second = λ m. ticked_port k seen (module_at modules 1) (is_firing mask 1) (is_member v 1) second_quiet (h.second m);
    third = λ m. ticked_port k seen (module_at modules 2) (is_firing mask 2) (is_member v 2) third_quiet (h.third m);
  }

  pub same_three : (posted : List ℕ) → length posted ≡ 3 → posted_at posted 0 ∷ posted_at posted 1 ∷ posted_at posted 2 ∷ [] ≡ posted
  same_three [] h = absurd (omega arith)
  same_three (a ∷ []) h = absurd (omega arith)
  same_three (a ∷ b ∷ []) h = absurd (omega arith)
  same_three (a ∷ b ∷ c ∷ []) h = refl
  same_three (a ∷ b ∷ c ∷ e ∷ xs) h = absurd (omega arith)

  pub postings_stay : (tick : ℕ) (posted : List ℕ) → length posted ≡ 3 → posting_ticks k tick mask v modules posted ≡ posted
  postings_stay tick posted h =
      let at : Bool → ℕ → ℕ = λ b p. if b then tick else posted_at posted p in
      ap (λ (b : Bool). at b 0 ∷ at (is_posting_at k mask v modules 1) 1 ∷ at (is_posting_at k mask v modules 2) 2 ∷ []) first_quiet
      ∙ (ap (λ (b : Bool). posted_at posted 0 ∷ at b 1 ∷ at (is_posting_at k mask v modules 2) 2 ∷ []) second_quiet
      ∙ (ap (λ (b : Bool). posted_at posted 0 ∷ posted_at posted 1 ∷ at b 2 ∷ []) third_quiet ∙ same_three posted h))

-- nothing is latched where no latch was there and nothing waits
taken_none : (member : Bool) (port : Option Posted) → (member ≡ true → port ≡ None) → latch_taken member None port ≡ None
taken_none true port h = h refl
taken_none false port h = refl

latched_clear : (ports : ℕ → Option Posted) (v : VoterState) → (is_member v 0 ≡ true → ports 0 ≡ None) → (is_member v 1 ≡ true → ports 1 ≡ None) → (is_member v 2 ≡ true → ports 2 ≡ None)
    → latched_from ports (cleared_voter v) ≡ cleared_voter v
latched_clear ports v a b c =
    let with : List (Option Posted) → VoterState = λ latches. record { members = v.members; latches = latches; age = started_age (has_two_latches latches) (older v.timer None); timer = v.timer } in
    let at : ℕ → Option Posted = λ p. latch_taken (is_member v p) None (ports p) in
    ap (λ (o : Option Posted). with (o ∷ at 1 ∷ at 2 ∷ [])) (taken_none (is_member v 0) (ports 0) a)
    ∙ (ap (λ (o : Option Posted). with (None ∷ o ∷ at 2 ∷ [])) (taken_none (is_member v 1) (ports 1) b)
    ∙ ap (λ (o : Option Posted). with (None ∷ None ∷ o ∷ [])) (taken_none (is_member v 2) (ports 2) c))

latched_none : (v : VoterState) (modules : List ModuleState) → v ≡ cleared_voter v → NoneWait v modules → latched_from (port_of modules) v ≡ v
latched_none v modules e h = ap (latched_from (port_of modules)) e ∙ (latched_clear (port_of modules) v h.first h.second h.third ∙ sym e)

-- and nothing is decided
verdict_clear : (v : VoterState) → verdict_of (cleared_voter v) ≡ (if not (is_due (cleared_voter v)) then Waiting else Split)
verdict_clear v = refl

-- where no board mends, an idle turn copies nothing
idle_boards : (s : MendingBoards) → s.mending ≡ None → boards_idled s ≡ s
idle_boards s none = ap (idled_in s.pair) none ∙ ap (λ (o : Option Mending). let t : MendingBoards = record { pair = s.pair; mending = o } in t) (sym none)

pub idle_rests : (b : Bool) (e : TriplexState) → e.boards.mending ≡ None → idled_after b e ≡ e
idle_rests true e none = ap (λ (s : MendingBoards). record e { boards = s }) (idle_boards e.boards none)
idle_rests false e none = refl

-- whether a board mends, by its number
pub mends_none : (m : Option Mending) → is_none (mending_board m) ≡ is_none m
mends_none None = refl
mends_none (Some m) = refl

pub none_mends : (m : Option Mending) → is_none (mending_board m) ≡ true → m ≡ None
none_mends None h = refl
none_mends (Some m) h = absurd cc

pub decided_none : (k : TriplexCore) (e : TriplexState) (v : Verdict) (b : Bool) → v ≡ (if b then Waiting else Split)
    → (idled_after (is_idle_verdict v) (hold_begun_if (is_sync_verdict v) (after_verdict k e v).next) ≡ idled_after true e) × ((after_verdict k e v).effects ≡ no_effects)
decided_none k e v true h = (ap (λ (x : Verdict). idled_after (is_idle_verdict x) (hold_begun_if (is_sync_verdict x) (after_verdict k e x).next)) h, ap (λ (x : Verdict). (after_verdict k e x).effects) h)
decided_none k e v false h = (ap (λ (x : Verdict). idled_after (is_idle_verdict x) (hold_begun_if (is_sync_verdict x) (after_verdict k e x).next)) h, ap (λ (x : Verdict). (after_verdict k e x).effects) h)

-- a lawful tick outside of holds
pub lawful_next : (d : TriplexState) (mask : ℕ) → slow_of mask d.tainted d.windows ≡ None → is_holding d.reintegration ≡ false → next_after_tick r2000_triplex d mask ≡ (after_working_tick r2000_triplex d mask).next
lawful_next d mask fair free =
    ap (λ (o : Option Slow). next_unless_refused (slow_reason o) (ticked r2000_triplex d mask).next d) fair ∙ (tick_of_work r2000_triplex d mask free).0

pub lawful_answer : (d : TriplexState) (mask : ℕ) → slow_of mask d.tainted d.windows ≡ None → is_holding d.reintegration ≡ false → tick_answer r2000_triplex d mask ≡ Ok (working_turn r2000_triplex d mask)
lawful_answer d mask fair free =
    ap (λ (o : Option Slow). unless_refused (slow_reason o) (tick_turn r2000_triplex d mask)) fair ∙ ap (λ (t : Turn). let r : Result Turn Reason = Ok t in r) (tick_of_work r2000_triplex d mask free).1
