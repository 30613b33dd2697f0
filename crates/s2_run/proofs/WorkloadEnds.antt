-- A workload's script is lawful whatever its program does: its run ends with the script, or with a halt.
use Rattle.std.proofs.Common.{◌≡◌, ℕ, zero, suc, ◌+◌, ◌≤◌, Bool, true, false, cond, List, [], ◌∷◌, refl, sym, ap, arith, ◌∙◌, subst}
use Rattle.std.specs.Prelude.{Some, None, nat_lt, not, ◌&&◌, is_some}
use Rattle.std.specs.declared.option.Option.{Option}
use Rattle.std.proofs.lemmas.Bool.Decides.{nat_tests}
use Rattle.s2_clock.specs.ClockWatch.{is_tainted, fair_windows, first_some, slow_of, windows_after}
use Rattle.s2_clock.specs.declared.watch.Slow.{Slow}
use Rattle.s2_voter.specs.declared.verdicts.Verdict.{Verdict}
use Rattle.s2_voter.specs.declared.verdicts.Verdict.TheVariants.{Waiting, Done, Split}
use Rattle.s2_join.specs.declared.item.Item.{Item}
use Rattle.s2_join.specs.declared.item.Item.TheVariants.{Local, Saved}
use Rattle.s2_join.specs.CopyOrder.{is_last_item}
use Rattle.s2_script.specs.declared.entry.Act.TheVariants.{Poke, Revive}
use Rattle.s2_script.specs.declared.entry.Entry.TheVariants.{Ticks, One}
use Rattle.s2_elf.specs.MemoryImage.{MemoryImage}
use Rattle.s2_journal.specs.declared.note.End.{End}
use Rattle.s2_journal.specs.declared.note.End.TheVariants.{TooLong}
use Rattle.s2_journal.specs.declared.note.Reason.{Reason}
use Rattle.s2_triplex.specs.R2000Triplex.{r2000_triplex}
use Rattle.s2_triplex.specs.TriplexCores.{TriplexCore}
use Rattle.s2_triplex.specs.TriplexState.{TriplexState, Reintegration}
use Rattle.s2_triplex.specs.TickFirings.{after_firings}
use Rattle.s2_triplex.specs.VoterDecision.{no_effects, after_verdict, tick_verdict, voted, is_sync_verdict}
use Rattle.s2_triplex.specs.CopyHolds.{hold_begun, hold_begun_if, is_holding, after_idle_tick, tainted_if, item_copied, saved_word_copied, copied, after_hold_tick}
use Rattle.s2_triplex.specs.TickStep.{after_working_tick, ticked}
use Rattle.s2_triplex.specs.ActStep.{revived, is_revivable}
use Rattle.s2_triplex.specs.StepRefusals.{slow_reason, second_fault}
use Rattle.s2_triplex.specs.TriplexSteps.{TriplexStep, clock_tick, script_act, step_refusal, stepped}
use Rattle.s2_run.specs.declared.limits.TheConstants.{TICK_LIMIT}
use Rattle.s2_run.specs.ScriptRuns.{ScriptRun, joined_runs, ended, halt_end, step_run_by, step_run, with_step, ticks_run, entry_run, end_of}
use Rattle.s2_run.specs.MaskedRuns.{first_triplex}
use Rattle.s2_run.specs.EntryRuns.{entries_run}
use Rattle.s2_run.specs.RunCommand.{IsWholeEnd}
use Rattle.s2_run.specs.LoadCommand.{workload_run}
use Rattle.s2_run.proofs.StepCounts.{tick_counts}

-- three clocks that always fired are never too slow for a tick of all three, and have always fired after it
slow_or_none : ℕ → Bool → Option Slow
slow_or_none p tainted = cond (not tainted && false) (Some (record { p = p; misses = 0 })) None

none_of_three : (a b c : Bool) → first_some (slow_or_none 0 a ∷ slow_or_none 1 b ∷ slow_or_none 2 c ∷ []) ≡ None
unfolding slow_or_none
none_of_three true true true = refl
none_of_three true true false = refl
none_of_three true false true = refl
none_of_three true false false = refl
none_of_three false true true = refl
none_of_three false true false = refl
none_of_three false false true = refl
none_of_three false false false = refl

never_slow : (tainted : Option ℕ) → slow_of 7 tainted fair_windows ≡ None
unfolding slow_or_none
never_slow tainted = none_of_three (is_tainted tainted 0) (is_tainted tainted 1) (is_tainted tainted 2)

always_fired : (tainted : Option ℕ) → windows_after 7 tainted fair_windows ≡ fair_windows
always_fired tainted = refl

-- what a tick does to the clocks, and to the tainted processor where there is none
verdict_clocks : (k : TriplexCore) (d : TriplexState) (v : Verdict) → ((after_verdict k d v).next.windows ≡ d.windows) × ((after_verdict k d v).next.tainted ≡ d.tainted)
verdict_clocks k d Waiting = (refl, refl)
verdict_clocks k d Split = (refl, refl)
verdict_clocks k d (Done r differ late) = (refl, refl)

begun_clocks : (b : Bool) (d : TriplexState) → ((hold_begun_if b d).windows ≡ d.windows) × ((hold_begun_if b d).tainted ≡ d.tainted)
begun_clocks false d = (refl, refl)
begun_clocks true d = by_open d.reintegration
  where
    by_open : (o : Option Reintegration) → ((hold_begun d o).windows ≡ d.windows) × ((hold_begun d o).tainted ≡ d.tainted)
    by_open None = (refl, refl)
    by_open (Some j) = (refl, refl)

nobody : (disturbed : Bool) (tainted : Option ℕ) → tainted ≡ None → tainted_if disturbed tainted ≡ None
nobody true tainted h = h
nobody false tainted h = refl

abbrev ClocksStay : TriplexState → TriplexState → Type 0
ClocksStay d e = (e.windows ≡ d.windows) × (d.tainted ≡ None → e.tainted ≡ None)

saved_clocks : (b : Bool) (d : TriplexState) (j : Reintegration) → ClocksStay d (saved_word_copied b d j)
saved_clocks true d j = (refl, λ h. nobody j.disturbed d.tainted h)
saved_clocks false d j = (refl, λ h. h)

item_clocks : (d : TriplexState) (j : Reintegration) (items : List Item) → ClocksStay d (item_copied d j items)
item_clocks d j [] = (refl, λ h. h)
item_clocks d j (Local i ∷ left) = (refl, λ h. h)
item_clocks d j (Saved n ∷ left) = saved_clocks (is_last_item (Saved n)) d j

copied_clocks : (d : TriplexState) (o : Option Reintegration) → ClocksStay d (copied d o)
copied_clocks d None = (refl, λ h. h)
copied_clocks d (Some j) = item_clocks d j j.copying.left

abbrev TickClocks : ℕ → TriplexState → TriplexState → Type 0
TickClocks mask d e = (e.windows ≡ windows_after mask d.tainted d.windows) × (d.tainted ≡ None → e.tainted ≡ None)

working_clocks : (k : TriplexCore) (d : TriplexState) (mask : ℕ) → TickClocks mask d (after_working_tick k d mask).next
working_clocks k d mask =
    let v = verdict_clocks k (after_firings k d mask) (tick_verdict k d mask) in
    let b = begun_clocks (is_sync_verdict (tick_verdict k d mask)) (voted k d mask).next in
    (b.0 ∙ v.0, λ h. b.1 ∙ (v.1 ∙ h))

tick_clocks : (k : TriplexCore) (d : TriplexState) (mask : ℕ) → TickClocks mask d (ticked k d mask).next
tick_clocks k d mask = by_hold (is_holding d.reintegration)
  where
    by_hold : (b : Bool) → TickClocks mask d (cond b (record { next = after_hold_tick d mask; effects = no_effects }) (after_working_tick k d mask)).next
    by_hold true = copied_clocks (after_idle_tick d mask) d.reintegration
    by_hold false = working_clocks k d mask

-- a machine whose clocks always fired, which has run at most so many ticks, and in which nobody is tainted as long as no act
-- of the script taints one
record Steady (fresh : Bool) (most : ℕ) (d : TriplexState) : Type 0 where
  windows : d.windows ≡ fair_windows
  low : d.ticks ≤ most
  untainted : fresh ≡ true → d.tainted ≡ None

steady_more : (fresh : Bool) (n m : ℕ) (d : TriplexState) → n ≤ m → Steady fresh n d → Steady fresh m d
steady_more fresh n m d h x = let low = x.low in record { windows = x.windows; low = omega arith; untainted = x.untainted }

steady_tick : (k : TriplexCore) (fresh : Bool) (n : ℕ) (d : TriplexState) → Steady fresh n d → Steady fresh (suc n) (stepped k d (clock_tick 7))
steady_tick k fresh n d x =
    let c = tick_clocks k d 7 in
    let one = tick_counts k d 7 in
    let low = x.low in
    record {
      windows = c.0 ∙ (ap (windows_after 7 d.tainted) x.windows ∙ always_fired d.tainted);
      low = omega arith;
      untainted = λ h. c.1 (x.untainted h);
    }

tick_lawful : (fresh : Bool) (n : ℕ) (d : TriplexState) → Steady fresh n d → step_refusal d (clock_tick 7) ≡ None
tick_lawful fresh n d x = ap (λ (w : List (List Bool)). slow_reason (slow_of 7 d.tainted w)) x.windows ∙ ap slow_reason (never_slow d.tainted)

-- an end that comes of no fault, if there is one
abbrev NoFault : Option End → Type 0
NoFault None = Unit {0}
NoFault (Some end) = IsWholeEnd end

halted_well : (h : Option ℕ) → NoFault (halt_end h)
halted_well None = tt
halted_well (Some v) = tt

record EndsWell (fresh : Bool) (most : ℕ) (run : ScriptRun) : Type 0 where
  whole : NoFault run.end
  steady : Steady fresh most run.state

step_ends : (line : ℕ) (d : TriplexState) (step : TriplexStep) (fresh : Bool) (n : ℕ) → step_refusal d step ≡ None → Steady fresh n (stepped r2000_triplex d step) → EndsWell fresh n (step_run line d step)
step_ends line d step fresh n lawful x =
    subst (λ (r : Option Reason). EndsWell fresh n (step_run_by line d step r)) (sym lawful) (record { whole = halted_well (stepped r2000_triplex d step).halt; steady = x })

-- ticks of all three clocks
tick_ends : (line : ℕ) (run : ScriptRun) (fresh : Bool) (n : ℕ) → EndsWell fresh n run → EndsWell fresh (suc n) (with_step line run (clock_tick 7))
tick_ends line run fresh n x = by_end (is_some run.end)
  where
    by_end : (b : Bool) → EndsWell fresh (suc n) (cond b run (joined_runs run (step_run line run.state (clock_tick 7))))
    by_end true = record { whole = x.whole; steady = steady_more fresh n (suc n) run.state (omega arith) x.steady }
    by_end false =
        let y = step_ends line run.state (clock_tick 7) fresh (suc n) (tick_lawful fresh n run.state x.steady) (steady_tick r2000_triplex fresh n run.state x.steady) in
        record { whole = y.whole; steady = y.steady }

ticks_end : (line : ℕ) (d : TriplexState) (count : ℕ) (fresh : Bool) (n : ℕ) → Steady fresh n d → EndsWell fresh (n + count) (ticks_run line 7 d count)
ticks_end line d zero fresh n x = record { whole = tt; steady = steady_more fresh n (n + 0) d (omega arith) x }
ticks_end line d (suc count) fresh n x =
    let more = tick_ends line (ticks_run line 7 d count) fresh (n + count) (ticks_end line d count fresh n x) in
    let same : suc (n + count) ≡ n + suc count = omega arith in
    subst (λ (m : ℕ). EndsWell fresh m (with_step line (ticks_run line 7 d count) (clock_tick 7))) same more

not_over : (n m : ℕ) → m ≤ n → nat_lt n m ≡ false
not_over n m h = grind (arith, nat_tests)

ticks_entry : (line : ℕ) (d : TriplexState) (count : ℕ) (fresh : Bool) (n : ℕ) → n + count ≤ TICK_LIMIT → Steady fresh n d → EndsWell fresh (n + count) (entry_run line d (Ticks 7 count))
ticks_entry line d count fresh n room x =
    let low = x.low in
    subst (λ (b : Bool). EndsWell fresh (n + count) (cond b (ended d (TooLong line)) (ticks_run line 7 d count))) (sym (not_over TICK_LIMIT (d.ticks + count) (omega arith))) (ticks_end line d count fresh n x)

-- the two acts
poke_entry : (line : ℕ) (d : TriplexState) (n : ℕ) → Steady true n d → EndsWell false n (entry_run line d (One (Poke 1 18 0)))
poke_entry line d n x =
    step_ends line d (script_act (Poke 1 18 0)) false n (ap (λ (t : Option ℕ). second_fault t 1) (x.untainted refl)) (record { windows = x.windows; low = x.low; untainted = λ h. absurd cc })

revived_steady : (b : Bool) (d : TriplexState) (n : ℕ) → Steady false n d → Steady false n (cond b (revived 1 d) d)
revived_steady true d n x = record { windows = x.windows; low = x.low; untainted = λ h. absurd cc }
revived_steady false d n x = x

revive_entry : (line : ℕ) (d : TriplexState) (n : ℕ) → Steady false n d → EndsWell false n (entry_run line d (One (Revive 1)))
revive_entry line d n x = step_ends line d (script_act (Revive 1)) false n refl (revived_steady (is_revivable 1 d) d n x)

-- all five
whole_after : (b : Bool) (first rest : ScriptRun) → NoFault first.end → NoFault rest.end → NoFault (cond b first (joined_runs first rest)).end
whole_after true first rest x y = x
whole_after false first rest x y = y

five_end : (d : TriplexState) (n m q : ℕ) → n + m + q ≤ TICK_LIMIT → Steady true 0 d → NoFault (entries_run 1 d (Ticks 7 n ∷ One (Poke 1 18 0) ∷ Ticks 7 m ∷ One (Revive 1) ∷ Ticks 7 q ∷ [])).end
unfolding entries_run
five_end d n m q room x =
    let a = entry_run 1 d (Ticks 7 n) in
    let xa = ticks_entry 1 d n true 0 (omega arith) x in
    let b = entry_run 2 a.state (One (Poke 1 18 0)) in
    let xb = poke_entry 2 a.state (0 + n) xa.steady in
    let c = entry_run 3 b.state (Ticks 7 m) in
    let xc = ticks_entry 3 b.state m false (0 + n) (omega arith) xb.steady in
    let e = entry_run 4 c.state (One (Revive 1)) in
    let xe = revive_entry 4 c.state (0 + n + m) xc.steady in
    let f = entry_run 5 e.state (Ticks 7 q) in
    let xf = ticks_entry 5 e.state q false (0 + n + m) (omega arith) xe.steady in
    whole_after (is_some a.end) a _ xa.whole
    (whole_after (is_some b.end) b _ xb.whole
    (whole_after (is_some c.end) c _ xc.whole
    (whole_after (is_some e.end) e _ xe.whole
    (whole_after (is_some f.end) f _ xf.whole tt))))

whole_end : (end : Option End) → NoFault end → IsWholeEnd (end_of end)
whole_end None h = tt
whole_end (Some end) h = h

pub workload_ends : (image : MemoryImage) → IsWholeEnd (end_of (workload_run image).end)
workload_ends image =
    whole_end (workload_run image).end (five_end (first_triplex 1024 image) 5000 5000 10000000 (omega arith) (record { windows = refl; low = omega arith; untainted = λ h. refl }))
