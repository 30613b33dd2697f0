-- Entries that are run one after another, with what they write.
use Rattle.std.proofs.Common.{◌≡◌, ℕ, zero, suc, ◌+◌, ◌<◌, ◌≤◌, Bool, true, false, cond, List, [], ◌∷◌, drop, take, length, append_assoc, refl, sym, ap, arith, ◌∙◌, subst}
use Rattle.std.specs.Prelude.{Some, None, is_some, slice_get}
use Rattle.std.specs.declared.option.Option.{Option}
use Rattle.s2_io.specs.Sinks.{appended}
use Rattle.s2_script.specs.ScriptLines.{IsProperEntry}
use Rattle.s2_script.specs.declared.entry.Entry.{Entry}
use Rattle.s2_journal.specs.declared.note.End.{End}
use Rattle.s2_triplex.specs.TriplexState.{TriplexState}
use Rattle.s2_triplex.specs.ReferenceMachine.{runs}
use Rattle.s2_run.specs.ReportText.{end_lines}
use Rattle.s2_run.specs.ScriptRuns.{Stage, ScriptRun, resting, joined_runs, entry_run, end_of}
use Rattle.s2_run.specs.RunTranscript.{Taken, taken, stages_transcript, closing_lines}
use Rattle.s2_run.specs.ScriptEndings.{CutAtStage}
use Rattle.s2_run.specs.ScriptRunParts.{HasRun}
use Rattle.s2_run.specs.EntryRuns.{entries_run, IsWholeRun, IsClosingCut, AreProperEntries, IsRunOpen}
use Rattle.s2_run.proofs.StageTranscripts.{transcript_none}
use Rattle.s2_run.proofs.ScriptStages.{ran_joined, cut_after, cut_grows}
use Rattle.s2_run.proofs.ScriptRunEnds.{closing_is, report_behind}
use Rattle.s2_run.proofs.LawfulScripts.{IsLawfulRun, joined_lawful, resting_lawful, entry_lawful}

-- each of some entries is proper
pub proper_entry : (entries : List Entry) (i : ℕ) (entry : Entry) → AreProperEntries entries → slice_get entries i ≡ Some entry → IsProperEntry entry
proper_entry [] i entry proper found = absurd (let f : ⊥ = cc in f)
proper_entry (x ∷ entries) zero entry proper found = let same : x ≡ entry = cc in rw (sym same) proper.0
proper_entry (x ∷ entries) (suc i) entry proper found = proper_entry entries i entry proper.1 found

-- no entry is behind them all
pub drop_past : (i : ℕ) (entries : List Entry) → length entries ≤ i → drop i entries ≡ []
drop_past zero [] h = refl
drop_past (suc i) [] h = refl
drop_past zero (x ∷ entries) h = absurd (omega (arith, h))
drop_past (suc i) (x ∷ entries) h = drop_past i entries (omega (arith, h))

-- an entry that does not end the run is followed by the next ones, and one that ends it is not
entry_goes : (line : ℕ) (d : TriplexState) (entry : Entry) (entries : List Entry) → (entry_run line d entry).end ≡ None →
    entries_run line d (entry ∷ entries) ≡ joined_runs (entry_run line d entry) (entries_run (line + 1) (entry_run line d entry).state entries)
unfolding entries_run
entry_goes line d entry entries h =
    let first = entry_run line d entry in
    ap (λ (e : Option End). cond (is_some e) first (joined_runs first (entries_run (line + 1) first.state entries))) h

entry_stays : (line : ℕ) (d : TriplexState) (entry : Entry) (entries : List Entry) (end : End) → (entry_run line d entry).end ≡ Some end → entries_run line d (entry ∷ entries) ≡ entry_run line d entry
unfolding entries_run
entry_stays line d entry entries end h =
    let first = entry_run line d entry in
    ap (λ (e : Option End). cond (is_some e) first (joined_runs first (entries_run (line + 1) first.state entries))) h

no_entries : (line : ℕ) (d : TriplexState) → entries_run line d [] ≡ resting d
unfolding entries_run
no_entries line d = refl

-- a write that failed in the first part of a run
cut_within : {before now : Taken} {p : TriplexState} (b : Bool) (first rest : ScriptRun) → CutAtStage first.stages p before now → CutAtStage (cond b first (joined_runs first rest)).stages p before now
cut_within true first rest x = x
cut_within false first rest x = cut_grows first.stages rest.stages x

entry_cut : {before now : Taken} {p : TriplexState} (line : ℕ) (d : TriplexState) (entry : Entry) (entries : List Entry) → CutAtStage (entry_run line d entry).stages p before now → CutAtStage (entries_run line d (entry ∷ entries)).stages p before now
unfolding entries_run
entry_cut line d entry entries x =
    let first = entry_run line d entry in
    cut_within (is_some first.end) first (entries_run (line + 1) first.state entries) x

joined_thrice : (a b c : ScriptRun) → joined_runs a (joined_runs b c) ≡ joined_runs (joined_runs a b) c
joined_thrice a b c = ap (λ (s : List Stage). record { state = c.state; stages = s; end = c.end }) (sym (append_assoc a.stages b.stages c.stages))

-- the entries before a place have run, and what they write was written
pub record EntriesGo (d : TriplexState) (entries : List Entry) (i count : ℕ) (state : TriplexState) (before now : Taken) : Type 0 where
  pub run : ScriptRun
  pub whole : entries_run 1 d entries ≡ joined_runs run (entries_run (i + 1) state (drop i entries))
  pub has : HasRun run None state 0 count before now

pub entries_start : (d : TriplexState) (entries : List Entry) (before : Taken) → EntriesGo d entries 0 0 d before before
entries_start d entries before = record {
  run = resting d;
  whole = refl;
  has = record { end_is = refl; state_is = refl; count_is = refl; wrote = sym (transcript_none before) };
}

-- an entry after which the run goes on
pub entries_go_on : {d : TriplexState} {entries : List Entry} {i count count' : ℕ} {state state' : TriplexState} {before mid now : Taken} (entry : Entry) → EntriesGo d entries i count state before mid → drop i entries ≡ entry ∷ drop (suc i) entries →
    HasRun (entry_run (i + 1) state entry) None state' count count' mid now → EntriesGo d entries (i + 1) count' state' before now
entries_go_on {d} {entries} {i} {count} {count'} {state} {state'} entry g at came =
    let first = entry_run (i + 1) state entry in
    let next : suc i ≡ i + 1 = omega arith in
    record {
      run = joined_runs g.run first;
      whole =
          g.whole
          ∙ (ap (λ (es : List Entry). joined_runs g.run (entries_run (i + 1) state es)) at
          ∙ (ap (joined_runs g.run) (entry_goes (i + 1) state entry (drop (suc i) entries) (sym came.end_is))
          ∙ (joined_thrice g.run first (entries_run (i + 1 + 1) first.state (drop (suc i) entries))
          ∙ (ap (λ (q : TriplexState). joined_runs (joined_runs g.run first) (entries_run (i + 1 + 1) q (drop (suc i) entries))) (sym came.state_is)
          ∙ ap (λ (k : ℕ). joined_runs (joined_runs g.run first) (entries_run (i + 1 + 1) state' (drop k entries))) next))));
      has = ran_joined g.has came;
    }

-- one that ends it
pub entries_end : {d : TriplexState} {entries : List Entry} {i count count' : ℕ} {state state' : TriplexState} {before mid now : Taken} (entry : Entry) (end : End) → EntriesGo d entries i count state before mid → drop i entries ≡ entry ∷ drop (suc i) entries →
    HasRun (entry_run (i + 1) state entry) (Some end) state' count count' mid now → IsRunOpen (entries_run 1 d entries) end count' state' before now
entries_end {d} {entries} {i} {count} {count'} {state} {state'} {before} {mid} {now} entry end g at came =
    let first = entry_run (i + 1) state entry in
    let whole : entries_run 1 d entries ≡ joined_runs g.run first =
    g.whole
    ∙ (ap (λ (es : List Entry). joined_runs g.run (entries_run (i + 1) state es)) at
    ∙ ap (joined_runs g.run) (entry_stays (i + 1) state entry (drop (suc i) entries) end (sym came.end_is))) in
    let same : HasRun first first.end state' count count' mid now = subst (λ (e : Option End). HasRun first e state' count count' mid now) came.end_is came in
    subst (λ (r : ScriptRun). IsRunOpen r end count' state' before now) (sym whole) (record { end_is = ap end_of came.end_is; has = ran_joined g.has same })

-- one in which a write failed
pub entries_cut : {d : TriplexState} {entries : List Entry} {i count : ℕ} {state state' : TriplexState} {before mid now : Taken} (entry : Entry) → EntriesGo d entries i count state before mid → drop i entries ≡ entry ∷ drop (suc i) entries →
    CutAtStage (entry_run (i + 1) state entry).stages state' mid now → CutAtStage (entries_run 1 d entries).stages state' before now
entries_cut {d} {entries} {i} {count} {state} {state'} {before} {mid} {now} entry g at cut =
    let rest = entries_run (i + 1) state (entry ∷ drop (suc i) entries) in
    let whole : entries_run 1 d entries ≡ joined_runs g.run rest = g.whole ∙ ap (λ (es : List Entry). joined_runs g.run (entries_run (i + 1) state es)) at in
    subst (λ (r : ScriptRun). CutAtStage r.stages state' before now) (sym whole)
    (cut_after g.run.stages rest.stages g.has.wrote (entry_cut (i + 1) state entry (drop (suc i) entries) cut))

-- the last of them
pub entries_over : {d : TriplexState} {entries : List Entry} {i count : ℕ} {state : TriplexState} {before now : Taken} → EntriesGo d entries i count state before now → drop i entries ≡ [] → IsRunOpen (entries_run 1 d entries) (end_of None) count state before now
entries_over {d} {entries} {i} {count} {state} {before} {now} g at =
    let whole : entries_run 1 d entries ≡ joined_runs g.run (resting state) =
    g.whole ∙ (ap (λ (es : List Entry). joined_runs g.run (entries_run (i + 1) state es)) at ∙ ap (joined_runs g.run) (no_entries (i + 1) state)) in
    let rests : HasRun (resting state) None state count count now now = record { end_is = refl; state_is = refl; count_is = omega arith; wrote = sym (transcript_none now) } in
    subst (λ (r : ScriptRun). IsRunOpen r (end_of None) count state before now) (sym whole) (record { end_is = refl; has = ran_joined g.has rests })

-- the closing lines behind a run
pub closing_done : (run : ScriptRun) (end : End) (count : ℕ) (state : TriplexState) (before : Taken) (c r r' : Option (List ℕ)) (run_count tick_count : ℕ) → IsRunOpen run end count state before (taken c r) → run_count ≡ runs state → tick_count ≡ state.ticks →
    r' ≡ appended r (end_lines run_count tick_count count end) → IsWholeRun run end state before (taken c r')
closing_done run end count state before c r r' run_count tick_count h rs ts more = record {
  end_is = h.end_is;
  state_is = h.has.state_is;
  wrote = report_behind before (stages_transcript run.stages) (closing_lines run) c r r' h.has.wrote (more ∙ ap (appended r) (closing_is run end count state before (taken c r) run_count tick_count h.end_is h.has rs ts));
}

pub closing_cut : (run : ScriptRun) (end : End) (count : ℕ) (state : TriplexState) (before : Taken) (c r r' : Option (List ℕ)) (run_count tick_count cut : ℕ) → IsRunOpen run end count state before (taken c r) → run_count ≡ runs state → tick_count ≡ state.ticks →
    cut < length (end_lines run_count tick_count count end) → r' ≡ appended r (take cut (end_lines run_count tick_count count end)) → IsClosingCut run state before (taken c r')
closing_cut run end count state before c r r' run_count tick_count cut h rs ts short more =
    let same = closing_is run end count state before (taken c r) run_count tick_count h.end_is h.has rs ts in
    record {
      bytes = cut;
      short = subst (λ (es : List ℕ). cut < length es) same short;
      state_is = h.has.state_is;
      wrote = report_behind before (stages_transcript run.stages) (take cut (closing_lines run)) c r r' h.has.wrote (more ∙ ap (λ (es : List ℕ). appended r (take cut es)) same);
    }

-- a run of entries is a list of lawful steps
goes_lawful : (d : TriplexState) (first rest : ScriptRun) (e : Option End) → first.end ≡ e → IsLawfulRun d first → (first.end ≡ None → IsLawfulRun first.state rest) → IsLawfulRun d (cond (is_some e) first (joined_runs first rest))
goes_lawful d first rest (Some end) h x y = x
goes_lawful d first rest None h x y = joined_lawful d first rest x (y h)

pub entries_lawful : (line : ℕ) (d : TriplexState) (entries : List Entry) → AreProperEntries entries → d.halt ≡ None → IsLawfulRun d (entries_run line d entries)
unfolding entries_run
entries_lawful line d [] proper halt = resting_lawful d halt
entries_lawful line d (entry ∷ entries) proper halt =
    let first = entry_run line d entry in
    let x = entry_lawful line d entry proper.0 halt in
    goes_lawful d first (entries_run (line + 1) first.state entries) first.end refl x (λ none. entries_lawful (line + 1) first.state entries proper.1 (x.goes_on none))
