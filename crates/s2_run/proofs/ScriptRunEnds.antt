-- The run of a script, from its lines and its closing lines.
use Rattle.std.proofs.Common.{◌≡◌, ℕ, ◌<◌, List, [], ◌++◌, take, length, sym, ap, arith, ◌∙◌, inl, subst}
use Rattle.std.specs.Prelude.{Err}
use Rattle.std.specs.declared.option.Option.{Option}
use Rattle.s2_io.specs.Sinks.{appended}
use Rattle.s2_journal.specs.declared.note.End.{End}
use Rattle.s2_triplex.specs.TriplexState.{TriplexState}
use Rattle.s2_triplex.specs.ReferenceMachine.{runs}
use Rattle.s2_run.specs.ReportText.{end_lines}
use Rattle.s2_run.specs.Transcript.{Outlet, Report, for_outlet}
use Rattle.s2_run.specs.ScriptRuns.{ScriptRun, end_of}
use Rattle.s2_run.specs.RunTranscript.{Taken, taken, with_transcript, stages_transcript, console_count, closing_lines}
use Rattle.s2_run.specs.ScriptEndings.{IsRun, IsClosingCutOff, ScriptEnds}
use Rattle.s2_run.specs.ScriptRunParts.{HasRun, HasEnded, LinesEnd}
use Rattle.s2_run.specs.declared.output.StreamFault.{StreamFault}
use Rattle.s2_run.specs.declared.output.StreamFault.TheVariants.{Read, Write}
use Rattle.s2_run.proofs.Pieces.{appended_none}
use Rattle.s2_run.proofs.StageTranscripts.{took_both, transcript_twice}

-- lines that came to no end
pub lines_end : (start : ℕ → TriplexState) (input : List ℕ) (fault : StreamFault) (state : TriplexState) (before now : Taken) (left : Option (List ℕ)) → LinesEnd start input (Err fault) state before now left → ScriptEnds start input (Err fault) state before now left
lines_end start input Read state before now left h = h
lines_end start input Write state before now left h = (h.0, h.1, inl h.2)

-- the closing lines that the code writes
pub closing_is : (run : ScriptRun) (end : End) (count : ℕ) (state : TriplexState) (before now : Taken) (run_count tick_count : ℕ) → end ≡ end_of run.end → HasRun run run.end state 0 count before now → run_count ≡ runs state → tick_count ≡ state.ticks →
    end_lines run_count tick_count count end ≡ closing_lines run
closing_is run end count state before now run_count tick_count ends has r t =
    let counts : count ≡ console_count run.stages = omega (arith, has.count_is) in
    ap (λ (n : ℕ). end_lines n tick_count count end) (r ∙ ap runs has.state_is)
    ∙ (ap (λ (n : ℕ). end_lines (runs run.state) n count end) (t ∙ ap (λ (q : TriplexState). q.ticks) has.state_is)
    ∙ (ap (λ (n : ℕ). end_lines (runs run.state) run.state.ticks n end) counts
    ∙ ap (λ (e : End). end_lines (runs run.state) run.state.ticks (console_count run.stages) e) ends))

-- report lines behind a transcript
pub report_behind : (before : Taken) (xs : List (Outlet × ℕ)) (es : List ℕ) (c r r' : Option (List ℕ)) → taken c r ≡ with_transcript before xs → r' ≡ appended r es → taken c r' ≡ with_transcript before (xs ++ for_outlet Report es)
report_behind before xs es c r r' wrote more =
    took_both [] es c c r r' (sym (appended_none c)) more
    ∙ (ap (λ (t : Taken). with_transcript t (for_outlet Report es)) wrote ∙ transcript_twice before xs (for_outlet Report es))

-- they were written
pub run_done : (d : TriplexState) (input : List ℕ) (end : End) (count : ℕ) (state : TriplexState) (before : Taken) (c r r' : Option (List ℕ)) (left : Option (List ℕ)) (run_count tick_count : ℕ) → HasEnded d input end count state before (taken c r) left → run_count ≡ runs state → tick_count ≡ state.ticks →
    r' ≡ appended r (end_lines run_count tick_count count end) → IsRun d input end state before (taken c r') left
run_done d input end count state before c r r' left run_count tick_count h rs ts more = record {
  run = h.run;
  runs = h.runs;
  end_is = h.end_is;
  state_is = h.has.state_is;
  wrote = report_behind before (stages_transcript h.run.stages) (closing_lines h.run) c r r' h.has.wrote (more ∙ ap (appended r) (closing_is h.run end count state before (taken c r) run_count tick_count h.end_is h.has rs ts));
}

-- they were cut
pub run_cut_off : (d : TriplexState) (input : List ℕ) (end : End) (count : ℕ) (state : TriplexState) (before : Taken) (c r r' : Option (List ℕ)) (left : Option (List ℕ)) (run_count tick_count cut : ℕ) → HasEnded d input end count state before (taken c r) left → run_count ≡ runs state → tick_count ≡ state.ticks →
    cut < length (end_lines run_count tick_count count end) → r' ≡ appended r (take cut (end_lines run_count tick_count count end)) → IsClosingCutOff d input state before (taken c r') left
run_cut_off d input end count state before c r r' left run_count tick_count cut h rs ts short more =
    let same = closing_is h.run end count state before (taken c r) run_count tick_count h.end_is h.has rs ts in
    record {
      run = h.run;
      runs = h.runs;
      bytes = cut;
      short = subst (λ (es : List ℕ). cut < length es) same short;
      state_is = h.has.state_is;
      wrote = report_behind before (stages_transcript h.run.stages) (take cut (closing_lines h.run)) c r r' h.has.wrote (more ∙ ap (λ (es : List ℕ). appended r (take cut es)) same);
    }
