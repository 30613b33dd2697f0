-- A call that left a machine has kept the promise on its run.
use Rattle.std.proofs.Common.{◌≡◌, ℕ, ◌<◌, List, [], ◌∷◌, ◌++◌, take, drop, length, append_assoc, append-nil, refl, sym, ap, subst, inl, inr, ◌∙◌}
use Rattle.std.specs.Prelude.{Some, None, Ok, Err}
use Rattle.std.specs.declared.option.Option.{Option}
use Rattle.std.specs.declared.result.Result.{Result}
use Rattle.s2_io.specs.Sinks.{appended}
use Rattle.s2_elf.specs.Images.{image_of}
use Rattle.s2_elf.specs.MemoryImage.{MemoryImage}
use Rattle.s2_journal.specs.declared.note.End.{End}
use Rattle.s2_machine.specs.MachineRun.{single_run}
use Rattle.s2_triplex.specs.TriplexState.{TriplexState}
use Rattle.s2_triplex.specs.ReferenceMachine.{reference, runs}
use Rattle.s2_run.specs.declared.output.StreamFault.{StreamFault}
use Rattle.s2_run.specs.declared.output.StreamFault.TheVariants.{Read, Write}
use Rattle.s2_run.specs.declared.fault.ProgramFault.{ProgramFault}
use Rattle.s2_run.specs.declared.run.RunEnd.{RunEnd}
use Rattle.s2_run.specs.Transcript.{Outlet, Report, for_outlet, console_of}
use Rattle.s2_text.specs.InputLines.{lines_of}
use Rattle.s2_run.specs.ScriptRuns.{Stage, ScriptRun, joined_runs}
use Rattle.s2_run.specs.RunTranscript.{Taken, with_transcript, turn_transcript, stages_transcript, closing_lines, run_transcript}
use Rattle.s2_run.specs.ScriptEndings.{ScriptEnds, CutAtStage}
use Rattle.s2_run.specs.SeenObjects.{Streams}
use Rattle.s2_run.specs.LoadedFiles.{IsAccepted}
use Rattle.s2_run.specs.MaskedRuns.{first_triplex, printed_deliveries, state_after, RunIsMasked, ScriptsAreMasked}
use Rattle.s2_run.specs.Headline.{whole, unread, cut, cut_closing, Headline, ScriptHeadline}
use Rattle.s2_run.specs.RunCommand.{taken_of, left_by, LeavesMachine, RunsFile}
use Rattle.s2_run.proofs.StageTranscripts.{console_append, console_of-report}
use Rattle.s2_run.proofs.LawfulScripts.{after_append}
use Rattle.s2_run.proofs.MaskedScripts.{front_of}
use Rattle.s2_run.proofs.MaskedFiles.{file_is_masked}
use Rattle.s2_run.proofs.FrameChoice.{chosen_fits}

-- report lines behind a transcript leave the console's bytes
console_same : (xs : List (Outlet × ℕ)) (es : List ℕ) → console_of (xs ++ for_outlet Report es) ≡ console_of xs
console_same xs es = console_append xs (for_outlet Report es) ∙ (ap (λ (bs : List ℕ). console_of xs ++ bs) (console_of-report es) ∙ append-nil (console_of xs))

-- the bytes of one R2000 over stages, at the machine to which they lead
alone_at : (frame : ℕ) (image : MemoryImage) (run : ScriptRun) (stages rest : List Stage) (d : TriplexState) → RunIsMasked frame image run → run.stages ≡ stages ++ rest → d ≡ state_after (first_triplex frame image) stages →
    single_run image.entry image.local image.global (printed_deliveries stages) (runs d) ≡ record { machine = reference d; bytes = console_of (stages_transcript stages) }
alone_at frame image run stages rest d m are at =
    subst (λ (e : TriplexState). single_run image.entry image.local image.global (printed_deliveries stages) (runs e) ≡ record { machine = reference e; bytes = console_of (stages_transcript stages) }) (sym at) (m.masked stages rest are).alone

-- ---- the promise, by how far the call came

module _ (frame : ℕ) (image : MemoryImage) (run : ScriptRun) (m : RunIsMasked frame image run) where
  all_stages : run.stages ≡ run.stages ++ []
  all_stages = sym (append-nil run.stages)

  pub whole_promise : (d : TriplexState) (before now : Taken) → d ≡ run.state → now ≡ with_transcript before (run_transcript run) →
      Headline frame image whole run d before now
  whole_promise d before now at wrote =
      let state = at ∙ m.state_is in
      record {
        stages = run.stages;
        rest = [];
        stages_are = all_stages;
        written = (refl, wrote);
        machine = state;
        bytes = console_of (stages_transcript run.stages);
        alone = alone_at frame image run run.stages [] d m all_stages state;
        console = ap (λ (t : Taken). t.console) wrote ∙ ap (appended before.console) (console_same (stages_transcript run.stages) (closing_lines run));
        masked = m;
      }

  pub unread_promise : (d : TriplexState) (before now : Taken) → d ≡ run.state → now ≡ with_transcript before (stages_transcript run.stages) →
      Headline frame image unread run d before now
  unread_promise d before now at wrote =
      let state = at ∙ m.state_is in
      record {
        stages = run.stages;
        rest = [];
        stages_are = all_stages;
        written = (refl, wrote);
        machine = state;
        bytes = console_of (stages_transcript run.stages);
        alone = alone_at frame image run run.stages [] d m all_stages state;
        console = ap (λ (t : Taken). t.console) wrote;
        masked = m;
      }

  pub cut_promise : (d : TriplexState) (before now : Taken) → CutAtStage run.stages d before now → Headline frame image cut run d before now
  cut_promise d before now x =
      let stages = x.written ++ x.stage ∷ [] in
      let are : run.stages ≡ stages ++ x.rest = x.stages_are ∙ sym (append_assoc x.written (x.stage ∷ []) x.rest) in
      let at : d ≡ state_after (first_triplex frame image) stages = x.state_is ∙ sym (after_append x.written (x.stage ∷ []) (first_triplex frame image)) in
      record {
        stages = stages;
        rest = x.rest;
        stages_are = are;
        written = record { written = x.written; stage = x.stage; stages_are = refl; bytes = x.bytes; short = x.short; wrote = x.wrote };
        machine = at;
        bytes = console_of (stages_transcript stages);
        alone = alone_at frame image run stages x.rest d m are at;
        console = record {
          front = console_of (stages_transcript x.written ++ take x.bytes (turn_transcript x.stage.turn));
          more = console_of (drop x.bytes (turn_transcript x.stage.turn));
          whole_is = front_of x.written x.stage x.bytes;
          took = ap (λ (t : Taken). t.console) x.wrote;
        };
        masked = m;
      }

  pub closing_promise : (d : TriplexState) (before now : Taken) (k : ℕ) → d ≡ run.state → k < length (closing_lines run) →
      now ≡ with_transcript before (stages_transcript run.stages ++ for_outlet Report (take k (closing_lines run))) →
      Headline frame image cut_closing run d before now
  closing_promise d before now k at short wrote =
      let state = at ∙ m.state_is in
      record {
        stages = run.stages;
        rest = [];
        stages_are = all_stages;
        written = (refl, record { bytes = k; short = short; wrote = wrote });
        machine = state;
        bytes = console_of (stages_transcript run.stages);
        alone = alone_at frame image run run.stages [] d m all_stages state;
        console = ap (λ (t : Taken). t.console) wrote ∙ ap (appended before.console) (console_same (stages_transcript run.stages) (take k (closing_lines run)));
        masked = m;
      }

-- ---- on the run of a script

headline_by : (image : MemoryImage) (input : List ℕ) (result : Result End StreamFault) (d : TriplexState) (before now : Taken) (left : Option (List ℕ)) → ScriptsAreMasked image →
    ScriptEnds (λ frame. first_triplex frame image) input result d before now left → ScriptHeadline image input result d before now left
headline_by image input (Ok end) d before now left masked (frame, chosen, x) = record {
  frame = frame;
  extent = whole;
  run = x.run;
  made = (ap (λ (e : End). Ok e) x.end_is, chosen, x.runs);
  promise = whole_promise frame image x.run (masked.whole frame (chosen_fits (lines_of input) frame chosen) input x.run left x.runs) d before now x.state_is x.wrote;
}
headline_by image input (Err Read) d before now left masked (frame, x, chosen) = record {
  frame = frame;
  extent = unread;
  run = x.run;
  made = (refl, record { place = x.place; behind = x.unread; chosen = chosen });
  promise = unread_promise frame image x.run (masked.part frame (chosen_fits x.place.before frame chosen) input x.run x.place) d before now x.state_is x.wrote;
}
headline_by image input (Err Write) d before now left masked (frame, chosen, inl x) =
    let m = masked.line frame (chosen_fits (lines_of input) frame chosen) input x.first x.place x.line x.last x.ran in
    record {
      frame = frame;
      extent = cut;
      run = joined_runs x.first x.last;
      made = (refl, chosen, record { first = x.first; place = x.place; line = x.line; more = x.more; next = x.next; last = x.last; ran = x.ran; run_is = refl; left_is = x.left_is });
      promise = cut_promise frame image (joined_runs x.first x.last) m d before now x.cut;
    }
headline_by image input (Err Write) d before now left masked (frame, chosen, inr x) = record {
  frame = frame;
  extent = cut_closing;
  run = x.run;
  made = (refl, chosen, x.runs);
  promise = closing_promise frame image x.run (masked.whole frame (chosen_fits (lines_of input) frame chosen) input x.run left x.runs) d before now x.bytes x.state_is x.short x.wrote;
}

one_machine : (s d : TriplexState) (last : Option TriplexState) → last ≡ Some s → last ≡ Some d → s ≡ d
one_machine s d last x y = cc

left_headline : (image : MemoryImage) (input : List ℕ) (result : Result End StreamFault) (last : Option TriplexState) (d : TriplexState) (old new : Streams) → ScriptsAreMasked image → LeavesMachine image input result last old new → last ≡ Some d →
    ScriptHeadline image input result d (taken_of old) (taken_of new) new.left
left_headline image input result last d old new masked x is =
    headline_by image input result d (taken_of old) (taken_of new) new.left masked (subst (λ (e : TriplexState). ScriptEnds (λ frame. first_triplex frame image) input result e (taken_of old) (taken_of new) new.left) (one_machine x.state d last x.last_is is) x.ends)

none_left : {A : Type 0} (last : Option TriplexState) (d : TriplexState) → last ≡ None → last ≡ Some d → A
none_left last d x y = absurd cc

abbrev KeepsPromise : List ℕ → List ℕ → Result End StreamFault → TriplexState → Streams → Streams → Type 0
KeepsPromise file input result d old new = IsAccepted file × ScriptHeadline (image_of file) input result d (taken_of old) (taken_of new) new.left

left_file : (file input : List ℕ) (result : Result End StreamFault) (last : Option TriplexState) (d : TriplexState) (old new : Streams) → RunsFile file input (left_by result) last old new → last ≡ Some d → KeepsPromise file input result d old new
left_file file input (Ok end) last d old new told is = (told.0, left_headline (image_of file) input (Ok end) last d old new (file_is_masked file) told.1 is)
left_file file input (Err Read) last d old new told is = (told.0, left_headline (image_of file) input (Err Read) last d old new (file_is_masked file) told.1 is)
left_file file input (Err Write) last d old new (inl told) is = (told.0, left_headline (image_of file) input (Err Write) last d old new (file_is_masked file) told.1 is)
left_file file input (Err Write) last d old new (inr (line, of, shut, none)) is = none_left last d none is

pub headline_holds : (file input : List ℕ) (outcome : Result RunEnd ProgramFault) (last : Option TriplexState) (old new : Streams) (result : Result End StreamFault) (d : TriplexState) → RunsFile file input outcome last old new → outcome ≡ left_by result → last ≡ Some d →
    KeepsPromise file input result d old new
headline_holds file input outcome last old new result d told is left = left_file file input result last d old new (subst (λ (o : Result RunEnd ProgramFault). RunsFile file input o last old new) is told) left
