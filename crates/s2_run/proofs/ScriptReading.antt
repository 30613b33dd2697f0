-- The run of a script, as far as its lines are read.
use Rattle.std.proofs.Common.{◌≡◌, ℕ, zero, suc, ◌+◌, ◌-◌, ◌≤◌, true, List, [], ◌∷◌, ◌++◌, drop, take, length, append_assoc, append-nil, length-append, refl, sym, ap, arith, ◌∙◌, subst, inl, inr}
use Rattle.std.specs.Prelude.{Some, None, Ok, Err, is_some}
use Rattle.std.proofs.Math.Nat.{min-eq_left, min-eq_right}
use Rattle.std.specs.declared.option.Option.{Option}
use Rattle.std.specs.declared.result.Result.{Result}
use Rattle.std.proofs.lemmas.List.{drop-drop}
use Rattle.s2_text.specs.declared.stops.BadLine.{BadLine}
use Rattle.s2_script.specs.FirstLines.{ReadsFirst}
use Rattle.s2_script.specs.declared.entry.First.{First}
use Rattle.s2_script.specs.declared.entry.First.TheVariants.{Frame, Entry as EntryOf}
use Rattle.s2_script.specs.declared.entry.Entry.{Entry}
use Rattle.s2_journal.specs.declared.note.End.{End}
use Rattle.s2_journal.specs.declared.note.End.TheVariants.{Script, TooLong}
use Rattle.s2_plant.specs.StepPromises.{IsFirstPlant}
use Rattle.s2_triplex.specs.TriplexState.{TriplexState, started_triplex, with_frame}
use Rattle.s2_run.specs.declared.limits.TheConstants.{INPUT_LIMIT}
use Rattle.s2_text.specs.InputLines.{InputLine, lines_of, size_of}
use Rattle.s2_run.specs.FailedReads.{IsFed}
use Rattle.s2_run.specs.NextLine.{HasLine, HasLongLine, HasFront}
use Rattle.s2_run.specs.ScriptRuns.{ChoosesFrame, ReadsScriptLine, Stage, ScriptRun, resting, ended, joined_runs, read_run, RunsLine, Continues, RunsLines, end_of}
use Rattle.s2_run.specs.RunTranscript.{Taken, with_transcript, stages_transcript, console_count}
use Rattle.s2_run.specs.ScriptEndings.{RunTo, IsRunUnread, CutAtStage, IsRunCut, bytes_taken}
use Rattle.s2_run.specs.ScriptRunParts.{frame_of, framed_by, HasRun, HasEnded, ReadsAt}
use Rattle.s2_run.proofs.FrameChoice.{chooses_front, first_chooses, first_is_read, long_chooses, uncut_script}
use Rattle.s2_run.proofs.LineList.{line_fits, unread_behind}
use Rattle.s2_run.proofs.StageTranscripts.{transcript_none}
use Rattle.s2_run.proofs.ScriptStages.{ran_joined, cut_after}

size_append : (a b : List InputLine) → size_of (a ++ b) ≡ size_of a + size_of b
size_append [] b = omega arith
size_append (l ∷ a) b = let h = size_append a b in omega arith

-- a run of one line, which rests or has ended behind it
one_by : (line bytes : ℕ) (d : TriplexState) (last : ScriptRun) (o : Option End) → last.end ≡ o → Continues last (RunsLines line bytes last.state []) last
one_by line bytes d last (Some e) h = inl (ap is_some h, refl)
one_by line bytes d last None h = inr (
  h,
  resting last.state,
  refl,
  ap (λ (s : List Stage). record { state = last.state; stages = s; end = last.end }) (sym (append-nil last.stages)) ∙ ap (λ (e : Option End). record { state = last.state; stages = last.stages ++ []; end = e }) h,
)

not_both : (o : Option End) → is_some o ≡ true → o ≡ None → ⊥
not_both (Some e) h k = cc
not_both None h k = cc

-- lines that have not ended, and then one more
pub lines_more : (line bytes : ℕ) (d : TriplexState) (lines : List InputLine) (run : ScriptRun) (next : InputLine) (last : ScriptRun) →
    RunsLines line bytes d lines run → run.end ≡ None → RunsLine (line + length lines + 1) (bytes + size_of lines + next.size) run.state next.text last →
    RunsLines line bytes d (lines ++ next ∷ []) (joined_runs run last)
lines_more line bytes d [] run next last is going ran =
    let same : run.state ≡ d = ap (λ (r : ScriptRun). r.state) is in
    let none : run.stages ≡ [] = ap (λ (r : ScriptRun). r.stages) is in
    let number : line + 0 + 1 ≡ line + 1 = omega arith in
    let count : bytes + 0 + next.size ≡ bytes + next.size = omega arith in
    let first : RunsLine (line + 1) (bytes + next.size) d next.text last =
    subst (λ (q : TriplexState). RunsLine (line + 1) (bytes + next.size) q next.text last) same
    (subst (λ (n : ℕ). RunsLine n (bytes + next.size) run.state next.text last) number
    (subst (λ (n : ℕ). RunsLine (line + 0 + 1) n run.state next.text last) count ran)) in
    let whole : last ≡ joined_runs run last = ap (λ (s : List Stage). record { state = last.state; stages = s ++ last.stages; end = last.end }) (sym none) in
    (last, first, subst (Continues last (RunsLines (line + 1) (bytes + next.size) last.state [])) whole (one_by (line + 1) (bytes + next.size) d last last.end refl))
lines_more line bytes d (x ∷ xs) run next last (first, ran_first, inl (some, is)) going ran =
    absurd (not_both first.end some (ap (λ (r : ScriptRun). r.end) (sym is) ∙ going))
lines_more line bytes d (x ∷ xs) run next last (first, ran_first, inr (none, rest, more, is)) going ran =
    let rest_going : rest.end ≡ None = ap (λ (r : ScriptRun). r.end) (sym is) ∙ going in
    let state : run.state ≡ rest.state = ap (λ (r : ScriptRun). r.state) is in
    let stages : run.stages ≡ first.stages ++ rest.stages = ap (λ (r : ScriptRun). r.stages) is in
    let number : line + length (x ∷ xs) + 1 ≡ line + 1 + length xs + 1 = omega arith in
    let count : bytes + size_of (x ∷ xs) + next.size ≡ bytes + x.size + size_of xs + next.size = omega arith in
    let ran' : RunsLine (line + 1 + length xs + 1) (bytes + x.size + size_of xs + next.size) rest.state next.text last =
    subst (λ (q : TriplexState). RunsLine (line + 1 + length xs + 1) (bytes + x.size + size_of xs + next.size) q next.text last) state
    (subst (λ (n : ℕ). RunsLine n (bytes + x.size + size_of xs + next.size) run.state next.text last) number
    (subst (λ (n : ℕ). RunsLine (line + length (x ∷ xs) + 1) n run.state next.text last) count ran)) in (
      first,
      ran_first,
      inr (
        none,
        joined_runs rest last,
        lines_more (line + 1) (bytes + x.size) first.state xs rest next last more rest_going ran',
        ap (λ (s : List Stage). record { state = last.state; stages = s; end = last.end }) (ap (λ (s : List Stage). s ++ last.stages) stages ∙ append_assoc first.stages rest.stages last.stages),
      ),
    )

-- from the first line on
lines_on : (d : TriplexState) (lines : List InputLine) (run : ScriptRun) (next : InputLine) (last : ScriptRun) →
    RunsLines 0 0 d lines run → run.end ≡ None → RunsLine (length lines + 1) (size_of lines + next.size) run.state next.text last →
    RunsLines 0 0 d (lines ++ next ∷ []) (joined_runs run last)
lines_on d lines run next last runs going ran =
    let number : length lines + 1 ≡ 0 + length lines + 1 = omega arith in
    let count : size_of lines + next.size ≡ 0 + size_of lines + next.size = omega arith in
    lines_more 0 0 d lines run next last runs going
    (subst (λ (n : ℕ). RunsLine n (0 + size_of lines + next.size) run.state next.text last) number
    (subst (λ (n : ℕ). RunsLine (length lines + 1) n run.state next.text last) count ran))

-- lines of a script were read and run, and what they write was written
pub record Going (d : TriplexState) (input : List ℕ) (bytes lines count : ℕ) (state : TriplexState) (before now : Taken) (left : Option (List ℕ)) : Type 0 where
  pub front : List InputLine
  pub rest : List ℕ
  pub run : ScriptRun
  pub lines_are : lines_of input ≡ front ++ lines_of rest
  pub lines_count : lines ≡ length front
  pub bytes_are : bytes ≡ size_of front
  pub runs : RunsLines 0 0 d front run
  pub has : HasRun run None state 0 count before now
  pub rest_is : rest ≡ drop bytes input
  pub left_is : left ≡ Some rest

pub going_start : (d : TriplexState) (input : List ℕ) (before : Taken) (left : Option (List ℕ)) → left ≡ Some input → Going d input 0 0 0 d before before left
going_start d input before left h = record {
  front = [];
  rest = input;
  run = resting d;
  lines_are = refl;
  lines_count = refl;
  bytes_are = refl;
  runs = refl;
  has = record { end_is = refl; state_is = refl; count_is = refl; wrote = sym (transcript_none before) };
  rest_is = refl;
  left_is = h;
}

-- the place behind the lines that were run
abbrev place_of : {d : TriplexState} {input : List ℕ} {bytes lines count : ℕ} {state : TriplexState} {before now : Taken} {left : Option (List ℕ)} → (g : Going d input bytes lines count state before now left) → bytes ≤ INPUT_LIMIT → RunTo d input g.run
place_of g most = record { before = g.front; after = lines_of g.rest; lines_are = g.lines_are; ran = g.runs; going = sym g.has.end_is; short = omega (arith, g.bytes_are) }

-- the next line, of which the first bytes are held, as it is read
line_ran : {d : TriplexState} {input held : List ℕ} {bytes lines count size : ℕ} {state : TriplexState} {before now : Taken} {left left' : Option (List ℕ)} (read : Result (Option Entry) BadLine) → (g : Going d input bytes lines count state before now left) → (l : HasLine g.rest size held left') → ReadsScriptLine (lines + 1) held read → bytes + size ≤ INPUT_LIMIT →
    RunsLine (length g.front + 1) (size_of g.front + size) g.run.state l.text (read_run (lines + 1) state read)
line_ran {d} {input} {held} {bytes} {lines} {count} {size} {state} read g l h most =
    let number : lines + 1 ≡ length g.front + 1 = ap (λ (n : ℕ). n + 1) g.lines_count in
    inr (
      omega (arith, g.bytes_are),
      record {
        read = read;
        grammar = uncut_script (length g.front + 1) l.text held read l.held_is (subst (λ (n : ℕ). ReadsScriptLine n held read) number h);
        run_is = ap (λ (n : ℕ). read_run n state read) number ∙ ap (λ (q : TriplexState). read_run (length g.front + 1) q read) g.has.state_is;
      },
    )

-- the rest behind a line
rest_behind : (input rest : List ℕ) (bytes size : ℕ) → rest ≡ drop bytes input → drop size rest ≡ drop (bytes + size) input
rest_behind input rest bytes size h = ap (drop size) h ∙ drop-drop size bytes input

-- a line after which the run goes on
pub going_line : {d : TriplexState} {input held : List ℕ} {bytes lines count count' size : ℕ} {state state' : TriplexState} {before mid now : Taken} {left left' : Option (List ℕ)} (read : Result (Option Entry) BadLine) → (g : Going d input bytes lines count state before mid left) → HasLine g.rest size held left' → ReadsScriptLine (lines + 1) held read → bytes + size ≤ INPUT_LIMIT →
    HasRun (read_run (lines + 1) state read) None state' count count' mid now → Going d input (bytes + size) (lines + 1) count' state' before now left'
going_line {d} {input} {held} {bytes} {lines} {count} {count'} {size} {state} {state'} {before} {mid} {now} {left} {left'} read g l h most came =
    let next : InputLine = record { text = l.text; size = size } in
    let last = read_run (lines + 1) state read in
    record {
      front = g.front ++ next ∷ [];
      rest = l.rest;
      run = joined_runs g.run last;
      lines_are = g.lines_are ∙ (ap (λ (ls : List InputLine). g.front ++ ls) l.lines_are ∙ sym (append_assoc g.front (next ∷ []) (lines_of l.rest)));
      lines_count = omega (arith, g.lines_count, length-append g.front (next ∷ []));
      bytes_are = omega (arith, g.bytes_are, size_append g.front (next ∷ []));
      runs = lines_on d g.front g.run next last g.runs (sym g.has.end_is) (line_ran read g l h most);
      has = ran_joined g.has came;
      rest_is = l.rest_is ∙ rest_behind input g.rest bytes size g.rest_is;
      left_is = l.left_is;
    }

-- what was taken of the input with a line
left_behind : {d : TriplexState} {input held : List ℕ} {bytes lines count size : ℕ} {state : TriplexState} {before now : Taken} {left left' : Option (List ℕ)} → (g : Going d input bytes lines count state before now left) → HasLine g.rest size held left' → bytes + size ≤ INPUT_LIMIT → left' ≡ Some (drop (bytes_taken (size_of g.front + size)) input)
left_behind {d} {input} {held} {bytes} {lines} {count} {size} g l most =
    let below : bytes + size ≤ INPUT_LIMIT + 1 = omega arith in
    let same : bytes + size ≡ bytes_taken (size_of g.front + size) = sym (min-eq_left below) ∙ ap (λ (n : ℕ). bytes_taken (n + size)) g.bytes_are in
    l.left_is ∙ ap Some (l.rest_is ∙ (rest_behind input g.rest bytes size g.rest_is ∙ ap (λ (n : ℕ). drop n input) same))

-- a line that ends the run
pub line_ends : {d : TriplexState} {input held : List ℕ} {bytes lines count count' size : ℕ} {state state' : TriplexState} {before mid now : Taken} {left left' : Option (List ℕ)} (read : Result (Option Entry) BadLine) (end : End) → (g : Going d input bytes lines count state before mid left) → HasLine g.rest size held left' → ReadsScriptLine (lines + 1) held read → bytes + size ≤ INPUT_LIMIT →
    HasRun (read_run (lines + 1) state read) (Some end) state' count count' mid now → HasEnded d input end count' state' before now left'
line_ends {d} {input} {held} {bytes} {lines} {count} {count'} {size} {state} read end g l h most came =
    let last = read_run (lines + 1) state read in
    let has = ran_joined g.has came in
    record {
      run = joined_runs g.run last;
      runs = inr (record {
        first = g.run;
        place = place_of g (omega arith);
        line = record { text = l.text; size = size };
        more = lines_of l.rest;
        next = l.lines_are;
        last = last;
        ran = line_ran read g l h most;
        ends = ap is_some (sym came.end_is);
        run_is = refl;
        left_is = left_behind g l most;
      });
      end_is = ap end_of came.end_is;
      has = record { end_is = refl; state_is = has.state_is; count_is = has.count_is; wrote = has.wrote };
    }

-- a line in which a write failed
pub line_cut : {d : TriplexState} {input held : List ℕ} {bytes lines count size : ℕ} {state state' : TriplexState} {before mid now : Taken} {left left' : Option (List ℕ)} (read : Result (Option Entry) BadLine) → (g : Going d input bytes lines count state before mid left) → HasLine g.rest size held left' → ReadsScriptLine (lines + 1) held read → bytes + size ≤ INPUT_LIMIT →
    CutAtStage (read_run (lines + 1) state read).stages state' mid now → IsRunCut d input state' before now left'
line_cut {d} {input} {held} {bytes} {lines} {count} {size} {state} read g l h most cut =
    let last = read_run (lines + 1) state read in
    record {
      first = g.run;
      place = place_of g (omega arith);
      line = record { text = l.text; size = size };
      more = lines_of l.rest;
      next = l.lines_are;
      last = last;
      ran = line_ran read g l h most;
      cut = cut_after g.run.stages last.stages g.has.wrote cut;
      left_is = left_behind g l most;
    }

-- a line with a byte too many
pub line_long : {d : TriplexState} {input : List ℕ} {bytes lines count : ℕ} {state : TriplexState} {before now : Taken} {left left' : Option (List ℕ)} → (g : Going d input bytes lines count state before now left) → HasLongLine g.rest (INPUT_LIMIT - bytes) left' → bytes ≤ INPUT_LIMIT → HasEnded d input (TooLong (lines + 1)) count state before now left'
line_long {d} {input} {bytes} {lines} {count} {state} {before} {now} g l most =
    let last = ended g.run.state (TooLong (lines + 1)) in
    let over : INPUT_LIMIT + 1 ≤ size_of g.front + l.line.size = omega (arith, l.long, g.bytes_are) in
    let room : bytes + (INPUT_LIMIT - bytes + 1) ≡ bytes_taken (size_of g.front + l.line.size) =
    let whole : bytes + (INPUT_LIMIT - bytes + 1) ≡ INPUT_LIMIT + 1 = omega arith in whole ∙ sym (min-eq_right over) in
    let number : lines + 1 ≡ length g.front + 1 = ap (λ (n : ℕ). n + 1) g.lines_count in
    record {
      run = joined_runs g.run last;
      runs = inr (record {
        first = g.run;
        place = place_of g most;
        line = l.line;
        more = l.more;
        next = l.lines_are;
        last = last;
        ran = inl (omega arith, ap (λ (n : ℕ). ended g.run.state (TooLong n)) number);
        ends = refl;
        run_is = refl;
        left_is = l.left_is ∙ ap Some (rest_behind input g.rest bytes (INPUT_LIMIT - bytes + 1) g.rest_is ∙ ap (λ (n : ℕ). drop n input) room);
      });
      end_is = refl;
      has = record {
        end_is = refl;
        state_is = g.has.state_is;
        count_is = g.has.count_is ∙ ap (λ (s : List Stage). 0 + console_count s) (sym (append-nil g.run.stages));
        wrote = g.has.wrote ∙ ap (λ (s : List Stage). with_transcript before (stages_transcript s)) (sym (append-nil g.run.stages));
      };
    }

-- the end of the input
pub script_ends : {d : TriplexState} {input : List ℕ} {bytes lines count : ℕ} {state : TriplexState} {before now : Taken} {left left' : Option (List ℕ)} → (g : Going d input bytes lines count state before now left) → (g.rest ≡ []) × (left' ≡ Some []) → bytes ≤ INPUT_LIMIT → HasEnded d input Script count state before now left'
script_ends g e most = record {
  run = g.run;
  runs = inl (record { place = place_of g most; all = ap lines_of e.0; left_is = e.1 });
  end_is = ap end_of g.has.end_is;
  has = record { end_is = refl; state_is = g.has.state_is; count_is = g.has.count_is; wrote = g.has.wrote };
}

-- a read that fails
pub script_unread : {d : TriplexState} {input : List ℕ} {bytes lines count : ℕ} {state : TriplexState} {before now : Taken} {left left' : Option (List ℕ)} → (g : Going d input bytes lines count state before now left) → HasFront g.rest (INPUT_LIMIT - bytes) left' → bytes ≤ INPUT_LIMIT → IsFed (take bytes input) →
    IsRunUnread d input state before now left'
script_unread {d} {input} {bytes} g f most fed = record {
  run = g.run;
  place = place_of g most;
  unread = unread_behind input g.rest g.front bytes g.rest_is g.bytes_are fed f most;
  state_is = g.has.state_is;
  wrote = g.has.wrote;
}

-- ---- line 1 and the frame

-- a first plant with the frame that it has
pub first_same : (d : TriplexState) → IsFirstPlant d → d.frame ≡ 1024 → d ≡ with_frame 1024 d
first_same d h is =
    let frame : h.frame ≡ 1024 = sym (ap (λ (e : TriplexState). e.frame) h.is) ∙ is in
    h.is ∙ (ap (λ (f : ℕ). started_triplex f h.entry h.local h.global) frame ∙ sym (ap (with_frame 1024) h.is))

-- lines were read and run from a machine with the frame that they choose; before line 1 that is 1024
pub record GoingFrom (d : TriplexState) (input : List ℕ) (bytes lines count : ℕ) (state : TriplexState) (before now : Taken) (left : Option (List ℕ)) : Type 0 where
  pub frame : ℕ
  pub chosen : 1 ≤ lines → ChoosesFrame (lines_of input) frame
  pub none : lines ≡ 0 → frame ≡ 1024
  pub going : Going (with_frame frame d) input bytes lines count state before now left

pub from_start : (d : TriplexState) (input : List ℕ) (before : Taken) (left : Option (List ℕ)) → IsFirstPlant d → d.frame ≡ 1024 → left ≡ Some input → GoingFrom d input 0 0 0 d before before left
from_start d input before left first frame h = record {
  frame = 1024;
  chosen = λ some. absurd (omega arith);
  none = λ is. refl;
  going = subst (λ (e : TriplexState). Going e input 0 0 0 d before before left) (first_same d first frame) (going_start d input before left h);
}

-- the next line was read: the frame is chosen, and its machine goes on
pub record Ready (d : TriplexState) (input held : List ℕ) (bytes lines count size : ℕ) (state : TriplexState) (before now : Taken) (left left_after : Option (List ℕ)) (read : Result (Option Entry) BadLine) : Type 0 where
  pub frame : ℕ
  pub chosen : ChoosesFrame (lines_of input) frame
  pub going : Going (with_frame frame d) input bytes lines count state before now left
  pub line : HasLine going.rest size held left_after
  pub grammar : ReadsScriptLine (lines + 1) held read

framed_is : (d : TriplexState) (first : Result First BadLine) → d ≡ with_frame 1024 d → framed_by first d ≡ with_frame (frame_of first) d
framed_is d (Ok (Frame frame)) same = refl
framed_is d (Ok (EntryOf entry)) same = same
framed_is d (Err bad) same = same

no_lines : (lines : List InputLine) → length lines ≡ 0 → lines ≡ []
no_lines [] h = refl
no_lines (line ∷ lines) h = absurd (omega arith)

-- before line 1 nothing has run, so the machine may be another
other_start : {d e : TriplexState} {input : List ℕ} {bytes lines count : ℕ} {state state' : TriplexState} {before now : Taken} {left : Option (List ℕ)} → Going d input bytes lines count state before now left → lines ≡ 0 → state' ≡ e → Going e input bytes lines count state' before now left
other_start {d} {e} {input} {bytes} {lines} {count} {state} {state'} {before} {now} {left} g none is =
    let front : g.front ≡ [] = no_lines g.front (sym g.lines_count ∙ none) in
    let rest : g.run ≡ resting d = subst (λ (ls : List InputLine). RunsLines 0 0 d ls g.run) front g.runs in
    let stages : g.run.stages ≡ [] = ap (λ (r : ScriptRun). r.stages) rest in
    record {
      front = [];
      rest = g.rest;
      run = resting e;
      lines_are = g.lines_are ∙ ap (λ (ls : List InputLine). ls ++ lines_of g.rest) front;
      lines_count = none;
      bytes_are = g.bytes_are ∙ ap size_of front;
      runs = refl;
      has = record {
        end_is = refl;
        state_is = is;
        count_is = g.has.count_is ∙ ap (λ (ss : List Stage). 0 + console_count ss) stages;
        wrote = g.has.wrote ∙ ap (λ (ss : List Stage). with_transcript before (stages_transcript ss)) stages;
      };
      rest_is = g.rest_is;
      left_is = g.left_is;
    }

-- the same machine
same_going : {d : TriplexState} {input : List ℕ} {bytes lines count : ℕ} {state state' : TriplexState} {before now : Taken} {left : Option (List ℕ)} → Going d input bytes lines count state before now left → state' ≡ state → Going d input bytes lines count state' before now left
same_going g is = record {
  front = g.front;
  rest = g.rest;
  run = g.run;
  lines_are = g.lines_are;
  lines_count = g.lines_count;
  bytes_are = g.bytes_are;
  runs = g.runs;
  has = record { end_is = g.has.end_is; state_is = is ∙ g.has.state_is; count_is = g.has.count_is; wrote = g.has.wrote };
  rest_is = g.rest_is;
  left_is = g.left_is;
}

pub ready : {d : TriplexState} {input held : List ℕ} {bytes lines count size : ℕ} {state state' : TriplexState} {before mid : Taken} {left left' : Option (List ℕ)} (read : Result (Option Entry) BadLine) → d ≡ with_frame 1024 d → (g : GoingFrom d input bytes lines count state before mid left) → (lines ≡ 0 → state ≡ d) →
    HasLine g.going.rest size held left' → bytes + size ≤ INPUT_LIMIT → ReadsAt (lines + 1) held state read state' → Ready d input held bytes lines count size state' before mid left left' read
unfolding other_start same_going
ready {d} {input} {held} {bytes} {lines} {count} {size} {state} {state'} {before} {mid} {left} {left'} read same g at_start l most reads = by_number (lines + 1) refl reads
  where
    first_line : lines ≡ 0 → (first : Result First BadLine) → ReadsFirst held first → ChoosesFrame (lines_of input) (frame_of first)
    first_line none first says =
        let front : g.going.front ≡ [] = no_lines g.going.front (sym g.going.lines_count ∙ none) in
        let lines_are : lines_of input ≡ (record { text = l.text; size = size }) ∷ lines_of l.rest = g.going.lines_are ∙ (ap (λ (ls : List InputLine). ls ++ lines_of g.going.rest) front ∙ l.lines_are) in
        subst (λ (ls : List InputLine). ChoosesFrame ls (frame_of first)) (sym lines_are) (first_chooses (record { text = l.text; size = size }) (lines_of l.rest) held first l.held_is says)

    by_number : (n : ℕ) → lines + 1 ≡ n → ReadsAt n held state read state' → Ready d input held bytes lines count size state' before mid left left' read
    by_number zero is h = absurd (omega arith)
    by_number (suc zero) is (first, says, read_is, state_is) =
        let none : lines ≡ 0 = omega arith in
        record {
          frame = frame_of first;
          chosen = first_line none first says;
          going = other_start g.going none (state_is ∙ (ap (framed_by first) (at_start none) ∙ framed_is d first same));
          line = l;
          grammar = subst (λ (n : ℕ). ReadsScriptLine n held read) (sym is) (subst (λ (r : Result (Option Entry) BadLine). ReadsScriptLine 1 held r) (sym read_is) (first_is_read held first says));
        }
    by_number (suc (suc n)) is (says, state_is) = record {
      frame = g.frame;
      chosen = g.chosen (omega arith);
      going = same_going g.going state_is;
      line = l;
      grammar = subst (λ (m : ℕ). ReadsScriptLine m held read) (sym is) says;
    }

-- the frame that the lines of the whole input choose, where the input has come to its end, and where its next line is too long
pub chosen_at_end : {d : TriplexState} {input : List ℕ} {bytes lines count : ℕ} {state : TriplexState} {before now : Taken} {left : Option (List ℕ)} → (g : GoingFrom d input bytes lines count state before now left) → g.going.rest ≡ [] → ChoosesFrame (lines_of input) g.frame
chosen_at_end {d} {input} {bytes} {lines} g none = by_lines lines refl
  where
    by_lines : (n : ℕ) → lines ≡ n → ChoosesFrame (lines_of input) g.frame
    by_lines zero is =
        let front : g.going.front ≡ [] = no_lines g.going.front (sym g.going.lines_count ∙ is) in
        let lines_are : lines_of input ≡ [] = g.going.lines_are ∙ (ap (λ (ls : List InputLine). ls ++ lines_of g.going.rest) front ∙ ap lines_of none) in
        subst (λ (ls : List InputLine). ChoosesFrame ls g.frame) (sym lines_are) (g.none is)
    by_lines (suc n) is = g.chosen (omega arith)

pub chosen_at_long : {d : TriplexState} {input : List ℕ} {bytes lines count : ℕ} {state : TriplexState} {before now : Taken} {left left' : Option (List ℕ)} → (g : GoingFrom d input bytes lines count state before now left) → HasLongLine g.going.rest (INPUT_LIMIT - bytes) left' → ChoosesFrame (lines_of input) g.frame
chosen_at_long {d} {input} {bytes} {lines} g l = by_lines lines refl
  where
    by_lines : (n : ℕ) → lines ≡ n → ChoosesFrame (lines_of input) g.frame
    by_lines zero is =
        let front : g.going.front ≡ [] = no_lines g.going.front (sym g.going.lines_count ∙ is) in
        let none : bytes ≡ 0 = g.going.bytes_are ∙ ap size_of front in
        let long = l.long in
        let lines_are : lines_of input ≡ l.line ∷ l.more = g.going.lines_are ∙ (ap (λ (ls : List InputLine). ls ++ lines_of g.going.rest) front ∙ l.lines_are) in
        subst (λ (ls : List InputLine). ChoosesFrame ls g.frame) (sym lines_are) (subst (ChoosesFrame (l.line ∷ l.more)) (sym (g.none is)) (long_chooses l.line l.more (line_fits g.going.rest l.line l.more l.lines_are) (omega arith)))
    by_lines (suc n) is = g.chosen (omega arith)

-- and the frame that the lines that were taken choose, where a read fails
pub chosen_so_far : {d : TriplexState} {input : List ℕ} {bytes lines count : ℕ} {state : TriplexState} {before now : Taken} {left : Option (List ℕ)} → (g : GoingFrom d input bytes lines count state before now left) → ChoosesFrame g.going.front g.frame
chosen_so_far {d} {input} {bytes} {lines} g = by_lines lines refl
  where
    by_lines : (n : ℕ) → lines ≡ n → ChoosesFrame g.going.front g.frame
    by_lines zero is = subst (λ (ls : List InputLine). ChoosesFrame ls g.frame) (sym (no_lines g.going.front (sym g.going.lines_count ∙ is))) (g.none is)
    by_lines (suc n) is =
        let count = g.going.lines_count in
        chooses_front g.going.front (lines_of g.going.rest) g.frame (omega arith) (subst (λ (ls : List InputLine). ChoosesFrame ls g.frame) g.going.lines_are (g.chosen (omega arith)))

pub unread_from : {d : TriplexState} {input : List ℕ} {bytes lines count : ℕ} {state : TriplexState} {before now : Taken} {left left' : Option (List ℕ)} → (g : GoingFrom d input bytes lines count state before now left) → HasFront g.going.rest (INPUT_LIMIT - bytes) left' → bytes ≤ INPUT_LIMIT → IsFed (take bytes input) →
    (frame : ℕ) × (unread : IsRunUnread (with_frame frame d) input state before now left') × ChoosesFrame unread.place.before frame
unfolding script_unread
unread_from g f most fed = (g.frame, script_unread g.going f most fed, chosen_so_far g)
