-- The check of a script, as far as its lines are read.
use Rattle.std.proofs.Common.{◌≡◌, ℕ, zero, suc, ◌+◌, ◌-◌, ◌≤◌, List, [], ◌∷◌, ◌++◌, drop, length, append_assoc, append-nil, length-append, refl, sym, ap, arith, ◌∙◌, subst, inl, inr}
use Rattle.std.specs.Prelude.{Some, None, Ok, Err}
use Rattle.std.specs.declared.option.Option.{Option}
use Rattle.std.proofs.lemmas.List.{drop-drop}
use Rattle.s2_text.specs.LineTables.{ReadsLine}
use Rattle.s2_text.specs.declared.stops.BadLine.{BadLine}
use Rattle.s2_text.specs.LineGrammar.{IsBadAt}
use Rattle.s2_text.proofs.DisjointForms.{says_text}
use Rattle.s2_script.specs.ScriptLines.{script_rows}
use Rattle.s2_script.specs.declared.entry.Entry.{Entry}
use Rattle.s2_script.specs.FirstLines.{first_rows}
use Rattle.s2_script.specs.declared.entry.First.TheVariants.{Frame, Entry as EntryOf}
use Rattle.s2_script.proofs.FirstRows.{says_on_first}
use Rattle.s2_run.specs.declared.limits.TheConstants.{INPUT_LIMIT}
use Rattle.s2_text.specs.InputLines.{InputLine, lines_of, size_of}
use Rattle.s2_run.specs.NextLine.{HasLine, HasLongLine, HasFront}
use Rattle.s2_run.specs.ScriptCheck.{AreLinesFrom, IsLineAt, IsScriptLine, Pass, Judges}
use Rattle.s2_run.specs.ScriptRuns.{ReadsFirstLine, ReadsScriptLine}
use Rattle.s2_run.proofs.FrameChoice.{uncut_script}
use Rattle.s2_run.specs.CheckCommand.{TakesFront}
use Rattle.s2_run.specs.declared.verdict.Verdict.TheVariants.{Passed, Bad, TooLong}

pub size_append : (a b : List InputLine) → size_of (a ++ b) ≡ size_of a + size_of b
size_append [] b = omega arith
size_append (l ∷ a) b = let h = size_append a b in omega arith

-- lines of a script that were read
pub record Checking (input : List ℕ) (taken lines : ℕ) (left : Option (List ℕ)) : Type 0 where
  pub before : List InputLine
  pub rest : List ℕ
  pub lines_are : lines_of input ≡ before ++ lines_of rest
  pub lines_count : lines ≡ length before
  pub taken_is : taken ≡ size_of before
  pub grammar : AreLinesFrom 1 before
  pub rest_is : rest ≡ drop taken input
  pub left_is : left ≡ Some rest

pub check_none : (input : List ℕ) (left : Option (List ℕ)) → left ≡ Some input → Checking input 0 0 left
check_none input left h = record {
  before = [];
  rest = input;
  lines_are = refl;
  lines_count = refl;
  taken_is = refl;
  grammar = tt;
  rest_is = refl;
  left_is = h;
}

lines_more : (n : ℕ) (a : List InputLine) (x : InputLine) → AreLinesFrom n a → IsLineAt (n + length a) x.text → AreLinesFrom n (a ++ x ∷ [])
lines_more n [] x h at = (subst (λ (m : ℕ). IsLineAt m x.text) (let same : n + 0 ≡ n = omega arith in same) at, tt)
lines_more n (line ∷ a) x h at = (h.0, lines_more (n + 1) a x h.1 (subst (λ (m : ℕ). IsLineAt m x.text) (let same : n + length (line ∷ a) ≡ n + 1 + length a = omega arith in same) at))

-- what was read of the bytes that are held of a line is what is read of the line
said_of_table : (text : List ℕ) (entry : Option Entry) → ReadsLine script_rows text (Ok entry) → IsScriptLine text
said_of_table text (Some x) h = inr (says_text script_rows x text h)
said_of_table text None h = inl h

said_of_first : (text : List ℕ) (entry : Option Entry) → ReadsFirstLine text (Ok entry) → IsLineAt 1 text
said_of_first text (Some x) h = inr (says_text first_rows (EntryOf (Some x)) text (inr (says_on_first script_rows x text h)))
said_of_first text None (inl h) = inl h
said_of_first text None (inr (frame, h)) = inr (says_text first_rows (Frame frame) text (inl h))

said_line : (line : ℕ) (text : List ℕ) (entry : Option Entry) → ReadsScriptLine line text (Ok entry) → IsLineAt line text
said_line zero text entry h = said_of_table text entry h
said_line (suc zero) text entry h = said_of_first text entry h
said_line (suc (suc n)) text entry h = said_of_table text entry h

bad_line : (line : ℕ) (text : List ℕ) (bad : BadLine) → ReadsScriptLine line text (Err bad) → IsBadAt (IsLineAt line) text bad.column
bad_line zero text bad h = h
bad_line (suc zero) text bad h = h
bad_line (suc (suc n)) text bad h = h

-- a line of a script more
pub check_line : {input held : List ℕ} {taken lines size : ℕ} {left left' : Option (List ℕ)} (entry : Option Entry) → (r : Checking input taken lines left) → HasLine r.rest size held left' → ReadsScriptLine (lines + 1) held (Ok entry) → Checking input (taken + size) (lines + 1) left'
check_line {input} {held} {taken} {lines} {size} {left} {left'} entry r l h =
    let line : InputLine = record { text = l.text; size = size } in
    let whole : ReadsScriptLine (lines + 1) l.text (Ok entry) = uncut_script (lines + 1) l.text held (Ok entry) l.held_is h in
    let number : lines + 1 ≡ 1 + length r.before = omega (arith, r.lines_count) in
    record {
      before = r.before ++ line ∷ [];
      rest = l.rest;
      lines_are = r.lines_are ∙ (ap (λ (ls : List InputLine). r.before ++ ls) l.lines_are ∙ sym (append_assoc r.before (line ∷ []) (lines_of l.rest)));
      lines_count = omega (arith, r.lines_count, length-append r.before (line ∷ []));
      taken_is = omega (arith, r.taken_is, size_append r.before (line ∷ []));
      grammar = lines_more 1 r.before line r.grammar (subst (λ (n : ℕ). IsLineAt n l.text) number (said_line (lines + 1) l.text entry whole));
      rest_is = l.rest_is ∙ (ap (drop size) r.rest_is ∙ drop-drop size taken input);
      left_is = l.left_is;
    }

passes : {input : List ℕ} {taken lines : ℕ} {left : Option (List ℕ)} → (r : Checking input taken lines left) → taken ≤ INPUT_LIMIT → Pass r.before
passes r most = record { grammar = r.grammar; short = omega (arith, r.taken_is) }

-- a line that is none of a script
pub check_bad : {input held : List ℕ} {taken lines size : ℕ} {left left' : Option (List ℕ)} (bad : BadLine) → (r : Checking input taken lines left) → HasLine r.rest size held left' → ReadsScriptLine (lines + 1) held (Err bad) → taken + size ≤ INPUT_LIMIT → Judges input (Bad (lines + 1) bad.column) left'
check_bad {input} {held} {taken} {lines} {size} {left} {left'} bad r l h most =
    let line : InputLine = record { text = l.text; size = size } in
    let bytes : taken + size ≡ size_of r.before + size = ap (λ (n : ℕ). n + size) r.taken_is in (
      record {
        before = r.before;
        line = line;
        after = lines_of l.rest;
        lines_are = r.lines_are ∙ ap (λ (ls : List InputLine). r.before ++ ls) l.lines_are;
        number_is = ap (λ (n : ℕ). n + 1) r.lines_count;
        passed = passes r (omega arith);
      },
      omega arith,
      bad_line (lines + 1) l.text bad (uncut_script (lines + 1) l.text held (Err bad) l.held_is h),
      l.left_is ∙ ap Some (l.rest_is ∙ (ap (drop size) r.rest_is ∙ (drop-drop size taken input ∙ ap (λ (n : ℕ). drop n input) bytes))),
    )

-- a line with a byte too many
pub check_long : {input : List ℕ} {taken lines : ℕ} {left left' : Option (List ℕ)} → (r : Checking input taken lines left) → HasLongLine r.rest (INPUT_LIMIT - taken) left' → taken ≤ INPUT_LIMIT → Judges input (TooLong (lines + 1)) left'
check_long {input} {taken} {lines} {left} {left'} r l most =
    let count : taken + (INPUT_LIMIT - taken + 1) ≡ INPUT_LIMIT + 1 = omega arith in (
      record {
        before = r.before;
        line = l.line;
        after = l.more;
        lines_are = r.lines_are ∙ ap (λ (ls : List InputLine). r.before ++ ls) l.lines_are;
        number_is = ap (λ (n : ℕ). n + 1) r.lines_count;
        passed = passes r most;
      },
      omega (arith, l.long, r.taken_is),
      l.left_is ∙ ap Some (ap (drop (INPUT_LIMIT - taken + 1)) r.rest_is ∙ (drop-drop (INPUT_LIMIT - taken + 1) taken input ∙ ap (λ (n : ℕ). drop n input) count)),
    )

-- the end of the input
pub check_end : {input : List ℕ} {taken lines : ℕ} {left left' : Option (List ℕ)} → (r : Checking input taken lines left) → (r.rest ≡ []) × (left' ≡ Some []) → taken ≤ INPUT_LIMIT → Judges input Passed left'
check_end {input} r e most =
    let all : r.before ≡ lines_of input = sym (append-nil r.before) ∙ (ap (λ (x : List ℕ). r.before ++ lines_of x) (sym e.0) ∙ sym r.lines_are) in
    (subst Pass all (passes r most), e.1)

-- a read that fails
pub check_failed : {input : List ℕ} {taken lines : ℕ} {left left' : Option (List ℕ)} → (r : Checking input taken lines left) → HasFront r.rest (INPUT_LIMIT - taken) left' → taken ≤ INPUT_LIMIT → TakesFront input left'
check_failed {input} {taken} r f most = record {
  bytes = taken + f.bytes;
  within = omega (arith, f.within);
  left_is = f.left_is ∙ ap Some (ap (drop f.bytes) r.rest_is ∙ drop-drop f.bytes taken input);
}
