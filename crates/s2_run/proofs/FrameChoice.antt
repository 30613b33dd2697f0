-- Line 1 of a script: what it says, and the frame that it chooses.
use Rattle.std.proofs.Common.{◌≡◌, ℕ, zero, suc, ◌+◌, ◌-◌, ◌<◌, ◌≤◌, ◌≢◌, List, [], ◌∷◌, ◌++◌, length, take, refl, sym, ap, subst, inl, inr, ◌∙◌, arith}
use Rattle.std.specs.Prelude.{Some, None, Ok, Err}
use Rattle.std.specs.declared.option.Option.{Option}
use Rattle.std.specs.declared.result.Result.{Result}
use Rattle.std.proofs.lemmas.Bool.{cases_lt}
use Rattle.s2_clock.specs.Frames.{IsFrame}
use Rattle.s2_text.specs.declared.stops.BadLine.{BadLine}
use Rattle.s2_text.specs.LineGrammar.{Value, num, name, Fits, Reaches}
use Rattle.s2_text.specs.LineTables.{ReadsLine, SaysIn, IsRemark}
use Rattle.s2_text.proofs.DisjointForms.{says_text}
use Rattle.s2_text.proofs.ShortLines.{uncut_line, line_again, remark_again}
use Rattle.s2_text.proofs.TextLengths.{spelling_short}
use Rattle.s2_script.specs.ScriptLines.{script_rows}
use Rattle.s2_script.specs.FirstLines.{first_rows, version_row, ReadsFirst, SaysFrame}
use Rattle.s2_script.specs.declared.entry.Entry.{Entry}
use Rattle.s2_script.specs.declared.entry.First.{First}
use Rattle.s2_script.specs.declared.entry.First.TheVariants.{Frame, Entry as EntryOf}
use Rattle.s2_script.proofs.ScriptTests.{script_disjoint, script_no_remarks, script_short}
use Rattle.s2_script.proofs.FirstRows.{first_disjoint, first_no_remarks, first_short, frame_or_entry, says_on_first}
use Rattle.s2_run.specs.declared.limits.TheConstants.{INPUT_LIMIT}
use Rattle.s2_text.specs.InputLines.{InputLine}
use Rattle.s2_run.specs.ScriptRuns.{ChoosesFrame, ReadsFirstLine, ReadsScriptLine}
use Rattle.s2_run.specs.ScriptRunParts.{entry_of, frame_of, framed_by, ReadsAt}
use Rattle.s2_triplex.specs.TriplexState.{TriplexState}
use Rattle.s2_triplex_laws.proofs.FirstState.{first_frame}

-- ---- what is read of a line with a number

pub said_in : (line : ℕ) (text : List ℕ) (entry : Entry) → ReadsScriptLine line text (Ok (Some entry)) → SaysIn script_rows entry text
said_in zero text entry h = h
said_in (suc zero) text entry h = h
said_in (suc (suc n)) text entry h = h

pub bad_within : (line : ℕ) (text : List ℕ) (bad : BadLine) → ReadsScriptLine line text (Err bad) → bad.column - 1 ≤ length text
bad_within zero text bad h = h.1.within
bad_within (suc zero) text bad h = h.1.within
bad_within (suc (suc n)) text bad h = h.1.within

-- of the bytes that are held of a line, and of the line
uncut_first : (text held : List ℕ) (read : Result (Option Entry) BadLine) → held ≡ take 129 text → ReadsFirstLine held read → ReadsFirstLine text read
uncut_first text held (Ok (Some entry)) is h = uncut_line script_rows text held (Ok (Some entry)) script_short is h
uncut_first text held (Ok None) is (inl h) = inl (uncut_line script_rows text held (Ok None) script_short is h)
uncut_first text held (Ok None) is (inr (frame, h)) = inr (frame, frame_or_entry text (Frame frame) (uncut_line first_rows text held (Ok (Some (Frame frame))) first_short is (inl h)))
uncut_first text held (Err bad) is h = uncut_line first_rows text held (Err bad) first_short is h

pub uncut_script : (line : ℕ) (text held : List ℕ) (read : Result (Option Entry) BadLine) → held ≡ take 129 text → ReadsScriptLine line held read → ReadsScriptLine line text read
uncut_script zero text held read is h = uncut_line script_rows text held read script_short is h
uncut_script (suc zero) text held read is h = uncut_first text held read is h
uncut_script (suc (suc n)) text held read is h = uncut_line script_rows text held read script_short is h

-- a version line is neither a line of the table nor a remark
same_some : (x y : First) (r : Result (Option First) BadLine) → r ≡ Ok (Some x) → r ≡ Ok (Some y) → x ≡ y
same_some x y r a b = let e : Ok (Some x) ≡ Ok (Some y) = sym a ∙ b in cc

pub entry_or_frame : (text : List ℕ) (entry : Entry) (frame : ℕ) → SaysIn script_rows entry text → SaysFrame frame text → ⊥
entry_or_frame text entry frame says framed =
    let e : EntryOf (Some entry) ≡ Frame frame = same_some (EntryOf (Some entry)) (Frame frame) (Ok (Some (EntryOf (Some entry)))) refl
    (line_again first_rows text (Ok (Some (EntryOf (Some entry)))) first_disjoint first_no_remarks (inr (says_on_first script_rows entry text says)) (Frame frame) (inl framed)) in
    absurd cc

pub remark_or_frame : (text : List ℕ) (frame : ℕ) → IsRemark text → SaysFrame frame text → ⊥
remark_or_frame text frame remark framed =
    let e = line_again first_rows text (Ok None) first_disjoint first_no_remarks remark (Frame frame) (inl framed) in absurd cc

-- and chooses one frame
frames_equal : (f g : ℕ) → Frame f ≡ Frame g → f ≡ g
frames_equal f g h = cc

pub one_frame_said : (text : List ℕ) (f g : ℕ) → SaysFrame f text → SaysFrame g text → f ≡ g
one_frame_said text f g x y = frames_equal f g (same_some (Frame f) (Frame g) (Ok (Some (Frame f))) refl (line_again first_rows text (Ok (Some (Frame f))) first_disjoint first_no_remarks (inl x) (Frame g) (inl y)))

fits_by : (vs : List Value) (frame : ℕ) → Fits version_row.form vs → Frame frame ≡ version_row.says vs → IsFrame frame
fits_by [] frame h is = absurd h
fits_by (name l ∷ vs) frame h is = absurd h.0
fits_by (num v ∷ vs) frame h is =
    let same = frames_equal frame v is in
    let low = h.0.0 in
    let high = h.0.1 in
    record { low = omega arith; high = omega arith }

pub said_fits : (text : List ℕ) (frame : ℕ) → SaysFrame frame text → IsFrame frame
said_fits text frame h = fits_by h.0 frame h.1 h.3

pub chosen_fits : (lines : List InputLine) (frame : ℕ) → ChoosesFrame lines frame → IsFrame frame
chosen_fits [] frame h = subst IsFrame (sym h) first_frame
chosen_fits (line ∷ lines) frame (inl h) = said_fits line.text frame h
chosen_fits (line ∷ lines) frame (inr h) = subst IsFrame (sym h.0) first_frame

pub one_frame : (lines : List InputLine) (f g : ℕ) → ChoosesFrame lines f → ChoosesFrame lines g → f ≡ g
one_frame [] f g x y = x ∙ sym y
one_frame (line ∷ lines) f g (inl x) (inl y) = one_frame_said line.text f g x y
one_frame (line ∷ lines) f g (inl x) (inr y) = absurd (y.1 f x)
one_frame (line ∷ lines) f g (inr x) (inl y) = absurd (x.1 g y)
one_frame (line ∷ lines) f g (inr x) (inr y) = x.0 ∙ sym y.0

-- ---- what the grammar reads of a line is one answer

-- a line leaves a set in one place
pub one_reach : (S : List ℕ → Type 0) (line : List ℕ) (m n : ℕ) → Reaches S line m → Reaches S line n → m ≡ n
one_reach S line m n x y =
    elim (cases_lt m n) [
      | inl less ↦ absurd (x.past n less y.within y.before)
      | inr no_less ↦ elim (cases_lt n m) [ inl more ↦ absurd (y.past m more x.within x.before) | inr same ↦ omega arith ]
    ]

abbrev bad_read : BadLine → Result (Option Entry) BadLine
bad_read bad = Err bad

one_bad : (S : List ℕ → Type 0) (text : List ℕ) (bad worse : BadLine) → (1 ≤ bad.column) × Reaches S text (bad.column - 1) → (1 ≤ worse.column) × Reaches S text (worse.column - 1) → bad_read bad ≡ bad_read worse
one_bad S text bad worse reads other =
    let low = reads.0 in
    let other_low = other.0 in
    let back = one_reach S text (bad.column - 1) (worse.column - 1) reads.1 other.1 in
    let same : bad.column ≡ worse.column = omega arith in
    ap (λ (n : ℕ). bad_read (record { column = n })) same

one_of_table : (text : List ℕ) (a b : Result (Option Entry) BadLine) → ReadsLine script_rows text a → ReadsLine script_rows text b → a ≡ b
one_of_table text (Ok (Some x)) b reads other = sym (line_again script_rows text b script_disjoint script_no_remarks other x reads)
one_of_table text (Ok None) b reads other = sym (remark_again script_rows text b script_no_remarks other reads)
one_of_table text (Err bad) (Ok (Some x)) reads other = line_again script_rows text (Err bad) script_disjoint script_no_remarks reads x other
one_of_table text (Err bad) (Ok None) reads other = remark_again script_rows text (Err bad) script_no_remarks reads other
one_of_table text (Err bad) (Err worse) reads other = one_bad _ text bad worse reads other

-- line 1
pub said_not_bad : (text : List ℕ) (entry : Entry) (bad : BadLine) → SaysIn script_rows entry text → ReadsFirstLine text (Err bad) → ⊥
said_not_bad text entry bad says h = h.1.outside (inr (says_text first_rows (EntryOf (Some entry)) text (inr (says_on_first script_rows entry text says))))

pub none_not_bad : (text : List ℕ) (bad : BadLine) → ReadsFirstLine text (Ok None) → ReadsFirstLine text (Err bad) → ⊥
none_not_bad text bad (inl remark) h = h.1.outside (inl remark)
none_not_bad text bad (inr (frame, says)) h = h.1.outside (inr (says_text first_rows (Frame frame) text (inl says)))

none_not_said : (text : List ℕ) (entry : Entry) → ReadsFirstLine text (Ok None) → SaysIn script_rows entry text → ⊥
none_not_said text entry (inl remark) says = absurd (let e = line_again script_rows text (Ok None) script_disjoint script_no_remarks remark entry says in cc)
none_not_said text entry (inr (frame, framed)) says = entry_or_frame text entry frame says framed

one_of_first : (text : List ℕ) (a b : Result (Option Entry) BadLine) → ReadsFirstLine text a → ReadsFirstLine text b → a ≡ b
one_of_first text (Ok (Some x)) (Ok (Some y)) reads other = sym (line_again script_rows text (Ok (Some y)) script_disjoint script_no_remarks other x reads)
one_of_first text (Ok (Some x)) (Ok None) reads other = absurd (none_not_said text x other reads)
one_of_first text (Ok (Some x)) (Err bad) reads other = absurd (said_not_bad text x bad reads other)
one_of_first text (Ok None) (Ok (Some y)) reads other = absurd (none_not_said text y reads other)
one_of_first text (Ok None) (Ok None) reads other = refl
one_of_first text (Ok None) (Err bad) reads other = absurd (none_not_bad text bad reads other)
one_of_first text (Err bad) (Ok (Some y)) reads other = absurd (said_not_bad text y bad other reads)
one_of_first text (Err bad) (Ok None) reads other = absurd (none_not_bad text bad other reads)
one_of_first text (Err bad) (Err worse) reads other = one_bad _ text bad worse reads other

pub one_reading : (line : ℕ) (text : List ℕ) (a b : Result (Option Entry) BadLine) → ReadsScriptLine line text a → ReadsScriptLine line text b → a ≡ b
one_reading zero text a b reads other = one_of_table text a b reads other
one_reading (suc zero) text a b reads other = one_of_first text a b reads other
one_reading (suc (suc n)) text a b reads other = one_of_table text a b reads other

-- ---- what a reader of line 1 answers

pub first_is_read : (text : List ℕ) (read : Result First BadLine) → ReadsFirst text read → ReadsFirstLine text (entry_of read)
first_is_read text (Ok (Frame frame)) h = inr (frame, h)
first_is_read text (Ok (EntryOf (Some entry))) h = h
first_is_read text (Ok (EntryOf None)) h = inl h
first_is_read text (Err bad) h = h

pub first_chooses : (line : InputLine) (lines : List InputLine) (held : List ℕ) (read : Result First BadLine) →
    held ≡ take 129 line.text → ReadsFirst held read → ChoosesFrame (line ∷ lines) (frame_of read)
first_chooses line lines held (Ok (Frame frame)) is h =
    inl (frame_or_entry line.text (Frame frame) (uncut_line first_rows line.text held (Ok (Some (Frame frame))) first_short is (inl h)))
first_chooses line lines held (Ok (EntryOf (Some entry))) is h =
    inr (refl, λ f says. entry_or_frame line.text entry f (uncut_line script_rows line.text held (Ok (Some entry)) script_short is h) says)
first_chooses line lines held (Ok (EntryOf None)) is h =
    inr (refl, λ f says. remark_or_frame line.text f (uncut_line script_rows line.text held (Ok None) script_short is h) says)
first_chooses line lines held (Err bad) is h =
    inr (refl, λ f says. (uncut_line first_rows line.text held (Err bad) first_short is h).1.outside (inr (says_text first_rows (Frame f) line.text (inl says))))

-- a version line has few bytes, so a line of too many bytes chooses none
frame_short : (text : List ℕ) (frame : ℕ) → SaysFrame frame text → length text ≤ 30
frame_short text frame (vs, fits, is, says) =
    subst (λ (t : List ℕ). length t ≤ 30) (sym is) (spelling_short version_row.form vs refl fits)

pub long_chooses : (line : InputLine) (lines : List InputLine) → line.size ≤ length line.text + 1 → INPUT_LIMIT < line.size →
    ChoosesFrame (line ∷ lines) 1024
long_chooses line lines size long = inr (refl, λ f says. (let short = frame_short line.text f says in absurd (omega arith)))

-- what more lines follow is one
pub chooses_front : (front rest : List InputLine) (frame : ℕ) → 1 ≤ length front → ChoosesFrame (front ++ rest) frame → ChoosesFrame front frame
chooses_front [] rest frame some h = absurd (omega arith)
chooses_front (line ∷ front) rest frame some h = h

-- a line with another number
pub other_reads : (line : ℕ) (text : List ℕ) (read : Result (Option Entry) BadLine) → line ≢ 1 → ReadsLine script_rows text read → ReadsScriptLine line text read
other_reads zero text read other h = h
other_reads (suc zero) text read other h = absurd (other refl)
other_reads (suc (suc n)) text read other h = h

pub other_at : (line : ℕ) (text : List ℕ) (d : TriplexState) (read : Result (Option Entry) BadLine) (d' : TriplexState) → line ≢ 1 → ReadsLine script_rows text read → d' ≡ d → ReadsAt line text d read d'
other_at zero text d read d' other h is = (h, is)
other_at (suc zero) text d read d' other h is = absurd (other refl)
other_at (suc (suc n)) text d read d' other h is = (h, is)

-- what is read by the number is what the line says
pub at_grammar : (line : ℕ) (text : List ℕ) (d : TriplexState) (read : Result (Option Entry) BadLine) (d' : TriplexState) → ReadsAt line text d read d' → ReadsScriptLine line text read
at_grammar zero text d read d' h = h.0
at_grammar (suc zero) text d read d' (first, says, is, framed) = subst (λ (r : Result (Option Entry) BadLine). ReadsFirstLine text r) (sym is) (first_is_read text first says)
at_grammar (suc (suc n)) text d read d' h = h.0

pub first_at : (line : ℕ) (text : List ℕ) (first : Result First BadLine) (read : Result (Option Entry) BadLine) → line ≡ 1 → ReadsFirst text first → read ≡ entry_of first → ReadsScriptLine line text read
first_at zero text first read one says is = absurd (omega arith)
first_at (suc zero) text first read one says is = subst (λ (r : Result (Option Entry) BadLine). ReadsFirstLine text r) (sym is) (first_is_read text first says)
first_at (suc (suc n)) text first read one says is = absurd (omega arith)

-- and the machine with its frame has no other time and no other events
pub record KeepsTime (d d' : TriplexState) : Type 0 where
  pub halt : d'.halt ≡ d.halt
  pub ticks : d'.ticks ≡ d.ticks
  pub accepted : d'.accepted ≡ d.accepted

framed_keeps : (first : Result First BadLine) (d : TriplexState) → KeepsTime d (framed_by first d)
framed_keeps (Ok (Frame frame)) d = record { halt = refl; ticks = refl; accepted = refl }
framed_keeps (Ok (EntryOf entry)) d = record { halt = refl; ticks = refl; accepted = refl }
framed_keeps (Err bad) d = record { halt = refl; ticks = refl; accepted = refl }

same_keeps : (d d' : TriplexState) → d' ≡ d → KeepsTime d d'
same_keeps d d' is = record { halt = ap (λ (e : TriplexState). e.halt) is; ticks = ap (λ (e : TriplexState). e.ticks) is; accepted = ap (λ (e : TriplexState). e.accepted) is }

pub at_keeps : (line : ℕ) (text : List ℕ) (d : TriplexState) (read : Result (Option Entry) BadLine) (d' : TriplexState) → ReadsAt line text d read d' → KeepsTime d d'
at_keeps zero text d read d' h = same_keeps d d' h.1
at_keeps (suc zero) text d read d' (first, says, is, framed) = subst (λ (e : TriplexState). KeepsTime d e) (sym framed) (framed_keeps first d)
at_keeps (suc (suc n)) text d read d' h = same_keeps d d' h.1
