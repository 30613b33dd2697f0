-- The report of a run is read as what was written.
use Rattle.std.proofs.Common.{◌≡◌, ℕ, suc, ◌+◌, ◌≤◌, max, Bool, true, false, cond, List, [], ◌∷◌, ◌++◌, length, append_assoc, append-nil, refl, sym, ap, arith, ◌∙◌, subst}
use Rattle.std.specs.Prelude.{◌%◌, ◌^◌, codes, ◌==◌, ◌≢◌, not, nat_lt, bytes_eq, Some, None}
use Rattle.std.specs.declared.option.Option.{Option}
use Rattle.std.proofs.lemmas.Bool.Decides.{nat_tests}
use Rattle.s2_elf.specs.MemoryImage.{MemoryImage}
use Rattle.s2_ports.specs.declared.events.Event.TheVariants.{Tick, Key, Private}
use Rattle.s2_machine.specs.declared.deliveries.Delivery.{Delivery as DeliveryAt}
use Rattle.s2_machine.specs.MachineRun.{RunState, machine_run}
use Rattle.s2_journal.specs.declared.note.Why.TheVariants.{Differ, Late, Removed}
use Rattle.s2_journal.specs.declared.note.Note.{Note}
use Rattle.s2_journal.specs.declared.note.Note.TheVariants.{Delivered, Out, Lost, Repaired, BoardDead, Mend, Mended, Join, Joined}
use Rattle.s2_journal.specs.declared.note.Reason.TheVariants.{Second, Slow, BothBoards}
use Rattle.s2_journal.specs.declared.note.End.{End}
use Rattle.s2_journal.specs.declared.note.End.TheVariants.{Script, Halt, Bad, Outside, TooLong, Report}
use Rattle.s2_journal.specs.declared.note.Count.{Count}
use Rattle.s2_journal.specs.declared.note.Count.TheVariants.{Runs as RunsCount, Ticks as TicksCount, Bytes as BytesCount}
use Rattle.s2_journal.specs.declared.note.ReportLine.{ReportLine}
use Rattle.s2_journal.specs.declared.note.ReportLine.TheVariants.{Other, Runs, Ticks, Bytes, End as Ending}
use Rattle.s2_journal.specs.ReportLines.{report_rows, note_form, note_numbers, note_text, IsReadableNote, note_answer, count_form, count_text, IsReadableCount, end_form, end_numbers, end_text, IsReadableEnd}
use Rattle.s2_journal.specs.ReportOrder.{place_of, closing_of, closing_count, delivery_run, greatest_run, falls_back, is_too_few, end_report, order_state, order_fault, Follow, IsReport}
use Rattle.s2_journal.proofs.ReportTexts.{note_in_table, count_in_table, end_in_table}
use Rattle.s2_journal.proofs.ReportTests.{report_disjoint}
use Rattle.s2_journal.proofs.OrderStates.{closing_more, greatest_more}
use Rattle.s2_text.specs.HexText.{hex_digit, hex_text}
use Rattle.s2_text.proofs.DisjointForms.{one_answer}
use Rattle.s2_machine.specs.MachineRun.{bytes_of}
use Rattle.s2_triplex.specs.StepTurns.{Turn}
use Rattle.s2_triplex.specs.ReferenceMachine.{reference, runs}
use Rattle.s2_triplex_laws.specs.ReferenceAdvance.{DueUpTo, DueFrom}
use Rattle.s2_triplex_laws.specs.TriplexExecutions.{AreInRunOrder}
use Rattle.s2_triplex_laws.specs.StepNotes.{deliveries_in}
use Rattle.s2_run.specs.declared.limits.TheConstants.{INPUT_LIMIT}
use Rattle.s2_run.specs.Execution.{started_image}
use Rattle.s2_text.specs.LineGrammar.{nums}
use Rattle.s2_text.specs.InputLines.{InputLine, lines_of, size_of, texts_of}
use Rattle.s2_run.specs.ReportText.{line_with, end_lines}
use Rattle.s2_run.specs.declared.verdict.Verdict.{Verdict}
use Rattle.s2_run.specs.declared.verdict.Verdict.TheVariants.{Passed, Bad as BadVerdict, TooLong as LongVerdict}
use Rattle.s2_run.specs.ReportReading.{first_size, ReadsReport}
use Rattle.s2_run.proofs.Checking.{size_append}
use Rattle.s2_journal.proofs.ReportAnswers.{report_not_bad}
use Rattle.s2_run.specs.Replay.{deliveries_of, last_run, replayed, replay_closing}
use Rattle.s2_run.specs.Transcript.{Console, Report as ReportOutlet, for_outlet, report_of, console_of}
use Rattle.s2_run.specs.ScriptRuns.{Stage, ScriptRun, end_of}
use Rattle.s2_run.specs.RunTranscript.{note_lines, turn_transcript, stages_transcript, console_count, closing_lines}
use Rattle.s2_run.specs.MaskedRuns.{printed_deliveries, IsMasked}
use Rattle.s2_run.specs.ReplayLaws.{printed_notes, notes_said, report_text, report_said, IsReplayedAlike}
use Rattle.s2_run.proofs.StageTranscripts.{report_append, report_of-console, report_of-report}
use Rattle.s2_text.proofs.PlainTexts.{is_plain_form, spelling_plain}
use Rattle.s2_run.proofs.WrittenLines.{written_lines, ArePlain, plain_lists, written_append, texts_again, lines_size}

-- ---- numbers in the ranges of a reader

-- of an end line eight digits are written of a halt value, which are those of its last 32 bits
abbrev pub as_written : End → End
as_written Script = Script
as_written (Halt v) = Halt (v % 2 ^ 32)
as_written (Bad line column) = Bad line column
as_written (Outside line reason) = Outside line reason
as_written (TooLong line) = TooLong line
as_written Report = Report

cons_same : (a b : ℕ) (xs ys : List ℕ) → a ≡ b → xs ≡ ys → a ∷ xs ≡ b ∷ ys
cons_same a b xs ys e f = ap (λ (x : ℕ). x ∷ xs) e ∙ ap (λ (t : List ℕ). b ∷ t) f

digit_same : (a b : ℕ) (xs ys : List ℕ) → a ≡ b → xs ≡ ys → hex_digit a ∷ xs ≡ hex_digit b ∷ ys
digit_same a b xs ys e f = cons_same (hex_digit a) (hex_digit b) xs ys (ap hex_digit e) f

digits_same : (v : ℕ) → hex_text 8 (v % 2 ^ 32) ≡ hex_text 8 v
digits_same v =
    digit_same _ _ _ _ (omega arith) (digit_same _ _ _ _ (omega arith) (digit_same _ _ _ _ (omega arith) (digit_same _ _ _ _ (omega arith)
    (digit_same _ _ _ _ (omega arith) (digit_same _ _ _ _ (omega arith) (digit_same _ _ _ _ (omega arith) (digit_same _ _ _ _ (omega arith) refl)))))))

end_same : (e : End) → end_text (as_written e) ≡ end_text e
end_same Script = refl
end_same (Halt v) = ap (λ (t : List ℕ). codes "end halt " ++ (t ++ [])) (digits_same v)
end_same (Bad line column) = refl
end_same (Outside line reason) = refl
end_same (TooLong line) = refl
end_same Report = refl

-- the numbers of all notes are in the ranges of a reader
abbrev pub AreReadableNotes : List Note → Type 0
AreReadableNotes [] = Unit {0}
AreReadableNotes (note ∷ notes) = IsReadableNote note × AreReadableNotes notes

-- so are all numbers of a run's report, and its end is not that of a replay
pub record IsReadableRun (run : ScriptRun) : Type 0 where
  pub notes : AreReadableNotes (printed_notes run.stages)
  pub run_count : IsReadableCount RunsCount (runs run.state)
  pub tick_count : IsReadableCount TicksCount run.state.ticks
  pub byte_count : IsReadableCount BytesCount (console_count run.stages)
  pub end : IsReadableEnd (as_written (end_of run.end))
  pub own : as_written (end_of run.end) ≢ Report

-- ---- the texts of a report have no line feed

plain_note : (n : Note) → is_plain_form (note_form n) ≡ true
plain_note (Delivered run Tick) = refl
plain_note (Delivered run (Key b)) = refl
plain_note (Delivered run (Private a b c)) = refl
plain_note (Out tick p Differ) = refl
plain_note (Out tick p Late) = refl
plain_note (Out tick p Removed) = refl
plain_note (Lost tick Tick) = refl
plain_note (Lost tick (Key b)) = refl
plain_note (Lost tick (Private a b c)) = refl
plain_note (Repaired tick b index) = refl
plain_note (BoardDead tick b) = refl
plain_note (Mend tick b) = refl
plain_note (Mended tick b) = refl
plain_note (Join tick p) = refl
plain_note (Joined tick p true) = refl
plain_note (Joined tick p false) = refl

plain_count : (name : Count) → is_plain_form (count_form name) ≡ true
plain_count RunsCount = refl
plain_count TicksCount = refl
plain_count BytesCount = refl

plain_end : (e : End) → is_plain_form (end_form e) ≡ true
plain_end Script = refl
plain_end (Halt v) = refl
plain_end (Bad line column) = refl
plain_end (Outside line (Second tainted named)) = refl
plain_end (Outside line (Slow p misses)) = refl
plain_end (Outside line (BothBoards b)) = refl
plain_end (TooLong line) = refl
plain_end Report = refl

abbrev note_texts : List Note → List (List ℕ)
note_texts [] = []
note_texts (n ∷ ns) = note_text n ∷ note_texts ns

abbrev closing_texts : ℕ → ℕ → ℕ → End → List (List ℕ)
closing_texts n t b e = count_text RunsCount n ∷ count_text TicksCount t ∷ count_text BytesCount b ∷ end_text e ∷ []

notes_plain : (ns : List Note) → AreReadableNotes ns → ArePlain (note_texts ns)
notes_plain [] h = tt
notes_plain (n ∷ ns) h = (spelling_plain (note_form n) (nums (note_numbers n)) (plain_note n) h.0, notes_plain ns h.1)

closing_plain : (n t b : ℕ) (e : End) → IsReadableCount RunsCount n → IsReadableCount TicksCount t → IsReadableCount BytesCount b → IsReadableEnd e → ArePlain (closing_texts n t b e)
closing_plain n t b e hn ht hb he = (
  spelling_plain (count_form RunsCount) (nums (n ∷ [])) (plain_count RunsCount) hn,
  (
    spelling_plain (count_form TicksCount) (nums (t ∷ [])) (plain_count TicksCount) ht,
    (
      spelling_plain (count_form BytesCount) (nums (b ∷ [])) (plain_count BytesCount) hb,
      (spelling_plain (end_form e) (nums (end_numbers e)) (plain_end e) he, tt),
    ),
  ),
)

-- ---- the report of a run is its texts, each with its line feed

notes_written : (ns : List Note) → note_lines ns ≡ written_lines (note_texts ns)
notes_written [] = refl
notes_written (n ∷ ns) = ap (λ (t : List ℕ). line_with (note_text n) ++ t) (notes_written ns)

texts_append : (a b : List Note) → note_texts (a ++ b) ≡ note_texts a ++ note_texts b
texts_append [] b = refl
texts_append (n ∷ a) b = ap (λ (t : List (List ℕ)). note_text n ∷ t) (texts_append a b)

closing_written : (n t b : ℕ) (e : End) → end_lines n t b e ≡ written_lines (closing_texts n t b e)
closing_written n t b e =
    let w = line_with (count_text RunsCount n) in
    let x = line_with (count_text TicksCount t) in
    let y = line_with (count_text BytesCount b) in
    let z = line_with (end_text e) in
    append_assoc w x (y ++ z) ∙ ap (λ (q : List ℕ). w ++ (x ++ (y ++ q))) (sym (append-nil z))

turn_report : (turn : Turn) → report_of (turn_transcript turn) ≡ note_lines turn.notes
turn_report turn =
    report_append (for_outlet Console (bytes_of turn.out)) (for_outlet ReportOutlet (note_lines turn.notes))
    ∙ (ap (λ (t : List ℕ). t ++ report_of (for_outlet ReportOutlet (note_lines turn.notes))) (report_of-console (bytes_of turn.out)) ∙ report_of-report (note_lines turn.notes))

stages_report : (stages : List Stage) → report_of (stages_transcript stages) ≡ written_lines (note_texts (printed_notes stages))
stages_report [] = refl
stages_report (stage ∷ stages) =
    report_append (turn_transcript stage.turn) (stages_transcript stages)
    ∙ (ap (λ (t : List ℕ). t ++ report_of (stages_transcript stages)) (turn_report stage.turn ∙ notes_written stage.turn.notes)
    ∙ (ap (λ (t : List ℕ). written_lines (note_texts stage.turn.notes) ++ t) (stages_report stages)
    ∙ (sym (written_append (note_texts stage.turn.notes) (note_texts (printed_notes stages)))
    ∙ ap written_lines (sym (texts_append stage.turn.notes (printed_notes stages))))))

closing_as : (run : ScriptRun) (e : End) → end_lines (runs run.state) run.state.ticks (console_count run.stages) e ≡ end_lines (runs run.state) run.state.ticks (console_count run.stages) (as_written e)
closing_as run e =
    ap (λ (t : List ℕ). (line_with (count_text RunsCount (runs run.state)) ++ line_with (count_text TicksCount run.state.ticks)) ++ (line_with (count_text BytesCount (console_count run.stages)) ++ line_with t)) (sym (end_same e))

abbrev report_texts : ScriptRun → List (List ℕ)
report_texts run = note_texts (printed_notes run.stages) ++ closing_texts (runs run.state) run.state.ticks (console_count run.stages) (as_written (end_of run.end))

run_report : (run : ScriptRun) → report_text run ≡ written_lines (report_texts run)
run_report run =
    let notes = note_texts (printed_notes run.stages) in
    let closing = closing_texts (runs run.state) run.state.ticks (console_count run.stages) (as_written (end_of run.end)) in
    report_append (stages_transcript run.stages) (for_outlet ReportOutlet (closing_lines run))
    ∙ (ap (λ (t : List ℕ). t ++ report_of (for_outlet ReportOutlet (closing_lines run))) (stages_report run.stages)
    ∙ (ap (λ (t : List ℕ). written_lines notes ++ t) (report_of-report (closing_lines run) ∙ (closing_as run (end_of run.end) ∙ closing_written (runs run.state) run.state.ticks (console_count run.stages) (as_written (end_of run.end))))
    ∙ sym (written_append notes closing)))

run_plain : (run : ScriptRun) → IsReadableRun run → ArePlain (report_texts run)
run_plain run h =
    plain_lists (note_texts (printed_notes run.stages)) (closing_texts (runs run.state) run.state.ticks (console_count run.stages) (as_written (end_of run.end))) (notes_plain (printed_notes run.stages) h.notes)
    (closing_plain (runs run.state) run.state.ticks (console_count run.stages) (as_written (end_of run.end)) h.run_count h.tick_count h.byte_count h.end)

run_lines : (run : ScriptRun) → IsReadableRun run → texts_of (lines_of (report_text run)) ≡ report_texts run
run_lines run h = ap (λ (t : List ℕ). texts_of (lines_of t)) (run_report run) ∙ texts_again (report_texts run) (run_plain run h)

-- ---- in order

fault_by : (a b c d : Bool) → a ≡ true → b ≡ false → c ≡ false → d ≡ false → cond {A = Option ℕ} (not a) (Some 1) (cond b (Some 1) (cond c (Some 3) (cond d (Some 6) None))) ≡ None
fault_by a b c d ea eb ec ed = rw (ea, eb, ec, ed) refl

same_number : (a b : ℕ) → a ≡ b → (a == b) ≡ true
same_number a b e = grind (arith, nat_tests)

no_fault : (before : List ReportLine) (line : List ℕ) (x : ReportLine) → closing_count before ≡ place_of x → bytes_eq line end_report ≡ false → falls_back (greatest_run before) x ≡ false → is_too_few (greatest_run before) x ≡ false → order_fault (order_state before) line x ≡ None
no_fault before line x place other onward enough = fault_by (closing_count before == place_of x) (bytes_eq line end_report) (falls_back (greatest_run before) x) (is_too_few (greatest_run before) x) (same_number (closing_count before) (place_of x) place) other onward enough

other_note : (n : Note) → bytes_eq (note_text n) end_report ≡ false
other_note (Delivered run Tick) = refl
other_note (Delivered run (Key b)) = refl
other_note (Delivered run (Private a b c)) = refl
other_note (Out tick p why) = refl
other_note (Lost tick Tick) = refl
other_note (Lost tick (Key b)) = refl
other_note (Lost tick (Private a b c)) = refl
other_note (Repaired tick b index) = refl
other_note (BoardDead tick b) = refl
other_note (Mend tick b) = refl
other_note (Mended tick b) = refl
other_note (Join tick p) = refl
other_note (Joined tick p good) = refl

other_count : (name : Count) (n : ℕ) → bytes_eq (count_text name n) end_report ≡ false
other_count RunsCount n = refl
other_count TicksCount n = refl
other_count BytesCount n = refl

other_end : (e : End) → e ≢ Report → bytes_eq (end_text e) end_report ≡ false
other_end Script h = refl
other_end (Halt v) h = refl
other_end (Bad line column) h = refl
other_end (Outside line (Second tainted named)) h = refl
other_end (Outside line (Slow p misses)) h = refl
other_end (Outside line (BothBoards b)) h = refl
other_end (TooLong line) h = refl
other_end Report h = absurd (h refl)

-- a note in its place, behind lines whose greatest RUN is g, and what it leaves
record NoteInOrder (n : Note) (ns : List Note) (g : ℕ) : Type 0 where
  place : place_of (note_answer n) ≡ 0
  none : closing_of (note_answer n) ≡ 0
  onward : falls_back g (note_answer n) ≡ false
  enough : is_too_few g (note_answer n) ≡ false
  order : AreInRunOrder (deliveries_in ns)
  due : DueFrom (max (delivery_run (note_answer n)) g) (deliveries_in ns)

no_less : (a b : ℕ) → a ≤ b → nat_lt b a ≡ false
no_less a b h = grind (arith, nat_tests)

max_left : (a b : ℕ) → b ≤ a → a ≡ max a b
max_left a b h = grind arith

max_zero : (b : ℕ) → b ≡ max 0 b
max_zero b = grind arith

quiet_in_order : (n : Note) (ns : List Note) (g : ℕ) → note_answer n ≡ Other → AreInRunOrder (deliveries_in ns) → DueFrom g (deliveries_in ns) → NoteInOrder n ns g
quiet_in_order n ns g is order due = record {
  place = ap place_of is;
  none = ap closing_of is;
  onward = ap (falls_back g) is;
  enough = ap (is_too_few g) is;
  order = order;
  due = subst (λ (k : ℕ). DueFrom k (deliveries_in ns)) (max_zero g ∙ ap (λ (x : ReportLine). max (delivery_run x) g) (sym is)) due;
}

note_in_order : (n : Note) (ns : List Note) (g : ℕ) → AreInRunOrder (deliveries_in (n ∷ ns)) → DueFrom g (deliveries_in (n ∷ ns)) → NoteInOrder n ns g
note_in_order (Delivered run event) ns g order due = record {
  place = refl;
  none = refl;
  onward = no_less g run due.0;
  enough = refl;
  order = order.1;
  due = subst (λ (k : ℕ). DueFrom k (deliveries_in ns)) (max_left run g due.0) order.0;
}
note_in_order (Out tick p why) ns g order due = quiet_in_order (Out tick p why) ns g refl order due
note_in_order (Lost tick event) ns g order due = quiet_in_order (Lost tick event) ns g refl order due
note_in_order (Repaired tick b index) ns g order due = quiet_in_order (Repaired tick b index) ns g refl order due
note_in_order (BoardDead tick b) ns g order due = quiet_in_order (BoardDead tick b) ns g refl order due
note_in_order (Mend tick b) ns g order due = quiet_in_order (Mend tick b) ns g refl order due
note_in_order (Mended tick b) ns g order due = quiet_in_order (Mended tick b) ns g refl order due
note_in_order (Join tick p) ns g order due = quiet_in_order (Join tick p) ns g refl order due
note_in_order (Joined tick p good) ns g order due = quiet_in_order (Joined tick p good) ns g refl order due

notes_follow : (ns : List Note) (before : List ReportLine) (lines : List (List ℕ)) (said : List ReportLine) → closing_count before ≡ 0 → AreReadableNotes ns → AreInRunOrder (deliveries_in ns) → DueFrom (greatest_run before) (deliveries_in ns) →
    Follow (before ++ notes_said ns) lines said → Follow before (note_texts ns ++ lines) (notes_said ns ++ said)
notes_follow [] before lines said none read order due more = subst (λ (b : List ReportLine). Follow b lines said) (append-nil before) more
notes_follow (n ∷ ns) before lines said none read order due more =
    let x = note_answer n in
    let h = note_in_order n ns (greatest_run before) order due in (
      (note_in_table n read.0, no_fault before (note_text n) x (none ∙ sym h.place) (other_note n) h.onward h.enough),
      notes_follow ns (before ++ x ∷ []) lines said
          (closing_more before x ∙ (let a = none in let b = h.none in omega arith))
          read.1 h.order
          (subst (λ (k : ℕ). DueFrom k (deliveries_in ns)) (sym (greatest_more before x)) h.due)
          (subst (λ (b : List ReportLine). Follow b lines said) (sym (append_assoc before (x ∷ []) (notes_said ns))) more),
    )

closing_follow : (before : List ReportLine) (n t b : ℕ) (e : End) → closing_count before ≡ 0 → greatest_run before ≤ n → IsReadableCount RunsCount n → IsReadableCount TicksCount t → IsReadableCount BytesCount b → IsReadableEnd e → e ≢ Report →
    Follow before (closing_texts n t b e) (Runs n ∷ Ticks ∷ Bytes ∷ Ending ∷ [])
closing_follow before n t b e none most hn ht hb he own =
    let first = before ++ Runs n ∷ [] in
    let second = first ++ Ticks ∷ [] in
    let third = second ++ Bytes ∷ [] in
    let one : closing_count first ≡ 1 = closing_more before (Runs n) ∙ omega arith in
    let two : closing_count second ≡ 2 = closing_more first Ticks ∙ omega arith in
    let three : closing_count third ≡ 3 = closing_more second Bytes ∙ omega arith in (
      (count_in_table RunsCount n hn, no_fault before (count_text RunsCount n) (Runs n) none (other_count RunsCount n) refl (no_less (greatest_run before) n most)),
      (
        (count_in_table TicksCount t ht, no_fault first (count_text TicksCount t) Ticks one (other_count TicksCount t) refl refl),
        (
          (count_in_table BytesCount b hb, no_fault second (count_text BytesCount b) Bytes two (other_count BytesCount b) refl refl),
          ((end_in_table e he, no_fault third (end_text e) Ending three (other_end e own) refl refl), tt),
        ),
      ),
    )

-- ---- what notes say

said_none : (ns : List Note) → closing_count (notes_said ns) ≡ 0
said_none [] = refl
said_none (Delivered run event ∷ ns) = (let h = said_none ns in omega arith)
said_none (Out tick p why ∷ ns) = (let h = said_none ns in omega arith)
said_none (Lost tick event ∷ ns) = (let h = said_none ns in omega arith)
said_none (Repaired tick b index ∷ ns) = (let h = said_none ns in omega arith)
said_none (BoardDead tick b ∷ ns) = (let h = said_none ns in omega arith)
said_none (Mend tick b ∷ ns) = (let h = said_none ns in omega arith)
said_none (Mended tick b ∷ ns) = (let h = said_none ns in omega arith)
said_none (Join tick p ∷ ns) = (let h = said_none ns in omega arith)
said_none (Joined tick p good ∷ ns) = (let h = said_none ns in omega arith)

said_greatest : (ns : List Note) (n : ℕ) → DueUpTo n (deliveries_in ns) → greatest_run (notes_said ns) ≤ n
said_greatest [] n due = omega arith
said_greatest (Delivered run event ∷ ns) n due = (let h = said_greatest ns n due.1 in let k = due.0 in grind arith)
said_greatest (Out tick p why ∷ ns) n due = (let h = said_greatest ns n due in grind arith)
said_greatest (Lost tick event ∷ ns) n due = (let h = said_greatest ns n due in grind arith)
said_greatest (Repaired tick b index ∷ ns) n due = (let h = said_greatest ns n due in grind arith)
said_greatest (BoardDead tick b ∷ ns) n due = (let h = said_greatest ns n due in grind arith)
said_greatest (Mend tick b ∷ ns) n due = (let h = said_greatest ns n due in grind arith)
said_greatest (Mended tick b ∷ ns) n due = (let h = said_greatest ns n due in grind arith)
said_greatest (Join tick p ∷ ns) n due = (let h = said_greatest ns n due in grind arith)
said_greatest (Joined tick p good ∷ ns) n due = (let h = said_greatest ns n due in grind arith)

abbrev closing_said : ℕ → List ReportLine
closing_said n = Runs n ∷ Ticks ∷ Bytes ∷ Ending ∷ []

said_whole : (ns : List Note) (n : ℕ) → closing_count (notes_said ns ++ closing_said n) ≡ 4
said_whole [] n = refl
said_whole (Delivered run event ∷ ns) n = (let h = said_whole ns n in omega arith)
said_whole (Out tick p why ∷ ns) n = (let h = said_whole ns n in omega arith)
said_whole (Lost tick event ∷ ns) n = (let h = said_whole ns n in omega arith)
said_whole (Repaired tick b index ∷ ns) n = (let h = said_whole ns n in omega arith)
said_whole (BoardDead tick b ∷ ns) n = (let h = said_whole ns n in omega arith)
said_whole (Mend tick b ∷ ns) n = (let h = said_whole ns n in omega arith)
said_whole (Mended tick b ∷ ns) n = (let h = said_whole ns n in omega arith)
said_whole (Join tick p ∷ ns) n = (let h = said_whole ns n in omega arith)
said_whole (Joined tick p good ∷ ns) n = (let h = said_whole ns n in omega arith)

said_deliveries : (ns : List Note) (n : ℕ) → deliveries_of (notes_said ns ++ closing_said n) ≡ deliveries_in ns
said_deliveries [] n = refl
said_deliveries (Delivered run event ∷ ns) n = (let d : DeliveryAt = record { run = run; event = event } in ap (λ (ds : List DeliveryAt). d ∷ ds) (said_deliveries ns n))
said_deliveries (Out tick p why ∷ ns) n = said_deliveries ns n
said_deliveries (Lost tick event ∷ ns) n = said_deliveries ns n
said_deliveries (Repaired tick b index ∷ ns) n = said_deliveries ns n
said_deliveries (BoardDead tick b ∷ ns) n = said_deliveries ns n
said_deliveries (Mend tick b ∷ ns) n = said_deliveries ns n
said_deliveries (Mended tick b ∷ ns) n = said_deliveries ns n
said_deliveries (Join tick p ∷ ns) n = said_deliveries ns n
said_deliveries (Joined tick p good ∷ ns) n = said_deliveries ns n

said_last : (ns : List Note) (n : ℕ) → DueUpTo n (deliveries_in ns) → last_run (notes_said ns ++ closing_said n) ≡ n
said_last [] n due = grind arith
said_last (Delivered run event ∷ ns) n due = (let h = said_last ns n due.1 in let k = due.0 in grind arith)
said_last (Out tick p why ∷ ns) n due = (let h = said_last ns n due in grind arith)
said_last (Lost tick event ∷ ns) n due = (let h = said_last ns n due in grind arith)
said_last (Repaired tick b index ∷ ns) n due = (let h = said_last ns n due in grind arith)
said_last (BoardDead tick b ∷ ns) n due = (let h = said_last ns n due in grind arith)
said_last (Mend tick b ∷ ns) n due = (let h = said_last ns n due in grind arith)
said_last (Mended tick b ∷ ns) n due = (let h = said_last ns n due in grind arith)
said_last (Join tick p ∷ ns) n due = (let h = said_last ns n due in grind arith)
said_last (Joined tick p good ∷ ns) n due = (let h = said_last ns n due in grind arith)

in_append : (a b : List Note) → deliveries_in (a ++ b) ≡ deliveries_in a ++ deliveries_in b
in_append [] b = refl
in_append (Delivered run event ∷ a) b = (let d : DeliveryAt = record { run = run; event = event } in ap (λ (ds : List DeliveryAt). d ∷ ds) (in_append a b))
in_append (Out tick p why ∷ a) b = in_append a b
in_append (Lost tick event ∷ a) b = in_append a b
in_append (Repaired tick board index ∷ a) b = in_append a b
in_append (BoardDead tick board ∷ a) b = in_append a b
in_append (Mend tick board ∷ a) b = in_append a b
in_append (Mended tick board ∷ a) b = in_append a b
in_append (Join tick p ∷ a) b = in_append a b
in_append (Joined tick p good ∷ a) b = in_append a b

pub printed : (stages : List Stage) → deliveries_in (printed_notes stages) ≡ printed_deliveries stages
printed [] = refl
printed (stage ∷ stages) = in_append stage.turn.notes (printed_notes stages) ∙ ap (λ (ds : List DeliveryAt). deliveries_in stage.turn.notes ++ ds) (printed stages)

from_zero : (ds : List DeliveryAt) → DueFrom 0 ds
from_zero [] = tt
from_zero (d ∷ ds) = (omega arith, from_zero ds)

-- ---- lines say one thing

follow_once : (before : List ReportLine) (lines : List (List ℕ)) (a b : List ReportLine) → Follow before lines a → Follow before lines b → a ≡ b
follow_once before [] [] [] f g = refl
follow_once before [] [] (y ∷ b) f g = absurd g
follow_once before [] (x ∷ a) b f g = absurd f
follow_once before (line ∷ lines) [] b f g = absurd f
follow_once before (line ∷ lines) (x ∷ a) [] f g = absurd g
follow_once before (line ∷ lines) (x ∷ a) (y ∷ b) f g =
    let same : y ≡ x = one_answer report_rows y x line report_disjoint g.0.0 f.0.0 in
    ap (λ (z : ReportLine). z ∷ a) (sym same) ∙ ap (λ (t : List ReportLine). y ∷ t) (follow_once (before ++ y ∷ []) lines a b (subst (λ (z : ReportLine). Follow (before ++ z ∷ []) lines a) (sym same) f.1) g.1)

texts_both : (a b : List InputLine) → texts_of (a ++ b) ≡ texts_of a ++ texts_of b
texts_both [] b = refl
texts_both (x ∷ a) b = ap (λ (t : List (List ℕ)). x.text ∷ t) (texts_both a b)

texts_count : (a : List InputLine) → length (texts_of a) ≡ length a
texts_count [] = refl
texts_count (x ∷ a) = ap suc (texts_count a)

first_part : (a : List InputLine) → first_size a ≤ size_of a
first_part [] = omega arith
first_part (x ∷ a) = omega arith

-- an input that is a whole report and is not too long has no other verdict
one_verdict : (input : List ℕ) (said : List ReportLine) → IsReport (texts_of (lines_of input)) said → size_of (lines_of input) ≤ INPUT_LIMIT → (verdict : Verdict) (other : List ReportLine) (left : Option (List ℕ)) → ReadsReport input verdict other left → (verdict ≡ Passed) × (other ≡ said)
one_verdict input said report short Passed other left reads = (refl, follow_once [] (texts_of (lines_of input)) other said reads.0.order report.order)
one_verdict input said report short (BadVerdict number column) other left reads =
    let place = reads.0 in
    absurd (report_not_bad (texts_of (lines_of input)) said number column report (record {
      before = texts_of place.before;
      said = other;
      after = texts_of place.after;
      order = place.order;
      fault = reads.2;
      parts = ap texts_of place.lines_are ∙ texts_both place.before place.after;
      number = reads.1 ∙ ap (λ (n : ℕ). n + 1) (sym (texts_count place.before));
    }))
one_verdict input said report short (LongVerdict number) other left reads =
    let place = reads.0 in
    let over = reads.2 in
    let first = first_part place.after in
    let size : size_of (lines_of input) ≡ size_of place.before + size_of place.after = ap size_of place.lines_are ∙ size_append place.before place.after in
    absurd (omega arith)

-- ---- the whole

run_follows : (run : ScriptRun) → IsReadableRun run → AreInRunOrder (printed_deliveries run.stages) → DueUpTo (runs run.state) (printed_deliveries run.stages) → Follow [] (report_texts run) (report_said run)
run_follows run h order due =
    let ns = printed_notes run.stages in
    let is = printed run.stages in
    let order_here : AreInRunOrder (deliveries_in ns) = subst AreInRunOrder (sym is) order in
    let due_here : DueUpTo (runs run.state) (deliveries_in ns) = subst (DueUpTo (runs run.state)) (sym is) due in
    notes_follow ns [] (closing_texts (runs run.state) run.state.ticks (console_count run.stages) (as_written (end_of run.end))) (closing_said (runs run.state)) refl h.notes order_here (from_zero (deliveries_in ns))
    (closing_follow (notes_said ns) (runs run.state) run.state.ticks (console_count run.stages) (as_written (end_of run.end)) (said_none ns) (said_greatest ns (runs run.state) due_here) h.run_count h.tick_count h.byte_count h.end h.own)

pub masked_replay : (frame : ℕ) (image : MemoryImage) (run : ScriptRun) → IsMasked frame image run.stages run.state → IsReadableRun run → length (report_text run) ≤ INPUT_LIMIT → IsReplayedAlike image run
masked_replay frame image run m h short =
    let ns = printed_notes run.stages in
    let is = printed run.stages in
    let due_here : DueUpTo (runs run.state) (deliveries_in ns) = subst (DueUpTo (runs run.state)) (sym is) m.due in
    let lines = run_lines run h in
    let follow : Follow [] (texts_of (lines_of (report_text run))) (report_said run) = subst (λ (t : List (List ℕ)). Follow [] t (report_said run)) (sym lines) (run_follows run h m.order m.due) in
    let deliveries : deliveries_of (report_said run) ≡ printed_deliveries run.stages = said_deliveries ns (runs run.state) ∙ is in
    let to : last_run (report_said run) ≡ runs run.state = said_last ns (runs run.state) due_here in
    let report : IsReport (texts_of (lines_of (report_text run))) (report_said run) = record { order = follow; whole = said_whole ns (runs run.state) } in
    let size : size_of (lines_of (report_text run)) ≤ INPUT_LIMIT = subst (λ (k : ℕ). k ≤ INPUT_LIMIT) (sym (lines_size (report_text run))) short in
    let alike : replayed (started_image image) (report_said run) ≡ record { machine = reference run.state; bytes = console_of (stages_transcript run.stages) } =
    ap (λ (ds : List DeliveryAt). machine_run (started_image image) ds (last_run (report_said run))) deliveries
    ∙ (ap (λ (k : ℕ). machine_run (started_image image) (printed_deliveries run.stages) k) to ∙ m.alone) in
    record {
      reads = (report, size, refl);
      once = one_verdict (report_text run) (report_said run) report size;
      deliveries = deliveries;
      to = to;
      alike = alike;
      closing = ap (λ (ran : RunState). replay_closing Passed ran) alike;
    }
