-- The lines of notes, note by note.
use Rattle.std.proofs.Common.{◌≡◌, ℕ, zero, suc, ◌+◌, ◌≤◌, ◌<◌, List, [], ◌∷◌, ◌++◌, take, length, append_assoc, append-nil, length-append, refl, sym, ap, arith, ◌∙◌}
use Rattle.std.specs.Prelude.{get_or}
use Rattle.std.proofs.Math.Seq.{take-append-add}
use Rattle.std.proofs.lemmas.List.{take-append-le}
use Rattle.s2_journal.specs.declared.note.Note.{Note}
use Rattle.s2_journal.specs.ReportLines.{note_text}
use Rattle.s2_run.specs.ReportText.{line_with}
use Rattle.s2_run.specs.RunTranscript.{note_lines}
use Rattle.s2_run.proofs.Pieces.{appended_twice, appended_none}

abbrev note_line : Note → List ℕ
note_line note = line_with (note_text note)

-- a front of the lines, and then the next one
pub notes_more : (ns : List Note) (i : ℕ) (d : Note) → i < length ns → note_lines (take (i + 1) ns) ≡ note_lines (take i ns) ++ note_line (get_or ns i d)
notes_more [] i d below = absurd (omega arith)
notes_more (n ∷ ns) zero d below = append-nil (note_line n)
notes_more (n ∷ ns) (suc i) d below =
    let e : suc i + 1 ≡ suc (i + 1) = omega arith in
    ap (λ (k : ℕ). note_lines (take k (n ∷ ns))) e ∙ (ap (λ (t : List ℕ). note_line n ++ t) (notes_more ns i d (omega arith)) ∙ sym (append_assoc (note_line n) (note_lines (take i ns)) (note_line (get_or ns i d))))

-- a front of the lines, and then a front of the next one
pub notes_front : (ns : List Note) (i : ℕ) (d : Note) (k : ℕ) → i < length ns → k ≤ length (note_line (get_or ns i d)) → take (length (note_lines (take i ns)) + k) (note_lines ns) ≡ note_lines (take i ns) ++ take k (note_line (get_or ns i d))
notes_front [] i d k below small = absurd (omega arith)
notes_front (n ∷ ns) zero d k below small =
    let e : length (note_lines (take zero (n ∷ ns))) + k ≡ k = omega arith in
    ap (λ (m : ℕ). take m (note_line n ++ note_lines ns)) e ∙ take-append-le k (note_line n) (note_lines ns) small
notes_front (n ∷ ns) (suc i) d k below small =
    let e : length (note_line n ++ note_lines (take i ns)) + k ≡ length (note_line n) + (length (note_lines (take i ns)) + k) = omega (arith, length-append (note_line n) (note_lines (take i ns))) in
    ap (λ (m : ℕ). take m (note_line n ++ note_lines ns)) e ∙ (take-append-add (note_line n) (note_lines ns) (length (note_lines (take i ns)) + k)
    ∙ (ap (λ (t : List ℕ). note_line n ++ t) (notes_front ns i d k (omega arith) small) ∙ sym (append_assoc (note_line n) (note_lines (take i ns)) (take k (note_line (get_or ns i d))))))

-- the lines are more than those of a front and one more
pub notes_longer : (ns : List Note) (i : ℕ) (d : Note) → i < length ns → length (note_lines (take i ns)) + length (note_line (get_or ns i d)) ≤ length (note_lines ns)
notes_longer [] i d below = absurd (omega arith)
notes_longer (n ∷ ns) zero d below = omega (arith, length-append (note_line n) (note_lines ns))
notes_longer (n ∷ ns) (suc i) d below =
    let h = notes_longer ns i d (omega arith) in
    omega (arith, length-append (note_line n) (note_lines ns), length-append (note_line n) (note_lines (take i ns)))

pub line_size : (text : List ℕ) → length (line_with text) ≡ length text + 1
line_size text = length-append text (10 ∷ [])

pub ruleset notes = (appended_twice, appended_none, append_assoc, length-append, line_size, notes_more, notes_front, notes_longer)
