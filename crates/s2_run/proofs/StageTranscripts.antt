-- What stages write, one after another.
use Rattle.std.proofs.Common.{◌≡◌, ℕ, zero, suc, ◌+◌, ◌<◌, List, [], ◌∷◌, ◌++◌, take, length, append_assoc, append-nil, length-append, refl, sym, ap, arith, ◌∙◌, subst}
use Rattle.std.specs.Prelude.{Some, None}
use Rattle.std.specs.declared.option.Option.{Option}
use Rattle.std.proofs.Math.Seq.{take-append-add}
use Rattle.s2_io.specs.Sinks.{appended}
use Rattle.s2_machine.specs.MachineRun.{bytes_of}
use Rattle.s2_triplex.specs.StepTurns.{Turn}
use Rattle.s2_run.specs.Transcript.{Outlet, Console, Report, for_outlet, if_console, if_report, console_of, report_of}
use Rattle.s2_run.specs.ScriptRuns.{Stage}
use Rattle.s2_run.specs.RunTranscript.{Taken, taken, with_transcript, note_lines, turn_transcript, stages_transcript, console_count}
use Rattle.s2_run.proofs.Pieces.{appended_twice, appended_none}

-- transcripts, one after another
console_by : (o : Outlet) (b : ℕ) (xs ys : List ℕ) → if_console o b (xs ++ ys) ≡ if_console o b xs ++ ys
console_by Console b xs ys = refl
console_by Report b xs ys = refl

report_by : (o : Outlet) (b : ℕ) (xs ys : List ℕ) → if_report o b (xs ++ ys) ≡ if_report o b xs ++ ys
report_by Console b xs ys = refl
report_by Report b xs ys = refl

pub console_append : (xs ys : List (Outlet × ℕ)) → console_of (xs ++ ys) ≡ console_of xs ++ console_of ys
console_append [] ys = refl
console_append (x ∷ xs) ys = ap (if_console x.0 x.1) (console_append xs ys) ∙ console_by x.0 x.1 (console_of xs) (console_of ys)

pub report_append : (xs ys : List (Outlet × ℕ)) → report_of (xs ++ ys) ≡ report_of xs ++ report_of ys
report_append [] ys = refl
report_append (x ∷ xs) ys = ap (if_report x.0 x.1) (report_append xs ys) ∙ report_by x.0 x.1 (report_of xs) (report_of ys)

taken_is : (c c' r r' : Option (List ℕ)) → c ≡ c' → r ≡ r' → taken c r ≡ taken c' r'
taken_is c c' r r' e f = ap (λ (x : Option (List ℕ)). taken x r) e ∙ ap (λ (y : Option (List ℕ)). taken c' y) f

pub transcript_twice : (before : Taken) (xs ys : List (Outlet × ℕ)) → with_transcript (with_transcript before xs) ys ≡ with_transcript before (xs ++ ys)
transcript_twice before xs ys = taken_is _ _ _ _
    (appended_twice before.console (console_of xs) (console_of ys) ∙ ap (appended before.console) (sym (console_append xs ys)))
    (appended_twice before.report (report_of xs) (report_of ys) ∙ ap (appended before.report) (sym (report_append xs ys)))

pub transcript_none : (before : Taken) → with_transcript before [] ≡ before
transcript_none before = taken_is _ _ _ _ (appended_none before.console) (appended_none before.report)

pub stages_append : (a b : List Stage) → stages_transcript (a ++ b) ≡ stages_transcript a ++ stages_transcript b
stages_append [] b = refl
stages_append (x ∷ a) b = ap (λ (t : List (Outlet × ℕ)). turn_transcript x.turn ++ t) (stages_append a b) ∙ sym (append_assoc (turn_transcript x.turn) (stages_transcript a) (stages_transcript b))

pub count_append : (a b : List Stage) → console_count (a ++ b) ≡ console_count a + console_count b
count_append a b = ap (λ (t : List (Outlet × ℕ)). length (console_of t)) (stages_append a b) ∙ (ap length (console_append (stages_transcript a) (stages_transcript b)) ∙ length-append (console_of (stages_transcript a)) (console_of (stages_transcript b)))

pub console_of-report : (es : List ℕ) → console_of (for_outlet Report es) ≡ []
console_of-report [] = refl
console_of-report (e ∷ es) = console_of-report es

pub console_of-console : (es : List ℕ) → console_of (for_outlet Console es) ≡ es
console_of-console [] = refl
console_of-console (e ∷ es) = ap (λ (xs : List ℕ). e ∷ xs) (console_of-console es)

pub report_of-console : (es : List ℕ) → report_of (for_outlet Console es) ≡ []
report_of-console [] = refl
report_of-console (e ∷ es) = report_of-console es

pub report_of-report : (es : List ℕ) → report_of (for_outlet Report es) ≡ es
report_of-report [] = refl
report_of-report (e ∷ es) = ap (λ (xs : List ℕ). e ∷ xs) (report_of-report es)

-- the console took bytes, and then the report took some
pub took_both : (bs es : List ℕ) (c c' r r' : Option (List ℕ)) → c' ≡ appended c bs → r' ≡ appended r es → taken c' r' ≡ with_transcript (taken c r) (for_outlet Console bs ++ for_outlet Report es)
took_both bs es c c' r r' x y = taken_is _ _ _ _
    (x ∙ ap (appended c) (sym (console_append (for_outlet Console bs) (for_outlet Report es) ∙ (ap (λ (z : List ℕ). z ++ console_of (for_outlet Report es)) (console_of-console bs) ∙ (ap (λ (z : List ℕ). bs ++ z) (console_of-report es) ∙ append-nil bs)))))
    (y ∙ ap (appended r) (sym (report_append (for_outlet Console bs) (for_outlet Report es) ∙ (ap (λ (z : List ℕ). z ++ report_of (for_outlet Report es)) (report_of-console bs) ∙ report_of-report es))))

pub length-of_outlet : (o : Outlet) (bs : List ℕ) → length (for_outlet o bs) ≡ length bs
length-of_outlet o [] = refl
length-of_outlet o (b ∷ bs) = ap suc (length-of_outlet o bs)

pub take-of_outlet : (o : Outlet) (n : ℕ) (bs : List ℕ) → take n (for_outlet o bs) ≡ for_outlet o (take n bs)
take-of_outlet o zero bs = refl
take-of_outlet o (suc n) [] = refl
take-of_outlet o (suc n) (b ∷ bs) = ap (λ (xs : List (Outlet × ℕ)). (o, b) ∷ xs) (take-of_outlet o n bs)

-- all console bytes, and a front of the report's
pub took_front : (bs es : List ℕ) (k : ℕ) (c c' r r' : Option (List ℕ)) → c' ≡ appended c bs → r' ≡ appended r (take k es) → taken c' r' ≡ with_transcript (taken c r) (take (length bs + k) (for_outlet Console bs ++ for_outlet Report es))
took_front bs es k c c' r r' x y = took_both bs (take k es) c c' r r' x y ∙ ap (with_transcript (taken c r)) (sym (
    ap (λ (n : ℕ). take (n + k) (for_outlet Console bs ++ for_outlet Report es)) (sym (length-of_outlet Console bs))
    ∙ (take-append-add (for_outlet Console bs) (for_outlet Report es) k ∙ ap (λ (xs : List (Outlet × ℕ)). for_outlet Console bs ++ xs) (take-of_outlet Report k es))))

-- what a turn writes: with no console byte, and with one
pub quiet_took : (turn : Turn) (c r r' : Option (List ℕ)) → None ≡ turn.out → r' ≡ appended r (note_lines turn.notes) → taken c r' ≡ with_transcript (taken c r) (turn_transcript turn)
quiet_took turn c r r' h y = subst (λ (o : Option ℕ). taken c r' ≡ with_transcript (taken c r) (for_outlet Console (bytes_of o) ++ for_outlet Report (note_lines turn.notes))) h (took_both [] (note_lines turn.notes) c c r r' (sym (appended_none c)) y)

pub quiet_cut : (turn : Turn) (k : ℕ) (c r r' : Option (List ℕ)) → None ≡ turn.out → r' ≡ appended r (take k (note_lines turn.notes)) → taken c r' ≡ with_transcript (taken c r) (take k (turn_transcript turn))
quiet_cut turn k c r r' h y = subst (λ (o : Option ℕ). taken c r' ≡ with_transcript (taken c r) (take k (for_outlet Console (bytes_of o) ++ for_outlet Report (note_lines turn.notes)))) h ((took_front [] (note_lines turn.notes) k c c r r' (sym (appended_none c)) y ∙ ap (λ (n : ℕ). with_transcript (taken c r) (take n (for_outlet Report (note_lines turn.notes)))) (omega arith)))

pub byte_took : (turn : Turn) (b : ℕ) (c c' r r' : Option (List ℕ)) → Some b ≡ turn.out → c' ≡ appended c (b ∷ []) → r' ≡ appended r (note_lines turn.notes) → taken c' r' ≡ with_transcript (taken c r) (turn_transcript turn)
byte_took turn b c c' r r' h x y = subst (λ (o : Option ℕ). taken c' r' ≡ with_transcript (taken c r) (for_outlet Console (bytes_of o) ++ for_outlet Report (note_lines turn.notes))) h (took_both (b ∷ []) (note_lines turn.notes) c c' r r' x y)

pub byte_cut : (turn : Turn) (b k : ℕ) (c c' r : Option (List ℕ)) → Some b ≡ turn.out → k < 1 → c' ≡ appended c (take k (b ∷ [])) → taken c' r ≡ with_transcript (taken c r) (take k (turn_transcript turn))
byte_cut turn b k c c' r h below x =
    let none : k ≡ 0 = omega arith in
    let same : c' ≡ c = x ∙ (ap (λ (n : ℕ). appended c (take n (b ∷ []))) none ∙ appended_none c) in
    taken_is c' c r r same refl ∙ (sym (transcript_none (taken c r)) ∙ ap (λ (n : ℕ). with_transcript (taken c r) (take n (turn_transcript turn))) (sym none))

pub notes_cut : (turn : Turn) (b k : ℕ) (c c' r r' : Option (List ℕ)) → Some b ≡ turn.out → c' ≡ appended c (b ∷ []) → r' ≡ appended r (take k (note_lines turn.notes)) → taken c' r' ≡ with_transcript (taken c r) (take (1 + k) (turn_transcript turn))
notes_cut turn b k c c' r r' h x y = subst (λ (o : Option ℕ). taken c' r' ≡ with_transcript (taken c r) (take (1 + k) (for_outlet Console (bytes_of o) ++ for_outlet Report (note_lines turn.notes)))) h (took_front (b ∷ []) (note_lines turn.notes) k c c' r r' x y)

pub turn_size : (turn : Turn) → length (turn_transcript turn) ≡ length (bytes_of turn.out) + length (note_lines turn.notes)
turn_size turn = length-append (for_outlet Console (bytes_of turn.out)) (for_outlet Report (note_lines turn.notes)) ∙ (ap (λ (n : ℕ). n + length (for_outlet Report (note_lines turn.notes))) (length-of_outlet Console (bytes_of turn.out)) ∙ ap (λ (n : ℕ). length (bytes_of turn.out) + n) (length-of_outlet Report (note_lines turn.notes)))
