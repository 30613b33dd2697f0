-- Lines that follow in the order of a report, all four closing lines among them, have the form of a report.
use Rattle.std.proofs.Common.{◌≡◌, ℕ, ◌+◌, ◌≤◌, false, List, [], ◌∷◌, ◌++◌, None, refl, ap, ◌∙◌, subst, arith, inl, inr}
use Rattle.std.specs.Prelude.{◌==◌, nat_lt, bytes_eq}
use Rattle.std.proofs.lemmas.Bool.Decides.{nat_tests}
use Rattle.s2_text.proofs.LiteralWords.{cases}
use Rattle.s2_journal.specs.declared.note.ReportLine.{ReportLine}
use Rattle.s2_journal.specs.declared.note.ReportLine.TheVariants.{Delivery, Other, Runs, Ticks, Bytes, End as Ending}
use Rattle.s2_journal.specs.ReportOrder.{place_of, closing_of, closing_count, delivery_run, greatest_run, falls_back, is_too_few, end_report, OrderState, order_state, order_fault, Follow, IsReport, RunsOnward, HasReportForm}
use Rattle.s2_journal.proofs.OrderStates.{closing_more, greatest_more}

-- what a line that is in order has
pub record InOrder (before : List ReportLine) (x : ReportLine) : Type 0 where
  pub place : closing_count before ≡ place_of x
  pub onward : falls_back (greatest_run before) x ≡ false
  pub enough : is_too_few (greatest_run before) x ≡ false

pub in_order : (before : List ReportLine) (line : List ℕ) (x : ReportLine) → order_fault (order_state before) line x ≡ None → InOrder before x
in_order before line x e =
    elim (cases (closing_count before == place_of x)) [
      | inr other ↦ absurd (let f = rw other at e in cc)
      | inl here ↦ elim (cases (bytes_eq line end_report)) [
        | inl report ↦ absurd (let f = rw (here, report) at e in cc)
        | inr single ↦ elim (cases (falls_back (greatest_run before) x)) [
          | inl back ↦ absurd (let f = rw (here, single, back) at e in cc)
          | inr on ↦ elim (cases (is_too_few (greatest_run before) x)) [
            | inl few ↦ absurd (let f = rw (here, single, on, few) at e in cc)
            | inr enough ↦ record { place = grind (arith, nat_tests); onward = on; enough = enough }
          ]
        ]
      ]
    ]

-- a line that is in order is of the sort that may stand there
pub in_place : (state : OrderState) (line : List ℕ) (x : ReportLine) → order_fault state line x ≡ None → state.closing ≡ place_of x
in_place state line x e =
    elim (cases (state.closing == place_of x)) [
      | inl here ↦ grind (arith, nat_tests)
      | inr other ↦ absurd (let f = rw other at e in cc)
    ]

-- behind all four closing lines stands no line
over : (before : List ReportLine) (lines : List (List ℕ)) (said : List ReportLine) → closing_count before ≡ 4 → Follow before lines said → said ≡ []
over before [] [] all follow = refl
over before [] (x ∷ said) all follow = absurd follow
over before (line ∷ lines) [] all follow = absurd follow
over before (line ∷ lines) (Delivery run event ∷ said) all follow = (let o = in_order before line (Delivery run event) follow.0.1 in let p = o.place in absurd (omega arith))
over before (line ∷ lines) (Other ∷ said) all follow = (let o = in_order before line Other follow.0.1 in let p = o.place in absurd (omega arith))
over before (line ∷ lines) (Runs n ∷ said) all follow = (let o = in_order before line (Runs n) follow.0.1 in let p = o.place in absurd (omega arith))
over before (line ∷ lines) (Ticks ∷ said) all follow = (let o = in_order before line Ticks follow.0.1 in let p = o.place in absurd (omega arith))
over before (line ∷ lines) (Bytes ∷ said) all follow = (let o = in_order before line Bytes follow.0.1 in let p = o.place in absurd (omega arith))
over before (line ∷ lines) (Ending ∷ said) all follow = (let o = in_order before line Ending follow.0.1 in let p = o.place in absurd (omega arith))

-- behind three of them stands the end line
ending : (before : List ReportLine) (lines : List (List ℕ)) (said : List ReportLine) → closing_count before ≡ 3 → closing_count before + closing_count said ≡ 4 → Follow before lines said → said ≡ Ending ∷ []
ending before [] [] three all follow = absurd (omega arith)
ending before [] (x ∷ said) three all follow = absurd follow
ending before (line ∷ lines) [] three all follow = absurd follow
ending before (line ∷ lines) (Delivery run event ∷ said) three all follow = (let o = in_order before line (Delivery run event) follow.0.1 in let p = o.place in absurd (omega arith))
ending before (line ∷ lines) (Other ∷ said) three all follow = (let o = in_order before line Other follow.0.1 in let p = o.place in absurd (omega arith))
ending before (line ∷ lines) (Runs n ∷ said) three all follow = (let o = in_order before line (Runs n) follow.0.1 in let p = o.place in absurd (omega arith))
ending before (line ∷ lines) (Ticks ∷ said) three all follow = (let o = in_order before line Ticks follow.0.1 in let p = o.place in absurd (omega arith))
ending before (line ∷ lines) (Bytes ∷ said) three all follow = (let o = in_order before line Bytes follow.0.1 in let p = o.place in absurd (omega arith))
ending before (line ∷ lines) (Ending ∷ said) three all follow =
    ap (λ (s : List ReportLine). Ending ∷ s) (over (before ++ Ending ∷ []) lines said (closing_more before Ending ∙ omega arith) follow.1)

-- behind two of them `bytes` and the end line
bytes_on : (before : List ReportLine) (lines : List (List ℕ)) (said : List ReportLine) → closing_count before ≡ 2 → closing_count before + closing_count said ≡ 4 → Follow before lines said → said ≡ Bytes ∷ Ending ∷ []
bytes_on before [] [] two all follow = absurd (omega arith)
bytes_on before [] (x ∷ said) two all follow = absurd follow
bytes_on before (line ∷ lines) [] two all follow = absurd follow
bytes_on before (line ∷ lines) (Delivery run event ∷ said) two all follow = (let o = in_order before line (Delivery run event) follow.0.1 in let p = o.place in absurd (omega arith))
bytes_on before (line ∷ lines) (Other ∷ said) two all follow = (let o = in_order before line Other follow.0.1 in let p = o.place in absurd (omega arith))
bytes_on before (line ∷ lines) (Runs n ∷ said) two all follow = (let o = in_order before line (Runs n) follow.0.1 in let p = o.place in absurd (omega arith))
bytes_on before (line ∷ lines) (Ticks ∷ said) two all follow = (let o = in_order before line Ticks follow.0.1 in let p = o.place in absurd (omega arith))
bytes_on before (line ∷ lines) (Ending ∷ said) two all follow = (let o = in_order before line Ending follow.0.1 in let p = o.place in absurd (omega arith))
bytes_on before (line ∷ lines) (Bytes ∷ said) two all follow =
    let more = closing_more before Bytes in
    ap (λ (s : List ReportLine). Bytes ∷ s) (ending (before ++ Bytes ∷ []) lines said (omega arith) (omega arith) follow.1)

-- behind one of them `ticks`, `bytes` and the end line
ticks_on : (before : List ReportLine) (lines : List (List ℕ)) (said : List ReportLine) → closing_count before ≡ 1 → closing_count before + closing_count said ≡ 4 → Follow before lines said → said ≡ Ticks ∷ Bytes ∷ Ending ∷ []
ticks_on before [] [] one all follow = absurd (omega arith)
ticks_on before [] (x ∷ said) one all follow = absurd follow
ticks_on before (line ∷ lines) [] one all follow = absurd follow
ticks_on before (line ∷ lines) (Delivery run event ∷ said) one all follow = (let o = in_order before line (Delivery run event) follow.0.1 in let p = o.place in absurd (omega arith))
ticks_on before (line ∷ lines) (Other ∷ said) one all follow = (let o = in_order before line Other follow.0.1 in let p = o.place in absurd (omega arith))
ticks_on before (line ∷ lines) (Runs n ∷ said) one all follow = (let o = in_order before line (Runs n) follow.0.1 in let p = o.place in absurd (omega arith))
ticks_on before (line ∷ lines) (Bytes ∷ said) one all follow = (let o = in_order before line Bytes follow.0.1 in let p = o.place in absurd (omega arith))
ticks_on before (line ∷ lines) (Ending ∷ said) one all follow = (let o = in_order before line Ending follow.0.1 in let p = o.place in absurd (omega arith))
ticks_on before (line ∷ lines) (Ticks ∷ said) one all follow =
    let more = closing_more before Ticks in
    ap (λ (s : List ReportLine). Ticks ∷ s) (bytes_on (before ++ Ticks ∷ []) lines said (omega arith) (omega arith) follow.1)

-- notes, and then the four
record Parts (said : List ReportLine) : Type 0 where
  notes : List ReportLine
  n : ℕ
  are_notes : closing_count notes ≡ 0
  is : said ≡ notes ++ Runs n ∷ Ticks ∷ Bytes ∷ Ending ∷ []

note_more : (x : ReportLine) (said : List ReportLine) → closing_of x ≡ 0 → Parts said → Parts (x ∷ said)
note_more x said note p = (let none = p.are_notes in record { notes = x ∷ p.notes; n = p.n; are_notes = omega arith; is = ap (λ (s : List ReportLine). x ∷ s) p.is })

parts : (before : List ReportLine) (lines : List (List ℕ)) (said : List ReportLine) → closing_count before ≡ 0 → closing_count before + closing_count said ≡ 4 → Follow before lines said → Parts said
parts before [] [] none all follow = absurd (omega arith)
parts before [] (x ∷ said) none all follow = absurd follow
parts before (line ∷ lines) [] none all follow = absurd follow
parts before (line ∷ lines) (Delivery run event ∷ said) none all follow =
    let more = closing_more before (Delivery run event) in
    note_more (Delivery run event) said refl (parts (before ++ Delivery run event ∷ []) lines said (omega arith) (omega arith) follow.1)
parts before (line ∷ lines) (Other ∷ said) none all follow =
    let more = closing_more before Other in
    note_more Other said refl (parts (before ++ Other ∷ []) lines said (omega arith) (omega arith) follow.1)
parts before (line ∷ lines) (Runs n ∷ said) none all follow =
    let more = closing_more before (Runs n) in
    record { notes = []; n = n; are_notes = refl; is = ap (λ (s : List ReportLine). Runs n ∷ s) (ticks_on (before ++ Runs n ∷ []) lines said (omega arith) (omega arith) follow.1) }
parts before (line ∷ lines) (Ticks ∷ said) none all follow = (let o = in_order before line Ticks follow.0.1 in let p = o.place in absurd (omega arith))
parts before (line ∷ lines) (Bytes ∷ said) none all follow = (let o = in_order before line Bytes follow.0.1 in let p = o.place in absurd (omega arith))
parts before (line ∷ lines) (Ending ∷ said) none all follow = (let o = in_order before line Ending follow.0.1 in let p = o.place in absurd (omega arith))

-- no line falls back
same_greatest : (before : List ReportLine) (x : ReportLine) → delivery_run x ≡ 0 → greatest_run (before ++ x ∷ []) ≡ greatest_run before
same_greatest before x none = greatest_more before x ∙ (rw none (grind arith))

onward : (before : List ReportLine) (lines : List (List ℕ)) (said : List ReportLine) → Follow before lines said → RunsOnward (greatest_run before) said
onward before [] [] follow = tt
onward before [] (x ∷ said) follow = absurd follow
onward before (line ∷ lines) [] follow = tt
onward before (line ∷ lines) (Delivery run event ∷ said) follow =
    let o = in_order before line (Delivery run event) follow.0.1 in
    let test : nat_lt run (greatest_run before) ≡ false = o.onward in
    let least : greatest_run before ≤ run = grind (arith, nat_tests) in
    let now : greatest_run (before ++ Delivery run event ∷ []) ≡ run = greatest_more before (Delivery run event) ∙ grind (arith, nat_tests) in
    (least, subst (λ (r : ℕ). RunsOnward r said) now (onward (before ++ Delivery run event ∷ []) lines said follow.1))
onward before (line ∷ lines) (Runs n ∷ said) follow =
    let o = in_order before line (Runs n) follow.0.1 in
    let test : nat_lt n (greatest_run before) ≡ false = o.enough in
    let least : greatest_run before ≤ n = grind (arith, nat_tests) in
    (least, subst (λ (r : ℕ). RunsOnward r said) (same_greatest before (Runs n) refl) (onward (before ++ Runs n ∷ []) lines said follow.1))
onward before (line ∷ lines) (Other ∷ said) follow = subst (λ (r : ℕ). RunsOnward r said) (same_greatest before Other refl) (onward (before ++ Other ∷ []) lines said follow.1)
onward before (line ∷ lines) (Ticks ∷ said) follow = subst (λ (r : ℕ). RunsOnward r said) (same_greatest before Ticks refl) (onward (before ++ Ticks ∷ []) lines said follow.1)
onward before (line ∷ lines) (Bytes ∷ said) follow = subst (λ (r : ℕ). RunsOnward r said) (same_greatest before Bytes refl) (onward (before ++ Bytes ∷ []) lines said follow.1)
onward before (line ∷ lines) (Ending ∷ said) follow = subst (λ (r : ℕ). RunsOnward r said) (same_greatest before Ending refl) (onward (before ++ Ending ∷ []) lines said follow.1)

pub report_form : (lines : List (List ℕ)) (said : List ReportLine) → IsReport lines said → HasReportForm said
report_form lines said r =
    let all = r.whole in
    let p = parts [] lines said refl (omega arith) r.order in
    record { notes = p.notes; n = p.n; are_notes = p.are_notes; is = p.is; onward = onward [] lines said r.order }
