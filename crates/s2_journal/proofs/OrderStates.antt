-- The state of the reader behind one line more.
use Rattle.std.proofs.Common.{◌≡◌, ℕ, ◌+◌, max, List, [], ◌∷◌, ◌++◌, refl, sym, ap, ◌∙◌, arith}
use Rattle.s2_journal.specs.declared.note.ReportLine.{ReportLine}
use Rattle.s2_journal.specs.ReportOrder.{closing_of, closing_count, delivery_run, greatest_run, OrderState, order_state}

pub closing_more : (said : List ReportLine) (x : ReportLine) → closing_count (said ++ x ∷ []) ≡ closing_count said + closing_of x
closing_more [] x = omega arith
closing_more (y ∷ said) x = (let h = closing_more said x in omega arith)

pub greatest_more : (said : List ReportLine) (x : ReportLine) → greatest_run (said ++ x ∷ []) ≡ max (delivery_run x) (greatest_run said)
greatest_more [] x = refl
greatest_more (y ∷ said) x = (let h = greatest_more said x in grind arith)

same_state : (s : OrderState) (c l : ℕ) → s.closing ≡ c → s.latest ≡ l → s ≡ record { closing = c; latest = l }
same_state s c l a b = ap (λ (x : ℕ). record { closing = x; latest = s.latest }) a ∙ ap (λ (x : ℕ). record { closing = c; latest = x }) b

pub state_more : (said : List ReportLine) (x : ReportLine) (old new : OrderState) → old ≡ order_state said → new.closing ≡ old.closing + closing_of x → new.latest ≡ max (delivery_run x) old.latest → new ≡ order_state (said ++ x ∷ [])
state_more said x old new is closing latest =
    same_state new (closing_count (said ++ x ∷ [])) (greatest_run (said ++ x ∷ []))
    (closing ∙ (ap (λ (s : OrderState). s.closing + closing_of x) is ∙ sym (closing_more said x)))
    (latest ∙ (ap (λ (s : OrderState). max (delivery_run x) s.latest) is ∙ sym (greatest_more said x)))
