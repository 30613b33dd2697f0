-- One line more: what stands behind it, and what the reader of a line owes.
use Rattle.std.proofs.Common.{◌≡◌, ℕ, suc, ◌+◌, Bool, true, false, List, [], ◌∷◌, ◌++◌, Option, Some, None, Result, Ok, Err, refl, sym, ap, ◌∙◌, subst, append_assoc, arith, ◌⊎◌, inl, inr}
use Rattle.std.specs.Prelude.{OnOk, OnErr, if◌then◌else◌}
use Rattle.std.proofs.lemmas.List.{append-nil}
use Rattle.s2_text.specs.LineTables.{ReadsLine}
use Rattle.s2_mnemonics.specs.declared.line.Line.{Line}
use Rattle.s2_mnemonics.specs.declared.line.Line.TheVariants.{Org, Entry, Word, Label, Plain, Jump, Branch}
use Rattle.s2_mnemonics.specs.TextTable.{text_rows}
use Rattle.s2_asm.specs.declared.fault.AsmFault.TheVariants.{Place, Twice}
use Rattle.s2_asm.specs.declared.fault.AsmFail.{AsmFail}
use Rattle.s2_asm.specs.declared.fault.AsmFail.TheVariants.{Memory}
use Rattle.s2_asm.specs.declared.progress.Progress.{Progress}
use Rattle.s2_asm.specs.TextMeaning.{after, after_all, label_at_line, labels_from, orgs_in, word_in, words_in, is_placed, is_known, fault_by, fault_of}
use Rattle.s2_asm.specs.Cutting.{org_in, Stands, TakesOne, Holds}

pub orgs_more : (said : List (Option Line)) (l : Line) → orgs_in (said ++ Some l ∷ []) ≡ orgs_in said + org_in l
orgs_more [] (Org x) = refl
orgs_more [] (Entry x) = refl
orgs_more [] (Label y) = refl
orgs_more [] (Word w) = refl
orgs_more [] (Plain i) = refl
orgs_more [] (Jump link to) = refl
orgs_more [] (Branch op s t to) = refl
orgs_more (None ∷ said) l = orgs_more said l
orgs_more ((Some (Org x)) ∷ said) l = (let h = orgs_more said l in omega arith)
orgs_more ((Some (Entry x)) ∷ said) l = orgs_more said l
orgs_more ((Some (Label y)) ∷ said) l = orgs_more said l
orgs_more ((Some (Word w)) ∷ said) l = orgs_more said l
orgs_more ((Some (Plain i)) ∷ said) l = orgs_more said l
orgs_more ((Some (Jump link to)) ∷ said) l = orgs_more said l
orgs_more ((Some (Branch op s t to)) ∷ said) l = orgs_more said l

pub orgs_remark : (said : List (Option Line)) → orgs_in (said ++ None ∷ []) ≡ orgs_in said
orgs_remark [] = refl
orgs_remark (None ∷ said) = orgs_remark said
orgs_remark ((Some (Org x)) ∷ said) = ap suc (orgs_remark said)
orgs_remark ((Some (Entry x)) ∷ said) = orgs_remark said
orgs_remark ((Some (Label y)) ∷ said) = orgs_remark said
orgs_remark ((Some (Word w)) ∷ said) = orgs_remark said
orgs_remark ((Some (Plain i)) ∷ said) = orgs_remark said
orgs_remark ((Some (Jump link to)) ∷ said) = orgs_remark said
orgs_remark ((Some (Branch op s t to)) ∷ said) = orgs_remark said

pub words_more : (said : List (Option Line)) (l : Option Line) → words_in (said ++ l ∷ []) ≡ words_in said + word_in l
words_more [] l = omega arith
words_more (x ∷ said) l = (let h = words_more said l in omega arith)

pub after_more : (here : Option ℕ) (said : List (Option Line)) (l : Option Line) → after_all here (said ++ l ∷ []) ≡ after (after_all here said) l
after_more here [] l = refl
after_more here (x ∷ said) l = after_more (after here x) said l

labels_more : (here : Option ℕ) (said : List (Option Line)) (l : Option Line) → labels_from here (said ++ l ∷ []) ≡ labels_from here said ++ label_at_line (after_all here said) l
labels_more here [] l = append-nil (label_at_line here l)
labels_more here (x ∷ said) l =
    ap (λ (t : List (List ℕ × ℕ)). label_at_line here x ++ t) (labels_more (after here x) said l)
    ∙ sym (append_assoc (label_at_line here x) (labels_from (after here x) said) (label_at_line (after_all (after here x) said) l))

-- a remark
no_label : (here : Option ℕ) → label_at_line here None ≡ []
no_label None = refl
no_label (Some a) = refl

stands_remark : (p : Progress) (said : List (Option Line)) → Stands p said → Stands p (said ++ None ∷ [])
stands_remark p said s = record {
  orgs = s.orgs ∙ sym (orgs_remark said);
  words = (let h = words_more said None in let w = s.words in omega arith);
  here = s.here ∙ sym (after_more None said None);
  labels = rw (labels_more None said None, no_label (after_all None said), append-nil (labels_from None said)) s.labels;
}

pub remark_taken : (p : Progress) (line : List ℕ) (n : ℕ) → ReadsLine text_rows line (Ok None) → TakesOne p p line n (Ok tt)
remark_taken p line n reads = record { is = λ said s e. (None, reads, refl, stands_remark p said s) }

-- a line with no fault
twice_place : (placed : Bool) (n : ℕ) → (if placed then Some (Twice n) else Some (Place n)) ≡ None → ⊥
twice_place true n e = cc
twice_place false n e = cc

label_unknown : (here : Option ℕ) (known : Bool) (n : ℕ) (k : Bool) → (if is_placed here then (if known then Some (Twice n) else None) else Some (Place n)) ≡ None → known ≡ k → k ≡ false
label_unknown here true n k clean e = absurd (twice_place (is_placed here) n clean)
label_unknown here false n k clean e = sym e

known_false : (orgs words : ℕ) (here : Option ℕ) (known : Bool) (n : ℕ) (l : Line) (list : List (List ℕ × ℕ)) → fault_by orgs words here known n l ≡ None → known ≡ is_known list l → is_known list l ≡ false
known_false orgs words here known n (Org x) list clean e = refl
known_false orgs words here known n (Entry x) list clean e = refl
known_false orgs words here known n (Label y) list clean e = label_unknown here known n (is_known list (Label y)) clean e
known_false orgs words here known n (Word w) list clean e = refl
known_false orgs words here known n (Plain i) list clean e = refl
known_false orgs words here known n (Jump link to) list clean e = refl
known_false orgs words here known n (Branch op s t to) list clean e = refl

fault_same : (orgs orgs2 words words2 : ℕ) (here here2 : Option ℕ) (known known2 : Bool) (n n2 : ℕ) (l : Line) → orgs ≡ orgs2 → words ≡ words2 → here ≡ here2 → known ≡ known2 → n ≡ n2 → fault_by orgs words here known n l ≡ fault_by orgs2 words2 here2 known2 n2 l
fault_same orgs orgs2 words words2 here here2 known known2 n n2 l a b c d e =
    ap (λ (x : ℕ). fault_by x words here known n l) a
    ∙ (ap (λ (x : ℕ). fault_by orgs2 x here known n l) b
    ∙ (ap (λ (x : Option ℕ). fault_by orgs2 words2 x known n l) c
    ∙ (ap (λ (x : Bool). fault_by orgs2 words2 here2 x n l) d
    ∙ ap (λ (x : ℕ). fault_by orgs2 words2 here2 known2 x l) e)))

-- the line's step, as the code takes it
pub record Step (old new : Progress) (l : Line) : Type 0 where
  pub orgs : new.orgs ≡ old.orgs + org_in l
  pub words : new.words ≡ old.words + word_in (Some l)
  pub here : new.here ≡ after old.here (Some l)
  pub labels : (list : List (List ℕ × ℕ)) → Holds old.labels list → is_known list l ≡ false → Holds new.labels (list ++ label_at_line old.here (Some l))

stands_more : (old new : Progress) (l : Line) (said : List (Option Line)) → Step old new l → Stands old said → is_known (labels_from None said) l ≡ false → Stands new (said ++ Some l ∷ [])
stands_more old new l said step s unknown =
    let list : List (List ℕ × ℕ) = labels_from None said in
    record {
      orgs = (let a = step.orgs in let b = s.orgs in let c = orgs_more said l in omega arith);
      words = (let a = step.words in let b = s.words in let c = words_more said (Some l) in omega arith);
      here = step.here ∙ (ap (λ (h : Option ℕ). after h (Some l)) s.here ∙ sym (after_more None said (Some l)));
      labels =
          let h : Holds new.labels (list ++ label_at_line old.here (Some l)) = step.labels list s.labels unknown in
          let g : Holds new.labels (list ++ label_at_line (after_all None said) (Some l)) = subst (λ (x : Option ℕ). Holds new.labels (list ++ label_at_line x (Some l))) s.here h in
          subst (λ (x : List (List ℕ × ℕ)). Holds new.labels x) (sym (labels_more None said (Some l))) g;
    }

pub line_taken : (old new : Progress) (line : List ℕ) (n : ℕ) (l : Line) (known : Bool) (r : Result (Unit {0}) AsmFail) → ReadsLine text_rows line (Ok (Some l))
    → ((list : List (List ℕ × ℕ)) → Holds old.labels list → known ≡ is_known list l) → fault_by old.orgs old.words old.here known n l ≡ None
    → (r ≡ Ok tt → Step old new l) → (r ≡ Ok tt) ⊎ (r ≡ Err Memory) → TakesOne old new line n r
line_taken old new line n l known r reads same clean step (inr memory) = rw memory (record { is = λ said s e. tt })
line_taken old new line n l known r reads same clean step (inl fine) =
    rw fine (record {
      is = λ said s e.
          let k : known ≡ is_known (labels_from None said) l = same (labels_from None said) s.labels in
          let free : fault_of said (Some l) ≡ None = sym (fault_same _ _ _ _ _ _ _ _ _ _ l s.orgs s.words s.here k e) ∙ clean in
          (Some l, reads, free, stands_more old new l said (step fine) s (known_false old.orgs old.words old.here known n l (labels_from None said) clean k));
    })

pub outcome : (r : Result (Unit {0}) AsmFail) → OnErr r (r ≡ Err Memory) → (r ≡ Ok tt) ⊎ (r ≡ Err Memory)
outcome (Ok u) h = inl refl
outcome (Err e) h = inr h

pub on_ok : (r : Result (Unit {0}) AsmFail) (P : Type 0) → OnOk r P → r ≡ Ok tt → P
on_ok (Ok u) P h e = h
on_ok (Err x) P h e = absurd cc
