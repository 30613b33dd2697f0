-- A program that a text means keeps the limits of a file.
use Rattle.std.proofs.Common.{◌≡◌, ℕ, suc, ◌+◌, ◌%◌, ◌<◌, ◌≤◌, List, [], ◌∷◌, ◌++◌, length, Option, Some, None, refl, sym, ap, subst, append_assoc, arith, inl, inr}
use Rattle.std.specs.Prelude.{nat_le, ◌==◌}
use Rattle.std.proofs.lemmas.List.{append-nil}
use Rattle.std.proofs.lemmas.Bool.{cases_Bool}
use Rattle.std.proofs.lemmas.Bool.Decides.{nat_tests}
use Rattle.s2_program.specs.Programs.{PartData, AreAligned, words_in as words_of_parts}
use Rattle.s2_mnemonics.specs.declared.line.Line.{Line}
use Rattle.s2_mnemonics.specs.declared.line.Line.TheVariants.{Org, Entry, Word, Label, Plain, Jump, Branch}
use Rattle.s2_asm.specs.declared.fault.AsmFault.{AsmFault}
use Rattle.s2_asm.specs.TextMeaning.{labels_from, Words, Parts, orgs_in, word_in, words_in, is_placed, word_fault, org_fault, fault_of, NoFault, after_all, addressed}
use Rattle.s2_asm.specs.Building.{views, MeansOnly}
use Rattle.s2_asm.specs.Cutting.{org_in}
use Rattle.s2_asm.proofs.Steps.{orgs_more, words_more, orgs_remark}

-- how many words stand before the next part
abbrev words_before : List (Option Line) → ℕ
words_before [] = 0
words_before (None ∷ said) = words_before said
words_before (Some (Org x) ∷ said) = 0
words_before (Some (Entry x) ∷ said) = words_before said
words_before (Some (Label l) ∷ said) = words_before said
words_before (Some (Word w) ∷ said) = suc (words_before said)
words_before (Some (Plain i) ∷ said) = suc (words_before said)
words_before (Some (Jump link to) ∷ said) = suc (words_before said)
words_before (Some (Branch op s t to) ∷ said) = suc (words_before said)

words_long : (labels : List (List ℕ × ℕ)) (at : ℕ) (said : List (Option Line)) (ws : List (ℕ × ℕ)) → Words labels at said ws → length ws ≡ words_before said
words_long labels at [] ws h = ap (λ (t : List (ℕ × ℕ)). length t) h
words_long labels at (None ∷ said) ws h = words_long labels at said ws h
words_long labels at (Some (Org x) ∷ said) ws h = ap (λ (t : List (ℕ × ℕ)). length t) h
words_long labels at (Some (Entry x) ∷ said) ws h = words_long labels at said ws h
words_long labels at (Some (Label l) ∷ said) ws h = words_long labels at said ws h
words_long labels at (Some (Word v) ∷ said) [] h = absurd h
words_long labels at (Some (Word v) ∷ said) (w ∷ ws) h = ap suc (words_long labels (at + 4) said ws h.2)
words_long labels at (Some (Plain i) ∷ said) [] h = absurd h
words_long labels at (Some (Plain i) ∷ said) (w ∷ ws) h = ap suc (words_long labels (at + 4) said ws h.2)
words_long labels at (Some (Jump link to) ∷ said) [] h = absurd h
words_long labels at (Some (Jump link to) ∷ said) (w ∷ ws) h = ap suc (words_long labels (at + 4) said ws h.2)
words_long labels at (Some (Branch op s t to) ∷ said) [] h = absurd h
words_long labels at (Some (Branch op s t to) ∷ said) (w ∷ ws) h = ap suc (words_long labels (at + 4) said ws h.2)

addressed_long : (at : ℕ) (ws : List ℕ) → length (addressed at ws) ≡ length ws
addressed_long at [] = refl
addressed_long at (w ∷ ws) = ap suc (addressed_long (at + 4) ws)

-- as many parts as .org lines, and as many words as lines give behind the first
parts_count : (labels : List (List ℕ × ℕ)) (said : List (Option Line)) (ps : List PartData) → Parts labels said (views ps) → (length ps ≡ orgs_in said) × (words_of_parts ps + words_before said ≡ words_in said)
parts_count labels [] [] h = (refl, omega arith)
parts_count labels [] (p ∷ ps) h = absurd cc
parts_count labels (None ∷ said) ps h = (let r = parts_count labels said ps h in let b = r.1 in (r.0, omega arith))
parts_count labels (Some (Org x) ∷ said) [] h = absurd h
parts_count labels (Some (Org x) ∷ said) (p ∷ ps) h =
    let r = parts_count labels said ps h.2 in
    let a = r.0 in
    let b = r.1 in
    let l = words_long labels x said (addressed p.at p.words) h.1 in
    let m = addressed_long p.at p.words in
    (omega arith, omega arith)
parts_count labels (Some (Entry x) ∷ said) ps h = (let r = parts_count labels said ps h in let b = r.1 in (r.0, omega arith))
parts_count labels (Some (Label l) ∷ said) ps h = (let r = parts_count labels said ps h in let b = r.1 in (r.0, omega arith))
parts_count labels (Some (Word v) ∷ said) ps h = (let r = parts_count labels said ps h in let b = r.1 in (r.0, omega arith))
parts_count labels (Some (Plain i) ∷ said) ps h = (let r = parts_count labels said ps h in let b = r.1 in (r.0, omega arith))
parts_count labels (Some (Jump link to) ∷ said) ps h = (let r = parts_count labels said ps h in let b = r.1 in (r.0, omega arith))
parts_count labels (Some (Branch op s t to) ∷ said) ps h = (let r = parts_count labels said ps h in let b = r.1 in (r.0, omega arith))

-- the limits of a text without a fault
some_none : (f : AsmFault) → (let o : Option AsmFault = Some f in o) ≡ None → ⊥
some_none f e = cc

org_room : (orgs n x : ℕ) → org_fault orgs n x ≡ None → (orgs < 64) × (x % 4 ≡ 0)
org_room orgs n x e = elim (cases_Bool (nat_le 64 orgs)) [
  | inl many ↦ absurd (some_none _ (rw many at e))
  | inr few ↦ elim (cases_Bool (x % 4 == 0)) [
    | inl even ↦ (grind (arith, nat_tests), grind (arith, nat_tests))
    | inr odd ↦ absurd (some_none _ (rw (few, odd) at e))
  ]
]

word_room : (words n : ℕ) (here : Option ℕ) → word_fault words here n ≡ None → words < 540672
word_room words n here e = elim (cases_Bool (is_placed here)) [
  | inl fine ↦ elim (cases_Bool (nat_le 540672 words)) [
    | inl many ↦ absurd (some_none _ (rw (fine, many) at e))
    | inr few ↦ grind (arith, nat_tests)
  ]
  | inr none ↦ absurd (some_none _ (rw none at e))
]

-- one line more keeps them
step_room : (before : List (Option Line)) (l : Line) → fault_of before (Some l) ≡ None → orgs_in before ≤ 64 → words_in before ≤ 540672 → (orgs_in before + org_in l ≤ 64) × (words_in before + word_in (Some l) ≤ 540672)
step_room before (Org x) e a b = (let r = org_room (orgs_in before) (length before + 1) x e in let k = r.0 in (omega arith, omega arith))
step_room before (Entry x) e a b = (omega arith, omega arith)
step_room before (Label x) e a b = (omega arith, omega arith)
step_room before (Word v) e a b = (let r = word_room (words_in before) (length before + 1) (after_all None before) e in (omega arith, omega arith))
step_room before (Plain i) e a b = (let r = word_room (words_in before) (length before + 1) (after_all None before) e in (omega arith, omega arith))
step_room before (Jump link to) e a b = (let r = word_room (words_in before) (length before + 1) (after_all None before) e in (omega arith, omega arith))
step_room before (Branch op s t to) e a b = (let r = word_room (words_in before) (length before + 1) (after_all None before) e in (omega arith, omega arith))

all_room : (before said : List (Option Line)) → NoFault before said → orgs_in before ≤ 64 → words_in before ≤ 540672 → (orgs_in (before ++ said) ≤ 64) × (words_in (before ++ said) ≤ 540672)
all_room before [] clean a b = (let e = ap orgs_in (append-nil before) in let f = ap words_in (append-nil before) in (omega arith, omega arith))
all_room before (None ∷ said) clean a b =
    let o = orgs_remark before in
    let w = words_more before None in
    let r = all_room (before ++ None ∷ []) said clean.1 (omega arith) (omega arith) in
    subst (λ (t : List (Option Line)). (orgs_in t ≤ 64) × (words_in t ≤ 540672)) (append_assoc before (None ∷ []) said) r
all_room before (Some l ∷ said) clean a b =
    let s = step_room before l clean.0 a b in
    let x = s.0 in
    let y = s.1 in
    let o = orgs_more before l in
    let w = words_more before (Some l) in
    let r = all_room (before ++ Some l ∷ []) said clean.1 (omega arith) (omega arith) in
    subst (λ (t : List (Option Line)). (orgs_in t ≤ 64) × (words_in t ≤ 540672)) (append_assoc before (Some l ∷ []) said) r

-- each part begins at a word
parts_even : (labels : List (List ℕ × ℕ)) (before said : List (Option Line)) (ps : List PartData) → NoFault before said → Parts labels said (views ps) → AreAligned ps
parts_even labels before [] [] clean h = tt
parts_even labels before [] (p ∷ ps) clean h = absurd cc
parts_even labels before (None ∷ said) ps clean h = parts_even labels (before ++ None ∷ []) said ps clean.1 h
parts_even labels before (Some (Org x) ∷ said) [] clean h = absurd h
parts_even labels before (Some (Org x) ∷ said) (p ∷ ps) clean h =
    let r = org_room (orgs_in before) (length before + 1) x clean.0 in
    (subst (λ (k : ℕ). k % 4 ≡ 0) (sym h.0) r.1, parts_even labels (before ++ Some (Org x) ∷ []) said ps clean.1 h.2)
parts_even labels before (Some (Entry x) ∷ said) ps clean h = parts_even labels (before ++ Some (Entry x) ∷ []) said ps clean.1 h
parts_even labels before (Some (Label x) ∷ said) ps clean h = parts_even labels (before ++ Some (Label x) ∷ []) said ps clean.1 h
parts_even labels before (Some (Word v) ∷ said) ps clean h = parts_even labels (before ++ Some (Word v) ∷ []) said ps clean.1 h
parts_even labels before (Some (Plain i) ∷ said) ps clean h = parts_even labels (before ++ Some (Plain i) ∷ []) said ps clean.1 h
parts_even labels before (Some (Jump link to) ∷ said) ps clean h = parts_even labels (before ++ Some (Jump link to) ∷ []) said ps clean.1 h
parts_even labels before (Some (Branch op s t to) ∷ said) ps clean h = parts_even labels (before ++ Some (Branch op s t to) ∷ []) said ps clean.1 h

pub means_fits : (text : List ℕ) (entry : ℕ) (ps : List PartData) → MeansOnly text entry (views ps) → (length ps ≤ 64) × (words_of_parts ps ≤ 540672) × AreAligned ps
means_fits text entry ps m =
    let said = m.means.0 in
    let c = parts_count (labels_from None said) said ps m.means.2 in
    let r = all_room [] said m.clean (omega arith) (omega arith) in
    let a = c.0 in
    let b = c.1 in
    let x = r.0 in
    let y = r.1 in
    (omega arith, omega arith, parts_even (labels_from None said) [] said ps m.clean m.means.2)
