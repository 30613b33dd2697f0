-- The line of a word: it is proper, its target is in reach, and it gives the word.
use Rattle.std.specs.Prelude.{◌≡◌, ℕ, ◌+◌, ◌-◌, ◌*◌, ◌/◌, ◌%◌, ◌^◌, ◌<◌, ◌≤◌, ◌⊎◌, List, [], ◌∷◌, Bool, true, false, ◌==◌, ◌&&◌, ◌||◌, Option, Some, Result, nat_lt, nat_le, if◌then◌else◌}
use Rattle.std.proofs.Common.{refl, sym, ap, subst, arith, inl, inr}
use Rattle.std.proofs.lemmas.Bool.Decides.{nat_tests}
use Rattle.s2_text.proofs.LiteralWords.{cases}
use Rattle.s2_text.specs.declared.stops.BadLine.{BadLine}
use Rattle.s2_text.specs.LineTables.{ReadsLine}
use Rattle.s2_text.proofs.ShortLines.{line_again}
use Rattle.s2_text.specs.LineGrammar.{num, Fits, spelling}
use Rattle.s2_text.specs.LineTables.{SaysIn}
use Rattle.s2_decode.specs.Table.{decoded}
use Rattle.s2_decode.specs.Properness.{IsBranchRegister}
use Rattle.s2_decode.specs.declared.instr.OpB.{OpB}
use Rattle.s2_decode.specs.declared.instr.OpB.TheVariants.{Beq, Bne, Blez, Bgtz, Bltz, Bgez, Bltzal, Bgezal}
use Rattle.s2_decode.specs.declared.instr.Instr.{Instr}
use Rattle.s2_decode.specs.declared.instr.Instr.TheVariants.{Three, Shift, Imm, Lui, MulDiv, MoveFrom, MoveTo, Jump as JumpWord, JumpReg, JumpLinkReg, Branch as BranchWord, Memory, Syscall, Break, Mfc0, Mtc0, Tlbr, Tlbwi, Tlbwr, Tlbp, Rfe, Foreign, Reserved}
use Rattle.s2_mnemonics.specs.declared.line.Target.TheVariants.{Address}
use Rattle.s2_mnemonics.specs.declared.line.Line.{Line}
use Rattle.s2_mnemonics.specs.declared.line.Line.TheVariants.{Word, Plain}
use Rattle.s2_mnemonics.specs.TextTable.{text_rows}
use Rattle.s2_mnemonics.specs.LineWords.{plain_form, plain_values, jump_form, jump_start, branch_form, branch_values, line_text, shown, IsPlain, IsProperLine, HasName, IsWordOf, LineWord, jump_reaches, branch_reaches, InReach, jump_target, branch_target, distance, Shows, IsNamed, Assembles, GivesWord}
use Rattle.s2_mnemonics.proofs.Tables.{text_disjoint, text_no_remarks}
use Rattle.s2_mnemonics.proofs.InTable.{in_table}

shown_plain : (at : ℕ) (i : Instr) → IsPlain i → (shown at i ≡ Plain i) × HasName i
shown_plain at (Three op d s t) h = (refl, tt)
shown_plain at (Shift op d t a) h = (refl, tt)
shown_plain at (Imm op t s v) h = (refl, tt)
shown_plain at (Lui t v) h = (refl, tt)
shown_plain at (MulDiv op s t) h = (refl, tt)
shown_plain at (MoveFrom hi d) h = (refl, tt)
shown_plain at (MoveTo hi s) h = (refl, tt)
shown_plain at (JumpReg s) h = (refl, tt)
shown_plain at (JumpLinkReg d s) h = (refl, tt)
shown_plain at (Memory op t b v) h = (refl, tt)
shown_plain at Syscall h = (refl, tt)
shown_plain at Break h = (refl, tt)
shown_plain at (Mfc0 t n) h = (refl, tt)
shown_plain at (Mtc0 t n) h = (refl, tt)
shown_plain at Tlbr h = (refl, tt)
shown_plain at Tlbwi h = (refl, tt)
shown_plain at Tlbwr h = (refl, tt)
shown_plain at Tlbp h = (refl, tt)
shown_plain at Rfe h = (refl, tt)
shown_plain at (JumpWord link t) h = absurd h
shown_plain at (BranchWord op s t off) h = absurd h
shown_plain at (Foreign unit w) h = absurd h
shown_plain at (Reserved w) h = absurd h

pub plain_shows : (at : ℕ) (i : Instr) (text : List ℕ) → IsPlain i → Fits (plain_form i) (plain_values i) → text ≡ spelling (plain_form i) (plain_values i) → Shows at i text
plain_shows at i text plain fits is =
    let s = shown_plain at i plain in
    record {
      named = s.1;
      is = rw s.0 is;
      proper = rw s.0 (plain, fits);
      reach = λ labels. rw s.0 tt;
      gives = λ w h labels. rw s.0 h;
    }

some_is : (x y : ℕ) → Some x ≡ Some y → x ≡ y
some_is x y e = cc

same_self : (n : ℕ) → (n == n) ≡ true
same_self n = grind (arith, nat_tests)

-- the target of a jump
jump_low : (at t : ℕ) → at % 4 ≡ 0 → t < 2 ^ 26 → jump_target at t / 4 % 2 ^ 26 ≡ t
jump_low at t aligned small = omega arith

jump_aligned : (at t : ℕ) → t < 2 ^ 26 → jump_target at t % 4 ≡ 0
jump_aligned at t small = omega arith

jump_high : (at t : ℕ) → t < 2 ^ 26 → jump_target at t / 2 ^ 28 ≡ (at + 4) % 2 ^ 32 / 2 ^ 28
jump_high at t small = omega arith

jump_in_reach : (at t : ℕ) → t < 2 ^ 26 → jump_reaches at (jump_target at t) ≡ true
jump_in_reach at t small = let a = jump_aligned at t small in let b = jump_high at t small in rw (a, b) (same_self ((at + 4) % 2 ^ 32 / 2 ^ 28))

jump_below : (at t : ℕ) → t < 2 ^ 26 → jump_target at t < 16 ^ 8
jump_below at t small = omega arith

jump_fits : (link : Bool) (at t : ℕ) → t < 2 ^ 26 → Fits (jump_form link (Address (jump_target at t))) (num (jump_target at t) ∷ [])
jump_fits true at t small = (jump_below at t small, tt)
jump_fits false at t small = (jump_below at t small, tt)

pub jump_shows : (at : ℕ) (link : Bool) (t : ℕ) (start text : List ℕ) → at % 4 ≡ 0 → t < 2 ^ 26 → start ≡ jump_start link → text ≡ spelling (jump_form link (Address (jump_target at t))) (num (jump_target at t) ∷ []) → Shows at (JumpWord link t) text
jump_shows at link t start text aligned small begins is = record {
  named = tt;
  is = is;
  proper = (tt, jump_fits link at t small);
  reach = λ labels x e. subst (λ (y : ℕ). jump_reaches at y ≡ true) (some_is (jump_target at t) x e) (jump_in_reach at t small);
  gives = λ w h labels. (jump_target at t, refl, rw (jump_low at t aligned small) h);
}

-- the target of a branch
branch_distance : (at off : ℕ) → at < 2 ^ 32 → off < 65536 → distance at (branch_target at off) ≡ (if nat_lt off 32768 then 4 * off else 4 * off + (2 ^ 32 - 2 ^ 18))
branch_distance at off fits small =
    elim (cases (nat_lt off 32768)) [
      | inl below ↦ (let l : off < 32768 = grind (arith, nat_tests) in rw below (omega arith))
      | inr above ↦ (let l : 32768 ≤ off = grind (arith, nat_tests) in rw above (omega arith))
    ]

branch_low : (at off : ℕ) → at < 2 ^ 32 → off < 65536 → distance at (branch_target at off) / 4 % 65536 ≡ off
branch_low at off fits small =
    rw (branch_distance at off fits small) (elim (cases (nat_lt off 32768)) [
      | inl below ↦ rw below (omega arith)
      | inr above ↦ rw above (omega arith)
    ])

branch_aligned : (at off : ℕ) → at % 4 ≡ 0 → branch_target at off % 4 ≡ 0
branch_aligned at off aligned =
    elim (cases (nat_lt off 32768)) [
      | inl below ↦ rw below (omega arith)
      | inr above ↦ rw above (omega arith)
    ]

branch_near : (at off : ℕ) → at < 2 ^ 32 → off < 65536 → (distance at (branch_target at off) < 131072) ⊎ (2 ^ 32 - 131072 ≤ distance at (branch_target at off))
branch_near at off fits small =
    rw (branch_distance at off fits small) (elim (cases (nat_lt off 32768)) [
      | inl below ↦ (let l : off < 32768 = grind (arith, nat_tests) in rw below (inl (omega arith)))
      | inr above ↦ (let l : 32768 ≤ off = grind (arith, nat_tests) in rw above (inr (omega arith)))
    ])

near : (d x : ℕ) → x % 4 ≡ 0 → (d < 131072) ⊎ (2 ^ 32 - 131072 ≤ d) → ((x % 4 == 0) && (nat_lt d 131072 || nat_le (2 ^ 32 - 131072) d)) ≡ true
near d x even (inl low) = grind (arith, nat_tests)
near d x even (inr high) = grind (arith, nat_tests)

branch_in_reach : (at off : ℕ) → at < 2 ^ 32 → at % 4 ≡ 0 → off < 65536 → branch_reaches at (branch_target at off) ≡ true
branch_in_reach at off fits aligned small = near (distance at (branch_target at off)) (branch_target at off) (branch_aligned at off aligned) (branch_near at off fits small)

branch_below : (at off : ℕ) → branch_target at off < 16 ^ 8
branch_below at off = omega arith

branch_fits : (op : OpB) (s t x : ℕ) → s < 32 → IsBranchRegister op t → x < 16 ^ 8 → Fits (branch_form op (Address x)) (branch_values op s t (Address x))
branch_fits Beq s t x low reg below = ((omega arith, omega arith), ((omega arith, omega arith), (below, tt)))
branch_fits Bne s t x low reg below = ((omega arith, omega arith), ((omega arith, omega arith), (below, tt)))
branch_fits Blez s t x low reg below = ((omega arith, omega arith), (below, tt))
branch_fits Bgtz s t x low reg below = ((omega arith, omega arith), (below, tt))
branch_fits Bltz s t x low reg below = ((omega arith, omega arith), (below, tt))
branch_fits Bgez s t x low reg below = ((omega arith, omega arith), (below, tt))
branch_fits Bltzal s t x low reg below = ((omega arith, omega arith), (below, tt))
branch_fits Bgezal s t x low reg below = ((omega arith, omega arith), (below, tt))

pub branch_shows : (at : ℕ) (op : OpB) (s t off : ℕ) (text : List ℕ) → at < 2 ^ 32 → at % 4 ≡ 0 → off < 65536 → s < 32 → IsBranchRegister op t
    → text ≡ spelling (branch_form op (Address (branch_target at off))) (branch_values op s t (Address (branch_target at off))) → Shows at (BranchWord op s t off) text
branch_shows at op s t off text fits aligned small low reg is = record {
  named = tt;
  is = is;
  proper = (reg, branch_fits op s t (branch_target at off) low reg (branch_below at off));
  reach = λ labels x e. subst (λ (y : ℕ). branch_reaches at y ≡ true) (some_is (branch_target at off) x e) (branch_in_reach at off fits aligned small);
  gives = λ w h labels. (branch_target at off, refl, rw (branch_low at off fits small) h);
}

-- two least words are one
pub one_word : (i : Instr) (v w : ℕ) → IsWordOf i v → IsWordOf i w → v ≡ w
one_word i v w a b = (let p = a.1 w b.0 in let q = b.1 v a.0 in omega arith)

-- the encoder's word is this one, or the word has no name
pub its_word : (w e : ℕ) (i : Instr) → decoded e ≡ i → ((v : ℕ) → decoded v ≡ i → e ≤ v) → e ≡ w → IsWordOf i w
its_word w e i row least same = subst (λ (x : ℕ). IsWordOf i x) same (row, least)

pub no_word : (w e : ℕ) (i : Instr) → i ≡ decoded w → decoded e ≡ i → ((v : ℕ) → decoded v ≡ i → e ≤ v) → (e ≡ w → ⊥) → IsNamed w → ⊥
no_word w e i is row least other named = other (one_word i e w (row, least) (subst (λ (x : Instr). IsWordOf x w) (sym is) named.1))

pub no_name : (w : ℕ) (i : Instr) → i ≡ decoded w → (HasName i → ⊥) → IsNamed w → ⊥
no_name w i is none named = none (subst HasName (sym is) named.0)

-- what is shown is read again
pub again : (at w : ℕ) (l : Line) (text : List ℕ) → text ≡ line_text l → IsProperLine l → ((labels : List (List ℕ × ℕ)) → InReach labels at l × LineWord labels at l w)
    → (r : Result (Option Line) BadLine) → ReadsLine text_rows text r → Assembles at w r
again at w l text is proper gives r reads =
    (l, line_again text_rows text r text_disjoint text_no_remarks reads l (subst (λ (t : List ℕ). SaysIn text_rows l t) (sym is) (in_table l proper)), gives)

pub shown_again : (at w : ℕ) (i : Instr) (text : List ℕ) → Shows at i text → IsWordOf i w → (r : Result (Option Line) BadLine) → ReadsLine text_rows text r → Assembles at w r
shown_again at w i text s h = again at w (shown at i) text s.is s.proper (λ labels. (s.reach labels, s.gives w h labels))

pub word_again : (at w : ℕ) (text : List ℕ) → w < 2 ^ 32 → text ≡ line_text (Word w) → (r : Result (Option Line) BadLine) → ReadsLine text_rows text r → Assembles at w r
word_again at w text fits is = again at w (Word w) text is (tt, (omega arith, tt)) (λ labels. (tt, refl))

-- the line of a word gives it
pub word_gives : (at w : ℕ) → w < 2 ^ 32 → (IsNamed w → ⊥) → GivesWord at w (Word w)
word_gives at w fits other = record { is = inr (other, refl); proper = (tt, (omega arith, tt)); reach = λ labels. tt; gives = λ labels. refl }

pub shown_gives : (at w : ℕ) (i : Instr) (text : List ℕ) → i ≡ decoded w → Shows at i text → IsWordOf i w → GivesWord at w (shown at i)
shown_gives at w i text row s h = record {
  is = inl ((subst HasName row s.named, subst (λ (x : Instr). IsWordOf x w) row h), ap (λ (x : Instr). shown at x) row);
  proper = s.proper;
  reach = s.reach;
  gives = s.gives w h;
}

pub ruleset shows = (plain_shows, jump_shows, branch_shows)
