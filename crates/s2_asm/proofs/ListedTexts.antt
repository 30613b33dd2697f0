-- A text that lists a program assembles to it.
use Rattle.std.proofs.Common.{◌≡◌, ℕ, ◌+◌, ◌*◌, ◌/◌, ◌%◌, ◌^◌, ◌<◌, ◌≤◌, Bool, true, false, List, [], ◌∷◌, ◌++◌, length, Option, Some, None, refl, sym, ap, ◌∙◌, subst, append_assoc, arith}
use Rattle.std.specs.Prelude.{nat_lt, nat_le}
use Rattle.std.proofs.lemmas.List.{append-nil}
use Rattle.std.proofs.lemmas.Bool.Decides.{nat_tests}
use Rattle.s2_text.proofs.DisjointForms.{says_text}
use Rattle.s2_text.specs.LineTables.{SaysIn}
use Rattle.s2_program.specs.Programs.{PartData}
use Rattle.s2_decode.specs.declared.instr.OpB.{OpB}
use Rattle.s2_decode.specs.declared.instr.Instr.TheVariants.{Jump as JumpWord, Branch as BranchWord}
use Rattle.s2_mnemonics.specs.declared.line.Target.{Target}
use Rattle.s2_mnemonics.specs.declared.line.Target.TheVariants.{Address, Label as Named}
use Rattle.s2_mnemonics.specs.declared.line.Line.{Line}
use Rattle.s2_mnemonics.specs.declared.line.Line.TheVariants.{Org, Entry, Word, Label, Plain, Jump, Branch}
use Rattle.s2_mnemonics.specs.TextTable.{text_rows}
use Rattle.s2_mnemonics.specs.LineWords.{line_text, IsProperLine, IsWordOf, LineWord, distance, GivesWord}
use Rattle.s2_mnemonics.proofs.InTable.{in_table}
use Rattle.s2_mnemonics.proofs.LineLaws.{one_word}
use Rattle.s2_asm.specs.TextMeaning.{text_lines, Say, after, after_all, four_on, Words, Parts, entry_after, word_in, words_in, word_fault, fault_of, NoFault, addressed}
use Rattle.s2_asm.specs.LineFaults.{IsWritten}
use Rattle.s2_asm.specs.Building.{view_part, views}
use Rattle.s2_asm.specs.Listings.{ListsWords, ListsParts, written}
use Rattle.s2_text.proofs.PlainTexts.{first_text}
use Rattle.s2_asm.proofs.TableTexts.{line_plain}
use Rattle.s2_asm.proofs.Steps.{words_more, after_more}
use Rattle.s2_asm.specs.Cutting.{org_in}

-- what the lines say
abbrev pub somes : List Line → List (Option Line)
somes [] = []
somes (l ∷ ls) = Some l ∷ somes ls

pub somes_append : (xs ys : List Line) → somes (xs ++ ys) ≡ somes xs ++ somes ys
somes_append [] ys = refl
somes_append (x ∷ xs) ys = ap (λ (t : List (Option Line)). Some x ∷ t) (somes_append xs ys)

abbrev pub AreProper : List Line → Type 0
AreProper [] = Unit {0}
AreProper (l ∷ ls) = IsProperLine l × AreProper ls

-- the text says its lines
pub says_written : (ls : List Line) → AreProper ls → Say (text_lines (written ls)) (somes ls)
says_written [] proper = tt
says_written (l ∷ ls) proper =
    let says : SaysIn text_rows l (line_text l) = in_table l proper.0 in
    let first = first_text (line_text l) (written ls) (line_plain (line_text l) (says_text text_rows l (line_text l) says)) in
    subst (λ (t : List (List ℕ)). Say t (somes (l ∷ ls))) (sym first) (says, says_written ls proper.1)

-- ---- lines of words

-- such a line gives a word
gives_written : (labels : List (List ℕ × ℕ)) (at w : ℕ) (l : Line) → LineWord labels at l w → IsWritten l
gives_written labels at w (Org y) g = absurd g
gives_written labels at w (Entry y) g = absurd g
gives_written labels at w (Label y) g = absurd g
gives_written labels at w (Word v) g = tt
gives_written labels at w (Plain i) g = tt
gives_written labels at w (Jump link to) g = tt
gives_written labels at w (Branch op s t to) g = tt

pub written_word : (at w : ℕ) (l : Line) → GivesWord at w l → IsWritten l
written_word at w l g = gives_written [] at w l (g.gives [])

-- and it gives one word
pub one_place : (o : Option ℕ) (x y : ℕ) → o ≡ Some x → o ≡ Some y → x ≡ y
one_place o x y a b = cc

jump_once : (labels : List (List ℕ × ℕ)) (at v w : ℕ) (link : Bool) (to : Target) → LineWord labels at (Jump link to) v → LineWord [] at (Jump link to) w → v ≡ w
jump_once labels at v w link (Address x) a b = (let e : a.0 ≡ b.0 = one_place (Some x) a.0 b.0 a.1 b.1 in one_word _ v w a.2 (subst (λ (y : ℕ). IsWordOf (JumpWord link (y / 4 % 2 ^ 26)) w) (sym e) b.2))
jump_once labels at v w link (Named l) a b = absurd (let e = b.1 in cc)

branch_once : (labels : List (List ℕ × ℕ)) (at v w : ℕ) (op : OpB) (s t : ℕ) (to : Target) → LineWord labels at (Branch op s t to) v → LineWord [] at (Branch op s t to) w → v ≡ w
branch_once labels at v w op s t (Address x) a b = (let e : a.0 ≡ b.0 = one_place (Some x) a.0 b.0 a.1 b.1 in one_word _ v w a.2 (subst (λ (y : ℕ). IsWordOf (BranchWord op s t (distance at y / 4 % 65536)) w) (sym e) b.2))
branch_once labels at v w op s t (Named l) a b = absurd (let e = b.1 in cc)

one_line_word : (labels : List (List ℕ × ℕ)) (at v w : ℕ) (l : Line) → LineWord labels at l v → LineWord [] at l w → v ≡ w
one_line_word labels at v w (Org y) a b = absurd a
one_line_word labels at v w (Entry y) a b = absurd a
one_line_word labels at v w (Label y) a b = absurd a
one_line_word labels at v w (Word u) a b = a ∙ sym b
one_line_word labels at v w (Plain i) a b = one_word i v w a b
one_line_word labels at v w (Jump link to) a b = jump_once labels at v w link to a b
one_line_word labels at v w (Branch op s t to) a b = branch_once labels at v w op s t to a b

-- ---- the parts that lines give

abbrev BeginsPart : List (Option Line) → Type 0
BeginsPart [] = Unit {0}
BeginsPart (Some (Org x) ∷ said) = Unit {0}
BeginsPart (l ∷ said) = ⊥

-- no words stand before a part begins
no_words : (labels : List (List ℕ × ℕ)) (at : ℕ) (said : List (Option Line)) (ws : List (ℕ × ℕ)) → BeginsPart said → Words labels at said ws → ws ≡ []
no_words labels at [] ws begins words = words
no_words labels at (None ∷ said) ws begins words = absurd begins
no_words labels at (Some (Org x) ∷ said) ws begins words = words
no_words labels at (Some (Entry x) ∷ said) ws begins words = absurd begins
no_words labels at (Some (Label x) ∷ said) ws begins words = absurd begins
no_words labels at (Some (Word v) ∷ said) ws begins words = absurd begins
no_words labels at (Some (Plain i) ∷ said) ws begins words = absurd begins
no_words labels at (Some (Jump link to) ∷ said) ws begins words = absurd begins
no_words labels at (Some (Branch op s t to) ∷ said) ws begins words = absurd begins

-- the first word, and the others
pub record FirstWord (labels : List (List ℕ × ℕ)) (at : ℕ) (l : Line) (said : List (Option Line)) (ws : List (ℕ × ℕ)) : Type 0 where
  pub first : ℕ × ℕ
  pub others : List (ℕ × ℕ)
  pub is : ws ≡ first ∷ others
  pub place : first.0 ≡ at
  pub gives : LineWord labels at l first.1
  pub on : Words labels (at + 4) said others

pub first_word : (labels : List (List ℕ × ℕ)) (at : ℕ) (l : Line) (said : List (Option Line)) (ws : List (ℕ × ℕ)) → IsWritten l → Words labels at (Some l ∷ said) ws → FirstWord labels at l said ws
first_word labels at (Org y) said ws written words = absurd written
first_word labels at (Entry y) said ws written words = absurd written
first_word labels at (Label y) said ws written words = absurd written
first_word labels at (Word v) said [] written words = absurd words
first_word labels at (Word v) said (w ∷ ws) written words = record { first = w; others = ws; is = refl; place = words.0; gives = words.1; on = words.2 }
first_word labels at (Plain i) said [] written words = absurd words
first_word labels at (Plain i) said (w ∷ ws) written words = record { first = w; others = ws; is = refl; place = words.0; gives = words.1; on = words.2 }
first_word labels at (Jump link to) said [] written words = absurd words
first_word labels at (Jump link to) said (w ∷ ws) written words = record { first = w; others = ws; is = refl; place = words.0; gives = words.1; on = words.2 }
first_word labels at (Branch op s t to) said [] written words = absurd words
first_word labels at (Branch op s t to) said (w ∷ ws) written words = record { first = w; others = ws; is = refl; place = words.0; gives = words.1; on = words.2 }

words_are : (labels : List (List ℕ × ℕ)) (at : ℕ) (ws : List ℕ) (ls : List Line) (rest : List (Option Line)) (vs : List (ℕ × ℕ)) → ListsWords at ws ls → BeginsPart rest → Words labels at (somes ls ++ rest) vs → vs ≡ addressed at ws
words_are labels at [] [] rest vs lists begins words = no_words labels at rest vs begins words
words_are labels at [] (l ∷ ls) rest vs lists begins words = absurd lists
words_are labels at (w ∷ ws) [] rest vs lists begins words = absurd lists
words_are labels at (w ∷ ws) (l ∷ ls) rest vs lists begins words =
    let f = first_word labels at l (somes ls ++ rest) vs (written_word at w l lists.0) words in
    let more = words_are labels (at + 4) ws ls rest f.others lists.1 begins f.on in
    let one = one_line_word labels at f.first.1 w l f.gives (lists.0.gives []) in
    let first : f.first ≡ (at, w) = ap (λ (x : ℕ). (x, f.first.1)) f.place ∙ ap (λ (x : ℕ). (at, x)) one in
    f.is ∙ (ap (λ (x : ℕ × ℕ). x ∷ f.others) first ∙ ap (λ (x : List (ℕ × ℕ)). (at, w) ∷ x) more)

-- lines of words begin no part
pub skip_word : (labels : List (List ℕ × ℕ)) (l : Line) (said : List (Option Line)) (parts : List (ℕ × List (ℕ × ℕ))) → IsWritten l → Parts labels (Some l ∷ said) parts → Parts labels said parts
skip_word labels (Org y) said parts written is = absurd written
skip_word labels (Entry y) said parts written is = absurd written
skip_word labels (Label y) said parts written is = absurd written
skip_word labels (Word v) said parts written is = is
skip_word labels (Plain i) said parts written is = is
skip_word labels (Jump link to) said parts written is = is
skip_word labels (Branch op s t to) said parts written is = is

skip_words : (labels : List (List ℕ × ℕ)) (at : ℕ) (ws : List ℕ) (ls : List Line) (rest : List (Option Line)) (parts : List (ℕ × List (ℕ × ℕ))) → ListsWords at ws ls → Parts labels (somes ls ++ rest) parts → Parts labels rest parts
skip_words labels at [] [] rest parts lists is = is
skip_words labels at [] (l ∷ ls) rest parts lists is = absurd lists
skip_words labels at (w ∷ ws) [] rest parts lists is = absurd lists
skip_words labels at (w ∷ ws) (l ∷ ls) rest parts lists is = skip_words labels (at + 4) ws ls rest parts lists.1 (skip_word labels l (somes ls ++ rest) parts (written_word at w l lists.0) is)

begins_parts : (ps : List PartData) (ls : List Line) → ListsParts ps ls → BeginsPart (somes ls)
begins_parts [] ls lists = rw lists tt
begins_parts (p ∷ ps) ls lists = rw lists.2 tt

parts_by : (labels : List (List ℕ × ℕ)) (p : PartData) (ps : List PartData) (words others : List Line) (parts : List (ℕ × List (ℕ × ℕ))) → ListsWords p.at p.words words → ListsParts ps others
    → ((rest : List (ℕ × List (ℕ × ℕ))) → Parts labels (somes others) rest → rest ≡ views ps)
    → Parts labels (Some (Org p.at) ∷ (somes words ++ somes others)) parts → parts ≡ views (p ∷ ps)
parts_by labels p ps words others [] lists more on is = absurd is
parts_by labels p ps words others (part ∷ parts) lists more on is =
    let begins = begins_parts ps others more in
    let here : part.1 ≡ addressed p.at p.words = words_are labels p.at p.words words (somes others) part.1 lists begins is.1 in
    let rest : parts ≡ views ps = on parts (skip_words labels p.at p.words words (somes others) parts lists is.2) in
    let first : part ≡ view_part p = ap (λ (x : ℕ). (x, part.1)) is.0 ∙ ap (λ (x : List (ℕ × ℕ)). (p.at, x)) here in
    ap (λ (x : ℕ × List (ℕ × ℕ)). x ∷ parts) first ∙ ap (λ (x : List (ℕ × List (ℕ × ℕ))). view_part p ∷ x) rest

pub parts_are : (labels : List (List ℕ × ℕ)) (ps : List PartData) (ls : List Line) (parts : List (ℕ × List (ℕ × ℕ))) → ListsParts ps ls → Parts labels (somes ls) parts → parts ≡ views ps
parts_are labels [] ls parts lists is = (let e : Parts labels [] parts = subst (λ (t : List Line). Parts labels (somes t) parts) lists is in e)
parts_are labels (p ∷ ps) ls parts (words, others, same, lists, more) is =
    parts_by labels p ps words others parts lists more (λ rest h. parts_are labels ps others rest more h)
    (subst (λ (t : List (Option Line)). Parts labels (Some (Org p.at) ∷ t) parts) (somes_append words others) (subst (λ (t : List Line). Parts labels (somes t) parts) same is))

-- parts that look alike are alike
pair_first : (x y : ℕ × List (ℕ × ℕ)) → x ≡ y → x.0 ≡ y.0
pair_first x y e = ap (λ (z : ℕ × List (ℕ × ℕ)). z.0) e

heads : {A : Type 0} (x y : A) (xs ys : List A) → x ∷ xs ≡ y ∷ ys → x ≡ y
heads x y xs ys e = cc

tails : {A : Type 0} (x y : A) (xs ys : List A) → x ∷ xs ≡ y ∷ ys → xs ≡ ys
tails x y xs ys e = cc

same_words : (at : ℕ) (vs ws : List ℕ) → addressed at vs ≡ addressed at ws → vs ≡ ws
same_words at [] [] e = refl
same_words at [] (w ∷ ws) e = absurd cc
same_words at (v ∷ vs) [] e = absurd cc
same_words at (v ∷ vs) (w ∷ ws) e =
    let h : v ≡ w = ap (λ (x : ℕ × ℕ). x.1) (heads (at, v) (at, w) (addressed (at + 4) vs) (addressed (at + 4) ws) e) in
    let t = same_words (at + 4) vs ws (tails (at, v) (at, w) (addressed (at + 4) vs) (addressed (at + 4) ws) e) in
    ap (λ (x : ℕ). x ∷ vs) h ∙ ap (λ (x : List ℕ). w ∷ x) t

made_part : (a b : ℕ) (v w : List ℕ) → a ≡ b → v ≡ w → (let p : PartData = record { at = a; words = v } in p) ≡ record { at = b; words = w }
made_part a b v w x y = cc

same_part : (p q : PartData) → view_part p ≡ view_part q → p ≡ q
same_part p q e =
    let at : p.at ≡ q.at = pair_first (view_part p) (view_part q) e in
    let words : addressed p.at p.words ≡ addressed q.at q.words = ap (λ (z : ℕ × List (ℕ × ℕ)). z.1) e in
    made_part p.at q.at p.words q.words at (same_words p.at p.words q.words (words ∙ ap (λ (x : ℕ). addressed x q.words) (sym at)))

pub same_parts : (ps qs : List PartData) → views ps ≡ views qs → ps ≡ qs
same_parts [] [] e = refl
same_parts [] (q ∷ qs) e = absurd cc
same_parts (p ∷ ps) [] e = absurd cc
same_parts (p ∷ ps) (q ∷ qs) e =
    let h = same_part p q (heads (view_part p) (view_part q) (views ps) (views qs) e) in
    let t = same_parts ps qs (tails (view_part p) (view_part q) (views ps) (views qs) e) in
    ap (λ (x : PartData). x ∷ ps) h ∙ ap (λ (x : List PartData). q ∷ x) t

-- ---- the entry

pub no_entry_word : (e at w : ℕ) (l : Line) (said : List (Option Line)) → IsWritten l → entry_after e (Some l ∷ said) ≡ entry_after e said
no_entry_word e at w (Org y) said written = absurd written
no_entry_word e at w (Entry y) said written = absurd written
no_entry_word e at w (Label y) said written = absurd written
no_entry_word e at w (Word v) said written = refl
no_entry_word e at w (Plain i) said written = refl
no_entry_word e at w (Jump link to) said written = refl
no_entry_word e at w (Branch op s t to) said written = refl

no_entry_words : (e at : ℕ) (ws : List ℕ) (ls : List Line) (rest : List (Option Line)) → ListsWords at ws ls → entry_after e (somes ls ++ rest) ≡ entry_after e rest
no_entry_words e at [] [] rest lists = refl
no_entry_words e at [] (l ∷ ls) rest lists = absurd lists
no_entry_words e at (w ∷ ws) [] rest lists = absurd lists
no_entry_words e at (w ∷ ws) (l ∷ ls) rest lists = no_entry_word e at w l (somes ls ++ rest) (written_word at w l lists.0) ∙ no_entry_words e (at + 4) ws ls rest lists.1

pub no_entry : (e : ℕ) (ps : List PartData) (ls : List Line) → ListsParts ps ls → entry_after e (somes ls) ≡ e
no_entry e [] ls lists = rw lists refl
no_entry e (p ∷ ps) ls (words, others, same, lists, more) =
    ap (λ (t : List Line). entry_after e (somes t)) same ∙ (ap (λ (t : List (Option Line)). entry_after e t) (somes_append words others)
    ∙ (no_entry_words e p.at p.words words (somes others) lists ∙ no_entry e ps others more))

-- ---- no faults in the first pass

fault_of_written : (before : List (Option Line)) (l : Line) → IsWritten l → fault_of before (Some l) ≡ word_fault (words_in before) (after_all None before) (length before + 1)
fault_of_written before (Org y) written = absurd written
fault_of_written before (Entry y) written = absurd written
fault_of_written before (Label y) written = absurd written
fault_of_written before (Word v) written = refl
fault_of_written before (Plain i) written = refl
fault_of_written before (Jump link to) written = refl
fault_of_written before (Branch op s t to) written = refl

pub after_written : (h : Option ℕ) (l : Line) → IsWritten l → after h (Some l) ≡ four_on h
after_written h (Org y) written = absurd written
after_written h (Entry y) written = absurd written
after_written h (Label y) written = absurd written
after_written h (Word v) written = refl
after_written h (Plain i) written = refl
after_written h (Jump link to) written = refl
after_written h (Branch op s t to) written = refl

pub counts_written : (l : Line) → IsWritten l → (org_in l ≡ 0) × (word_in (Some l) ≡ 1)
counts_written (Org y) written = absurd written
counts_written (Entry y) written = absurd written
counts_written (Label y) written = absurd written
counts_written (Word v) written = (refl, refl)
counts_written (Plain i) written = (refl, refl)
counts_written (Jump link to) written = (refl, refl)
counts_written (Branch op s t to) written = (refl, refl)

word_clean : (words at n : ℕ) (h : Option ℕ) → h ≡ Some at → words < 540672 → at < 2 ^ 32 → word_fault words h n ≡ None
word_clean words at n h here few low =
    let placed : nat_lt at 0x100000000 ≡ true = grind (arith, nat_tests) in
    let room : nat_le 540672 words ≡ false = grind (arith, nat_tests) in
    rw (here, placed, room) refl

pub regroup : (before : List (Option Line)) (l : Option Line) (rest : List (Option Line)) → (before ++ l ∷ []) ++ rest ≡ before ++ l ∷ rest
regroup before l rest = append_assoc before (l ∷ []) rest

pub clean_words : (before : List (Option Line)) (at : ℕ) (ws : List ℕ) (ls : List Line) (rest : List (Option Line)) → ListsWords at ws ls → after_all None before ≡ Some at → at + 4 * length ws ≤ 2 ^ 32 → words_in before + length ws ≤ 540672
    → NoFault (before ++ somes ls) rest → NoFault before (somes ls ++ rest)
clean_words before at [] [] rest lists here room few on = subst (λ (b : List (Option Line)). NoFault b rest) (append-nil before) on
clean_words before at [] (l ∷ ls) rest lists here room few on = absurd lists
clean_words before at (w ∷ ws) [] rest lists here room few on = absurd lists
clean_words before at (w ∷ ws) (l ∷ ls) rest lists here room few on =
    let written = written_word at w l lists.0 in
    let next : after_all None (before ++ Some l ∷ []) ≡ Some (at + 4) = after_more None before (Some l) ∙ (after_written (after_all None before) l written ∙ ap four_on here) in
    let counts = counts_written l written in
    let words : words_in (before ++ Some l ∷ []) ≡ words_in before + 1 = words_more before (Some l) ∙ ap (λ (k : ℕ). words_in before + k) counts.1 in (
      fault_of_written before l written ∙ word_clean (words_in before) at (length before + 1) (after_all None before) here (omega arith) (omega arith),
      clean_words (before ++ Some l ∷ []) (at + 4) ws ls rest lists.1 next (omega arith) (omega arith) (subst (λ (b : List (Option Line)). NoFault b rest) (sym (regroup before (Some l) (somes ls))) on),
    )
