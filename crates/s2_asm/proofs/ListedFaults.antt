-- A text that lists a program has no fault, and assembles to that program.
use Rattle.std.proofs.Common.{◌≡◌, ℕ, ◌+◌, ◌%◌, ◌^◌, ◌<◌, ◌≤◌, Bool, true, false, List, [], ◌∷◌, ◌++◌, length, Option, Some, None, Result, Ok, Err, refl, sym, ap, ◌∙◌, subst, append_assoc, arith, inl, inr}
use Rattle.std.specs.Prelude.{nat_le, ◌==◌}
use Rattle.std.proofs.lemmas.List.{append-nil}
use Rattle.std.proofs.lemmas.Bool.Decides.{nat_tests}
use Rattle.s2_text.specs.LineTables.{ReadsLine}
use Rattle.s2_program.specs.Programs.{PartData, ProgramData, words_in as words_of_parts}
use Rattle.s2_decode.specs.declared.instr.OpB.{OpB}
use Rattle.s2_mnemonics.specs.declared.line.Target.{Target}
use Rattle.s2_mnemonics.specs.declared.line.Target.TheVariants.{Address, Label as Named}
use Rattle.s2_mnemonics.specs.declared.line.Line.{Line}
use Rattle.s2_mnemonics.specs.declared.line.Line.TheVariants.{Org, Entry, Word, Label, Plain, Jump, Branch}
use Rattle.s2_mnemonics.specs.TextTable.{text_rows}
use Rattle.s2_mnemonics.specs.LineWords.{line_text, LineWord, InReach, GivesWord}
use Rattle.s2_asm.specs.declared.fault.AsmFault.{AsmFault}
use Rattle.s2_asm.specs.declared.fault.AsmFail.{AsmFail}
use Rattle.s2_asm.specs.declared.fault.AsmFail.TheVariants.{Fault, Memory}
use Rattle.s2_asm.specs.TextMeaning.{text_lines, Say, after_all, four_on, labels_from, Parts, entry_after, first_part, orgs_in, words_in, org_fault, fault_of, NoFault, IsFirstFault, later_fault_by, NoLater, IsLaterFault}
use Rattle.s2_asm.specs.LineFaults.{IsWritten}
use Rattle.s2_asm.specs.Building.{views, MeansOnly, Assembled}
use Rattle.s2_asm.specs.Listings.{ListsWords, ListsParts, written, HavePlaces, AreListable, IsProgramOr}
use Rattle.s2_asm.proofs.Steps.{orgs_more, words_more, after_more}
use Rattle.s2_asm.proofs.Growing.{reads_one, say_one}
use Rattle.s2_asm.proofs.LaterWalk.{clean_at, bad_or}
use Rattle.s2_asm.proofs.ListedTexts.{somes, somes_append, AreProper, says_written, written_word, no_entry, after_written, counts_written, clean_words, parts_are, same_parts, regroup}

-- ---- the first pass

orgs_words : (before : List (Option Line)) (at : ℕ) (ws : List ℕ) (ls : List Line) → ListsWords at ws ls → orgs_in (before ++ somes ls) ≡ orgs_in before
orgs_words before at [] [] lists = ap orgs_in (append-nil before)
orgs_words before at [] (l ∷ ls) lists = absurd lists
orgs_words before at (w ∷ ws) [] lists = absurd lists
orgs_words before at (w ∷ ws) (l ∷ ls) lists =
    let counts = counts_written l (written_word at w l lists.0) in
    let one : orgs_in (before ++ Some l ∷ []) ≡ orgs_in before + 0 = orgs_more before l ∙ ap (λ (k : ℕ). orgs_in before + k) counts.0 in
    let more = orgs_words (before ++ Some l ∷ []) (at + 4) ws ls lists.1 in
    let same : orgs_in (before ++ Some l ∷ somes ls) ≡ orgs_in ((before ++ Some l ∷ []) ++ somes ls) = ap orgs_in (sym (regroup before (Some l) (somes ls))) in
    omega arith

words_words : (before : List (Option Line)) (at : ℕ) (ws : List ℕ) (ls : List Line) → ListsWords at ws ls → words_in (before ++ somes ls) ≡ words_in before + length ws
words_words before at [] [] lists = (let e = ap words_in (append-nil before) in omega arith)
words_words before at [] (l ∷ ls) lists = absurd lists
words_words before at (w ∷ ws) [] lists = absurd lists
words_words before at (w ∷ ws) (l ∷ ls) lists =
    let counts = counts_written l (written_word at w l lists.0) in
    let one : words_in (before ++ Some l ∷ []) ≡ words_in before + 1 = words_more before (Some l) ∙ ap (λ (k : ℕ). words_in before + k) counts.1 in
    let more = words_words (before ++ Some l ∷ []) (at + 4) ws ls lists.1 in
    let same : words_in (before ++ Some l ∷ somes ls) ≡ words_in ((before ++ Some l ∷ []) ++ somes ls) = ap words_in (sym (regroup before (Some l) (somes ls))) in
    omega arith

org_clean : (orgs n x : ℕ) → orgs < 64 → x % 4 ≡ 0 → org_fault orgs n x ≡ None
org_clean orgs n x few aligned =
    let room : nat_le 64 orgs ≡ false = grind (arith, nat_tests) in
    let even : (x % 4 == 0) ≡ true = grind (arith, nat_tests) in
    rw (room, even) refl

clean_parts : (before : List (Option Line)) (ps : List PartData) (ls : List Line) → ListsParts ps ls → HavePlaces ps → orgs_in before + length ps ≤ 64 → words_in before + words_of_parts ps ≤ 540672 → NoFault before (somes ls)
clean_parts before [] ls lists places few small = rw lists tt
clean_parts before (p ∷ ps) ls (words, others, same, lists, more) places few small =
    let org : Option Line = Some (Org p.at) in
    let here : List (Option Line) = before ++ org ∷ [] in
    let orgs : orgs_in here ≡ orgs_in before + 1 = orgs_more before (Org p.at) in
    let counts : words_in here ≡ words_in before + 0 = words_more before org in
    let behind : after_all None here ≡ Some p.at = after_more None before org in
    let orgs2 = orgs_words here p.at p.words words lists in
    let counts2 = words_words here p.at p.words words lists in
    let on = clean_parts (here ++ somes words) ps others more places.3 (omega arith) (omega arith) in
    let rest : NoFault here (somes words ++ somes others) = clean_words here p.at p.words words (somes others) lists behind places.2 (omega arith) on in
    let whole : NoFault before (org ∷ (somes words ++ somes others)) = (org_clean (orgs_in before) (length before + 1) p.at (omega arith) places.0, rest) in
    subst (λ (t : List Line). NoFault before (somes t)) (sym same) (subst (λ (t : List (Option Line)). NoFault before (org ∷ t)) (sym (somes_append words others)) whole)

-- ---- the second pass

jump_fine : (labels : List (List ℕ × ℕ)) (at n : ℕ) (link : Bool) (to : Target) (w : ℕ) → InReach labels at (Jump link to) → LineWord [] at (Jump link to) w → later_fault_by labels (Some at) n (Some (Jump link to)) ≡ None
jump_fine labels at n link (Address x) w reach gives = rw (reach x refl) refl
jump_fine labels at n link (Named l) w reach gives = absurd (let e = gives.1 in cc)

branch_fine : (labels : List (List ℕ × ℕ)) (at n : ℕ) (op : OpB) (s t : ℕ) (to : Target) (w : ℕ) → InReach labels at (Branch op s t to) → LineWord [] at (Branch op s t to) w → later_fault_by labels (Some at) n (Some (Branch op s t to)) ≡ None
branch_fine labels at n op s t (Address x) w reach gives = rw (reach x refl) refl
branch_fine labels at n op s t (Named l) w reach gives = absurd (let e = gives.1 in cc)

word_fine : (labels : List (List ℕ × ℕ)) (at n w : ℕ) (l : Line) → IsWritten l → InReach labels at l → LineWord [] at l w → later_fault_by labels (Some at) n (Some l) ≡ None
word_fine labels at n w (Org y) written reach gives = absurd written
word_fine labels at n w (Entry y) written reach gives = absurd written
word_fine labels at n w (Label y) written reach gives = absurd written
word_fine labels at n w (Word v) written reach gives = refl
word_fine labels at n w (Plain i) written reach gives = refl
word_fine labels at n w (Jump link to) written reach gives = jump_fine labels at n link to w reach gives
word_fine labels at n w (Branch op s t to) written reach gives = branch_fine labels at n op s t to w reach gives

org_fine : (labels : List (List ℕ × ℕ)) (h : Option ℕ) (n x : ℕ) → later_fault_by labels h n (Some (Org x)) ≡ None
org_fine labels None n x = refl
org_fine labels (Some a) n x = refl

fine_words : (labels : List (List ℕ × ℕ)) (before : List (Option Line)) (at : ℕ) (ws : List ℕ) (ls : List Line) (rest : List (Option Line)) → ListsWords at ws ls → after_all None before ≡ Some at
    → NoLater labels (before ++ somes ls) rest → NoLater labels before (somes ls ++ rest)
fine_words labels before at [] [] rest lists here on = subst (λ (b : List (Option Line)). NoLater labels b rest) (append-nil before) on
fine_words labels before at [] (l ∷ ls) rest lists here on = absurd lists
fine_words labels before at (w ∷ ws) [] rest lists here on = absurd lists
fine_words labels before at (w ∷ ws) (l ∷ ls) rest lists here on =
    let written = written_word at w l lists.0 in
    let next : after_all None (before ++ Some l ∷ []) ≡ Some (at + 4) = after_more None before (Some l) ∙ (after_written (after_all None before) l written ∙ ap four_on here) in (
      subst (λ (h : Option ℕ). later_fault_by labels h (length before + 1) (Some l) ≡ None) (sym here) (word_fine labels at (length before + 1) w l written (lists.0.reach labels) (lists.0.gives [])),
      fine_words labels (before ++ Some l ∷ []) (at + 4) ws ls rest lists.1 next (subst (λ (b : List (Option Line)). NoLater labels b rest) (sym (regroup before (Some l) (somes ls))) on),
    )

fine_parts : (labels : List (List ℕ × ℕ)) (before : List (Option Line)) (ps : List PartData) (ls : List Line) → ListsParts ps ls → NoLater labels before (somes ls)
fine_parts labels before [] ls lists = rw lists tt
fine_parts labels before (p ∷ ps) ls (words, others, same, lists, more) =
    let org : Option Line = Some (Org p.at) in
    let here : List (Option Line) = before ++ org ∷ [] in
    let behind : after_all None here ≡ Some p.at = after_more None before org in
    let on = fine_parts labels (here ++ somes words) ps others more in
    let rest : NoLater labels here (somes words ++ somes others) = fine_words labels here p.at p.words words (somes others) lists behind on in
    let whole : NoLater labels before (org ∷ (somes words ++ somes others)) = (org_fine labels (after_all None before) (length before + 1) p.at, rest) in
    subst (λ (t : List Line). NoLater labels before (somes t)) (sym same) (subst (λ (t : List (Option Line)). NoLater labels before (org ∷ t)) (sym (somes_append words others)) whole)

-- ---- no fault is answered

record SplitSay (before : List (List ℕ)) (line : List ℕ) (said : List (Option Line)) : Type 0 where
  front : List (Option Line)
  here : Option Line
  back : List (Option Line)
  is : said ≡ front ++ here ∷ back
  say : Say before front
  reads : ReadsLine text_rows line (Ok here)

split_say : (before : List (List ℕ)) (line : List ℕ) (rest : List (List ℕ)) (said : List (Option Line)) → Say (before ++ line ∷ rest) said → SplitSay before line said
split_say [] line rest [] say = absurd say
split_say [] line rest (l ∷ said) say = record { front = []; here = l; back = said; is = refl; say = tt; reads = say.0 }
split_say (b ∷ before) line rest [] say = absurd say
split_say (b ∷ before) line rest (l ∷ said) say =
    let s = split_say before line rest said say.1 in
    record { front = l ∷ s.front; here = s.here; back = s.back; is = ap (λ (t : List (Option Line)). l ∷ t) s.is; say = (say.0, s.say); reads = s.reads }

pub none_some : (o : Option AsmFault) (f : AsmFault) → o ≡ None → o ≡ Some f → ⊥
none_some o f a b = cc

pub no_first_fault : (lines : List (List ℕ)) (said : List (Option Line)) (fault : AsmFault) → Say lines said → NoFault [] said → IsFirstFault lines fault → ⊥
no_first_fault lines said fault say clean f =
    let s = split_say f.before f.line f.after_it said (subst (λ (t : List (List ℕ)). Say t said) f.parts say) in
    let same : f.said ≡ s.front = say_one f.before f.said s.front f.say s.say in
    let free : fault_of s.front s.here ≡ None = clean_at [] s.front s.back s.here (subst (λ (t : List (Option Line)). NoFault [] t) s.is clean) in
    elim f.fault_here [
      | inl bad ↦ bad_or f.line (record { column = bad.0 }) s.here bad.1 s.reads
      | inr said_so ↦
          let one : said_so.0 ≡ s.here = reads_one f.line said_so.0 s.here said_so.1 s.reads in
          none_some (fault_of s.front s.here) fault free (subst (λ (t : Option Line). fault_of s.front t ≡ Some fault) one (subst (λ (t : List (Option Line)). fault_of t said_so.0 ≡ Some fault) same said_so.2))
    ]

pub later_at : (labels : List (List ℕ × ℕ)) (before done coming : List (Option Line)) (l : Option Line) → NoLater labels before (done ++ l ∷ coming) → later_fault_by labels (after_all None (before ++ done)) (length (before ++ done) + 1) l ≡ None
later_at labels before [] coming l clean = subst (λ (d : List (Option Line)). later_fault_by labels (after_all None d) (length d + 1) l ≡ None) (sym (append-nil before)) clean.0
later_at labels before (x ∷ done) coming l clean =
    subst (λ (d : List (Option Line)). later_fault_by labels (after_all None d) (length d + 1) l ≡ None) (append_assoc before (x ∷ []) done) (later_at labels (before ++ x ∷ []) done coming l clean.1)

pub no_later_fault : (said : List (Option Line)) (fault : AsmFault) → NoLater (labels_from None said) [] said → IsLaterFault said fault → ⊥
no_later_fault said fault fine f =
    none_some _ fault (later_at (labels_from None said) [] f.before f.after_it f.line (subst (λ (t : List (Option Line)). NoLater (labels_from None said) [] t) f.parts fine)) f.fault_here

-- ---- the answer

means_one : (text : List ℕ) (said : List (Option Line)) (ps : List PartData) (ls : List Line) (e : ℕ) (q : ProgramData) → Say (text_lines text) said → said ≡ Some (Entry e) ∷ somes ls → ListsParts ps ls → MeansOnly text q.entry (views q.parts) → (q.entry ≡ e) × (q.parts ≡ ps)
means_one text said ps ls e q say is lists m =
    let same : m.means.0 ≡ Some (Entry e) ∷ somes ls = say_one (text_lines text) m.means.0 said m.means.1 say ∙ is in
    let parts : Parts (labels_from None m.means.0) (Some (Entry e) ∷ somes ls) (views q.parts) = subst (λ (t : List (Option Line)). Parts (labels_from None m.means.0) t (views q.parts)) same m.means.2 in
    let entry : q.entry ≡ entry_after (first_part (views q.parts)) (Some (Entry e) ∷ somes ls) = m.means.3 ∙ ap (λ (t : List (Option Line)). entry_after (first_part (views q.parts)) t) same in
    (entry ∙ no_entry e ps ls lists, same_parts q.parts ps (parts_are (labels_from None m.means.0) ps ls (views q.parts) lists parts))

pub made : (a b : ℕ) (x y : List PartData) → a ≡ b → x ≡ y → (let p : ProgramData = record { entry = a; parts = x } in p) ≡ record { entry = b; parts = y }
made a b x y p q = cc

-- where its lines stand in the table
listed_again : (p : ProgramData) (ls : List Line) → p.entry < 2 ^ 32 → AreListable p.parts → ListsParts p.parts ls → AreProper ls → (r : Result ProgramData AsmFail) → Assembled (written (Entry p.entry ∷ ls)) r → IsProgramOr p r
listed_again p ls low fit lists proper (Ok q) h =
    let text : List ℕ = written (Entry p.entry ∷ ls) in
    let say : Say (text_lines text) (Some (Entry p.entry) ∷ somes ls) = says_written (Entry p.entry ∷ ls) ((tt, (low, tt)), proper) in
    let m = means_one text (Some (Entry p.entry) ∷ somes ls) p.parts ls p.entry q say refl lists h in
    made q.entry p.entry q.parts p.parts m.0 m.1
listed_again p ls low fit lists proper (Err Memory) h = tt
listed_again p ls low fit lists proper (Err (Fault fault)) h =
    let text : List ℕ = written (Entry p.entry ∷ ls) in
    let said : List (Option Line) = Some (Entry p.entry) ∷ somes ls in
    let say : Say (text_lines text) said = says_written (Entry p.entry ∷ ls) ((tt, (low, tt)), proper) in
    let clean : NoFault [] said = (refl, clean_parts (Some (Entry p.entry) ∷ []) p.parts ls lists fit.places (let few = fit.few in omega arith) (let small = fit.small in omega arith)) in
    let fine : NoLater (labels_from None said) [] said = (refl, fine_parts (labels_from None said) (Some (Entry p.entry) ∷ []) p.parts ls lists) in
    elim h [
      | inl first ↦ no_first_fault (text_lines text) said fault say clean first
      | inr later ↦
          let same : later.said ≡ said = say_one (text_lines text) later.said said later.say say in
          no_later_fault said fault fine (subst (λ (t : List (Option Line)). IsLaterFault t fault) same later.is)
    ]

-- lines that list parts stand in the table
append_proper : (xs ys : List Line) → AreProper xs → AreProper ys → AreProper (xs ++ ys)
append_proper [] ys a b = b
append_proper (x ∷ xs) ys a b = (a.0, append_proper xs ys a.1 b)

words_proper : (at : ℕ) (ws : List ℕ) (ls : List Line) → ListsWords at ws ls → AreProper ls
words_proper at [] [] lists = tt
words_proper at [] (l ∷ ls) lists = absurd lists
words_proper at (w ∷ ws) [] lists = absurd lists
words_proper at (w ∷ ws) (l ∷ ls) lists = (lists.0.proper, words_proper (at + 4) ws ls lists.1)

parts_proper : (ps : List PartData) (ls : List Line) → HavePlaces ps → ListsParts ps ls → AreProper ls
parts_proper [] ls places lists = subst AreProper (sym lists) tt
parts_proper (p ∷ ps) ls places (words, others, same, lists, more) =
    subst AreProper (sym same) ((tt, (places.1, tt)), append_proper words others (words_proper p.at p.words words lists) (parts_proper ps others places.3 more))

-- assembling a text that lists a program gives that program
pub listing_again : (p : ProgramData) (ls : List Line) → p.entry < 2 ^ 32 → AreListable p.parts → ListsParts p.parts ls → (r : Result ProgramData AsmFail) → Assembled (written (Entry p.entry ∷ ls)) r → IsProgramOr p r
listing_again p ls low fit lists r h = listed_again p ls low fit lists (parts_proper p.parts ls fit.places lists) r h

-- ---- a text of parts alone: its entry is the first part's address

parts_one : (text : List ℕ) (said : List (Option Line)) (ps : List PartData) (ls : List Line) (q : ProgramData) → Say (text_lines text) said → said ≡ somes ls → ListsParts ps ls → MeansOnly text q.entry (views q.parts) → (q.entry ≡ first_part (views ps)) × (q.parts ≡ ps)
parts_one text said ps ls q say is lists m =
    let same : m.means.0 ≡ somes ls = say_one (text_lines text) m.means.0 said m.means.1 say ∙ is in
    let parts : Parts (labels_from None m.means.0) (somes ls) (views q.parts) = subst (λ (t : List (Option Line)). Parts (labels_from None m.means.0) t (views q.parts)) same m.means.2 in
    let entry : q.entry ≡ entry_after (first_part (views q.parts)) (somes ls) = m.means.3 ∙ ap (λ (t : List (Option Line)). entry_after (first_part (views q.parts)) t) same in
    let views_are : views q.parts ≡ views ps = parts_are (labels_from None m.means.0) ps ls (views q.parts) lists parts in
    (entry ∙ (no_entry (first_part (views q.parts)) ps ls lists ∙ ap first_part views_are), same_parts q.parts ps views_are)

pub parts_again : (ps : List PartData) (ls : List Line) → AreListable ps → ListsParts ps ls → (r : Result ProgramData AsmFail) → Assembled (written ls) r → IsProgramOr (record { entry = first_part (views ps); parts = ps }) r
parts_again ps ls fit lists (Ok q) h =
    let say : Say (text_lines (written ls)) (somes ls) = says_written ls (parts_proper ps ls fit.places lists) in
    let m = parts_one (written ls) (somes ls) ps ls q say refl lists h in
    made q.entry (first_part (views ps)) q.parts ps m.0 m.1
parts_again ps ls fit lists (Err Memory) h = tt
parts_again ps ls fit lists (Err (Fault fault)) h =
    let said : List (Option Line) = somes ls in
    let say : Say (text_lines (written ls)) said = says_written ls (parts_proper ps ls fit.places lists) in
    let clean : NoFault [] said = clean_parts [] ps ls lists fit.places (let few = fit.few in omega arith) (let small = fit.small in omega arith) in
    let fine : NoLater (labels_from None said) [] said = fine_parts (labels_from None said) [] ps ls lists in
    elim h [
      | inl first ↦ no_first_fault (text_lines (written ls)) said fault say clean first
      | inr later ↦
          let same : later.said ≡ said = say_one (text_lines (written ls)) later.said said later.say say in
          no_later_fault said fault fine (subst (λ (t : List (Option Line)). IsLaterFault t fault) same later.is)
    ]

-- one word: the line of its address, and its own line
pub word_again : (at w : ℕ) (l : Line) (text : List ℕ) → at % 4 ≡ 0 → at < 2 ^ 32 → GivesWord at w l → text ≡ line_text l
    → (r : Result ProgramData AsmFail) → Assembled (line_text (Org at) ++ 10 ∷ (text ++ 10 ∷ [])) r → IsProgramOr (record { entry = at; parts = (record { at = at; words = w ∷ [] }) ∷ [] }) r
word_again at w l text aligned low gives is r h =
    parts_again ((record { at = at; words = w ∷ [] }) ∷ []) (Org at ∷ l ∷ []) (record { few = omega arith; small = omega arith; places = (aligned, low, omega arith, tt) })
    (l ∷ [], [], refl, (gives, tt), refl) r (subst (λ (t : List ℕ). Assembled (line_text (Org at) ++ 10 ∷ (t ++ 10 ∷ [])) r) is h)
