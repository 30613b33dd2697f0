-- A text has one program, or one first fault.
use Rattle.std.proofs.Common.{◌≡◌, ℕ, ◌+◌, ◌-◌, ◌/◌, ◌%◌, ◌^◌, ◌<◌, Bool, List, [], ◌∷◌, ◌++◌, length, Option, Some, None, Ok, Err, refl, sym, ap, ◌∙◌, subst, arith, ◌⊎◌, inl, inr}
use Rattle.std.proofs.lemmas.Bool.{cases_lt}
use Rattle.s2_text.specs.LineGrammar.{Reaches, IsBadAt}
use Rattle.s2_decode.specs.declared.instr.OpB.{OpB}
use Rattle.s2_decode.specs.declared.instr.Instr.TheVariants.{Jump as JumpWord, Branch as BranchWord}
use Rattle.s2_mnemonics.specs.declared.line.Target.{Target}
use Rattle.s2_mnemonics.specs.declared.line.Line.{Line}
use Rattle.s2_mnemonics.specs.declared.line.Line.TheVariants.{Org, Entry, Word, Label, Plain, Jump, Branch}
use Rattle.s2_mnemonics.specs.LineWords.{IsWordOf, LineWord, address_of, distance}
use Rattle.s2_mnemonics.proofs.LineLaws.{one_word}
use Rattle.s2_program.specs.Programs.{ProgramData}
use Rattle.s2_asm.specs.declared.fault.AsmFault.{AsmFault}
use Rattle.s2_asm.specs.declared.fault.AsmFault.TheVariants.{Bad}
use Rattle.s2_asm.specs.declared.fault.AsmFail.TheVariants.{Fault, Memory}
use Rattle.s2_asm.specs.TextMeaning.{text_lines, Say, after_all, labels_from, Words, Parts, entry_after, first_part, fault_of, HasFault, IsFirstFault, later_fault_by, NoLater, IsLaterFault}
use Rattle.s2_asm.specs.LineFaults.{IsWritten}
use Rattle.s2_asm.specs.Building.{views, MeansOnly, LaterFault}
use Rattle.s2_asm.specs.TextLaws.{HaveOneMeaning}
use Rattle.s2_asm.proofs.Growing.{reads_one, say_one}
use Rattle.s2_asm.proofs.LaterWalk.{bad_or}
use Rattle.s2_asm.proofs.ListedTexts.{one_place, first_word, same_parts}
use Rattle.s2_asm.proofs.ListedFaults.{no_first_fault, no_later_fault, later_at, none_some, made}

-- ---- the words and the parts of lines

jump_words : (labels : List (List ℕ × ℕ)) (at v w : ℕ) (link : Bool) (to : Target) → LineWord labels at (Jump link to) v → LineWord labels at (Jump link to) w → v ≡ w
jump_words labels at v w link to a b =
    let e : a.0 ≡ b.0 = one_place (address_of labels to) a.0 b.0 a.1 b.1 in
    one_word _ v w a.2 (subst (λ (y : ℕ). IsWordOf (JumpWord link (y / 4 % 2 ^ 26)) w) (sym e) b.2)

branch_words : (labels : List (List ℕ × ℕ)) (at v w : ℕ) (op : OpB) (s t : ℕ) (to : Target) → LineWord labels at (Branch op s t to) v → LineWord labels at (Branch op s t to) w → v ≡ w
branch_words labels at v w op s t to a b =
    let e : a.0 ≡ b.0 = one_place (address_of labels to) a.0 b.0 a.1 b.1 in
    one_word _ v w a.2 (subst (λ (y : ℕ). IsWordOf (BranchWord op s t (distance at y / 4 % 65536)) w) (sym e) b.2)

line_words : (labels : List (List ℕ × ℕ)) (at v w : ℕ) (l : Line) → LineWord labels at l v → LineWord labels at l w → v ≡ w
line_words labels at v w (Org y) a b = absurd a
line_words labels at v w (Entry y) a b = absurd a
line_words labels at v w (Label y) a b = absurd a
line_words labels at v w (Word u) a b = a ∙ sym b
line_words labels at v w (Plain i) a b = one_word i v w a b
line_words labels at v w (Jump link to) a b = jump_words labels at v w link to a b
line_words labels at v w (Branch op s t to) a b = branch_words labels at v w op s t to a b

pair_is : (x y : ℕ × ℕ) → x.0 ≡ y.0 → x.1 ≡ y.1 → x ≡ y
pair_is (a, b) (c, d) e f = cc

cons_is : {A : Type 0} (x y : A) (xs ys : List A) → x ≡ y → xs ≡ ys → x ∷ xs ≡ y ∷ ys
cons_is x y xs ys e f = cc

-- the words from a line that gives one on, where those behind it are one
words_on : (labels : List (List ℕ × ℕ)) (at : ℕ) (l : Line) (said : List (Option Line)) (vs ws : List (ℕ × ℕ)) → IsWritten l
    → ((xs ys : List (ℕ × ℕ)) → Words labels (at + 4) said xs → Words labels (at + 4) said ys → xs ≡ ys)
    → Words labels at (Some l ∷ said) vs → Words labels at (Some l ∷ said) ws → vs ≡ ws
words_on labels at l said vs ws written on a b =
    let f = first_word labels at l said vs written a in
    let g = first_word labels at l said ws written b in
    let one : f.first ≡ g.first = pair_is f.first g.first (f.place ∙ sym g.place) (line_words labels at f.first.1 g.first.1 l f.gives g.gives) in
    f.is ∙ (cons_is f.first g.first f.others g.others one (on f.others g.others f.on g.on) ∙ sym g.is)

one_words : (labels : List (List ℕ × ℕ)) (at : ℕ) (said : List (Option Line)) (vs ws : List (ℕ × ℕ)) → Words labels at said vs → Words labels at said ws → vs ≡ ws
one_words labels at [] vs ws a b = a ∙ sym b
one_words labels at (None ∷ said) vs ws a b = one_words labels at said vs ws a b
one_words labels at (Some (Org x) ∷ said) vs ws a b = a ∙ sym b
one_words labels at (Some (Entry x) ∷ said) vs ws a b = one_words labels at said vs ws a b
one_words labels at (Some (Label x) ∷ said) vs ws a b = one_words labels at said vs ws a b
one_words labels at (Some (Word v) ∷ said) vs ws a b = words_on labels at (Word v) said vs ws tt (one_words labels (at + 4) said) a b
one_words labels at (Some (Plain i) ∷ said) vs ws a b = words_on labels at (Plain i) said vs ws tt (one_words labels (at + 4) said) a b
one_words labels at (Some (Jump link to) ∷ said) vs ws a b = words_on labels at (Jump link to) said vs ws tt (one_words labels (at + 4) said) a b
one_words labels at (Some (Branch op s t to) ∷ said) vs ws a b = words_on labels at (Branch op s t to) said vs ws tt (one_words labels (at + 4) said) a b

part_is : (x y : ℕ × List (ℕ × ℕ)) → x.0 ≡ y.0 → x.1 ≡ y.1 → x ≡ y
part_is (a, b) (c, d) e f = cc

one_parts : (labels : List (List ℕ × ℕ)) (said : List (Option Line)) (ps qs : List (ℕ × List (ℕ × ℕ))) → Parts labels said ps → Parts labels said qs → ps ≡ qs
one_parts labels [] ps qs a b = a ∙ sym b
one_parts labels (None ∷ said) ps qs a b = one_parts labels said ps qs a b
one_parts labels (Some (Org x) ∷ said) [] qs a b = absurd a
one_parts labels (Some (Org x) ∷ said) (p ∷ ps) [] a b = absurd b
one_parts labels (Some (Org x) ∷ said) (p ∷ ps) (q ∷ qs) a b =
    cons_is p q ps qs (part_is p q (a.0 ∙ sym b.0) (one_words labels x said p.1 q.1 a.1 b.1)) (one_parts labels said ps qs a.2 b.2)
one_parts labels (Some (Entry x) ∷ said) ps qs a b = one_parts labels said ps qs a b
one_parts labels (Some (Label x) ∷ said) ps qs a b = one_parts labels said ps qs a b
one_parts labels (Some (Word v) ∷ said) ps qs a b = one_parts labels said ps qs a b
one_parts labels (Some (Plain i) ∷ said) ps qs a b = one_parts labels said ps qs a b
one_parts labels (Some (Jump link to) ∷ said) ps qs a b = one_parts labels said ps qs a b
one_parts labels (Some (Branch op s t to) ∷ said) ps qs a b = one_parts labels said ps qs a b

one_program : (text : List ℕ) (p q : ProgramData) → MeansOnly text p.entry (views p.parts) → MeansOnly text q.entry (views q.parts) → p ≡ q
one_program text p q m n =
    let said : n.means.0 ≡ m.means.0 = say_one (text_lines text) n.means.0 m.means.0 n.means.1 m.means.1 in
    let theirs : Parts (labels_from None m.means.0) m.means.0 (views q.parts) = subst (λ (t : List (Option Line)). Parts (labels_from None t) t (views q.parts)) said n.means.2 in
    let seen : views p.parts ≡ views q.parts = one_parts (labels_from None m.means.0) m.means.0 (views p.parts) (views q.parts) m.means.2 theirs in
    let entry : q.entry ≡ entry_after (first_part (views q.parts)) m.means.0 = n.means.3 ∙ ap (λ (t : List (Option Line)). entry_after (first_part (views q.parts)) t) said in
    let same : p.entry ≡ q.entry = m.means.3 ∙ (ap (λ (v : List (ℕ × List (ℕ × ℕ))). entry_after (first_part v) m.means.0) seen ∙ sym entry) in
    made p.entry q.entry p.parts q.parts same (same_parts p.parts q.parts seen)

-- ---- two places of a list

-- they are one, or one of them stands before the other
record Beside {A : Type 0} (before : List A) (x : A) (other : List A) : Type 0 where
  between : List A
  is : other ≡ before ++ x ∷ between

abbrev OneOrBeside : {A : Type 0} → List A → A → List A → A → Type 0
OneOrBeside front x other y = ((front ≡ other) × (x ≡ y)) ⊎ (Beside front x other ⊎ Beside other y front)

head_is : {A : Type 0} (x y : A) (xs ys : List A) → x ∷ xs ≡ y ∷ ys → x ≡ y
head_is x y xs ys e = cc

tail_is : {A : Type 0} (x y : A) (xs ys : List A) → x ∷ xs ≡ y ∷ ys → xs ≡ ys
tail_is x y xs ys e = cc

one_more : {A : Type 0} (a b x y : A) (front other : List A) → a ≡ b → OneOrBeside front x other y → OneOrBeside (a ∷ front) x (b ∷ other) y
one_more a b x y front other e (inl h) = inl (cons_is a b front other e h.0, h.1)
one_more a b x y front other e (inr (inl h)) = inr (inl (record { between = h.between; is = cons_is b a other (front ++ x ∷ h.between) (sym e) h.is }))
one_more a b x y front other e (inr (inr h)) = inr (inr (record { between = h.between; is = cons_is a b front (other ++ y ∷ h.between) e h.is }))

two_places : {A : Type 0} (front back other behind : List A) (x y : A) → front ++ x ∷ back ≡ other ++ y ∷ behind → OneOrBeside front x other y
two_places [] back [] behind x y e = inl (refl, head_is x y back behind e)
two_places [] back (b ∷ other) behind x y e = inr (inl (record { between = other; is = cons_is b x other other (sym (head_is x b back (other ++ y ∷ behind) e)) refl }))
two_places (a ∷ front) back [] behind x y e = inr (inr (record { between = front; is = cons_is a y front front (head_is a y (front ++ x ∷ back) behind e) refl }))
two_places (a ∷ front) back (b ∷ other) behind x y e =
    one_more a b x y front other (head_is a b (front ++ x ∷ back) (other ++ y ∷ behind) e)
    (two_places front back other behind x y (tail_is a b (front ++ x ∷ back) (other ++ y ∷ behind) e))

-- ---- faults

-- a line goes wrong at one column
no_further : {S : List ℕ → Type 0} (line : List ℕ) (reach other : ℕ) → Reaches S line reach → Reaches S line other → reach < other → ⊥
no_further line reach other a b less = a.past other less b.within b.before

one_reach : {S : List ℕ → Type 0} (line : List ℕ) (reach other : ℕ) → Reaches S line reach → Reaches S line other → reach ≡ other
one_reach line reach other a b =
    elim (cases_lt reach other) [
      | inl less ↦ absurd (no_further line reach other a b less)
      | inr most ↦ elim (cases_lt other reach) [
        | inl less ↦ absurd (no_further line other reach b a less)
        | inr least ↦ omega arith
      ]
    ]

one_column : {S : List ℕ → Type 0} (line : List ℕ) (column other : ℕ) → IsBadAt S line column → IsBadAt S line other → column ≡ other
one_column line column other a b = let e = one_reach line (column - 1) (other - 1) a.1 b.1 in let low = a.0 in let high = b.0 in omega arith

some_one : (o : Option AsmFault) (f g : AsmFault) → o ≡ Some f → o ≡ Some g → f ≡ g
some_one o f g a b = cc

one_fault : (said : List (Option Line)) (line : List ℕ) (f g : AsmFault) → HasFault said line f → HasFault said line g → f ≡ g
one_fault said line f g (inl a) (inl b) = a.2 ∙ (ap (Bad (length said + 1)) (one_column line a.0 b.0 a.1 b.1) ∙ sym b.2)
one_fault said line f g (inl a) (inr b) = absurd (bad_or line (record { column = a.0 }) b.0 a.1 b.1)
one_fault said line f g (inr a) (inl b) = absurd (bad_or line (record { column = b.0 }) a.0 b.1 a.1)
one_fault said line f g (inr a) (inr b) =
    let same : b.0 ≡ a.0 = reads_one line b.0 a.0 b.1 a.1 in
    some_one (fault_of said a.0) f g a.2 (subst (λ (t : Option Line). fault_of said t ≡ Some g) same b.2)

-- a line with a fault stands before no other that is the first
none_before : (lines : List (List ℕ)) (f g : AsmFault) (a : IsFirstFault lines f) (b : IsFirstFault lines g) → Beside a.before a.line b.before → ⊥
none_before lines f g a b beside =
    no_first_fault b.before b.said f b.say b.clean
    (record { before = a.before; line = a.line; after_it = beside.between; parts = beside.is; said = a.said; say = a.say; clean = a.clean; fault_here = a.fault_here })

same_fault : (lines : List (List ℕ)) (f g : AsmFault) (a : IsFirstFault lines f) (b : IsFirstFault lines g) → a.before ≡ b.before → a.line ≡ b.line → f ≡ g
same_fault lines f g a b front line =
    let said : b.said ≡ a.said = say_one a.before b.said a.said (subst (λ (t : List (List ℕ)). Say t b.said) (sym front) b.say) a.say in
    let theirs : HasFault a.said a.line g = subst (λ (t : List (Option Line)). HasFault t a.line g) said (subst (λ (t : List ℕ). HasFault b.said t g) (sym line) b.fault_here) in
    one_fault a.said a.line f g a.fault_here theirs

first_faults : (lines : List (List ℕ)) (f g : AsmFault) → IsFirstFault lines f → IsFirstFault lines g → f ≡ g
first_faults lines f g a b =
    elim (two_places a.before a.after_it b.before b.after_it a.line b.line (sym a.parts ∙ b.parts)) [
      | inl same ↦ same_fault lines f g a b same.0 same.1
      | inr (inl beside) ↦ absurd (none_before lines f g a b beside)
      | inr (inr beside) ↦ absurd (none_before lines g f b a beside)
    ]

none_later_before : (said : List (Option Line)) (f g : AsmFault) (a : IsLaterFault said f) (b : IsLaterFault said g) → Beside a.before a.line b.before → ⊥
none_later_before said f g a b beside =
    none_some _ f (later_at (labels_from None said) [] a.before beside.between a.line (subst (λ (t : List (Option Line)). NoLater (labels_from None said) [] t) beside.is b.clean)) a.fault_here

same_later : (said : List (Option Line)) (f g : AsmFault) (a : IsLaterFault said f) (b : IsLaterFault said g) → a.before ≡ b.before → a.line ≡ b.line → f ≡ g
same_later said f g a b front line =
    let labels : List (List ℕ × ℕ) = labels_from None said in
    some_one (later_fault_by labels (after_all None a.before) (length a.before + 1) a.line) f g a.fault_here
    (subst (λ (t : List (Option Line)). later_fault_by labels (after_all None t) (length t + 1) a.line ≡ Some g) (sym front)
    (subst (λ (t : Option Line). later_fault_by labels (after_all None b.before) (length b.before + 1) t ≡ Some g) (sym line) b.fault_here))

later_faults : (said : List (Option Line)) (f g : AsmFault) → IsLaterFault said f → IsLaterFault said g → f ≡ g
later_faults said f g a b =
    elim (two_places a.before a.after_it b.before b.after_it a.line b.line (sym a.parts ∙ b.parts)) [
      | inl same ↦ same_later said f g a b same.0 same.1
      | inr (inl beside) ↦ absurd (none_later_before said f g a b beside)
      | inr (inr beside) ↦ absurd (none_later_before said g f b a beside)
    ]

abbrev HasTextFault : List ℕ → AsmFault → Type 0
HasTextFault text fault = IsFirstFault (text_lines text) fault ⊎ LaterFault text fault

text_faults : (text : List ℕ) (f g : AsmFault) → HasTextFault text f → HasTextFault text g → f ≡ g
text_faults text f g (inl a) (inl b) = first_faults (text_lines text) f g a b
text_faults text f g (inl a) (inr b) = absurd (no_first_fault (text_lines text) b.said f b.say b.clean a)
text_faults text f g (inr a) (inl b) = absurd (no_first_fault (text_lines text) a.said g a.say a.clean b)
text_faults text f g (inr a) (inr b) =
    let said : b.said ≡ a.said = say_one (text_lines text) b.said a.said b.say a.say in
    later_faults a.said f g a.is (subst (λ (t : List (Option Line)). IsLaterFault t g) said b.is)

-- a text with a program has no fault
no_fault : (text : List ℕ) (p : ProgramData) (f : AsmFault) → MeansOnly text p.entry (views p.parts) → HasTextFault text f → ⊥
no_fault text p f m (inl first) = no_first_fault (text_lines text) m.means.0 f m.means.1 m.clean first
no_fault text p f m (inr later) =
    let said : later.said ≡ m.means.0 = say_one (text_lines text) later.said m.means.0 later.say m.means.1 in
    no_later_fault m.means.0 f m.later (subst (λ (t : List (Option Line)). IsLaterFault t f) said later.is)

pub one_meaning : HaveOneMeaning
one_meaning text (Ok p) (Ok q) a b = one_program text p q a b
one_meaning text (Ok p) (Err (Fault g)) a b = no_fault text p g a b
one_meaning text (Err (Fault f)) (Ok q) a b = no_fault text q f b a
one_meaning text (Err (Fault f)) (Err (Fault g)) a b = text_faults text f g a b
one_meaning text (Ok p) (Err Memory) a b = tt
one_meaning text (Err (Fault f)) (Err Memory) a b = tt
one_meaning text (Err Memory) (Ok q) a b = tt
one_meaning text (Err Memory) (Err (Fault g)) a b = tt
one_meaning text (Err Memory) (Err Memory) a b = tt
