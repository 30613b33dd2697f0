-- A text says one thing, and its parts grow line by line.
use Rattle.std.proofs.Common.{◌≡◌, ℕ, ◌+◌, Bool, true, false, List, [], ◌∷◌, ◌++◌, Option, Some, None, Result, Ok, refl, ap, ◌∙◌}
use Rattle.std.specs.Prelude.{◌&&◌, if◌then◌else◌}
use Rattle.s2_text.specs.LineTables.{ReadsLine}
use Rattle.s2_text.specs.declared.stops.BadLine.{BadLine}
use Rattle.s2_text.proofs.ShortLines.{line_again}
use Rattle.s2_mnemonics.specs.declared.line.Line.{Line}
use Rattle.s2_mnemonics.specs.declared.line.Line.TheVariants.{Org, Entry, Word, Label, Plain, Jump, Branch}
use Rattle.s2_mnemonics.specs.TextTable.{text_rows}
use Rattle.s2_mnemonics.specs.LineWords.{LineWord}
use Rattle.s2_mnemonics.proofs.Tables.{text_disjoint, text_no_remarks}
use Rattle.s2_asm.specs.TextMeaning.{Say, after, after_all, Words, Parts}

-- ---- a text says one thing

some_line : (x y : Line) (r : Result (Option Line) BadLine) → r ≡ Ok (Some y) → r ≡ Ok (Some x) → x ≡ y
some_line x y r d e = cc

two_kinds : (x : Line) (r : Result (Option Line) BadLine) → r ≡ Ok None → r ≡ Ok (Some x) → ⊥
two_kinds x r d e = cc

pub reads_one : (line : List ℕ) (a b : Option Line) → ReadsLine text_rows line (Ok a) → ReadsLine text_rows line (Ok b) → a ≡ b
reads_one line None None h k = refl
reads_one line None (Some y) h k = absurd (two_kinds y (Ok None) refl (line_again text_rows line (Ok None) text_disjoint text_no_remarks h y k))
reads_one line (Some x) None h k = absurd (two_kinds x (Ok None) refl (line_again text_rows line (Ok None) text_disjoint text_no_remarks k x h))
reads_one line (Some x) (Some y) h k = ap Some (some_line x y (Ok (Some y)) refl (line_again text_rows line (Ok (Some y)) text_disjoint text_no_remarks k x h))

pub say_one : (lines : List (List ℕ)) (said more : List (Option Line)) → Say lines said → Say lines more → said ≡ more
say_one [] [] [] h k = refl
say_one [] [] (y ∷ more) h k = absurd k
say_one [] (x ∷ said) more h k = absurd h
say_one (line ∷ lines) [] more h k = absurd h
say_one (line ∷ lines) (x ∷ said) [] h k = absurd k
say_one (line ∷ lines) (x ∷ said) (y ∷ more) h k = (let a = reads_one line x y h.0 k.0 in let b = say_one lines said more h.1 k.1 in rw (a, b) refl)

-- ---- parts

abbrev pub is_org : Option Line → Bool
is_org (Some (Org x)) = true
is_org _ = false

abbrev pub is_word : Option Line → Bool
is_word None = false
is_word (Some (Org x)) = false
is_word (Some (Entry x)) = false
is_word (Some (Label l)) = false
is_word (Some (Word w)) = true
is_word (Some (Plain i)) = true
is_word (Some (Jump link to)) = true
is_word (Some (Branch op s t to)) = true

abbrev pub no_org : List (Option Line) → Bool
no_org [] = true
no_org (l ∷ said) = (if is_org l then false else no_org said)

word_first : (labels : List (List ℕ × ℕ)) (at : ℕ) (l : Line) (w : ℕ) → is_word (Some l) ≡ true → LineWord labels at l w → Words labels at (Some l ∷ []) ((at, w) ∷ [])
word_first labels at (Org y) w written is = absurd cc
word_first labels at (Entry y) w written is = absurd cc
word_first labels at (Label y) w written is = absurd cc
word_first labels at (Word v) w written is = (refl, is, refl)
word_first labels at (Plain i) w written is = (refl, is, refl)
word_first labels at (Jump link to) w written is = (refl, is, refl)
word_first labels at (Branch op s t to) w written is = (refl, is, refl)

some_at : (x y : ℕ) → Some x ≡ Some y → x ≡ y
some_at x y e = cc

pub words_on : (labels : List (List ℕ × ℕ)) (at : ℕ) (said : List (Option Line)) (ws : List (ℕ × ℕ)) (a : ℕ) (l : Line) (w : ℕ) → Words labels at said ws → no_org said ≡ true → after_all (Some at) said ≡ Some a → is_word (Some l) ≡ true → LineWord labels a l w → Words labels at (said ++ Some l ∷ []) (ws ++ (a, w) ∷ [])
words_on labels at [] ws a l w h none here written is =
    let same : at ≡ a = some_at at a here in
    rw (h, same) (word_first labels a l w written is)
words_on labels at (None ∷ said) ws a l w h none here written is = words_on labels at said ws a l w h none here written is
words_on labels at ((Some (Org y)) ∷ said) ws a l w h none here written is = absurd cc
words_on labels at ((Some (Entry y)) ∷ said) ws a l w h none here written is = words_on labels at said ws a l w h none here written is
words_on labels at ((Some (Label y)) ∷ said) ws a l w h none here written is = words_on labels at said ws a l w h none here written is
words_on labels at ((Some (Word v)) ∷ said) [] a l w h none here written is = absurd h
words_on labels at ((Some (Word v)) ∷ said) (u ∷ ws) a l w h none here written is = (h.0, h.1, words_on labels (at + 4) said ws a l w h.2 none here written is)
words_on labels at ((Some (Plain i)) ∷ said) [] a l w h none here written is = absurd h
words_on labels at ((Some (Plain i)) ∷ said) (u ∷ ws) a l w h none here written is = (h.0, h.1, words_on labels (at + 4) said ws a l w h.2 none here written is)
words_on labels at ((Some (Jump link to)) ∷ said) [] a l w h none here written is = absurd h
words_on labels at ((Some (Jump link to)) ∷ said) (u ∷ ws) a l w h none here written is = (h.0, h.1, words_on labels (at + 4) said ws a l w h.2 none here written is)
words_on labels at ((Some (Branch op s t to)) ∷ said) [] a l w h none here written is = absurd h
words_on labels at ((Some (Branch op s t to)) ∷ said) (u ∷ ws) a l w h none here written is = (h.0, h.1, words_on labels (at + 4) said ws a l w h.2 none here written is)

word_last : (labels : List (List ℕ × ℕ)) (at : ℕ) (l : Option Line) (ws : List (ℕ × ℕ)) → is_word l ≡ false → ws ≡ [] → Words labels at (l ∷ []) ws
word_last labels at None ws other h = h
word_last labels at (Some (Org y)) ws other h = h
word_last labels at (Some (Entry y)) ws other h = h
word_last labels at (Some (Label y)) ws other h = h
word_last labels at (Some (Word v)) ws other h = absurd cc
word_last labels at (Some (Plain i)) ws other h = absurd cc
word_last labels at (Some (Jump link to)) ws other h = absurd cc
word_last labels at (Some (Branch op s t to)) ws other h = absurd cc

pub words_same : (labels : List (List ℕ × ℕ)) (at : ℕ) (said : List (Option Line)) (ws : List (ℕ × ℕ)) (l : Option Line) → (no_org said && is_word l) ≡ false → Words labels at said ws → Words labels at (said ++ l ∷ []) ws
words_same labels at [] ws l other h = word_last labels at l ws other h
words_same labels at (None ∷ said) ws l other h = words_same labels at said ws l other h
words_same labels at ((Some (Org y)) ∷ said) ws l other h = h
words_same labels at ((Some (Entry y)) ∷ said) ws l other h = words_same labels at said ws l other h
words_same labels at ((Some (Label y)) ∷ said) ws l other h = words_same labels at said ws l other h
words_same labels at ((Some (Word v)) ∷ said) [] l other h = absurd h
words_same labels at ((Some (Word v)) ∷ said) (u ∷ ws) l other h = (h.0, h.1, words_same labels (at + 4) said ws l other h.2)
words_same labels at ((Some (Plain i)) ∷ said) [] l other h = absurd h
words_same labels at ((Some (Plain i)) ∷ said) (u ∷ ws) l other h = (h.0, h.1, words_same labels (at + 4) said ws l other h.2)
words_same labels at ((Some (Jump link to)) ∷ said) [] l other h = absurd h
words_same labels at ((Some (Jump link to)) ∷ said) (u ∷ ws) l other h = (h.0, h.1, words_same labels (at + 4) said ws l other h.2)
words_same labels at ((Some (Branch op s t to)) ∷ said) [] l other h = absurd h
words_same labels at ((Some (Branch op s t to)) ∷ said) (u ∷ ws) l other h = (h.0, h.1, words_same labels (at + 4) said ws l other h.2)

and_false : (b : Bool) → (b && false) ≡ false
and_false true = refl
and_false false = refl

-- a part begins
pub parts_org : (labels : List (List ℕ × ℕ)) (said : List (Option Line)) (ps : List (ℕ × List (ℕ × ℕ))) (x : ℕ) → Parts labels said ps → Parts labels (said ++ Some (Org x) ∷ []) (ps ++ (x, []) ∷ [])
parts_org labels [] ps x h = rw h (refl, refl, refl)
parts_org labels (None ∷ said) ps x h = parts_org labels said ps x h
parts_org labels ((Some (Org y)) ∷ said) [] x h = absurd h
parts_org labels ((Some (Org y)) ∷ said) (part ∷ ps) x h = (h.0, words_same labels y said part.1 (Some (Org x)) (and_false (no_org said)) h.1, parts_org labels said ps x h.2)
parts_org labels ((Some (Entry y)) ∷ said) ps x h = parts_org labels said ps x h
parts_org labels ((Some (Label y)) ∷ said) ps x h = parts_org labels said ps x h
parts_org labels ((Some (Word v)) ∷ said) ps x h = parts_org labels said ps x h
parts_org labels ((Some (Plain i)) ∷ said) ps x h = parts_org labels said ps x h
parts_org labels ((Some (Jump link to)) ∷ said) ps x h = parts_org labels said ps x h
parts_org labels ((Some (Branch op s t to)) ∷ said) ps x h = parts_org labels said ps x h

part_last : (labels : List (List ℕ × ℕ)) (l : Option Line) (ps : List (ℕ × List (ℕ × ℕ))) → is_org l ≡ false → ps ≡ [] → Parts labels (l ∷ []) ps
part_last labels None ps other h = h
part_last labels (Some (Org y)) ps other h = absurd cc
part_last labels (Some (Entry y)) ps other h = h
part_last labels (Some (Label y)) ps other h = h
part_last labels (Some (Word v)) ps other h = h
part_last labels (Some (Plain i)) ps other h = h
part_last labels (Some (Jump link to)) ps other h = h
part_last labels (Some (Branch op s t to)) ps other h = h

-- a line that gives no word
pub parts_same : (labels : List (List ℕ × ℕ)) (said : List (Option Line)) (ps : List (ℕ × List (ℕ × ℕ))) (l : Option Line) → is_org l ≡ false → is_word l ≡ false → Parts labels said ps → Parts labels (said ++ l ∷ []) ps
parts_same labels [] ps l other quiet h = part_last labels l ps other h
parts_same labels (None ∷ said) ps l other quiet h = parts_same labels said ps l other quiet h
parts_same labels ((Some (Org y)) ∷ said) [] l other quiet h = absurd h
parts_same labels ((Some (Org y)) ∷ said) (part ∷ ps) l other quiet h = (h.0, words_same labels y said part.1 l (rw quiet (and_false (no_org said))) h.1, parts_same labels said ps l other quiet h.2)
parts_same labels ((Some (Entry y)) ∷ said) ps l other quiet h = parts_same labels said ps l other quiet h
parts_same labels ((Some (Label y)) ∷ said) ps l other quiet h = parts_same labels said ps l other quiet h
parts_same labels ((Some (Word v)) ∷ said) ps l other quiet h = parts_same labels said ps l other quiet h
parts_same labels ((Some (Plain i)) ∷ said) ps l other quiet h = parts_same labels said ps l other quiet h
parts_same labels ((Some (Jump link to)) ∷ said) ps l other quiet h = parts_same labels said ps l other quiet h
parts_same labels ((Some (Branch op s t to)) ∷ said) ps l other quiet h = parts_same labels said ps l other quiet h

-- where no part is, no .org line stands
none_no_org : (labels : List (List ℕ × ℕ)) (said : List (Option Line)) → Parts labels said [] → no_org said ≡ true
none_no_org labels [] h = refl
none_no_org labels (None ∷ said) h = none_no_org labels said h
none_no_org labels ((Some (Org y)) ∷ said) h = absurd h
none_no_org labels ((Some (Entry y)) ∷ said) h = none_no_org labels said h
none_no_org labels ((Some (Label y)) ∷ said) h = none_no_org labels said h
none_no_org labels ((Some (Word v)) ∷ said) h = none_no_org labels said h
none_no_org labels ((Some (Plain i)) ∷ said) h = none_no_org labels said h
none_no_org labels ((Some (Jump link to)) ∷ said) h = none_no_org labels said h
none_no_org labels ((Some (Branch op s t to)) ∷ said) h = none_no_org labels said h

none_more : (labels : List (List ℕ × ℕ)) (said : List (Option Line)) (l : Option Line) → is_org l ≡ false → Parts labels said [] → Parts labels (said ++ l ∷ []) []
none_more labels [] l other h = part_last labels l [] other refl
none_more labels (None ∷ said) l other h = none_more labels said l other h
none_more labels ((Some (Org y)) ∷ said) l other h = absurd h
none_more labels ((Some (Entry y)) ∷ said) l other h = none_more labels said l other h
none_more labels ((Some (Label y)) ∷ said) l other h = none_more labels said l other h
none_more labels ((Some (Word v)) ∷ said) l other h = none_more labels said l other h
none_more labels ((Some (Plain i)) ∷ said) l other h = none_more labels said l other h
none_more labels ((Some (Jump link to)) ∷ said) l other h = none_more labels said l other h
none_more labels ((Some (Branch op s t to)) ∷ said) l other h = none_more labels said l other h

not_empty : (ps : List (ℕ × List (ℕ × ℕ))) (p : ℕ × List (ℕ × ℕ)) → ps ++ p ∷ [] ≡ [] → ⊥
not_empty [] p e = cc
not_empty (q ∷ ps) p e = cc

some_org : (labels : List (List ℕ × ℕ)) (said : List (Option Line)) (ps : List (ℕ × List (ℕ × ℕ))) (p : ℕ × List (ℕ × ℕ)) → Parts labels said (ps ++ p ∷ []) → no_org said ≡ false
some_org labels [] ps p h = absurd (not_empty ps p h)
some_org labels (None ∷ said) ps p h = some_org labels said ps p h
some_org labels ((Some (Org y)) ∷ said) ps p h = refl
some_org labels ((Some (Entry y)) ∷ said) ps p h = some_org labels said ps p h
some_org labels ((Some (Label y)) ∷ said) ps p h = some_org labels said ps p h
some_org labels ((Some (Word v)) ∷ said) ps p h = some_org labels said ps p h
some_org labels ((Some (Plain i)) ∷ said) ps p h = some_org labels said ps p h
some_org labels ((Some (Jump link to)) ∷ said) ps p h = some_org labels said ps p h
some_org labels ((Some (Branch op s t to)) ∷ said) ps p h = some_org labels said ps p h

-- behind an .org line it does not matter where the text began
after_org : (h k : Option ℕ) (said : List (Option Line)) → no_org said ≡ false → after_all h said ≡ after_all k said
after_org h k [] e = absurd cc
after_org h k (None ∷ said) e = after_org (after h None) (after k None) said e
after_org h k ((Some (Org y)) ∷ said) e = refl
after_org h k ((Some (Entry y)) ∷ said) e = after_org (after h (Some (Entry y))) (after k (Some (Entry y))) said e
after_org h k ((Some (Label y)) ∷ said) e = after_org (after h (Some (Label y))) (after k (Some (Label y))) said e
after_org h k ((Some (Word v)) ∷ said) e = after_org (after h (Some (Word v))) (after k (Some (Word v))) said e
after_org h k ((Some (Plain i)) ∷ said) e = after_org (after h (Some (Plain i))) (after k (Some (Plain i))) said e
after_org h k ((Some (Jump link to)) ∷ said) e = after_org (after h (Some (Jump link to))) (after k (Some (Jump link to))) said e
after_org h k ((Some (Branch op s t to)) ∷ said) e = after_org (after h (Some (Branch op s t to))) (after k (Some (Branch op s t to))) said e

word_no_org : (l : Line) → is_word (Some l) ≡ true → is_org (Some l) ≡ false
word_no_org (Org y) e = absurd cc
word_no_org (Entry y) e = refl
word_no_org (Label y) e = refl
word_no_org (Word v) e = refl
word_no_org (Plain i) e = refl
word_no_org (Jump link to) e = refl
word_no_org (Branch op s t to) e = refl

-- a line that gives a word
pub parts_word : (labels : List (List ℕ × ℕ)) (said : List (Option Line)) (ps : List (ℕ × List (ℕ × ℕ))) (x : ℕ) (ws : List (ℕ × ℕ)) (a : ℕ) (l : Line) (w : ℕ) → Parts labels said (ps ++ (x, ws) ∷ []) → after_all None said ≡ Some a → is_word (Some l) ≡ true → LineWord labels a l w → Parts labels (said ++ Some l ∷ []) (ps ++ (x, ws ++ (a, w) ∷ []) ∷ [])
parts_word labels [] ps x ws a l w h here written is = absurd (not_empty ps (x, ws) h)
parts_word labels (None ∷ said) ps x ws a l w h here written is = parts_word labels said ps x ws a l w h here written is
parts_word labels ((Some (Org y)) ∷ said) [] x ws a l w h here written is = (h.0, words_on labels y said ws a l w h.1 (none_no_org labels said h.2) here written is, none_more labels said (Some l) (word_no_org l written) h.2)
parts_word labels ((Some (Org y)) ∷ said) (part ∷ ps) x ws a l w h here written is = (let some = some_org labels said ps (x, ws) h.2 in (h.0, words_same labels y said part.1 (Some l) (rw some refl) h.1, parts_word labels said ps x ws a l w h.2 (after_org None (Some y) said some ∙ here) written is))
parts_word labels ((Some (Entry y)) ∷ said) ps x ws a l w h here written is = parts_word labels said ps x ws a l w h here written is
parts_word labels ((Some (Label y)) ∷ said) ps x ws a l w h here written is = parts_word labels said ps x ws a l w h here written is
parts_word labels ((Some (Word v)) ∷ said) ps x ws a l w h here written is = parts_word labels said ps x ws a l w h here written is
parts_word labels ((Some (Plain i)) ∷ said) ps x ws a l w h here written is = parts_word labels said ps x ws a l w h here written is
parts_word labels ((Some (Jump link to)) ∷ said) ps x ws a l w h here written is = parts_word labels said ps x ws a l w h here written is
parts_word labels ((Some (Branch op s t to)) ∷ said) ps x ws a l w h here written is = parts_word labels said ps x ws a l w h here written is
