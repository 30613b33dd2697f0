-- The list that the boards stand for, through reads and writes.
use Rattle.std.proofs.Common.{◌≡◌, ℕ, ◌<◌, ◌≢◌, List, length, refl, sym, ap, subst, inl, inr, ◌∙◌, arith, get_or-set_other, length-set}
use Rattle.std.specs.Prelude.{Bool, true, false, ◌&&◌, None, map, slice_index_or, slice_set, if◌then◌else◌}
use Rattle.std.proofs.lemmas.Bool.{cases_eq}
use Rattle.std.proofs.lemmas.List.{get_or-set_same, ext_get_or, get_or-map, length-map}
use Rattle.std.proofs.lemmas.List.FromFn.{length-map-range_with_len, get_or-map-range_with_len}
use Rattle.s2_duplex.specs.BoardParity.{parity_of, is_same_bit}
use Rattle.s2_duplex.specs.DuplexBoards.{BoardState, BoardPair, board_word, has_parity, is_valid, HasWordsOf, StandsFor, valid_word, contents, new_board, with_word, repaired_by, written_board}
use Rattle.s2_duplex.specs.ContentsLaws.{ContentsAreUnique, NewBoardsStand, ReadKeepsContents, WriteSetsOneWord}

pub clash : (b : Bool) → b ≡ true → b ≡ false → ⊥
clash b x y = cc

same_bit : (b : Bool) → is_same_bit b b ≡ true
same_bit true = refl
same_bit false = refl

-- the contents
pub length_contents : (s : BoardPair) → length (contents s) ≡ length s.first.words
length_contents s = length-map-range_with_len (valid_word s) 0 (length s.first.words)

contents_at : (s : BoardPair) (i : ℕ) → i < length s.first.words → slice_index_or (contents s) i 0 ≡ valid_word s i
contents_at s i h = get_or-map-range_with_len (valid_word s) 0 (length s.first.words) i i 0 h (omega arith)

pub valid_word_is : (s : BoardPair) (list : List ℕ) (i : ℕ) → i < length list → StandsFor s list → valid_word s i ≡ slice_index_or list i 0
valid_word_is s list i h stands = by_first (is_valid s.first i) refl
  where
    by_first : (b : Bool) → is_valid s.first i ≡ b → (if b then board_word s.first i else board_word s.second i) ≡ slice_index_or list i 0
    by_first true e = stands.first.equal i h e
    by_first false e = elim (stands.some i h) [ inl first ↦ absurd (clash (is_valid s.first i) first e) | inr second ↦ stands.second.equal i h second ]

pub contents_are : ContentsAreUnique
contents_are s list stands =
    let size = stands.first.words in
    let made = length_contents s in
    ext_get_or 0 (contents s) list (omega arith) (λ k h. contents_at s k (omega arith) ∙ valid_word_is s list k (omega arith) stands)

-- new boards
parity_at : (words : List ℕ) (i : ℕ) → i < length words → slice_index_or (map parity_of words) i false ≡ parity_of (slice_index_or words i 0)
parity_at words i h = get_or-map parity_of words i 0 false h

pub new_stand : NewBoardsStand
new_stand words = record { first = one; second = one; some = λ i h. inl (fits i h) }
  where
    one : HasWordsOf (new_board words) words
    one = record { words = refl; parity = length-map words parity_of; equal = λ i h valid. refl }

    fits : (i : ℕ) → i < length words → is_valid (new_board words) i ≡ true
    fits i h = ap (is_same_bit (parity_of (slice_index_or words i 0))) (parity_at words i h) ∙ same_bit (parity_of (slice_index_or words i 0))

-- a word that is set: the others stay as they were, and it is valid where the board is in
valid_other : (b : BoardState) (i k word : ℕ) → k ≢ i → is_valid (with_word b i word) k ≡ is_valid b k
valid_other b i k word ne =
    ap (λ (w : ℕ). b.is_in && is_same_bit (parity_of w) (slice_index_or (slice_set b.parity i (parity_of word)) k false)) (get_or-set_other b.words i k word 0 ne) ∙
    ap (λ (p : Bool). b.is_in && is_same_bit (parity_of (board_word b k)) p) (get_or-set_other b.parity i k (parity_of word) false ne)

pub fits_here : (b : BoardState) (i word : ℕ) → i < length b.words → i < length b.parity → has_parity (with_word b i word) i ≡ true
fits_here b i word low high =
    ap (λ (w : ℕ). is_same_bit (parity_of w) (slice_index_or (slice_set b.parity i (parity_of word)) i false)) (get_or-set_same b.words i word 0 low) ∙
    (ap (λ (p : Bool). is_same_bit (parity_of word) p) (get_or-set_same b.parity i (parity_of word) false high) ∙ same_bit (parity_of word))

valid_here : (b : BoardState) (i word : ℕ) → b.is_in ≡ true → i < length b.words → i < length b.parity → is_valid (with_word b i word) i ≡ true
valid_here b i word on low high = ap (λ (x : Bool). x && has_parity (with_word b i word) i) on ∙ fits_here b i word low high

-- the list that has a word in place of another
record Replaces (old new : List ℕ) (i word : ℕ) : Type 0 where
  size : length new ≡ length old
  here : slice_index_or new i 0 ≡ word
  other : (k : ℕ) → k ≢ i → slice_index_or new k 0 ≡ slice_index_or old k 0

set_has_words : (b : BoardState) (old new : List ℕ) (i word : ℕ) → Replaces old new i word → i < length old → HasWordsOf b old → HasWordsOf (with_word b i word) new
set_has_words b old new i word r low has = record {
  words = length-set b.words i word ∙ (has.words ∙ sym r.size);
  parity = length-set b.parity i (parity_of word) ∙ (has.parity ∙ sym r.size);
  equal = λ k h valid.
      let size = r.size in
      let words = has.words in
      elim (cases_eq k i) [
        | inl same ↦ subst (λ (n : ℕ). board_word (with_word b i word) n ≡ slice_index_or new n 0) (sym same) (get_or-set_same b.words i word 0 (omega arith) ∙ sym r.here)
        | inr ne ↦ get_or-set_other b.words i k word 0 ne ∙ (has.equal k (omega arith) (sym (valid_other b i k word ne) ∙ valid) ∙ sym (r.other k ne))
      ];
}

-- a board that is out has no valid word
out_has_words : (b : BoardState) (old new : List ℕ) (i word : ℕ) → Replaces old new i word → b.is_in ≡ false → HasWordsOf b old → HasWordsOf b new
out_has_words b old new i word r out has = record { words = has.words ∙ sym r.size; parity = has.parity ∙ sym r.size; equal = λ k h valid. absurd (clash (is_valid b k) valid (ap (λ (x : Bool). x && has_parity b k) out)) }

same_replaces : (list : List ℕ) (i word : ℕ) → slice_index_or list i 0 ≡ word → Replaces list list i word
same_replaces list i word h = record { size = refl; here = h; other = λ k ne. refl }

-- a read
pub both_true : (a b : Bool) → (a && b) ≡ true → (a ≡ true) × (b ≡ true)
both_true true b h = (refl, h)
both_true false b h = absurd cc

bad_is_not_valid : (b : BoardState) (i : ℕ) → has_parity b i ≡ false → is_valid b i ≡ true → ⊥
bad_is_not_valid b i bad valid = clash (has_parity b i) (both_true b.is_in (has_parity b i) valid).1 bad

pub read_stands : ReadKeepsContents
read_stands s list i low stands = by_in (s.first.is_in && s.second.is_in) refl
  where
    by_parity : (a b : Bool) → has_parity s.first i ≡ a → has_parity s.second i ≡ b → StandsFor (repaired_by a b s i).boards list
    by_parity true true ea eb = stands
    by_parity false b ea eb =
        let second : is_valid s.second i ≡ true = elim (stands.some i low) [ inl first ↦ absurd (bad_is_not_valid s.first i ea first) | inr second ↦ second ] in
        record {
          first = set_has_words s.first list list i (board_word s.second i) (same_replaces list i (board_word s.second i) (sym (stands.second.equal i low second))) low stands.first;
          second = stands.second;
          some = λ k h. elim (cases_eq k i) [
            | inl same ↦ inr (ap (is_valid s.second) same ∙ second)
            | inr ne ↦ elim (stands.some k h) [ inl first ↦ inl (valid_other s.first i k (board_word s.second i) ne ∙ first) | inr other ↦ inr other ]
          ];
        }
    by_parity true false ea eb =
        let first : is_valid s.first i ≡ true = elim (stands.some i low) [ inl first ↦ first | inr second ↦ absurd (bad_is_not_valid s.second i eb second) ] in
        record {
          first = stands.first;
          second = set_has_words s.second list list i (board_word s.first i) (same_replaces list i (board_word s.first i) (sym (stands.first.equal i low first))) low stands.second;
          some = λ k h. elim (cases_eq k i) [
            | inl same ↦ inl (ap (is_valid s.first) same ∙ first)
            | inr ne ↦ elim (stands.some k h) [ inl other ↦ inl other | inr second ↦ inr (valid_other s.second i k (board_word s.first i) ne ∙ second) ]
          ];
        }

    by_in : (b : Bool) → (s.first.is_in && s.second.is_in) ≡ b → StandsFor (if b then repaired_by (has_parity s.first i) (has_parity s.second i) s i else record { boards = s; repaired = None }).boards list
    by_in true e = by_parity (has_parity s.first i) (has_parity s.second i) refl refl
    by_in false e = stands

-- a write
abbrev written_if : Bool → BoardState → ℕ → ℕ → BoardState
written_if on b i word = if on then with_word b i word else b

write_has_words : (b : BoardState) (old new : List ℕ) (i word : ℕ) (on : Bool) → b.is_in ≡ on → Replaces old new i word → i < length old → HasWordsOf b old → HasWordsOf (written_if on b i word) new
write_has_words b old new i word true e r low has = set_has_words b old new i word r low has
write_has_words b old new i word false e r low has = out_has_words b old new i word r e has

write_other : (b : BoardState) (i k word : ℕ) (on : Bool) → k ≢ i → is_valid b k ≡ true → is_valid (written_if on b i word) k ≡ true
write_other b i k word true ne valid = valid_other b i k word ne ∙ valid
write_other b i k word false ne valid = valid

write_here : (b : BoardState) (list : List ℕ) (i word : ℕ) (on : Bool) → b.is_in ≡ on → i < length list → HasWordsOf b list → is_valid b i ≡ true → is_valid (written_if on b i word) i ≡ true
write_here b list i word true e low has valid = let w = has.words in let p = has.parity in valid_here b i word e (omega arith) (omega arith)
write_here b list i word false e low has valid = valid

pub write_stands : WriteSetsOneWord
write_stands s list i word low stands =
    let size = length-set list i word in
    let replaces : Replaces list (slice_set list i word) i word = record { size = size; here = get_or-set_same list i word 0 low; other = λ k ne. get_or-set_other list i k word 0 ne } in
    record {
      first = write_has_words s.first list (slice_set list i word) i word s.first.is_in refl replaces low stands.first;
      second = write_has_words s.second list (slice_set list i word) i word s.second.is_in refl replaces low stands.second;
      some = λ k h. elim (cases_eq k i) [
        | inl same ↦ elim (stands.some i low) [
          | inl first ↦ inl (ap (is_valid (written_board s.first i word)) same ∙ write_here s.first list i word s.first.is_in refl low stands.first first)
          | inr second ↦ inr (ap (is_valid (written_board s.second i word)) same ∙ write_here s.second list i word s.second.is_in refl low stands.second second)
        ]
        | inr ne ↦ elim (stands.some k (omega arith)) [
          | inl first ↦ inl (write_other s.first i k word s.first.is_in ne first)
          | inr second ↦ inr (write_other s.second i k word s.second.is_in ne second)
        ]
      ];
    }
