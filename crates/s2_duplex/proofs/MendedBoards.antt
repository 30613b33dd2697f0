-- A board that is out may change without a change of what the boards stand for, and comes back with the words of these.
use Rattle.std.proofs.Common.{◌≡◌, ℕ, ◌<◌, List, length, refl, sym, ap, subst, inl, inr, ◌∙◌, ◌⊎◌, length-set}
use Rattle.std.specs.Prelude.{Bool, true, false, ◌&&◌, ◌==◌, Some, None, slice_index_or, if◌then◌else◌}
use Rattle.s2_base.specs.declared.map.TheConstants.{GLOBAL_WORDS}
use Rattle.s2_duplex.specs.BoardParity.{parity_of}
use Rattle.s2_duplex.specs.DuplexBoards.{BoardState, BoardPair, board_word, has_parity, is_valid, HasWordsOf, StandsFor, contents, valid_word, with_word, IsDuplex}
use Rattle.s2_duplex.specs.MendedBoards.{board_out, board_of, with_board, boards_copied, boards_joined, IsMended}
use Rattle.s2_duplex.proofs.ValidWords.{contents_are, fits_here}
use Rattle.std.proofs.lemmas.List.{get_or-set_same}
use Rattle.s2_duplex.proofs.DuplexInvariant.{duplex_is, length_is, valid_in_contents}

-- a board that is out has no valid word
not_valid : (b : BoardState) (k : ℕ) → b.is_in ≡ false → is_valid b k ≡ true → ⊥
not_valid b k out v = let e : false ≡ true = sym (ap (λ (x : Bool). x && has_parity b k) out) ∙ v in absurd cc

pub out_of : (x y : Bool) (b : ℕ) → (if x then (if y then None else Some 1) else Some 0) ≡ Some b → ((b ≡ 0) × (x ≡ false)) ⊎ ((b ≡ 1) × (y ≡ false))
out_of false y b h = inl (cc, refl)
out_of true true b h = absurd cc
out_of true false b h = inr (cc, refl)

-- another in its place, which stands for the same list
first_stands : (s : BoardPair) (list : List ℕ) (x : BoardState) → s.first.is_in ≡ false → HasWordsOf x list → StandsFor s list → StandsFor (record s { first = x }) list
first_stands s list x out has stands = record {
  first = has;
  second = stands.second;
  some = λ k low. elim (stands.some k low) [ inl v ↦ absurd (not_valid s.first k out v) | inr v ↦ inr v ];
}

second_stands : (s : BoardPair) (list : List ℕ) (x : BoardState) → s.second.is_in ≡ false → HasWordsOf x list → StandsFor s list → StandsFor (record s { second = x }) list
second_stands s list x out has stands = record {
  first = stands.first;
  second = has;
  some = λ k low. elim (stands.some k low) [ inl v ↦ inl v | inr v ↦ absurd (not_valid s.second k out v) ];
}

-- a board that is out, with a word set
word_set : (b : BoardState) (list : List ℕ) (i w : ℕ) → b.is_in ≡ false → HasWordsOf b list → HasWordsOf (with_word b i w) list
word_set b list i w out has = record {
  words = length-set b.words i w ∙ has.words;
  parity = length-set b.parity i (parity_of w) ∙ has.parity;
  equal = λ k low v. absurd (not_valid (with_word b i w) k out v);
}

-- and in again, with the words of the list
joined : (b : BoardState) (list : List ℕ) → ((k : ℕ) → k < length list → board_word b k ≡ slice_index_or list k 0) → HasWordsOf b list → HasWordsOf (record b { is_in = true }) list
joined b list each has = record { words = has.words; parity = has.parity; equal = λ k low v. each k low }

copied_stands : (s : BoardPair) (list : List ℕ) (b i w : ℕ) → board_out s ≡ Some b → StandsFor s list → StandsFor (with_board b (with_word (board_of b s) i w) s) list
copied_stands s list b i w out stands = elim (out_of s.first.is_in s.second.is_in b out) [
  | inl h ↦ subst (λ (n : ℕ). StandsFor (with_board n (with_word (board_of n s) i w) s) list) (sym h.0) (first_stands s list (with_word s.first i w) h.1 (word_set s.first list i w h.1 stands.first) stands)
  | inr h ↦ subst (λ (n : ℕ). StandsFor (with_board n (with_word (board_of n s) i w) s) list) (sym h.0) (second_stands s list (with_word s.second i w) h.1 (word_set s.second list i w h.1 stands.second) stands)
]

joined_stands : (s : BoardPair) (list : List ℕ) (b : ℕ) → board_out s ≡ Some b → ((k : ℕ) → k < length list → board_word (board_of b s) k ≡ slice_index_or list k 0) → StandsFor s list → StandsFor (boards_joined b s) list
joined_stands s list b out each stands = elim (out_of s.first.is_in s.second.is_in b out) [
  | inl h ↦ subst (λ (n : ℕ). StandsFor (boards_joined n s) list) (sym h.0)
      (first_stands s list (record s.first { is_in = true }) h.1 (joined s.first list (subst (λ (n : ℕ). (k : ℕ) → k < length list → board_word (board_of n s) k ≡ slice_index_or list k 0) h.0 each) stands.first) stands)
  | inr h ↦ subst (λ (n : ℕ). StandsFor (boards_joined n s) list) (sym h.0)
      (second_stands s list (record s.second { is_in = true }) h.1 (joined s.second list (subst (λ (n : ℕ). (k : ℕ) → k < length list → board_word (board_of n s) k ≡ slice_index_or list k 0) h.0 each) stands.second) stands)
]

pub copied_duplex : (s : BoardPair) (b i : ℕ) → board_out s ≡ Some b → IsDuplex s → IsDuplex (boards_copied b i s)
copied_duplex s b i out d = duplex_is (boards_copied b i s) (contents s) (length_is s d) (copied_stands s (contents s) b i (valid_word s i) out d.stands)

pub copied_contents : (s : BoardPair) (b i : ℕ) → board_out s ≡ Some b → IsDuplex s → contents (boards_copied b i s) ≡ contents s
copied_contents s b i out d = contents_are (boards_copied b i s) (contents s) (copied_stands s (contents s) b i (valid_word s i) out d.stands)

mended_words : (s : BoardPair) (b : ℕ) → IsDuplex s → IsMended b s → (k : ℕ) → k < length (contents s) → board_word (board_of b s) k ≡ slice_index_or (contents s) k 0
mended_words s b d mended k low = (mended k (subst (λ (n : ℕ). k < n) (length_is s d) low)).0

pub joined_duplex : (s : BoardPair) (b : ℕ) → board_out s ≡ Some b → IsMended b s → IsDuplex s → IsDuplex (boards_joined b s)
joined_duplex s b out mended d = duplex_is (boards_joined b s) (contents s) (length_is s d) (joined_stands s (contents s) b out (mended_words s b d mended) d.stands)

pub joined_contents : (s : BoardPair) (b : ℕ) → board_out s ≡ Some b → IsMended b s → IsDuplex s → contents (boards_joined b s) ≡ contents s
joined_contents s b out mended d = contents_are (boards_joined b s) (contents s) (joined_stands s (contents s) b out (mended_words s b d mended) d.stands)

-- the word that was copied
at_board : (t : Bool) (x : BoardState) (s : BoardPair) → (if t then (if t then record s { first = x } else record s { second = x }).first else (if t then record s { first = x } else record s { second = x }).second) ≡ x
at_board true x s = refl
at_board false x s = refl

pub board_of_with : (b : ℕ) (x : BoardState) (s : BoardPair) → board_of b (with_board b x s) ≡ x
board_of_with b x s = at_board (b == 0) x s

board_size : (t : Bool) (s : BoardPair) → IsDuplex s → (length (if t then s.first else s.second).words ≡ GLOBAL_WORDS) × (length (if t then s.first else s.second).parity ≡ GLOBAL_WORDS)
board_size true s d = (d.stands.first.words ∙ length_is s d, d.stands.first.parity ∙ length_is s d)
board_size false s d = (d.stands.second.words ∙ length_is s d, d.stands.second.parity ∙ length_is s d)

pub copied_word : (s : BoardPair) (b i : ℕ) → i < GLOBAL_WORDS → IsDuplex s
    → (board_word (board_of b (boards_copied b i s)) i ≡ slice_index_or (contents s) i 0) × (has_parity (board_of b (boards_copied b i s)) i ≡ true)
copied_word s b i h d =
    let size = board_size (b == 0) s d in
    let x = board_of_with b (with_word (board_of b s) i (valid_word s i)) s in (
      ap (λ (y : BoardState). board_word y i) x ∙ (get_or-set_same (board_of b s).words i (valid_word s i) 0 (subst (λ (n : ℕ). i < n) (sym size.0) h) ∙ valid_in_contents s i h d),
      ap (λ (y : BoardState). has_parity y i) x ∙ fits_here (board_of b s) i (valid_word s i) (subst (λ (n : ℕ). i < n) (sym size.0) h) (subst (λ (n : ℕ). i < n) (sym size.1) h),
    )
