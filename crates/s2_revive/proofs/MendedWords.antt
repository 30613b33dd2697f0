-- One more word of a board that mends.
use Rattle.std.proofs.Common.{◌≡◌, ◌≢◌, ℕ, ◌+◌, ◌<◌, ◌≤◌, List, Bool, true, false, refl, sym, ap, subst, inl, inr, ◌∙◌, arith, get_or-set_other}
use Rattle.std.specs.Prelude.{◌==◌, Some, None, slice_index_or, slice_set, if◌then◌else◌}
use Rattle.std.specs.declared.option.Option.{Option}
use Rattle.std.proofs.lemmas.Bool.{cases_eq}
use Rattle.s2_base.specs.declared.map.TheConstants.{GLOBAL_WORDS}
use Rattle.s2_duplex.specs.BoardParity.{is_same_bit, parity_of}
use Rattle.s2_duplex.specs.DuplexBoards.{BoardState, BoardPair, board_word, has_parity, contents, valid_word, with_word, written_board, boards_written}
use Rattle.s2_duplex.specs.MendedBoards.{board_out, board_of, boards_copied, IsMended}
use Rattle.s2_duplex.proofs.MendedBoards.{board_of_with, out_of}
use Rattle.s2_revive.specs.declared.revive.Mending.{Mending}
use Rattle.s2_revive.specs.MendingBoards.{IsMending}

-- another word of a board stays, with its parity
word_stays : (x : BoardState) (i w k : ℕ) → k ≢ i → board_word (with_word x i w) k ≡ board_word x k
word_stays x i w k ne = get_or-set_other x.words i k w 0 ne

parity_stays : (x : BoardState) (i w k : ℕ) → k ≢ i → has_parity (with_word x i w) k ≡ has_parity x k
parity_stays x i w k ne =
    ap (λ (v : ℕ). is_same_bit (parity_of v) (slice_index_or (with_word x i w).parity k false)) (word_stays x i w k ne)
    ∙ ap (is_same_bit (parity_of (board_word x k))) (get_or-set_other x.parity i k (parity_of w) false ne)

pub out_stays : (t : Bool) (s : BoardPair) (i w : ℕ) → board_out (if t then record s { first = with_word (if t then s.first else s.second) i w } else record s { second = with_word (if t then s.first else s.second) i w }) ≡ board_out s
out_stays true s i w = refl
out_stays false s i w = refl

module _ (s new : BoardPair) (m : Mending) (ok : IsMending s m) (is : new ≡ boards_copied m.board m.cursor s) (same : contents new ≡ contents s)
    (word : board_word (board_of m.board new) m.cursor ≡ slice_index_or (contents s) m.cursor 0) (parity : has_parity (board_of m.board new) m.cursor ≡ true) where
  board_is : board_of m.board new ≡ with_word (board_of m.board s) m.cursor (valid_word s m.cursor)
  board_is = ap (board_of m.board) is ∙ board_of_with m.board (with_word (board_of m.board s) m.cursor (valid_word s m.cursor)) s

  pub copied_below : (k : ℕ) → k < m.cursor + 1 → (board_word (board_of m.board new) k ≡ slice_index_or (contents new) k 0) × (has_parity (board_of m.board new) k ≡ true)
  copied_below k low = elim (cases_eq k m.cursor) [
    | inl at ↦ (
      ap (board_word (board_of m.board new)) at ∙ (word ∙ (ap (λ (j : ℕ). slice_index_or (contents s) j 0) (sym at) ∙ ap (λ (l : List ℕ). slice_index_or l k 0) (sym same))),
      ap (has_parity (board_of m.board new)) at ∙ parity,
    )
    | inr ne ↦
        let old = ok.words k (omega arith) in (
          ap (λ (x : BoardState). board_word x k) board_is ∙ (word_stays (board_of m.board s) m.cursor (valid_word s m.cursor) k ne ∙ (old.0 ∙ ap (λ (l : List ℕ). slice_index_or l k 0) (sym same))),
          ap (λ (x : BoardState). has_parity x k) board_is ∙ (parity_stays (board_of m.board s) m.cursor (valid_word s m.cursor) k ne ∙ old.1),
        )
  ]

  pub copied_mending : m.cursor + 1 < GLOBAL_WORDS → IsMending new (record { board = m.board; cursor = m.cursor + 1 })
  copied_mending less = record {
    out = ap board_out is ∙ (out_stays (m.board == 0) s m.cursor (valid_word s m.cursor) ∙ ok.out);
    below = less;
    words = copied_below;
  }

  pub copied_last : GLOBAL_WORDS ≤ m.cursor + 1 → IsMended m.board new
  copied_last last k low = copied_below k (omega arith)

-- what a write leaves of a board that is out
in_stays : (t : Bool) (x : BoardState) (i w : ℕ) → (if t then with_word x i w else x).is_in ≡ x.is_in
in_stays true x i w = refl
in_stays false x i w = refl

written_at : (t : Bool) (s : BoardPair) (i w : ℕ) → (if t then written_board s.first i w else written_board s.second i w) ≡ written_board (if t then s.first else s.second) i w
written_at true s i w = refl
written_at false s i w = refl

unwritten : (x : BoardState) (i w : ℕ) → x.is_in ≡ false → written_board x i w ≡ x
unwritten x i w out = ap (λ (t : Bool). if t then with_word x i w else x) out

is_out : (s : BoardPair) (b : ℕ) → board_out s ≡ Some b → (board_of b s).is_in ≡ false
is_out s b out = elim (out_of s.first.is_in s.second.is_in b out) [
  | inl h ↦ subst (λ (n : ℕ). (board_of n s).is_in ≡ false) (sym h.0) h.1
  | inr h ↦ subst (λ (n : ℕ). (board_of n s).is_in ≡ false) (sym h.0) h.1
]

abbrev pub out_bits : Bool → Bool → Option ℕ
out_bits x y = if x then (if y then None else Some 1) else Some 0

-- a write, and a copy of the word where it is below the cursor
module _ (s t : BoardPair) (m : Mending) (ok : IsMending s m) (i w v : ℕ) (is : t ≡ boards_written s i w) (changed : contents t ≡ slice_set (contents s) i v) where
  pub written_out : board_out t ≡ Some m.board
  written_out =
      ap board_out is
      ∙ (ap (λ (x : Bool). out_bits x (written_board s.second i w).is_in) (in_stays s.first.is_in s.first i w)
      ∙ (ap (out_bits s.first.is_in) (in_stays s.second.is_in s.second i w) ∙ ok.out))

  board_kept : board_of m.board t ≡ board_of m.board s
  board_kept = ap (board_of m.board) is ∙ (written_at (m.board == 0) s i w ∙ unwritten (board_of m.board s) i w (is_out s m.board ok.out))

  below_kept : (k : ℕ) → k < m.cursor → k ≢ i → (board_word (board_of m.board t) k ≡ slice_index_or (contents t) k 0) × (has_parity (board_of m.board t) k ≡ true)
  below_kept k low ne =
      let old = ok.words k low in (
        ap (λ (x : BoardState). board_word x k) board_kept ∙ (old.0 ∙ (sym (get_or-set_other (contents s) i k v 0 ne) ∙ ap (λ (l : List ℕ). slice_index_or l k 0) (sym changed))),
        ap (λ (x : BoardState). has_parity x k) board_kept ∙ old.1,
      )

  pub written_mending : m.cursor ≤ i → IsMending t m
  written_mending above = record { out = written_out; below = ok.below; words = λ k low. below_kept k low (λ e. omega arith) }

  module _ (u : BoardPair) (copied : u ≡ boards_copied m.board i t) (same : contents u ≡ contents t)
      (word : board_word (board_of m.board u) i ≡ slice_index_or (contents t) i 0) (parity : has_parity (board_of m.board u) i ≡ true) where
    u_is : board_of m.board u ≡ with_word (board_of m.board t) i (valid_word t i)
    u_is = ap (board_of m.board) copied ∙ board_of_with m.board (with_word (board_of m.board t) i (valid_word t i)) t

    pub recopied_mending : IsMending u m
    recopied_mending = record {
      out = ap board_out copied ∙ (out_stays (m.board == 0) t i (valid_word t i) ∙ written_out);
      below = ok.below;
      words = λ k low. elim (cases_eq k i) [
        | inl at ↦ (
          ap (board_word (board_of m.board u)) at ∙ (word ∙ (ap (λ (j : ℕ). slice_index_or (contents t) j 0) (sym at) ∙ ap (λ (l : List ℕ). slice_index_or l k 0) (sym same))),
          ap (has_parity (board_of m.board u)) at ∙ parity,
        )
        | inr ne ↦
            let old = below_kept k low ne in (
              ap (λ (x : BoardState). board_word x k) u_is ∙ (word_stays (board_of m.board t) i (valid_word t i) k ne ∙ (old.0 ∙ ap (λ (l : List ℕ). slice_index_or l k 0) (sym same))),
              ap (λ (x : BoardState). has_parity x k) u_is ∙ (parity_stays (board_of m.board t) i (valid_word t i) k ne ∙ old.1),
            )
      ];
    }
