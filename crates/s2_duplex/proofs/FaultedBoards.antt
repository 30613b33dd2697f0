-- The list that the boards stand for, through faults.
use Rattle.std.proofs.Common.{◌≡◌, ℕ, ◌+◌, ◌^◌, ◌<◌, ◌≢◌, List, length, refl, sym, ap, inl, inr, ◌∙◌, arith, get_or-set_other, length-set}
use Rattle.std.specs.Prelude.{Bool, true, false, not, ◌&&◌, ◌==◌, slice_index_or, if◌then◌else◌}
use Rattle.std.specs.Int.Bits.{bit_xor}
use Rattle.std.proofs.lemmas.Bool.{cases_eq}
use Rattle.std.proofs.lemmas.List.{get_or-set_same}
use Rattle.s2_ports.specs.declared.events.BoardFault.{BoardFault}
use Rattle.s2_ports.specs.declared.events.BoardFault.TheVariants.{Dead, Flip}
use Rattle.s2_duplex.specs.BoardParity.{parity_of, is_same_bit}
use Rattle.s2_duplex.specs.DuplexBoards.{BoardState, BoardPair, board_word, has_parity, is_valid, HasWordsOf, StandsFor}
use Rattle.s2_duplex.specs.ToleratedFaults.{IsFaultBelow, other_board, has_all_parity, is_tolerated, faulty, boards_struck}
use Rattle.s2_duplex.specs.ContentsLaws.{FaultKeepsContents}
use Rattle.s2_duplex.proofs.FlippedParity.{flip_parity}
use Rattle.s2_duplex.proofs.Ranges.{range_passes}
use Rattle.s2_duplex.proofs.ValidWords.{clash, both_true}

and_true : (a b : Bool) → a ≡ true → b ≡ true → (a && b) ≡ true
and_true true b x y = y
and_true false b x y = absurd cc

other_bit : (a b : Bool) → is_same_bit a b ≡ true → is_same_bit (not a) b ≡ false
other_bit true true h = refl
other_bit true false h = absurd cc
other_bit false true h = absurd cc
other_bit false false h = refl

-- a flipped word is bad, and the others stay
flip_other : (b : BoardState) (board i bit k : ℕ) → k ≢ i → is_valid (faulty b (Flip board i bit)) k ≡ is_valid b k
flip_other b board i bit k ne = ap (λ (w : ℕ). b.is_in && is_same_bit (parity_of w) (slice_index_or b.parity k false)) (get_or-set_other b.words i k (bit_xor (board_word b i) (2 ^ bit)) 0 ne)

flip_here : (b : BoardState) (board i bit : ℕ) → i < length b.words → has_parity b i ≡ true → is_valid (faulty b (Flip board i bit)) i ≡ false
flip_here b board i bit low h =
    ap (λ (w : ℕ). b.is_in && is_same_bit (parity_of w) (slice_index_or b.parity i false)) (get_or-set_same b.words i (bit_xor (board_word b i) (2 ^ bit)) 0 low) ∙
    (ap (λ (p : Bool). b.is_in && is_same_bit p (slice_index_or b.parity i false)) (flip_parity (board_word b i) bit) ∙
    (ap (λ (x : Bool). b.is_in && x) (other_bit (parity_of (board_word b i)) (slice_index_or b.parity i false) h) ∙ and_false b.is_in))
  where
    and_false : (x : Bool) → (x && false) ≡ false
    and_false true = refl
    and_false false = refl

flip_has_words : (b : BoardState) (list : List ℕ) (board i bit : ℕ) → i < length list → has_parity b i ≡ true → HasWordsOf b list → HasWordsOf (faulty b (Flip board i bit)) list
flip_has_words b list board i bit low h has = record {
  words = length-set b.words i (bit_xor (board_word b i) (2 ^ bit)) ∙ has.words;
  parity = has.parity;
  equal = λ k high valid.
      let words = has.words in
      elim (cases_eq k i) [
        | inl same ↦ absurd (clash (is_valid (faulty b (Flip board i bit)) i) (ap (is_valid (faulty b (Flip board i bit))) (sym same) ∙ valid) (flip_here b board i bit (omega arith) h))
        | inr ne ↦ get_or-set_other b.words i k (bit_xor (board_word b i) (2 ^ bit)) 0 ne ∙ has.equal k high (sym (flip_other b board i bit k ne) ∙ valid)
      ];
}

dead_has_words : (b : BoardState) (list : List ℕ) (board : ℕ) → HasWordsOf b list → HasWordsOf (faulty b (Dead board)) list
dead_has_words b list board has = record { words = has.words; parity = has.parity; equal = λ k h valid. absurd (clash false valid refl) }

-- a fault that is tolerated leaves a valid word at each place
flip_stands : (s : BoardPair) (list : List ℕ) (board i bit : ℕ) → i < length list → is_tolerated s (Flip board i bit) ≡ true → StandsFor s list → StandsFor (boards_struck s (Flip board i bit)) list
flip_stands s list board i bit low tolerated stands =
    let both = both_true (s.first.is_in && s.second.is_in) (has_parity s.first i && has_parity s.second i) tolerated in
    let ins = both_true s.first.is_in s.second.is_in both.0 in
    let fits = both_true (has_parity s.first i) (has_parity s.second i) both.1 in
    by_board (board == 0) (and_true s.first.is_in (has_parity s.first i) ins.0 fits.0) (and_true s.second.is_in (has_parity s.second i) ins.1 fits.1) fits.0 fits.1
  where
    by_board : (zero : Bool) → is_valid s.first i ≡ true → is_valid s.second i ≡ true → has_parity s.first i ≡ true → has_parity s.second i ≡ true →
        StandsFor (if zero then record s { first = faulty s.first (Flip board i bit) } else record s { second = faulty s.second (Flip board i bit) }) list
    by_board true first second f g = record {
      first = flip_has_words s.first list board i bit low f stands.first;
      second = stands.second;
      some = λ k h. elim (cases_eq k i) [
        | inl same ↦ inr (ap (is_valid s.second) same ∙ second)
        | inr ne ↦ elim (stands.some k h) [ inl x ↦ inl (flip_other s.first board i bit k ne ∙ x) | inr y ↦ inr y ]
      ];
    }
    by_board false first second f g = record {
      first = stands.first;
      second = flip_has_words s.second list board i bit low g stands.second;
      some = λ k h. elim (cases_eq k i) [
        | inl same ↦ inl (ap (is_valid s.first) same ∙ first)
        | inr ne ↦ elim (stands.some k h) [ inl x ↦ inl x | inr y ↦ inr (flip_other s.second board i bit k ne ∙ y) ]
      ];
    }

-- a board without a bad word that is in has only valid words
all_valid : (b : BoardState) (list : List ℕ) → b.is_in ≡ true → has_all_parity b ≡ true → HasWordsOf b list → (k : ℕ) → k < length list → is_valid b k ≡ true
all_valid b list on all has k h =
    let words = has.words in
    and_true b.is_in (has_parity b k) on (ap (has_parity b) (let e : k ≡ 0 + k = omega arith in e) ∙ range_passes (has_parity b) 0 (length b.words) k all (omega arith))

dead_stands : (s : BoardPair) (list : List ℕ) (board : ℕ) → is_tolerated s (Dead board) ≡ true → StandsFor s list → StandsFor (boards_struck s (Dead board)) list
dead_stands s list board tolerated stands =
    let both = both_true (s.first.is_in && s.second.is_in) (has_all_parity (other_board board s)) tolerated in
    let ins = both_true s.first.is_in s.second.is_in both.0 in
    by_board (board == 0) ins.0 ins.1 both.1
  where
    by_board : (zero : Bool) → s.first.is_in ≡ true → s.second.is_in ≡ true → has_all_parity (if zero then s.second else s.first) ≡ true →
        StandsFor (if zero then record s { first = faulty s.first (Dead board) } else record s { second = faulty s.second (Dead board) }) list
    by_board true first second all = record { first = dead_has_words s.first list board stands.first; second = stands.second; some = λ k h. inr (all_valid s.second list second all stands.second k h) }
    by_board false first second all = record { first = stands.first; second = dead_has_words s.second list board stands.second; some = λ k h. inl (all_valid s.first list first all stands.first k h) }

struck_stands : (s : BoardPair) (list : List ℕ) (fault : BoardFault) → IsFaultBelow (length list) fault → is_tolerated s fault ≡ true → StandsFor s list → StandsFor (boards_struck s fault) list
struck_stands s list (Dead board) below tolerated stands = dead_stands s list board tolerated stands
struck_stands s list (Flip board i bit) below tolerated stands = flip_stands s list board i bit below.1 tolerated stands

pub fault_stands : FaultKeepsContents
fault_stands s list fault below stands = by_test (is_tolerated s fault) refl
  where
    by_test : (b : Bool) → is_tolerated s fault ≡ b → StandsFor (if b then boards_struck s fault else s) list
    by_test true e = struck_stands s list fault below e stands
    by_test false e = stands
