-- With its last word a board that mends is in, and no word of either board is bad: any fault of either is tolerated.
use Rattle.std.proofs.Common.{◌≡◌, ℕ, ◌+◌, ◌<◌, length, refl, sym, ap, subst, inl, inr, ◌∙◌, arith}
use Rattle.std.specs.Prelude.{Bool, true, false, ◌&&◌, ◌==◌, Some, if◌then◌else◌}
use Rattle.s2_base.specs.declared.map.TheConstants.{GLOBAL_WORDS}
use Rattle.s2_ports.specs.declared.events.BoardFault.{BoardFault}
use Rattle.s2_ports.specs.declared.events.BoardFault.TheVariants.{Dead, Flip}
use Rattle.s2_duplex.specs.DuplexBoards.{BoardState, BoardPair, IsDuplex, has_parity, is_valid, valid_word}
use Rattle.s2_duplex.specs.MendedBoards.{board_out, boards_copied, boards_joined, IsMended}
use Rattle.s2_duplex.specs.ToleratedFaults.{IsFaultBelow, has_all_parity, is_tolerated}
use Rattle.s2_duplex.proofs.Ranges.{all_pass}
use Rattle.s2_duplex.proofs.DuplexInvariant.{length_is}
use Rattle.s2_duplex.proofs.MendedBoards.{out_of, copied_duplex, copied_contents, copied_word, joined_duplex}
use Rattle.s2_revive.specs.declared.revive.Mending.{Mending}
use Rattle.s2_revive.specs.MendingBoards.{IsMending}
use Rattle.s2_revive.proofs.MendedWords.{out_stays, copied_last}
use Rattle.s2_revive.proofs.MendingMemory.{out_not_valid}

and_both : (a b : Bool) → (a && b) ≡ true → (a ≡ true) × (b ≡ true)
and_both true b h = (refl, h)
and_both false b h = absurd cc

and_true : (a b : Bool) → a ≡ true → b ≡ true → (a && b) ≡ true
and_true true b x y = y
and_true false b x y = absurd cc

-- both boards in, and no word of either bad
record HasAllWords (s : BoardPair) : Type 0 where
  first_in : s.first.is_in ≡ true
  second_in : s.second.is_in ≡ true
  first : (i : ℕ) → i < GLOBAL_WORDS → has_parity s.first i ≡ true
  second : (i : ℕ) → i < GLOBAL_WORDS → has_parity s.second i ≡ true

joined_all : (s : BoardPair) (b : ℕ) → board_out s ≡ Some b → IsMended b s → IsDuplex s → HasAllWords (boards_joined b s)
joined_all s b out mended d =
    let size = length_is s d in
    elim (out_of s.first.is_in s.second.is_in b out) [
      | inl h ↦
          let other : (i : ℕ) → i < GLOBAL_WORDS → is_valid s.second i ≡ true =
          λ i low. elim (d.stands.some i (omega arith)) [ inl v ↦ absurd (out_not_valid s.first i h.1 v) | inr v ↦ v ] in
          let own : IsMended 0 s = subst (λ (n : ℕ). IsMended n s) h.0 mended in
          subst (λ (n : ℕ). HasAllWords (boards_joined n s)) (sym h.0) (record {
            first_in = refl;
            second_in = (and_both s.second.is_in (has_parity s.second 0) (other 0 (omega arith))).0;
            first = λ i low. (own i low).1;
            second = λ i low. (and_both s.second.is_in (has_parity s.second i) (other i low)).1;
          })
      | inr h ↦
          let other : (i : ℕ) → i < GLOBAL_WORDS → is_valid s.first i ≡ true =
          λ i low. elim (d.stands.some i (omega arith)) [ inl v ↦ v | inr v ↦ absurd (out_not_valid s.second i h.1 v) ] in
          let own : IsMended 1 s = subst (λ (n : ℕ). IsMended n s) h.0 mended in
          subst (λ (n : ℕ). HasAllWords (boards_joined n s)) (sym h.0) (record {
            first_in = (and_both s.first.is_in (has_parity s.first 0) (other 0 (omega arith))).0;
            second_in = refl;
            first = λ i low. (and_both s.first.is_in (has_parity s.first i) (other i low)).1;
            second = λ i low. (own i low).1;
          })
    ]

parity_of_all : (b : BoardState) → length b.words ≡ GLOBAL_WORDS → ((i : ℕ) → i < GLOBAL_WORDS → has_parity b i ≡ true) → has_all_parity b ≡ true
parity_of_all b size each = all_pass (has_parity b) 0 (length b.words) (λ k low. ap (has_parity b) (let e : 0 + k ≡ k = omega arith in e) ∙ each k (omega arith))

all_tolerated : (s : BoardPair) → IsDuplex s → HasAllWords s → (fault : BoardFault) → IsFaultBelow GLOBAL_WORDS fault → is_tolerated s fault ≡ true
all_tolerated s d h (Flip board index bit) below =
    and_true (s.first.is_in && s.second.is_in) (has_parity s.first index && has_parity s.second index) (and_true s.first.is_in s.second.is_in h.first_in h.second_in)
    (and_true (has_parity s.first index) (has_parity s.second index) (h.first index below.1) (h.second index below.1))
all_tolerated s d h (Dead board) below =
    let one = parity_of_all s.first (d.stands.first.words ∙ length_is s d) h.first in
    let two = parity_of_all s.second (d.stands.second.words ∙ length_is s d) h.second in
    and_true (s.first.is_in && s.second.is_in) _ (and_true s.first.is_in s.second.is_in h.first_in h.second_in) (by_board (board == 0) one two)
  where
    by_board : (t : Bool) → has_all_parity s.first ≡ true → has_all_parity s.second ≡ true → has_all_parity (if t then s.second else s.first) ≡ true
    by_board true x y = y
    by_board false x y = x

pub mended_tolerates : (s : BoardPair) (m : Mending) → IsDuplex s → IsMending s m → m.cursor + 1 ≡ GLOBAL_WORDS → (fault : BoardFault) → IsFaultBelow GLOBAL_WORDS fault →
    is_tolerated (boards_joined m.board (boards_copied m.board m.cursor s)) fault ≡ true
mended_tolerates s m d ok last fault below =
    let t = boards_copied m.board m.cursor s in
    let word = copied_word s m.board m.cursor ok.below d in
    let same = copied_contents s m.board m.cursor ok.out d in
    let kept = copied_duplex s m.board m.cursor ok.out d in
    let out = out_stays (m.board == 0) s m.cursor (valid_word s m.cursor) ∙ ok.out in
    let mended = copied_last s t m ok refl same word.0 word.1 (omega arith) in
    all_tolerated (boards_joined m.board t) (joined_duplex t m.board out mended kept) (joined_all t m.board out mended kept) fault below
