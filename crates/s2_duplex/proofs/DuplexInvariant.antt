-- The calls keep the invariant of the boards, and what they do to the contents.
use Rattle.std.proofs.Common.{◌≡◌, ℕ, ◌<◌, List, length, refl, sym, ap, subst, inl, inr, ◌∙◌, length-set}
use Rattle.std.proofs.lemmas.List.{get_or-set_same}
use Rattle.std.specs.Prelude.{Bool, true, false, ◌&&◌, None, slice_index_or, slice_set, if◌then◌else◌}
use Rattle.s2_base.specs.declared.map.TheConstants.{GLOBAL_WORDS}
use Rattle.s2_ports.specs.declared.events.BoardFault.{BoardFault}
use Rattle.s2_duplex.specs.DuplexBoards.{BoardPair, board_word, has_parity, is_valid, StandsFor, contents, valid_word, IsDuplex, new_boards, word_in, repaired_by, boards_read, boards_written}
use Rattle.s2_duplex.specs.ToleratedFaults.{IsFaultBelow, is_tolerated, boards_struck, boards_faulted}
use Rattle.s2_duplex.proofs.ValidWords.{clash, length_contents, valid_word_is, contents_are, fits_here, new_stand, read_stands, write_stands}
use Rattle.s2_duplex.proofs.FaultedBoards.{fault_stands}

-- boards that stand for a list of the right length are those of global memory
pub duplex_is : (s : BoardPair) (list : List ℕ) → length list ≡ GLOBAL_WORDS → StandsFor s list → IsDuplex s
duplex_is s list size stands = record { size = stands.first.words ∙ size; stands = subst (StandsFor s) (sym (contents_are s list stands)) stands }

pub length_is : (s : BoardPair) → IsDuplex s → length (contents s) ≡ GLOBAL_WORDS
length_is s d = length_contents s ∙ d.size

in_contents : (s : BoardPair) (i : ℕ) → i < GLOBAL_WORDS → IsDuplex s → i < length (contents s)
in_contents s i h d = subst (λ (n : ℕ). i < n) (sym (length_is s d)) h

pub new_duplex : (words : List ℕ) → length words ≡ GLOBAL_WORDS → IsDuplex (new_boards words)
new_duplex words size = duplex_is (new_boards words) words size (new_stand words)

pub new_contents : (words : List ℕ) → contents (new_boards words) ≡ words
new_contents words = contents_are (new_boards words) words (new_stand words)

pub read_duplex : (s : BoardPair) (i : ℕ) → i < GLOBAL_WORDS → IsDuplex s → IsDuplex (boards_read s i).boards
read_duplex s i h d = duplex_is (boards_read s i).boards (contents s) (length_is s d) (read_stands s (contents s) i (in_contents s i h d) d.stands)

pub read_contents : (s : BoardPair) (i : ℕ) → i < GLOBAL_WORDS → IsDuplex s → contents (boards_read s i).boards ≡ contents s
read_contents s i h d = contents_are (boards_read s i).boards (contents s) (read_stands s (contents s) i (in_contents s i h d) d.stands)

pub written_duplex : (s : BoardPair) (i word : ℕ) → i < GLOBAL_WORDS → IsDuplex s → IsDuplex (boards_written s i word)
written_duplex s i word h d =
    duplex_is (boards_written s i word) (slice_set (contents s) i word) (length-set (contents s) i word ∙ length_is s d) (write_stands s (contents s) i word (in_contents s i h d) d.stands)

pub written_contents : (s : BoardPair) (i word : ℕ) → i < GLOBAL_WORDS → IsDuplex s → contents (boards_written s i word) ≡ slice_set (contents s) i word
written_contents s i word h d = contents_are (boards_written s i word) (slice_set (contents s) i word) (write_stands s (contents s) i word (in_contents s i h d) d.stands)

pub valid_in_contents : (s : BoardPair) (i : ℕ) → i < GLOBAL_WORDS → IsDuplex s → valid_word s i ≡ slice_index_or (contents s) i 0
valid_in_contents s i h d = valid_word_is s (contents s) i (in_contents s i h d) d.stands

-- the word that was written is valid
pub written_valid : (s : BoardPair) (i word : ℕ) → i < GLOBAL_WORDS → IsDuplex s → valid_word (boards_written s i word) i ≡ word
written_valid s i word h d =
    valid_in_contents (boards_written s i word) i h (written_duplex s i word h d) ∙
    (ap (λ (list : List ℕ). slice_index_or list i 0) (written_contents s i word h d) ∙ get_or-set_same (contents s) i word 0 (in_contents s i h d))

pub faulted_duplex : (s : BoardPair) (fault : BoardFault) → IsFaultBelow GLOBAL_WORDS fault → IsDuplex s → IsDuplex (boards_faulted s fault)
faulted_duplex s fault h d =
    duplex_is (boards_faulted s fault) (contents s) (length_is s d) (fault_stands s (contents s) fault (subst (λ (n : ℕ). IsFaultBelow n fault) (sym (length_is s d)) h) d.stands)

pub faulted_contents : (s : BoardPair) (fault : BoardFault) → IsFaultBelow GLOBAL_WORDS fault → IsDuplex s → contents (boards_faulted s fault) ≡ contents s
faulted_contents s fault h d =
    contents_are (boards_faulted s fault) (contents s) (fault_stands s (contents s) fault (subst (λ (n : ℕ). IsFaultBelow n fault) (sym (length_is s d)) h) d.stands)

-- a fault that is tolerated
pub struck_duplex : (s : BoardPair) (fault : BoardFault) → IsFaultBelow GLOBAL_WORDS fault → is_tolerated s fault ≡ true → IsDuplex s → IsDuplex (boards_struck s fault)
struck_duplex s fault h tolerated d = subst (λ (b : Bool). IsDuplex (if b then boards_struck s fault else s)) tolerated (faulted_duplex s fault h d)

pub struck_contents : (s : BoardPair) (fault : BoardFault) → IsFaultBelow GLOBAL_WORDS fault → is_tolerated s fault ≡ true → IsDuplex s → contents (boards_struck s fault) ≡ contents s
struck_contents s fault h tolerated d = subst (λ (b : Bool). contents (if b then boards_struck s fault else s) ≡ contents s) tolerated (faulted_contents s fault h d)

-- after a read, a board that is in has the word
in_is_valid : (a b : Bool) → (a && b) ≡ true → a ≡ true
in_is_valid true b h = refl
in_is_valid false b h = absurd cc

-- of boards where no word is bad that could be repaired, the first that is in has a valid one
abbrev IsRepaired : BoardPair → ℕ → Type 0
IsRepaired s i = (s.first.is_in ≡ true → s.second.is_in ≡ true → has_parity s.first i ≡ true)

first_in : (s : BoardPair) (list : List ℕ) (i : ℕ) → i < length list → StandsFor s list → (on : Bool) → s.first.is_in ≡ on → IsRepaired s i → (if on then board_word s.first i else board_word s.second i) ≡ slice_index_or list i 0
first_in s list i h stands false out repaired = elim (stands.some i h) [
  | inl first ↦ absurd (clash s.first.is_in (in_is_valid s.first.is_in (has_parity s.first i) first) out)
  | inr second ↦ stands.second.equal i h second
]
first_in s list i h stands true on repaired = by_second s.second.is_in refl
  where
    valid : has_parity s.first i ≡ true → is_valid s.first i ≡ true
    valid fits = ap (λ (x : Bool). x && has_parity s.first i) on ∙ fits

    by_second : (other : Bool) → s.second.is_in ≡ other → board_word s.first i ≡ slice_index_or list i 0
    by_second true e = stands.first.equal i h (valid (repaired on e))
    by_second false e = elim (stands.some i h) [
      | inl first ↦ stands.first.equal i h first
      | inr second ↦ absurd (clash s.second.is_in (in_is_valid s.second.is_in (has_parity s.second i) second) e)
    ]

-- a read leaves them so
both_in : (a b : Bool) → (a && b) ≡ false → a ≡ true → b ≡ true → ⊥
both_in true true h x y = cc
both_in true false h x y = cc
both_in false b h x y = cc

read_repairs : (s : BoardPair) (i : ℕ) → i < length s.first.words → i < length s.first.parity → IsRepaired (boards_read s i).boards i
read_repairs s i low high = by_in (s.first.is_in && s.second.is_in) refl
  where
    by_parity : (a b : Bool) → has_parity s.first i ≡ a → IsRepaired (repaired_by a b s i).boards i
    by_parity true true e = λ on other. e
    by_parity true false e = λ on other. e
    by_parity false b e = λ on other. fits_here s.first i (board_word s.second i) low high

    by_in : (b : Bool) → (s.first.is_in && s.second.is_in) ≡ b → IsRepaired (if b then repaired_by (has_parity s.first i) (has_parity s.second i) s i else record { boards = s; repaired = None }).boards i
    by_in true e = by_parity (has_parity s.first i) (has_parity s.second i) refl
    by_in false e = λ on other. absurd (both_in s.first.is_in s.second.is_in e on other)

pub read_word : (s : BoardPair) (i : ℕ) → i < GLOBAL_WORDS → IsDuplex s → word_in (boards_read s i).boards i ≡ slice_index_or (contents s) i 0
read_word s i h d =
    let stands = d.stands in
    let low = in_contents s i h d in
    first_in (boards_read s i).boards (contents s) i low (read_stands s (contents s) i low stands) (boards_read s i).boards.first.is_in refl
    (read_repairs s i (subst (λ (n : ℕ). i < n) (sym stands.first.words) low) (subst (λ (n : ℕ). i < n) (sym stands.first.parity) low))
