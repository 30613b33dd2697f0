-- The lowest entry that matches is at the first place at which the test of a match passes.
use Rattle.std.proofs.Common.{◌≡◌, ℕ, ◌<◌, ◌≤◌, Bool, List, length, arith}
use Rattle.std.specs.Prelude.{Some, None, ◌↔◌}
use Rattle.std.specs.List.{position, position_or_len}
use Rattle.std.proofs.lemmas.Bool.Decides.{nat_tests}
use Rattle.std.proofs.lemmas.List.Quantifiers.{position-Some}
use Rattle.std.proofs.lemmas.List.Sums.{position_or_len_is, fails_before_first}
use Rattle.s2_tlb.specs.TranslationEntries.{entry_matches, lowest_match, IsLowestMatch, NoneMatches}

-- where the first place at which a test passes is known, so is the position
position_at : (p : ℕ × ℕ → Bool) (xs : List (ℕ × ℕ)) (i : ℕ) → position_or_len p xs ≡ i → i < length xs → position p xs ≡ Some i
position_at p xs i at within = grind (arith, nat_tests)

position_nowhere : (p : ℕ × ℕ → Bool) (xs : List (ℕ × ℕ)) → position_or_len p xs ≡ length xs → position p xs ≡ None
position_nowhere p xs at = grind (arith, nat_tests)

nowhere_position : (p : ℕ × ℕ → Bool) (xs : List (ℕ × ℕ)) → position p xs ≡ None → length xs ≤ position_or_len p xs
nowhere_position p xs e = grind (arith, nat_tests)

-- the lowest match is an entry that matches with none lower that does
pub found : (entries : List (ℕ × ℕ)) (page space i : ℕ) → (lowest_match entries page space ≡ Some i) ↔ IsLowestMatch entries page space i
found entries page space i =
    let test = λ (entry : ℕ × ℕ). entry_matches entry page space in (
      (λ e. let h = position-Some test entries i (0, 0) e in record { within = h.0; matches = h.1; lower = h.2 }),
      (λ h. position_at test entries i (position_or_len_is test entries i (0, 0) (let w = h.within in omega arith) h.lower (λ _. h.matches)) h.within),
    )

-- there is none exactly where no entry matches
pub none_found : (entries : List (ℕ × ℕ)) (page space : ℕ) → (lowest_match entries page space ≡ None) ↔ NoneMatches entries page space
none_found entries page space =
    let test = λ (entry : ℕ × ℕ). entry_matches entry page space in (
      (λ e i within. fails_before_first test entries i (0, 0) (let past = nowhere_position test entries e in omega arith)),
      (λ h. position_nowhere test entries (position_or_len_is test entries (length entries) (0, 0) (omega arith) h (λ past. absurd (omega arith)))),
    )
