-- A list whose front and whose rest are written one after the other, as parts of it.
use Rattle.std.proofs.Common.{◌≡◌, ℕ, ◌+◌, ◌-◌, ◌*◌, ◌<◌, ◌≤◌, List, ◌++◌, length, take, drop, get_or, ltb, inl, inr, sym, ap, ◌∙◌, length-append, arith}
use borrow.Rule.Slice.PartMut.{put_mid}
use Rattle.std.proofs.lemmas.Bool.{cases_lt, cond-true, cond-false, lt-ltb, le-ltb}
use Rattle.std.proofs.lemmas.List.{places, length-take, length-drop, get_or-take}
use Rattle.s2_elf.specs.Placing.{local_address_at}

-- what stands in the list once both parts are written
front_written : (b k i : ℕ) (mid high : List ℕ) → i < b → b ≤ length mid → get_or (put_mid b k mid high) i 0 ≡ get_or mid i 0
front_written b k i mid high below within = grind (arith, places)

rest_written : (b k i : ℕ) (mid high : List ℕ) → b ≤ i → b ≤ length mid → i < b + length high
    → get_or (put_mid b k mid high) i 0 ≡ get_or high (i - b) 0
rest_written b k i mid high above within stays = grind (arith, places)

-- what stood there before
front_read : (b i : ℕ) (low old : List ℕ) → i < length low → get_or (low ++ drop b old) i 0 ≡ get_or low i 0
front_read b i low old below = grind (arith, places)

rest_read : (b k i : ℕ) (low old : List ℕ) → length low ≡ b → b ≤ i → i < b + k
    → get_or (take k (drop b (low ++ drop b old))) (i - b) 0 ≡ get_or old i 0
rest_read b k i low old long above below = grind (arith, places)

-- where a function of the address and the old word gives each word of the front and of the rest, it gives
-- each word of the list, at the addresses of the local list
pub parts_placed : (f : ℕ → ℕ → ℕ) (b k : ℕ) (old low high : List ℕ) → b ≤ length old → k ≡ length (low ++ drop b old) - b
    → length low ≡ length (take b old)
    → ((i : ℕ) → i < length (take b old) → get_or low i 0 ≡ f (0 + 4 * i) (get_or (take b old) i 0))
    → length high ≡ length (take k (drop b (low ++ drop b old)))
    → ((i : ℕ) → i < length (take k (drop b (low ++ drop b old)))
    → get_or high i 0 ≡ f (0x1FC00000 + 4 * i) (get_or (take k (drop b (low ++ drop b old))) i 0))
    → (i : ℕ) → i < length old
    → get_or (put_mid b k (low ++ drop b old) high) i 0 ≡ f (local_address_at b i) (get_or old i 0)
parts_placed f b k old low high within size low_long low_words high_long high_words i inside =
    let long : length low ≡ b = omega (arith, length-take b old) in
    let whole : length (low ++ drop b old) ≡ length old = omega (arith, length-append low (drop b old), length-drop b old) in
    let rest : length (take k (drop b (low ++ drop b old))) ≡ length old - b =
    omega (arith, length-take k (drop b (low ++ drop b old)), length-drop b (low ++ drop b old)) in
    elim (cases_lt i b) [
      | inl below ↦
          let address : local_address_at b i ≡ 0 + 4 * i =
          cond-true (ltb i b) (0 + 4 * i) (0x1FC00000 + 4 * (i - b)) (lt-ltb i b below) in
          front_written b k i (low ++ drop b old) high below (omega arith) ∙ front_read b i low old (omega arith)
          ∙ low_words i (omega arith) ∙ ap (λ w. f (0 + 4 * i) w) (get_or-take b old i 0 below)
          ∙ ap (λ a. f a (get_or old i 0)) (sym address)
      | inr above ↦
          let address : local_address_at b i ≡ 0x1FC00000 + 4 * (i - b) =
          cond-false (ltb i b) (0 + 4 * i) (0x1FC00000 + 4 * (i - b)) (le-ltb i b above) in
          rest_written b k i (low ++ drop b old) high above (omega arith) (omega arith)
          ∙ high_words (i - b) (omega arith)
          ∙ ap (λ w. f (0x1FC00000 + 4 * (i - b)) w) (rest_read b k i low old long above (omega arith))
          ∙ ap (λ a. f a (get_or old i 0)) (sym address)
    ]
