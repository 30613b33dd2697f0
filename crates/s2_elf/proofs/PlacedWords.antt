-- A word that a segment does not touch stays.
use Rattle.std.proofs.Common.{◌≡◌, ℕ, ◌+◌, ◌-◌, ◌*◌, ◌/◌, ◌%◌, ◌<◌, ◌≤◌, ◌≢◌, ◌⊎◌, false, List, length, get_or, set, min, inl, inr, ⊎_elim, sym, ap, ◌∙◌, arith}
use Rattle.std.proofs.lemmas.Bool.{cases_eq, cases_lt, cond-false}
use Rattle.std.proofs.lemmas.List.{get_or-set_same, get_or-set_other}
use Rattle.std.specs.Int.{div_ceil}
use Rattle.std.proofs.lemmas.Bool.Decides.{nat_tests}
use Rattle.s2_elf.specs.Files.{ProgramHeader}
use Rattle.s2_elf.specs.Images.{base_of, covers, segment_byte}
use Rattle.s2_elf.specs.Placing.{placed_byte, placed_word}

-- a segment lies wholly above a number of bytes, or wholly below them
abbrev pub IsApart : ProgramHeader → ℕ → ℕ → Type 0
IsApart h pa size = (pa + size ≤ base_of h) ⊎ (base_of h + h.memsz ≤ pa)

-- the byte at an address that the segment does not cover stays
uncovered : (bytes : List ℕ) (pa n old : ℕ) (h : ProgramHeader) (size : ℕ) → IsApart h pa size → pa ≤ n → n < pa + size
    → placed_byte bytes n old h ≡ old
uncovered bytes pa n old h size apart low high =
    let outside : covers h n ≡ false = grind (arith, nat_tests) in
    cond-false (covers h n) (segment_byte bytes h n) old outside

-- a word is made of its four bytes
four_bytes : (old : ℕ) → old < 4294967296
    → ((old / 16777216 % 256 * 256 + old / 65536 % 256) * 256 + old / 256 % 256) * 256 + old % 256 ≡ old
four_bytes old h = omega arith

-- so a word stays where the segment covers none of its four bytes
pub untouched : (bytes : List ℕ) (pa old : ℕ) (h : ProgramHeader) → old < 4294967296 → IsApart h pa 4
    → placed_word bytes pa old h ≡ old
untouched bytes pa old h fits apart =
    rw (
      uncovered bytes pa pa (old / 16777216 % 256) h 4 apart (omega arith) (omega arith),
      uncovered bytes pa (pa + 1) (old / 65536 % 256) h 4 apart (omega arith) (omega arith),
      uncovered bytes pa (pa + 2) (old / 256 % 256) h 4 apart (omega arith) (omega arith),
      uncovered bytes pa (pa + 3) (old % 256) h 4 apart (omega arith) (omega arith),
    )
    (four_bytes old fits)

-- a word before the first one that the segment touches is apart from it, and so is one after the last
pub apart_outside : (h : ProgramHeader) (base first last count i : ℕ) → first ≡ (base_of h - base) / 4
    → last ≡ min (div_ceil (base_of h + h.memsz - base) 4) count → i < count → (i < first) ⊎ (last ≤ i)
    → IsApart h (base + 4 * i) 4
apart_outside h base first last count i before after within (inl low) = inl (omega arith)
apart_outside h base first last count i before after within (inr high) = inr (omega arith)

-- the words from the first one up to the i-th are placed, and the others are as they were
pub record IsPlacedUpTo (bytes : List ℕ) (base : ℕ) (h : ProgramHeader) (old words : List ℕ) (first i : ℕ) : Type 0 where
  pub placed : (k : ℕ) → first ≤ k → k < i → get_or words k 0 ≡ placed_word bytes (base + 4 * k) (get_or old k 0) h
  pub outside : (k : ℕ) → (k < first) ⊎ (i ≤ k) → get_or words k 0 ≡ get_or old k 0

-- one word more
pub placed_more : (bytes : List ℕ) (base : ℕ) (h : ProgramHeader) (old words : List ℕ) (first i word : ℕ) → first ≤ i
    → i < length words → word ≡ placed_word bytes (base + 4 * i) (get_or words i 0) h
    → IsPlacedUpTo bytes base h old words first i → IsPlacedUpTo bytes base h old (set words i word) first (i + 1)
placed_more bytes base h old words first i word low within made before =
    let same = ap (λ w. placed_word bytes (base + 4 * i) w h) (before.outside i (inr (omega arith))) in
    record {
      placed = λ k above below.
          elim (cases_eq k i) [
            | inl e ↦
                rw e (get_or-set_same words i word 0 within ∙ made ∙ same)
            | inr other ↦ get_or-set_other words i k word 0 other ∙ before.placed k above (omega arith)
          ];
      outside = λ k side.
          let other : k ≢ i = omega arith in
          get_or-set_other words i k word 0 other ∙ before.outside k (⊎_elim (λ a. inl a) (λ b. inr (omega arith)) side);
    }

-- once the last one is placed, each word is what the segment makes of it
pub all_placed : (bytes : List ℕ) (base : ℕ) (h : ProgramHeader) (old words : List ℕ) (first last i : ℕ) → last ≤ i
    → (first ≤ last → i ≤ last)
    → ((k : ℕ) → k < length old → (k < first) ⊎ (last ≤ k) → placed_word bytes (base + 4 * k) (get_or old k 0) h ≡ get_or old k 0)
    → IsPlacedUpTo bytes base h old words first i
    → (k : ℕ) → k < length old → get_or words k 0 ≡ placed_word bytes (base + 4 * k) (get_or old k 0) h
all_placed bytes base h old words first last i past stops stays done k within =
    elim (cases_lt k first) [
      | inl before ↦ done.outside k (inl before) ∙ sym (stays k within (inl before))
      | inr after ↦
          elim (cases_lt k last) [
            | inl inside ↦ done.placed k after (omega arith)
            | inr beyond ↦
                elim (cases_lt k i) [
                  | inl shown ↦ done.placed k after shown
                  | inr not_shown ↦ done.outside k (inr not_shown) ∙ sym (stays k within (inr beyond))
                ]
          ]
    ]
