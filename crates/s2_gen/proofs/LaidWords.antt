-- The words of a program that are laid so far, and its instructions one by one.
use Rattle.std.proofs.Common.{◌≡◌, ◌≢◌, ℕ, zero, suc, ◌+◌, ◌<◌, ◌≤◌, List, [], ◌∷◌, length, Some, sym, ap, subst, inl, inr, ◌∙◌, arith, length-set}
use Rattle.std.specs.Prelude.{◌⊎◌, slice_get, slice_index, slice_set}
use Rattle.std.proofs.lemmas.Bool.{cases_lt}
use Rattle.std.proofs.lemmas.Option.{slice_get_within}
use Rattle.std.proofs.lemmas.List.{get_or-set_same, get_or-set_other, length-replicate, get_or-replicate}
use Rattle.s2_base.specs.declared.map.TheConstants.{LOCAL_WORDS}
use Rattle.s2_decode.specs.Properness.{IsProper}
use Rattle.s2_decode.specs.declared.instr.Instr.{Instr}
use Rattle.s2_elf.specs.MemoryImage.{MemoryImage}
use Rattle.s2_elf.specs.Images.{blank_image}
use Rattle.s2_gen.specs.declared.program.TheConstants.{FIRST_WORD, START}
use Rattle.s2_gen.specs.ProgramImage.{IsWordOf, AreProper, IsWorkloadImage}
use Rattle.s2_gen.specs.WorkloadProgram.{program}

pub record AreLaidTo (code : List Instr) (old words : List ℕ) (n : ℕ) : Type 0 where
  pub size : length words ≡ length old
  pub laid : (i : ℕ) (instr : Instr) → i < n → slice_get code i ≡ Some instr → IsWordOf instr (slice_index words (FIRST_WORD + i))
  pub others : (i : ℕ) → (i < FIRST_WORD) ⊎ (FIRST_WORD + length code ≤ i) → slice_index words i ≡ slice_index old i

pub proper_at : (code : List Instr) (i : ℕ) (instr : Instr) → AreProper code → slice_get code i ≡ Some instr → IsProper instr
proper_at [] i instr proper found = absurd (let f : ⊥ = cc in f)
proper_at (x ∷ code) zero instr proper found = let same : x ≡ instr = cc in rw (sym same) proper.0
proper_at (x ∷ code) (suc i) instr proper found = proper_at code i instr proper.1 found

-- another place than the one behind those that are laid
elsewhere : (size n i : ℕ) → n < size → (i < FIRST_WORD) ⊎ (FIRST_WORD + size ≤ i) → i ≢ FIRST_WORD + n
elsewhere size n i below outside = elim outside [
  | inl before ↦ λ e. omega (arith, e)
  | inr behind ↦ λ e. omega (arith, e)
]

-- one word more is laid
pub laid_next : (code : List Instr) (old words : List ℕ) (n word : ℕ) (instr : Instr) → AreLaidTo code old words n
    → slice_get code n ≡ Some instr → IsWordOf instr word → FIRST_WORD + n < length words
    → AreLaidTo code old (slice_set words (FIRST_WORD + n) word) (n + 1)
laid_next code old words n word instr done found is room =
    let here = get_or-set_same words (FIRST_WORD + n) word 0 room in
    let there = λ (k : ℕ) (ne : k ≢ FIRST_WORD + n). get_or-set_other words (FIRST_WORD + n) k word 0 ne in
    let below = slice_get_within code n instr found in
    record {
      size = length-set words (FIRST_WORD + n) word ∙ done.size;
      laid = λ i other within at. elim (cases_lt i n) [
        | inl before ↦ subst (λ w. IsWordOf other w) (sym (there (FIRST_WORD + i) (λ e. omega (arith, e)))) (done.laid i other before at)
        | inr from ↦
            let last : i ≡ n = omega arith in
            let same : instr ≡ other = let again = subst (λ k. slice_get code k ≡ Some other) last at in cc in
            rw (last, here, sym same) is
      ];
      others = λ i outside. there i (elsewhere (length code) n i below outside) ∙ done.others i outside;
    }

-- a program that is laid over zeros is the image of its workload
pub image_made : (n : ℕ) (code : List Instr) (words : List ℕ) (blank image : MemoryImage)
    → code ≡ program n → blank ≡ blank_image START → image.entry ≡ blank.entry → image.local ≡ words → image.global ≡ blank.global
    → length words ≡ length blank.local
    → ((i : ℕ) (instr : Instr) → slice_get code i ≡ Some instr → IsWordOf instr (slice_index words (FIRST_WORD + i)))
    → ((i : ℕ) → (i < FIRST_WORD) ⊎ (FIRST_WORD + length code ≤ i) → slice_index words i ≡ slice_index blank.local i)
    → IsWorkloadImage n image
image_made n code words blank image whole zeros entry local global size laid others =
    let blanks = ap (λ (b : MemoryImage). b.local) zeros in
    record {
      entry = entry ∙ ap (λ (b : MemoryImage). b.entry) zeros;
      size = ap length local ∙ size ∙ ap length blanks ∙ length-replicate {A = ℕ} LOCAL_WORDS 0;
      code = λ i instr found.
          subst (λ (ws : List ℕ). IsWordOf instr (slice_index ws (FIRST_WORD + i))) (sym local)
          (laid i instr (ap (λ (xs : List Instr). slice_get xs i) whole ∙ found));
      others = λ i below outside.
          ap (λ (ws : List ℕ). slice_index ws i) local
          ∙ others i (subst (λ (xs : List Instr). (i < FIRST_WORD) ⊎ (FIRST_WORD + length xs ≤ i)) (sym whole) outside)
          ∙ ap (λ (ws : List ℕ). slice_index ws i) blanks
          ∙ get_or-replicate {A = ℕ} LOCAL_WORDS i 0 0 below;
      global = global ∙ ap (λ (b : MemoryImage). b.global) zeros;
    }
