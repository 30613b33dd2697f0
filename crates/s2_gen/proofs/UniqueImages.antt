-- The facts about a workload's image leave no word open.
use Rattle.std.proofs.Common.{◌≡◌, ℕ, ◌+◌, ◌-◌, ◌<◌, ◌≤◌, List, length, sym, ap, subst, inl, inr, ◌∙◌, arith}
use Rattle.std.specs.Prelude.{◌⊎◌, slice_index}
use Rattle.std.proofs.lemmas.Grind.{same_number_lists}
use Rattle.std.proofs.lemmas.Option.{slice_get-get_or}
use Rattle.std.proofs.lemmas.Bool.{cases_lt}
use Rattle.s2_base.specs.declared.map.TheConstants.{LOCAL_WORDS}
use Rattle.s2_decode.specs.declared.instr.Instr.{Instr}
use Rattle.s2_decode.specs.declared.instr.Instr.TheVariants.{Syscall}
use Rattle.s2_elf.specs.MemoryImage.{MemoryImage}
use Rattle.s2_gen.specs.WorkloadProgram.{program}
use Rattle.s2_gen.specs.ProgramImage.{first_word, IsWordOf, IsWorkloadImage}

-- an instruction has one word
same_word : (instr : Instr) (a b : ℕ) → IsWordOf instr a → IsWordOf instr b → a ≡ b
same_word instr a b p q =
    let low : a ≤ b = p.least b q.decodes in
    let high : b ≤ a = q.least a p.decodes in
    omega arith

-- a place is before the program, within it or behind it
where_is : (first size k : ℕ) → (k < first) ⊎ ((first + size ≤ k) ⊎ ((j : ℕ) × (j < size) × (k ≡ first + j)))
where_is first size k = elim (cases_lt k first) [
  | inl before ↦ inl before
  | inr from ↦ elim (cases_lt k (first + size)) [
    | inl within ↦ inr (inr (k - first, omega arith, omega arith))
    | inr behind ↦ inr (inl behind)
  ]
]

-- so the words at each place are equal
same_at : (n : ℕ) (image image' : MemoryImage) → IsWorkloadImage n image → IsWorkloadImage n image' → (k : ℕ) → k < LOCAL_WORDS
    → slice_index image.local k ≡ slice_index image'.local k
same_at n image image' p q k below = elim (where_is first_word (length (program n)) k) [
  | inl before ↦ p.others k below (inl before) ∙ sym (q.others k below (inl before))
  | inr (inl behind) ↦ p.others k below (inr behind) ∙ sym (q.others k below (inr behind))
  | inr (inr (j, within, same)) ↦
      let found = slice_get-get_or (program n) j Syscall within in
      rw same (same_word _ _ _ (p.code j _ found) (q.code j _ found))
]

pub images_equal : (n : ℕ) (image image' : MemoryImage) → IsWorkloadImage n image → IsWorkloadImage n image' → image ≡ image'
images_equal n image image' p q =
    let made = λ (e : ℕ) (l g : List ℕ). let i : MemoryImage = record { entry = e; local = l; global = g } in i in
    let local : image.local ≡ image'.local = same_number_lists image.local image'.local (p.size ∙ sym q.size) (λ k below. same_at n image image' p q k (subst (λ s. k < s) p.size below)) in
    ap (λ e. made e image.local image.global) (p.entry ∙ sym q.entry)
    ∙ ap (λ l. made image'.entry l image.global) local
    ∙ ap (λ g. made image'.entry image'.local g) (p.global ∙ sym q.global)
