-- A workload's program in memory: every word of both lists.
use Rattle.std.specs.Prelude.{ℕ, ◌≡◌, ◌+◌, ◌/◌, ◌<◌, ◌≤◌, ◌⊎◌, List, [], ◌∷◌, Some, length, replicate, slice_get, slice_index}
use Rattle.s2_base.specs.declared.map.TheConstants.{LOCAL_WORDS, GLOBAL_WORDS}
use Rattle.s2_decode.specs.Table.{decoded}
use Rattle.s2_decode.specs.Properness.{IsProper}
use Rattle.s2_decode.specs.declared.instr.Instr.{Instr}
use Rattle.s2_elf.specs.MemoryImage.{MemoryImage}
use Rattle.s2_gen.specs.WorkloadProgram.{program}

-- each instruction is one of the table's
abbrev pub AreProper : List Instr → Type 0
AreProper [] = Unit {0}
AreProper (instr ∷ code) = IsProper instr × AreProper code

-- the word of an instruction: it decodes to it, and fields that the row does not use are 0, so that it is the least
-- word that does
pub record IsWordOf (instr : Instr) (word : ℕ) : Type 0 where
  pub decodes : decoded word ≡ instr
  pub least : (other : ℕ) → decoded other ≡ instr → word ≤ other

-- the entry, a virtual address, and the word of the local list that it stands for
abbrev pub start : ℕ
start = 0x80010000

abbrev pub first_word : ℕ
first_word = 0x00010000 / 4

-- the image of workload n: its program from the entry on, and all other words 0
pub record IsWorkloadImage (n : ℕ) (image : MemoryImage) : Type 0 where
  pub entry : image.entry ≡ start
  pub size : length image.local ≡ LOCAL_WORDS
  pub code : (i : ℕ) (instr : Instr) → slice_get (program n) i ≡ Some instr → IsWordOf instr (slice_index image.local (first_word + i))
  pub others : (i : ℕ) → i < LOCAL_WORDS → (i < first_word) ⊎ (first_word + length (program n) ≤ i) → slice_index image.local i ≡ 0
  pub global : image.global ≡ replicate GLOBAL_WORDS 0

-- no two images are that of one workload
abbrev pub ImagesAreUnique : Type 0
ImagesAreUnique = (n : ℕ) (image image' : MemoryImage) → IsWorkloadImage n image → IsWorkloadImage n image' → image ≡ image'
