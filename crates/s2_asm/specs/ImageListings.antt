-- An image as a program: for each memory the words from its first word other than 0 to its last one.
use Rattle.std.specs.Prelude.{◌≡◌, ℕ, suc, ◌+◌, ◌*◌, List, [], ◌∷◌, ◌++◌, true, ◌&&◌, take, drop, ◌==◌, if◌then◌else◌, None, Result, Ok, Err}
use Rattle.s2_base.specs.declared.map.TheConstants.{LOCAL_MEMORY_WORDS}
use Rattle.s2_elf.specs.Files.{is_entry}
use Rattle.s2_elf.specs.MemoryImage.{MemoryImage}
use Rattle.s2_program.specs.Programs.{PartData, ProgramData}
use Rattle.s2_program.specs.ProgramImages.{image_of_program, place_refusal}
use Rattle.s2_mnemonics.specs.declared.line.Line.{Line}
use Rattle.s2_mnemonics.specs.declared.line.Line.TheVariants.{Entry}
use Rattle.s2_asm.specs.Listings.{ListsWords, ListsParts, written}
use Rattle.s2_asm.specs.declared.fault.AsmFail.{AsmFail}
use Rattle.s2_asm.specs.declared.fault.AsmFail.TheVariants.{Fault, Memory}

-- how many words are 0 before the first other word
abbrev pub first_word : List ℕ → ℕ
first_word [] = 0
first_word (w ∷ ws) = if w == 0 then suc (first_word ws) else 0

-- how many words there are up to the last one that is not 0
abbrev pub end_of_words : List ℕ → ℕ
end_of_words [] = 0
end_of_words (w ∷ ws) = if (end_of_words ws == 0) && (w == 0) then 0 else suc (end_of_words ws)

-- the words from the first to the last one that is not 0
abbrev pub inner_words : List ℕ → List ℕ
inner_words ws = drop (first_word ws) (take (end_of_words ws) ws)

-- the part of a memory that begins at a virtual address, if it has a word other than 0
abbrev pub parts_of_memory : ℕ → List ℕ → List PartData
parts_of_memory base ws = if end_of_words ws == 0 then [] else (record { at = base + 4 * first_word ws; words = inner_words ws }) ∷ []

-- local memory, the boot store and global memory, by their addresses in kseg0
unfoldable pub parts_of_image : MemoryImage → List PartData
parts_of_image i =
    parts_of_memory 0x80000000 (take LOCAL_MEMORY_WORDS i.local)
    ++ (parts_of_memory 0x9FC00000 (drop LOCAL_MEMORY_WORDS i.local)
    ++ parts_of_memory 0x84000000 i.global)

abbrev pub program_of : MemoryImage → ProgramData
program_of i = record { entry = i.entry; parts = parts_of_image i }

-- the lines of words, or of parts, were written behind a text
pub record WritesWords (at : ℕ) (ws old new : List ℕ) : Type 0 where
  pub lines : List Line
  pub lists : ListsWords at ws lines
  pub is : new ≡ old ++ written lines

pub record WritesParts (ps : List PartData) (old new : List ℕ) : Type 0 where
  pub lines : List Line
  pub lists : ListsParts ps lines
  pub is : new ≡ old ++ written lines

-- the text lists the program
pub record IsListing (p : ProgramData) (text : List ℕ) : Type 0 where
  pub lines : List Line
  pub lists : ListsParts p.parts lines
  pub is : text ≡ written (Entry p.entry ∷ lines)

-- a program has this image, and its file is accepted where the image's entry is one
pub record HasImage (i : MemoryImage) (q : ProgramData) : Type 0 where
  pub image : image_of_program q ≡ i
  pub placed : is_entry i.entry ≡ true → place_refusal q ≡ None

-- what assembling answers is a program that has this image, or that memory is wanting
abbrev pub IsImageOr : MemoryImage → Result ProgramData AsmFail → Type 0
IsImageOr i (Ok q) = HasImage i q
IsImageOr i (Err Memory) = Unit {0}
IsImageOr i (Err (Fault fault)) = ⊥
