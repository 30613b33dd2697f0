-- What a program is in memory, and which refusals its file can meet.
use Rattle.std.specs.Prelude.{ℕ, ◌+◌, ◌-◌, ◌*◌, ◌/◌, ◌%◌, List, [], ◌∷◌, ◌++◌, Bool, Option, Some, None, is_some, length, map, slice_index, if◌then◌else◌}
use Rattle.std.specs.List.{list_all, range_with_len}
use Rattle.s2_base.specs.Map.{is_between}
use Rattle.s2_base.specs.declared.map.TheConstants.{LOCAL_WORDS, GLOBAL_WORDS, UNMAPPED_SIZE}
use Rattle.s2_elf.specs.declared.fault.ElfFault.{ElfFault}
use Rattle.s2_elf.specs.declared.fault.ElfFault.TheVariants.{Placed, Entry}
use Rattle.s2_elf.specs.Files.{is_loadable, is_entry, first_false}
use Rattle.s2_elf.specs.MemoryImage.{MemoryImage}
use Rattle.s2_elf.specs.Images.{local_address, global_address}
use Rattle.s2_program.specs.Programs.{PartData, ProgramData}
use Rattle.s2_program.specs.PlainFiles.{size_of}

-- the physical address of a part's first word
abbrev pub base_of_part : PartData → ℕ
base_of_part p = p.at % UNMAPPED_SIZE

-- a part has a word at a physical address
abbrev pub has_word : PartData → ℕ → Bool
has_word p pa = is_between (base_of_part p) pa (base_of_part p + 4 * length p.words)

-- the last part of a list that has a word at a physical address: a later one, or else this one
abbrev pub last_with : List PartData → ℕ → Option PartData
last_with [] pa = None
last_with (p ∷ ps) pa = if is_some (last_with ps pa) then last_with ps pa else if has_word p pa then Some p else None

-- the word at a physical address: the last part that has one there gives it, and else it is 0
abbrev pub word_in_part : Option PartData → ℕ → ℕ
word_in_part None pa = 0
word_in_part (Some p) pa = slice_index p.words ((pa - base_of_part p) / 4)

abbrev pub program_word : List PartData → ℕ → ℕ
program_word ps pa = word_in_part (last_with ps pa) pa

-- the program in memory: each word of both lists
unfoldable pub image_of_program : ProgramData → MemoryImage
image_of_program p = record {
  entry = p.entry;
  local = map (λ i. program_word p.parts (local_address i)) (range_with_len 0 LOCAL_WORDS);
  global = map (λ i. program_word p.parts (global_address i)) (range_with_len 0 GLOBAL_WORDS);
}

-- the conditions on places: each byte of a part may be loaded, and the entry is at a place of code
abbrev pub part_conditions : ℕ → List PartData → List (Bool × ElfFault)
part_conditions i [] = []
part_conditions i (p ∷ ps) = (list_all (λ k. is_loadable (p.at + k)) (range_with_len 0 (size_of p)), Placed i) ∷ part_conditions (i + 1) ps

-- the first of them that is false
abbrev pub place_refusal : ProgramData → Option ElfFault
place_refusal p = first_false (part_conditions 0 p.parts ++ (is_entry p.entry, Entry) ∷ [])

-- no refusal, or one for the place of a part or of the entry
abbrev pub IsOfPlace : Option ElfFault → Type 0
IsOfPlace None = Unit {0}
IsOfPlace (Some (Placed i)) = Unit {0}
IsOfPlace (Some Entry) = Unit {0}
IsOfPlace (Some _) = ⊥
