-- What an accepted file puts into memory: every word of both lists.
use Rattle.std.specs.Prelude.{ℕ, ◌+◌, ◌-◌, ◌*◌, ◌%◌, ◌==◌, Bool, List, [], ◌∷◌, map, filter, is_some, nat_lt, slice_index, replicate, Some, None, if◌then◌else◌}
use Rattle.std.specs.declared.option.Option.{Option}
use Rattle.std.specs.List.{range_with_len}
use Rattle.s2_base.specs.Map.{is_between}
use Rattle.s2_base.specs.declared.map.TheConstants.{LOCAL_START, BOOT_START, GLOBAL_START, LOCAL_MEMORY_WORDS, LOCAL_WORDS, GLOBAL_WORDS, UNMAPPED_SIZE}
use Rattle.s2_elf.specs.declared.headers.TheConstants.{LOAD}
use Rattle.s2_elf.specs.MemoryImage.{MemoryImage}
use Rattle.s2_elf.specs.Files.{ProgramHeader, headers_of, entry_of}

-- the segments that are loaded, in order
abbrev pub segments_of : List ℕ → List ProgramHeader
segments_of bytes = filter (λ (h : ProgramHeader). h.kind == LOAD) (headers_of bytes)

-- the physical address of a segment's first byte
abbrev pub base_of : ProgramHeader → ℕ
base_of h = h.vaddr % UNMAPPED_SIZE

-- a segment has a byte at a physical address: its file bytes come first, and zeros after them
abbrev pub covers : ProgramHeader → ℕ → Bool
covers h pa = is_between (base_of h) pa (base_of h + h.memsz)

abbrev pub segment_byte : List ℕ → ProgramHeader → ℕ → ℕ
segment_byte bytes h pa = if nat_lt (pa - base_of h) h.filesz then slice_index bytes (h.offset + (pa - base_of h)) else 0

-- the last segment of a list that has a byte at a physical address: a later one, or else this one
abbrev pub last_covering : List ProgramHeader → ℕ → Option ProgramHeader
last_covering [] pa = None
last_covering (h ∷ hs) pa = if is_some (last_covering hs pa) then last_covering hs pa else if covers h pa then Some h else None

-- the byte at a physical address: the last segment that has one there gives it, and else it is 0
abbrev pub byte_of : List ℕ → Option ProgramHeader → ℕ → ℕ
byte_of bytes None pa = 0
byte_of bytes (Some h) pa = segment_byte bytes h pa

abbrev pub image_byte : List ℕ → ℕ → ℕ
image_byte bytes pa = byte_of bytes (last_covering (segments_of bytes) pa) pa

-- the word of the four bytes from a physical address on, most significant byte first
abbrev pub image_word : List ℕ → ℕ → ℕ
image_word bytes pa = ((image_byte bytes pa * 256 + image_byte bytes (pa + 1)) * 256 + image_byte bytes (pa + 2)) * 256 + image_byte bytes (pa + 3)

-- the physical address of a word of the local list, and of one of the global list
abbrev pub local_address : ℕ → ℕ
local_address i = if nat_lt i LOCAL_MEMORY_WORDS then LOCAL_START + 4 * i else BOOT_START + 4 * (i - LOCAL_MEMORY_WORDS)

abbrev pub global_address : ℕ → ℕ
global_address i = GLOBAL_START + 4 * i

-- the program in memory: each word of both lists
unfoldable pub image_of : List ℕ → MemoryImage
image_of bytes = record {
  entry = entry_of bytes;
  local = map (λ i. image_word bytes (local_address i)) (range_with_len 0 LOCAL_WORDS);
  global = map (λ i. image_word bytes (global_address i)) (range_with_len 0 GLOBAL_WORDS);
}

-- a program of an entry and of memories that are all 0
abbrev pub blank_image : ℕ → MemoryImage
blank_image entry = record { entry = entry; local = replicate LOCAL_WORDS 0; global = replicate GLOBAL_WORDS 0 }
