-- For the parts of the loader: what they compute of one program header, of the room for a segment, of one word.
use Rattle.std.specs.Prelude.{ℕ, zero, suc, ◌≡◌, ◌+◌, ◌-◌, ◌*◌, ◌/◌, ◌%◌, ◌<◌, ◌≤◌, ◌==◌, List, length, map, slice_index, nat_lt, if◌then◌else◌}
use Rattle.std.specs.List.{range_with_len}
use Rattle.s2_base.specs.Map.{place_at, is_between}
use Rattle.s2_base.specs.declared.places.Place.{Place}
use Rattle.s2_base.specs.declared.places.Place.TheVariants.{Local, Boot, Global, Device, Nowhere}
use Rattle.s2_base.specs.declared.map.TheConstants.{LOCAL_START, LOCAL_END, BOOT_START, BOOT_END, GLOBAL_END, UNMAPPED_START, UNMAPPED_END, UNMAPPED_SIZE}
use Rattle.s2_elf.specs.declared.headers.TheConstants.{FILE_HEADER_SIZE, PROGRAM_HEADER_SIZE, LOAD}
use Rattle.s2_elf.specs.declared.headers.SegmentHeader.{SegmentHeader}
use Rattle.s2_elf.specs.Files.{ProgramHeader, header_count, table_of, program_header}
use Rattle.s2_elf.specs.Images.{covers, segment_byte}

-- a program header, as plain data
abbrev pub header_of : SegmentHeader → ProgramHeader
header_of h = record { kind = h.kind; offset = h.offset; vaddr = h.vaddr; filesz = h.filesz; memsz = h.memsz }

-- how many bytes from a physical address on are of the memory that it lies in, if it lies in one
abbrev pub room_within : ℕ → Place → ℕ
room_within pa (Local i) = LOCAL_END - pa
room_within pa (Boot i) = BOOT_END - pa
room_within pa (Global i) = GLOBAL_END - pa
room_within pa (Device k) = 0
room_within pa Nowhere = 0

abbrev pub room_from : ℕ → ℕ
room_from pa = room_within pa (place_at pa)

-- how many bytes from a virtual address on may be loaded
abbrev pub room_at : ℕ → ℕ
room_at va = if is_between UNMAPPED_START va UNMAPPED_END then room_from (va % UNMAPPED_SIZE) else 0

-- the file has its header, and all program headers
pub record HasHeaders (bytes : List ℕ) : Type 0 where
  pub header : FILE_HEADER_SIZE ≤ length bytes
  pub table : (k : ℕ) → k < header_count bytes → table_of bytes + PROGRAM_HEADER_SIZE * k + PROGRAM_HEADER_SIZE ≤ length bytes

-- so many program headers from an index on
abbrev pub headers_from : List ℕ → ℕ → ℕ → List ProgramHeader
headers_from bytes i n = map (program_header bytes) (range_with_len i n)

-- the file has the file bytes of a segment
abbrev pub HasFileBytes : ProgramHeader → List ℕ → Type 0
HasFileBytes h bytes = 0 < h.filesz → h.offset + h.filesz ≤ length bytes

-- the byte at a physical address once a segment is placed over it
abbrev pub placed_byte : List ℕ → ℕ → ℕ → ProgramHeader → ℕ
placed_byte bytes pa old h = if covers h pa then segment_byte bytes h pa else old

-- the word at a physical address once a segment is placed over it, most significant byte first
abbrev pub placed_word : List ℕ → ℕ → ℕ → ProgramHeader → ℕ
placed_word bytes pa old h =
    ((placed_byte bytes pa (old / 16777216 % 256) h * 256 + placed_byte bytes (pa + 1) (old / 65536 % 256) h) * 256
    + placed_byte bytes (pa + 2) (old / 256 % 256) h) * 256
    + placed_byte bytes (pa + 3) (old % 256) h

-- the physical address of a word of the local list, whose words before the boundary are of local memory
abbrev pub local_address_at : ℕ → ℕ → ℕ
local_address_at boundary i = if nat_lt i boundary then LOCAL_START + 4 * i else BOOT_START + 4 * (i - boundary)

-- the byte at a physical address, and the word, once the first n program headers are gone through, over zeros
abbrev pub laid_byte : List ℕ → ℕ → ℕ → ℕ
laid_byte bytes zero pa = 0
laid_byte bytes (suc n) pa = if (program_header bytes n).kind == LOAD then placed_byte bytes pa (laid_byte bytes n pa) (program_header bytes n) else laid_byte bytes n pa

abbrev pub laid_word : List ℕ → ℕ → ℕ → ℕ
laid_word bytes n pa = ((laid_byte bytes n pa * 256 + laid_byte bytes n (pa + 1)) * 256 + laid_byte bytes n (pa + 2)) * 256 + laid_byte bytes n (pa + 3)

-- the words of a list at these addresses are so far laid
abbrev pub AreLaid : List ℕ → ℕ → (ℕ → ℕ) → List ℕ → Type 0
AreLaid bytes n address words = (i : ℕ) → i < length words → slice_index words i ≡ laid_word bytes n (address i)

-- the file has the file bytes of each segment that is loaded
abbrev pub HasSegments : List ℕ → Type 0
HasSegments bytes = (k : ℕ) → k < header_count bytes → (program_header bytes k).kind ≡ LOAD → HasFileBytes (program_header bytes k) bytes
