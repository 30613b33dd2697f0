-- Which ELF files are accepted (ELF-32, big-endian, executable, MIPS), as conditions on the bytes at
-- stated offsets. Sums are of whole numbers and do not wrap.
use Rattle.std.specs.Prelude.{ℕ, ◌+◌, ◌*◌, ◌%◌, ◌==◌, ◌&&◌, ◌||◌, not, Bool, true, false, List, [], ◌∷◌, ◌++◌, length, map, nat_le, slice_index, Some, None, if◌then◌else◌}
use Rattle.std.specs.List.{list_all, range_with_len}
use Rattle.std.specs.declared.option.Option.{Option}
use Rattle.s2_base.specs.Map.{place_at, is_between}
use Rattle.s2_base.specs.declared.places.Place.{Place}
use Rattle.s2_base.specs.declared.places.Place.TheVariants.{Local, Boot, Global, Device, Nowhere}
use Rattle.s2_base.specs.declared.map.TheConstants.{UNMAPPED_START, UNMAPPED_END, UNMAPPED_SIZE}
use Rattle.s2_elf.specs.declared.headers.TheConstants.{FILE_HEADER_SIZE, PROGRAM_HEADER_SIZE, MAGIC, MOST_HEADERS, LOAD, DYNAMIC, INTERPRETER}
use Rattle.s2_elf.specs.declared.fault.ElfFault.{ElfFault}
use Rattle.s2_elf.specs.declared.fault.ElfFault.TheVariants.{Short, Magic, Class, Order, Version, Kind, Machine, TooMany, HeaderSize, TableOutside, Dynamic, Bounds, FileOutside, Placed, Entry}

-- the number of two and of four bytes, most significant byte first
abbrev pub half_at : List ℕ → ℕ → ℕ
half_at bytes i = slice_index bytes i * 256 + slice_index bytes (i + 1)

abbrev pub number_at : List ℕ → ℕ → ℕ
number_at bytes i = ((slice_index bytes i * 256 + slice_index bytes (i + 1)) * 256 + slice_index bytes (i + 2)) * 256 + slice_index bytes (i + 3)

-- the fields of the file's header that are looked at, beside those that have one right value
abbrev pub entry_of : List ℕ → ℕ
entry_of bytes = number_at bytes 24

abbrev pub table_of : List ℕ → ℕ
table_of bytes = number_at bytes 28

abbrev pub header_count : List ℕ → ℕ
header_count bytes = half_at bytes 44

-- the fields of a program header that are looked at
pub record ProgramHeader : Type 0 where
  pub kind : ℕ
  pub offset : ℕ
  pub vaddr : ℕ
  pub filesz : ℕ
  pub memsz : ℕ

abbrev pub header_at : List ℕ → ℕ → ProgramHeader
header_at bytes i = record {
  kind = number_at bytes i;
  offset = number_at bytes (i + 4);
  vaddr = number_at bytes (i + 8);
  filesz = number_at bytes (i + 16);
  memsz = number_at bytes (i + 20);
}

-- the program header of an index, 32 bytes each, and all of them
abbrev pub program_header : List ℕ → ℕ → ProgramHeader
program_header bytes i = header_at bytes (table_of bytes + PROGRAM_HEADER_SIZE * i)

abbrev pub headers_of : List ℕ → List ProgramHeader
headers_of bytes = map (program_header bytes) (range_with_len 0 (header_count bytes))

-- local memory, boot store and global memory are loaded; an entry lies in the first two
abbrev pub is_memory : Place → Bool
is_memory (Local i) = true
is_memory (Boot i) = true
is_memory (Global i) = true
is_memory (Device k) = false
is_memory Nowhere = false

abbrev pub is_store_of_code : Place → Bool
is_store_of_code (Local i) = true
is_store_of_code (Boot i) = true
is_store_of_code (Global i) = false
is_store_of_code (Device k) = false
is_store_of_code Nowhere = false

-- a byte may be loaded at a virtual address of kseg0 or kseg1, which stands for its low 29 bits
abbrev pub is_loadable : ℕ → Bool
is_loadable va = is_between UNMAPPED_START va UNMAPPED_END && is_memory (place_at (va % UNMAPPED_SIZE))

abbrev pub is_entry : ℕ → Bool
is_entry va = (va % 4 == 0) && is_between UNMAPPED_START va UNMAPPED_END && is_store_of_code (place_at (va % UNMAPPED_SIZE))

-- the conditions on the table of program headers, each with its refusal, in their order
abbrev pub table_conditions : List ℕ → List (Bool × ElfFault)
table_conditions bytes =
    (nat_le (header_count bytes) MOST_HEADERS, TooMany (header_count bytes))
    ∷ ((header_count bytes == 0 || half_at bytes 42 == PROGRAM_HEADER_SIZE), HeaderSize)
    ∷ ((header_count bytes == 0 || nat_le (table_of bytes + PROGRAM_HEADER_SIZE * header_count bytes) (length bytes)), TableOutside)
    ∷ []

-- the conditions on the file's header, and then those on the table
abbrev pub file_conditions : List ℕ → List (Bool × ElfFault)
file_conditions bytes =
    (nat_le FILE_HEADER_SIZE (length bytes), Short (length bytes))
    ∷ (number_at bytes 0 == MAGIC, Magic)
    ∷ (slice_index bytes 4 == 1, Class)
    ∷ (slice_index bytes 5 == 2, Order)
    ∷ ((slice_index bytes 6 == 1 && number_at bytes 20 == 1), Version)
    ∷ (half_at bytes 16 == 2, Kind)
    ∷ (half_at bytes 18 == 8, Machine)
    ∷ table_conditions bytes

-- no program header is dynamic linking's or an interpreter's
abbrev pub is_dynamic : ProgramHeader → Bool
is_dynamic h = (h.kind == DYNAMIC) || (h.kind == INTERPRETER)

abbrev pub static_conditions : ℕ → List ProgramHeader → List (Bool × ElfFault)
static_conditions i [] = []
static_conditions i (h ∷ hs) = (not (is_dynamic h), Dynamic i) ∷ static_conditions (i + 1) hs

-- the three conditions on a segment that is loaded: file bytes fit memory bytes, the file has them,
-- and each byte of memory may be loaded
abbrev pub segment_conditions : ℕ → ℕ → ProgramHeader → List (Bool × ElfFault)
segment_conditions size i h =
    (nat_le h.filesz h.memsz, Bounds i)
    ∷ ((h.filesz == 0 || nat_le (h.offset + h.filesz) size), FileOutside i)
    ∷ (list_all (λ k. is_loadable (h.vaddr + k)) (range_with_len 0 h.memsz), Placed i)
    ∷ []

-- those on a program header, where it is that of a segment that is loaded
abbrev pub header_conditions : ℕ → ℕ → ProgramHeader → List (Bool × ElfFault)
header_conditions size i h = if h.kind == LOAD then segment_conditions size i h else []

abbrev pub load_conditions : ℕ → ℕ → List ProgramHeader → List (Bool × ElfFault)
load_conditions size i [] = []
load_conditions size i (h ∷ hs) = header_conditions size i h ++ load_conditions size (i + 1) hs

-- a program begins at a place of code
abbrev pub entry_conditions : List ℕ → List (Bool × ElfFault)
entry_conditions bytes = (is_entry (entry_of bytes), Entry) ∷ []

-- the conditions behind those on the file's header, and all of them, in their order
abbrev pub rest_conditions : List ℕ → List (Bool × ElfFault)
rest_conditions bytes = static_conditions 0 (headers_of bytes) ++ (load_conditions (length bytes) 0 (headers_of bytes) ++ entry_conditions bytes)

abbrev pub conditions : List ℕ → List (Bool × ElfFault)
conditions bytes = file_conditions bytes ++ rest_conditions bytes

-- the first condition that is false
abbrev pub first_false : List (Bool × ElfFault) → Option ElfFault
first_false [] = None
first_false (c ∷ cs) = if c.0 then first_false cs else Some c.1

abbrev pub refusal : List ℕ → Option ElfFault
refusal bytes = first_false (conditions bytes)

-- every condition holds
abbrev pub accepts : List ℕ → Bool
accepts bytes = list_all (λ (c : Bool × ElfFault). c.0) (conditions bytes)
