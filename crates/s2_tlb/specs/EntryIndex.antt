-- Only proofs need these: the sets of the entries by the values of their fields, each set a word with a bit for
-- each entry.
use Rattle.std.specs.Prelude.{◌≡◌, ℕ, ◌/◌, ◌%◌, ◌<◌, ◌==◌, Bool, true, false, List, slice_index}
use Rattle.std.specs.Int.{bit_at}
use Rattle.s2_tlb.specs.declared.entries.TheConstants.{TLB_ENTRIES, GLOBAL}
use Rattle.s2_tlb.specs.declared.index.TheConstants.{FIELD_VALUES}
use Rattle.s2_tlb.specs.declared.index.EntryIndex.{EntryIndex}
use Rattle.s2_tlb.specs.TranslationEntries.{virtual_page, address_space, entry_at}

-- the bit that says whether
abbrev pub flag : Bool → ℕ
flag true = 1
flag false = 0

-- for each value of a field, the entries that have it
pub record AreSetsOf (field : ℕ × ℕ → ℕ) (sets : List ℕ) (entries : List (ℕ × ℕ)) : Type 0 where
  pub bits : (v i : ℕ) → v < FIELD_VALUES → i < TLB_ENTRIES → bit_at (slice_index sets v) i ≡ flag (field (entry_at entries i) == v)

-- the fields: the digits of the number of the page, of base 64, the number of the address space, and G
abbrev pub low_digit : ℕ × ℕ → ℕ
low_digit entry = virtual_page entry.0 % 64

abbrev pub second_digit : ℕ × ℕ → ℕ
second_digit entry = virtual_page entry.0 / 64 % 64

abbrev pub third_digit : ℕ × ℕ → ℕ
third_digit entry = virtual_page entry.0 / 4096 % 64

abbrev pub high_digit : ℕ × ℕ → ℕ
high_digit entry = virtual_page entry.0 / 262144 % 64

abbrev pub space_field : ℕ × ℕ → ℕ
space_field entry = address_space entry.0

abbrev pub global_field : ℕ × ℕ → ℕ
global_field entry = entry.1 / GLOBAL % 2

-- an index has the sets of all fields
pub record IsIndexOf (index : EntryIndex) (entries : List (ℕ × ℕ)) : Type 0 where
  pub low : AreSetsOf low_digit index.low entries
  pub second : AreSetsOf second_digit index.second entries
  pub third : AreSetsOf third_digit index.third entries
  pub high : AreSetsOf high_digit index.high entries
  pub space : AreSetsOf space_field index.space entries
  pub global : AreSetsOf global_field index.global entries
