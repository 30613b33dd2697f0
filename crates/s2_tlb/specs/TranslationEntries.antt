-- The entries of the translation lookaside buffer. An entry is a pair of words, (hi, lo). As in EntryHi, hi
-- holds the number of a virtual page (VPN) and of an address space (ASID); as in EntryLo, lo holds the
-- number of a page frame (PFN) and the bits N, D, V and G.
use Rattle.std.specs.Prelude.{◌≡◌, ℕ, ◌/◌, ◌%◌, ◌<◌, ◌==◌, Bool, ◌&&◌, ◌||◌, List, length, replicate, bit_and, slice_index_or, slice_set, Option, EachIndex, IsTrue, IsFalse}
use Rattle.std.specs.List.{position}
use Rattle.s2_base.specs.declared.masks.TheConstants.{ENTRY_HI_BITS, ENTRY_LO_BITS}
use Rattle.s2_tlb.specs.declared.entries.TheConstants.{TLB_ENTRIES, PAGE_BYTES, ADDRESS_SPACES, ASID_UNIT, DIRTY, VALID, GLOBAL}

-- VPN: the number of the virtual page of an address, which hi holds at the same bits
abbrev pub virtual_page : ℕ → ℕ
virtual_page word = word / PAGE_BYTES

-- ASID: the number of the address space in hi
abbrev pub address_space : ℕ → ℕ
address_space hi = hi / ASID_UNIT % ADDRESS_SPACES

-- PFN: the number of the page frame of an entry
abbrev pub page_frame : ℕ × ℕ → ℕ
page_frame entry = entry.1 / PAGE_BYTES

-- D: whether stores to the page are allowed
abbrev pub entry_is_dirty : ℕ × ℕ → Bool
entry_is_dirty entry = entry.1 / DIRTY % 2 == 1

-- V: whether the entry is valid
abbrev pub entry_is_valid : ℕ × ℕ → Bool
entry_is_valid entry = entry.1 / VALID % 2 == 1

-- G: whether the entry serves every address space
abbrev pub entry_is_global : ℕ × ℕ → Bool
entry_is_global entry = entry.1 / GLOBAL % 2 == 1

-- whether an entry matches a virtual page in an address space: it is of that page, and it is global or of
-- that space
abbrev pub entry_matches : ℕ × ℕ → ℕ → ℕ → Bool
entry_matches entry page space = (virtual_page entry.0 == page) && (entry_is_global entry || (address_space entry.0 == space))

-- a pair of words of the bits that an entry keeps
pub record IsTranslationEntry (entry : ℕ × ℕ) : Type 0 where
  pub hi : bit_and entry.0 ENTRY_HI_BITS ≡ entry.0
  pub lo : bit_and entry.1 ENTRY_LO_BITS ≡ entry.1

-- entry i of a list
abbrev pub entry_at : List (ℕ × ℕ) → ℕ → ℕ × ℕ
entry_at entries i = slice_index_or entries i (0, 0)

-- the list of the entries of a buffer
pub record AreTranslationEntries (entries : List (ℕ × ℕ)) : Type 0 where
  pub count : length entries ≡ TLB_ENTRIES
  pub each : (i : ℕ) → i < TLB_ENTRIES → IsTranslationEntry (entry_at entries i)

-- the entries of a new buffer: all words are 0
abbrev pub zero_entries : List (ℕ × ℕ)
zero_entries = replicate TLB_ENTRIES (0, 0)

-- the bits of two words that an entry keeps
abbrev pub masked_entry : ℕ → ℕ → ℕ × ℕ
masked_entry hi lo = (bit_and hi ENTRY_HI_BITS, bit_and lo ENTRY_LO_BITS)

-- the entries after two words were written to entry i
abbrev pub entries_written : List (ℕ × ℕ) → ℕ → ℕ → ℕ → List (ℕ × ℕ)
entries_written entries i hi lo = slice_set entries i (masked_entry hi lo)

-- entry i is the lowest that matches: it does, and no lower one does
pub record IsLowestMatch (entries : List (ℕ × ℕ)) (page space i : ℕ) : Type 0 where
  pub within : i < length entries
  pub matches : IsTrue (entry_matches (entry_at entries i) page space)
  pub lower : (j : ℕ) → j < i → IsFalse (entry_matches (entry_at entries j) page space)

-- no entry matches
abbrev pub NoneMatches : List (ℕ × ℕ) → ℕ → ℕ → Type 0
NoneMatches entries page space = EachIndex entries (λ i. IsFalse (entry_matches (entry_at entries i) page space))

-- the lowest entry that matches, if one does
abbrev pub lowest_match : List (ℕ × ℕ) → ℕ → ℕ → Option ℕ
lowest_match entries page space = position (λ entry. entry_matches entry page space) entries
