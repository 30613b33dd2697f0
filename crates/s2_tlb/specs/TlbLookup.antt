-- The look-up of an address in the translation lookaside buffer, and the probe for a pair of a virtual page
-- and an address space. The lowest entry that matches is used (this project's own).
use Rattle.std.specs.Prelude.{ℕ, ◌+◌, ◌*◌, ◌%◌, Bool, not, ◌&&◌, if◌then◌else◌, List, Option, None, Some}
use Rattle.s2_tlb.specs.declared.entries.TheConstants.{PAGE_BYTES}
use Rattle.s2_tlb.specs.declared.outcomes.Look.{Look}
use Rattle.s2_tlb.specs.declared.outcomes.Look.TheVariants.{Hit, Miss, Invalid, ReadOnly}
use Rattle.s2_tlb.specs.TranslationEntries.{virtual_page, address_space, page_frame, entry_is_dirty, entry_is_valid, entry_at, IsLowestMatch, lowest_match}

-- the physical address that an entry gives a virtual one: the page frame, and the offset in the page
abbrev pub physical_address : ℕ × ℕ → ℕ → ℕ
physical_address entry va = page_frame entry * PAGE_BYTES + va % PAGE_BYTES

-- what the entry that is used gives an access: the first row whose condition holds
abbrev pub access_outcome : ℕ × ℕ → ℕ → Bool → Look
access_outcome entry va store =
    if not (entry_is_valid entry) then Invalid
    else if (store && not (entry_is_dirty entry)) then ReadOnly
    else Hit (physical_address entry va)

-- the same, with the row before these: no entry matches
abbrev pub match_outcome : List (ℕ × ℕ) → Option ℕ → ℕ → Bool → Look
match_outcome entries None va store = Miss
match_outcome entries (Some i) va store = access_outcome (entry_at entries i) va store

-- what an access gives, a store or not, to a virtual address in an address space
abbrev pub look_of : List (ℕ × ℕ) → ℕ → ℕ → Bool → Look
look_of entries va space store = match_outcome entries (lowest_match entries (virtual_page va) space) va store

-- an entry matches, and the lowest one that does has a property
abbrev pub LowestMatchHas : List (ℕ × ℕ) → ℕ → ℕ → (ℕ × ℕ → Type 0) → Type 0
LowestMatchHas entries page space P = (i : ℕ) × IsLowestMatch entries page space i × P (entry_at entries i)

-- the lowest entry that matches the page and the address space of a word such as EntryHi holds
abbrev pub probe_of : List (ℕ × ℕ) → ℕ → Option ℕ
probe_of entries hi = lowest_match entries (virtual_page hi) (address_space hi)
