-- Only proofs need these: the pages that a buffer remembers. A page is remembered as a pair of words, (hi, lo): hi
-- holds the number of the page and of the address space, as EntryHi does, and has its lowest bit set; lo is that of
-- the lowest entry that matches, which is valid.
use Rattle.std.specs.Prelude.{◌≡◌, ℕ, ◌%◌, ◌<◌, true, List, length, slice_index_or}
use Rattle.s2_tlb.specs.declared.buffer.TheConstants.{REMEMBERED_PAGES}
use Rattle.s2_tlb.specs.TranslationEntries.{virtual_page, address_space, entry_at, entry_is_valid, IsLowestMatch}

-- the entry that was found
pub record IsFound (entries : List (ℕ × ℕ)) (hi lo : ℕ) : Type 0 where
  pub entry : ℕ
  pub lowest : IsLowestMatch entries (virtual_page hi) (address_space hi) entry
  pub word : (entry_at entries entry).1 ≡ lo
  pub valid : entry_is_valid (hi, lo) ≡ true

-- each pair is empty, with an even hi, or remembers a page
pub record AreRemembered (pairs : List (ℕ × ℕ)) (entries : List (ℕ × ℕ)) : Type 0 where
  pub count : length pairs ≡ REMEMBERED_PAGES
  pub each : (k : ℕ) → k < REMEMBERED_PAGES → (slice_index_or pairs k (0, 0)).0 % 2 ≡ 1 → IsFound entries (slice_index_or pairs k (0, 0)).0 (slice_index_or pairs k (0, 0)).1
