-- How a Join keeps the words that are still to copy, for its model alone: the pages that the last Sync set
-- to be copied, whether the saved words follow them, and how many words of these were copied.
use Rattle.std.specs.Prelude.{ℕ, ◌+◌, ◌-◌, ◌*◌, ◌/◌, ◌%◌, ◌++◌, ◌≡◌, ◌<◌, ◌≤◌, Bool, true, false, List, [], length, slice_index, nat_lt, if◌then◌else◌}
use Rattle.std.specs.List.{flat_map}
use Rattle.s2_store.specs.declared.store.TheConstants.{PAGE_WORDS}
use Rattle.s2_pages.specs.declared.page_store.TheConstants.{LOCAL_PAGES}
use Rattle.s2_join.specs.declared.item.Item.{Item}
use Rattle.s2_join.specs.declared.item.Item.TheVariants.{Local, Saved}
use Rattle.s2_join.specs.declared.join.TheConstants.{SAVED_WORDS, SINGLE_PAGE_SYNCS}
use Rattle.s2_join.specs.CopyOrder.{page_items, saved_items}

-- the words that a Sync set to be copied: those of its pages, and after the closing Sync the saved ones
abbrev pub saved_items_if : Bool → List Item
saved_items_if true = saved_items
saved_items_if false = []

abbrev pub hold_items : List ℕ → Bool → List Item
hold_items pages closing = flat_map page_items pages ++ saved_items_if closing

-- how many these are
abbrev pub hold_length : List ℕ → Bool → ℕ
hold_length pages closing = PAGE_WORDS * length pages + (if closing then SAVED_WORDS else 0)

-- the one with number n, from 0 on
abbrev pub hold_item : List ℕ → ℕ → Item
hold_item pages n = if nat_lt (n / PAGE_WORDS) (length pages) then Local (slice_index pages (n / PAGE_WORDS) * PAGE_WORDS + n % PAGE_WORDS) else Saved (n - PAGE_WORDS * length pages)

-- what a Join keeps: where the search begins, how many Syncs have copied, the pages of the last one,
-- whether it was the closing one, and how many of its words were copied
pub record IsCopyRecord (from sync_count : ℕ) (these : List ℕ) (closing : Bool) (number : ℕ) : Type 0 where
  pub cursor : from < LOCAL_PAGES
  pub syncs : sync_count ≤ SINGLE_PAGE_SYNCS + 1
  pub single_syncs : closing ≡ false → sync_count ≤ SINGLE_PAGE_SYNCS
  pub pages : (k : ℕ) → k < length these → slice_index these k < LOCAL_PAGES
  pub few : length these ≤ LOCAL_PAGES
  pub done : number ≤ hold_length these closing
