-- Which words a reintegration copies, and in which order, while the members run.
--
-- At each agreed Sync some words are set to be copied; the members stand still until they are, a word at a
-- time. A Sync copies one page, or closes the reintegration: it copies all pages that are left, and then
-- the saved words. A page is unclean until a Sync copies it, and again once a member stored to it.
use Rattle.std.specs.Prelude.{ℕ, ◌+◌, ◌-◌, ◌*◌, ◌%◌, ◌<◌, ◌==◌, ◌&&◌, ◌++◌, not, nat_lt, Bool, true, false, List, [], ◌∷◌, map, replicate, slice_index_or, slice_set, count_by, if◌then◌else◌}
use Rattle.std.specs.List.{filter, flat_map, range_with_len}
use Rattle.s2_base.specs.declared.map.TheConstants.{LOCAL_WORDS}
use Rattle.s2_store.specs.declared.store.TheConstants.{PAGE_WORDS}
use Rattle.s2_pages.specs.declared.page_store.TheConstants.{LOCAL_PAGES}
use Rattle.s2_join.specs.declared.item.Item.{Item}
use Rattle.s2_join.specs.declared.item.Item.TheVariants.{Local, Saved}
use Rattle.s2_join.specs.declared.join.TheConstants.{CLOSING_PAGES, SAVED_WORDS, SINGLE_PAGE_SYNCS}

-- the processor that joins, the pages of it that are clean, the page at which the search for the next one
-- begins, how many Syncs have copied, the words that are still to copy before the members go on, in order,
-- and whether the saved words were copied
pub record CopyState : Type 0 where
  pub joiner : ℕ
  pub clean : List Bool
  pub cursor : ℕ
  pub syncs : ℕ
  pub left : List Item
  pub saved : Bool

-- whether no word is to copy
abbrev pub none_left : List Item → Bool
none_left [] = true
none_left (item ∷ left) = false

-- the words of a page, and the saved words
unfoldable pub page_items : ℕ → List Item
page_items page = map Local (range_with_len (page * PAGE_WORDS) PAGE_WORDS)

unfoldable pub saved_items : List Item
saved_items = map Saved (range_with_len 0 SAVED_WORDS)

-- a word of the local list, or of the saved state
abbrev pub IsItem : Item → Type 0
IsItem (Local i) = i < LOCAL_WORDS
IsItem (Saved k) = k < SAVED_WORDS

-- whether a page is unclean; the unclean pages from the cursor on, cyclically; and how many there are
abbrev pub is_unclean : List Bool → ℕ → Bool
is_unclean clean page = not (slice_index_or clean page false)

unfoldable pub unclean_pages : List Bool → ℕ → List ℕ
unclean_pages clean cursor = filter (is_unclean clean) (range_with_len cursor (LOCAL_PAGES - cursor) ++ range_with_len 0 cursor)

abbrev pub unclean_count : List Bool → ℕ
unclean_count clean = count_by not clean

-- at the start of a reintegration of processor p every page is unclean, and no word is to copy
abbrev pub copy_start : ℕ → CopyState
copy_start p = record { joiner = p; clean = replicate LOCAL_PAGES false; cursor = 0; syncs = 0; left = []; saved = false }

-- a member stored to a page
abbrev pub copy_after_store : ℕ → CopyState → CopyState
copy_after_store page j = record j { clean = slice_set j.clean page false }

-- a Sync copies a single page where more than CLOSING_PAGES pages are unclean and fewer than
-- SINGLE_PAGE_SYNCS Syncs have copied
abbrev pub is_single_page_sync : CopyState → Bool
is_single_page_sync j = nat_lt CLOSING_PAGES (unclean_count j.clean) && nat_lt j.syncs SINGLE_PAGE_SYNCS

-- the first of these pages is to copy; it is clean, and the cursor moves past it
abbrev pub copy_after_single_page : CopyState → List ℕ → CopyState
copy_after_single_page j [] = j
copy_after_single_page j (page ∷ pages) = record j { clean = slice_set j.clean page true; cursor = (page + 1) % LOCAL_PAGES; syncs = j.syncs + 1; left = page_items page }

-- all of these pages are to copy and then the saved words; all pages are clean, and the cursor stays
abbrev pub copy_after_closing : CopyState → List ℕ → CopyState
copy_after_closing j pages = record j { clean = replicate LOCAL_PAGES true; syncs = j.syncs + 1; left = flat_map page_items pages ++ saved_items }

-- an agreed Sync sets the words to copy
abbrev pub copy_after_sync : CopyState → CopyState
copy_after_sync j = if is_single_page_sync j then copy_after_single_page j (unclean_pages j.clean j.cursor) else copy_after_closing j (unclean_pages j.clean j.cursor)

-- whether a word is the last of the saved words
abbrev pub is_last_item : Item → Bool
is_last_item (Local i) = false
is_last_item (Saved k) = k + 1 == SAVED_WORDS

-- the first word that was to copy is copied
abbrev pub copy_after_first : CopyState → List Item → CopyState
copy_after_first j [] = j
copy_after_first j (item ∷ left) = record j { left = left; saved = is_last_item item }

abbrev pub copy_after_item : CopyState → CopyState
copy_after_item j = copy_after_first j j.left
