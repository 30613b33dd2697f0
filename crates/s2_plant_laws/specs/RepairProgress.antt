-- Progress of a repair: how many Syncs have copied, and how many words.
use Rattle.std.specs.Prelude.{ℕ, ◌≡◌, ◌<◌, ◌≤◌, ◌+◌, ◌*◌, Bool, true, false, List, [], ◌∷◌, length, if◌then◌else◌}
use Rattle.s2_base.specs.declared.map.TheConstants.{LOCAL_WORDS}
use Rattle.s2_store.specs.declared.store.TheConstants.{PAGE_WORDS}
use Rattle.s2_pages.specs.declared.page_store.TheConstants.{LOCAL_PAGES}
use Rattle.s2_join.specs.declared.item.Item.{Item}
use Rattle.s2_join.specs.declared.item.Item.TheVariants.{Local, Saved}
use Rattle.s2_join.specs.declared.join.TheConstants.{SAVED_WORDS, SINGLE_PAGE_SYNCS}
use Rattle.s2_join.specs.CopyOrder.{CopyState, copy_start, copy_after_sync, copy_after_item, none_left, is_single_page_sync, unclean_count}
use Rattle.s2_plant_laws.specs.CopiedPages.{SavedWordsLast}

-- whether saved words are to copy, as they are from the closing Sync on
abbrev pub has_saved : List Item → Bool
has_saved [] = false
has_saved (Local i ∷ left) = has_saved left
has_saved (Saved k ∷ left) = true

-- the words of a page for each Sync that copied one, and those of all pages and the saved ones for the closing
-- Sync, where it has come
abbrev pub WordsFit : Bool → ℕ → ℕ → Type 0
WordsFit false syncs words = (syncs ≤ SINGLE_PAGE_SYNCS) × (words ≤ PAGE_WORDS * syncs)
WordsFit true syncs words = (syncs ≤ SINGLE_PAGE_SYNCS + 1) × (words + PAGE_WORDS ≤ PAGE_WORDS * syncs + LOCAL_WORDS + SAVED_WORDS)

-- the most words that a repair copies
abbrev pub most_words : ℕ
most_words = SINGLE_PAGE_SYNCS * PAGE_WORDS + LOCAL_WORDS + SAVED_WORDS

-- so many words were copied, and the rest is still to copy
pub record RepairProgress (words : ℕ) (j : CopyState) : Type 0 where
  pub flags : length j.clean ≡ LOCAL_PAGES
  pub cursor : j.cursor < LOCAL_PAGES
  pub fits : WordsFit (has_saved j.left) j.syncs (words + length j.left)

-- each step of the order of copying fits, so no repair has more Syncs or words than these
pub record RepairProgresses : Type 0 where
  pub start : (p : ℕ) → RepairProgress 0 (copy_start p)
  pub stores : (words : ℕ) (j : CopyState) (clean : List Bool) → length clean ≡ LOCAL_PAGES → RepairProgress words j → RepairProgress words (record j { clean = clean })
  pub syncs : (words : ℕ) (j : CopyState) → none_left j.left ≡ true → RepairProgress words j → RepairProgress words (copy_after_sync j)
  pub local : (words i : ℕ) (left : List Item) (j : CopyState) → j.left ≡ Local i ∷ left → RepairProgress words j → RepairProgress (words + 1) (copy_after_item j)
  pub saved : (words k : ℕ) (left : List Item) (j : CopyState) → j.left ≡ Saved k ∷ left → none_left left ≡ false → SavedWordsLast j → RepairProgress words j →
      RepairProgress (words + 1) (copy_after_item j)
  pub most : (words : ℕ) (j : CopyState) → RepairProgress words j → (j.syncs ≤ SINGLE_PAGE_SYNCS + 1) × (words + length j.left ≤ most_words)

-- how many words a Sync sets: those of a page, or of all unclean pages and the saved ones
abbrev pub WordsOfSync : Type 0
WordsOfSync = (j : CopyState) → length j.clean ≡ LOCAL_PAGES → j.cursor < LOCAL_PAGES →
    length (copy_after_sync j).left ≡ (if is_single_page_sync j then PAGE_WORDS else PAGE_WORDS * unclean_count j.clean + SAVED_WORDS)
