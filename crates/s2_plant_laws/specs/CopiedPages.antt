-- Copied pages: what holds of the three local lists at every moment of a repair.
use Rattle.std.specs.Prelude.{ℕ, ◌≡◌, ◌<◌, ◌≤◌, ◌-◌, ◌/◌, ◌++◌, Bool, true, false, List, map, length, slice_index_or}
use Rattle.std.specs.List.{All, Contains, range_with_len}
use Rattle.s2_base.specs.declared.map.TheConstants.{LOCAL_WORDS}
use Rattle.s2_store.specs.declared.store.TheConstants.{PAGE_WORDS}
use Rattle.s2_pages.specs.declared.page_store.TheConstants.{LOCAL_PAGES}
use Rattle.s2_join.specs.declared.item.Item.TheVariants.{Local, Saved}
use Rattle.s2_join.specs.declared.join.TheConstants.{SAVED_WORDS}
use Rattle.s2_join.specs.CopyOrder.{CopyState, none_left}
use Rattle.s2_plant_laws.specs.DirtyPages.{is_marked}
use Rattle.s2_plant_laws.specs.LocalReplicas.{LocalReplicas, replica_words, replica_marks, replica_word, joiner_of, IsMember}

-- whether a page of the processor that joins is clean
abbrev pub is_clean_page : CopyState → ℕ → Bool
is_clean_page j page = slice_index_or j.clean page false

-- each word of a clean page that is not still to copy equals the word of each member in which that page has
-- no mark
abbrev pub CopiedWordsEqual : LocalReplicas → Type 0
CopiedWordsEqual d =
    (q i : ℕ) → IsMember d q → i < LOCAL_WORDS → is_clean_page d.join (i / PAGE_WORDS) ≡ true → (Contains d.join.left (Local i) → ⊥) →
    is_marked (replica_marks d q) (i / PAGE_WORDS) ≡ false → replica_word d (joiner_of d) i ≡ replica_word d q i

-- the saved words that are still to copy stand behind all local ones and run in order to the last one; where
-- there are any, all pages are clean
pub record SavedWordsLast (j : CopyState) : Type 0 where
  pub locals : List ℕ
  pub first : ℕ
  pub is : j.left ≡ map Local locals ++ map Saved (range_with_len first (SAVED_WORDS - first))
  pub most : first ≤ SAVED_WORDS
  pub within : All (λ i. i < LOCAL_WORDS) locals
  pub clean : first < SAVED_WORDS → (page : ℕ) → page < LOCAL_PAGES → is_clean_page j page ≡ true

-- copied pages are equal, unless an act disturbed the processor that joins; no member has a mark while words
-- are still to copy; and the saved words come last
pub record CopiedPages (d : LocalReplicas) : Type 0 where
  pub joiner : joiner_of d < 3
  pub flags : length d.join.clean ≡ LOCAL_PAGES
  pub cursor : d.join.cursor < LOCAL_PAGES
  pub sizes : (q : ℕ) → q < 3 → length (replica_words d q) ≡ LOCAL_WORDS
  pub equal : d.disturbed ≡ false → CopiedWordsEqual d
  pub unmarked : none_left d.join.left ≡ false → (q page : ℕ) → IsMember d q → is_marked (replica_marks d q) page ≡ false
  pub order : SavedWordsLast d.join
  pub unsaved : d.join.saved ≡ false
