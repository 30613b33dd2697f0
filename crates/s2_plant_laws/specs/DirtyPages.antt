-- The marks of a local list, one for each page: what they say of the words since they were last cleared.
use Rattle.std.specs.Prelude.{ℕ, ◌≡◌, ◌/◌, ◌&&◌, ◌<◌, not, Bool, false, List, [], ◌∷◌, length, slice_index, slice_index_or, slice_set}
use Rattle.s2_base.specs.declared.map.TheConstants.{LOCAL_WORDS}
use Rattle.s2_store.specs.declared.store.TheConstants.{PAGE_WORDS}
use Rattle.s2_store.specs.Marks.{page_marked}
use Rattle.s2_pages.specs.declared.page_store.TheConstants.{LOCAL_PAGES}

-- whether a page is marked
abbrev pub is_marked : List Bool → ℕ → Bool
is_marked marks page = slice_index_or marks page false

-- from one list with marks to another: a page without a mark had none before, and its words are as they were
pub record UnmarkedPagesStay (words : List ℕ) (marks : List Bool) (words_after : List ℕ) (marks_after : List Bool) : Type 0 where
  pub unmarked : (page : ℕ) → is_marked marks_after page ≡ false → is_marked marks page ≡ false
  pub same : (i : ℕ) → is_marked marks_after (i / PAGE_WORDS) ≡ false → slice_index words_after i ≡ slice_index words i

-- so it is of no store, of one store, and of two such steps in a row
pub record StoresMarkPages : Type 0 where
  pub none : (words : List ℕ) (marks : List Bool) → UnmarkedPagesStay words marks words marks
  pub one : (words : List ℕ) (marks : List Bool) (i v : ℕ) → length words ≡ LOCAL_WORDS → i < LOCAL_WORDS → length marks ≡ LOCAL_PAGES →
      UnmarkedPagesStay words marks (slice_set words i v) (page_marked marks i)
  pub both : (a b c : List ℕ) (x y z : List Bool) → UnmarkedPagesStay a x b y → UnmarkedPagesStay b y c z → UnmarkedPagesStay a x c z

-- the pages that are clean after these marks were taken over: a marked page is not
abbrev pub clean_without : List Bool → List Bool → List Bool
clean_without [] marks = []
clean_without (clean ∷ rest) [] = clean ∷ rest
clean_without (clean ∷ rest) (mark ∷ marks) = (clean && not mark) ∷ clean_without rest marks
