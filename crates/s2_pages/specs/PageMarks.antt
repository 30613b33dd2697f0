-- A local list of words with a mark for each of its pages.
use Rattle.std.specs.Prelude.{ℕ, ◌≡◌, Bool, false, List, length, replicate, slice_set}
use Rattle.s2_base.specs.declared.map.TheConstants.{LOCAL_WORDS}
use Rattle.s2_pages.specs.declared.page_store.TheConstants.{LOCAL_PAGES}

-- the words, and for each page whether it is marked
pub record PagedWords : Type 0 where
  pub words : List ℕ
  pub marks : List Bool

-- these words, and no page marked
abbrev pub unmarked_words : List ℕ → PagedWords
unmarked_words words = record { words = words; marks = replicate LOCAL_PAGES false }

-- word i is v, and the marks stay
abbrev pub words_after_put : ℕ → ℕ → PagedWords → PagedWords
words_after_put i v s = record s { words = slice_set s.words i v }

-- there are as many words and marks as a local list has words and pages
pub record IsLocalSize (s : PagedWords) : Type 0 where
  pub size : length s.words ≡ LOCAL_WORDS
  pub pages : length s.marks ≡ LOCAL_PAGES
