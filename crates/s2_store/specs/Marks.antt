-- The marks of a store: none, or one for each page.
use Rattle.std.specs.Prelude.{◌≡◌, ℕ, ◌/◌, ◌<◌, Bool, true, List, length, slice_set}
use Rattle.std.specs.Int.{div_ceil}
use Rattle.s2_store.specs.declared.store.TheConstants.{PAGE_WORDS}

-- where marks are kept, there is one for each page of so many words
abbrev pub AreMarks : List Bool → ℕ → Type 0
AreMarks marks words = 0 < length marks → length marks ≡ div_ceil words PAGE_WORDS

-- the marks after word i was set: that of its page is set, where marks are kept
abbrev pub page_marked : List Bool → ℕ → List Bool
page_marked marks i = slice_set marks (i / PAGE_WORDS) true
