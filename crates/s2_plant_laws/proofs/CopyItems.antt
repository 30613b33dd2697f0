-- The words to copy.
use Rattle.std.proofs.Common.{◌≡◌, ℕ, zero, suc, ◌-◌, ◌*◌, ◌/◌, ◌%◌, ◌<◌, List, [], ◌∷◌, ◌++◌, length, get_or, map, refl, sym, ap, subst, ◌∙◌, inl, inr, arith}
use Rattle.std.specs.Prelude.{Bool, false, not}
use Rattle.std.specs.List.{flat_map, range_with_len, Contains, All}
use Rattle.std.proofs.lemmas.List.{map-append}
use Rattle.std.proofs.lemmas.List.Elements.{Contains-append_left, Contains-append_right, All-nil, All-append, All-from_get_or, All-head, All-tail}
use Rattle.std.proofs.lemmas.List.FromFn.{length-range_with_len, get_or-range_with_len, get_or-map-range_with_len, length-map-range_with_len}
use Rattle.s2_join.specs.declared.item.Item.{Item}
use Rattle.s2_join.specs.declared.item.Item.TheVariants.{Local, Saved}
use Rattle.s2_join.specs.CopyOrder.{page_items, saved_items, unclean_pages, is_unclean}
use Rattle.s2_plant_laws.proofs.Containment.{contains_none, contains_cases, contains_kept, contains_page}

-- the indices of the words of some pages
pub indices_of : List ℕ → List ℕ
indices_of [] = []
indices_of (page ∷ pages) = range_with_len (page * 1024) 1024 ++ indices_of pages

pub page_words : (page : ℕ) → page_items page ≡ map Local (range_with_len (page * 1024) 1024)
unfolding page_items
page_words page = refl

pub all_saved_words : saved_items ≡ map Saved (range_with_len 0 176)
unfolding saved_items
all_saved_words = refl

pub words_are : (pages : List ℕ) → flat_map page_items pages ≡ map Local (indices_of pages)
unfolding indices_of
words_are [] = refl
words_are (page ∷ pages) =
    ap (λ (l : List Item). l ++ flat_map page_items pages) (page_words page) ∙ (ap (λ (l : List Item). map Local (range_with_len (page * 1024) 1024) ++ l) (words_are pages) ∙
    sym (map-append Local (range_with_len (page * 1024) 1024) (indices_of pages)))

pub page_within : (page : ℕ) → page < 272 → All (λ (i : ℕ). i < 278528) (range_with_len (page * 1024) 1024)
page_within page h =
    All-from_get_or (λ (i : ℕ). i < 278528) (range_with_len (page * 1024) 1024) 0
    (λ k low. let e = length-range_with_len (page * 1024) 1024 in omega (arith, get_or-range_with_len (page * 1024) 1024 k 0 (omega arith)))

pub all_within : (pages : List ℕ) → All (λ (page : ℕ). page < 272) pages → All (λ (i : ℕ). i < 278528) (indices_of pages)
unfolding indices_of
all_within [] h = All-nil (λ (i : ℕ). i < 278528)
all_within (page ∷ pages) h =
    All-append (λ (i : ℕ). i < 278528) (range_with_len (page * 1024) 1024) (indices_of pages) (page_within page (All-head (λ (x : ℕ). x < 272) page pages h))
    (all_within pages (All-tail (λ (x : ℕ). x < 272) page pages h))

-- a word of a page is among its words
pub word_among : (i : ℕ) → Contains (page_items (i / 1024)) (Local i)
unfolding page_items
word_among i =
    let within : i % 1024 < length (map Local (range_with_len (i / 1024 * 1024) 1024)) = omega (arith, length-map-range_with_len Local (i / 1024 * 1024) 1024) in
    (i % 1024, within, get_or-map-range_with_len Local (i / 1024 * 1024) 1024 (i % 1024) i (Local i) (omega arith) (omega arith))

among_at : (pages : List ℕ) (i k : ℕ) → k < length pages → get_or pages k (i / 1024) ≡ i / 1024 → Contains (flat_map page_items pages) (Local i)
among_at [] i k h e = absurd (omega arith)
among_at (page ∷ pages) i zero h e =
    Contains-append_left (page_items page) (flat_map page_items pages) (Local i) (subst (λ (x : ℕ). Contains (page_items x) (Local i)) (sym e) (word_among i))
among_at (page ∷ pages) i (suc k) h e = Contains-append_right (page_items page) (flat_map page_items pages) (Local i) (among_at pages i k (omega arith) e)

pub words_among : (pages : List ℕ) (i : ℕ) → Contains pages (i / 1024) → Contains (flat_map page_items pages) (Local i)
words_among pages i h = among_at pages i h.0 h.1 h.2

-- an unclean page is among the unclean pages
pub unclean_among : (clean : List Bool) (cursor page : ℕ) → cursor < 272 → page < 272 → get_or clean page false ≡ false → Contains (unclean_pages clean cursor) page
unfolding unclean_pages
unclean_among clean cursor page low high flag =
    contains_kept (is_unclean clean) (range_with_len cursor (272 - cursor) ++ range_with_len 0 cursor) page (contains_page cursor page low high) (ap not flag)

-- no saved word is a word of a local list
pub not_saved : (xs : List ℕ) (i : ℕ) → Contains (map Saved xs) (Local i) → ⊥
not_saved [] i h = contains_none (Local i) h
not_saved (x ∷ xs) i h = elim (contains_cases (map Saved xs) (Saved x) (Local i) h) [ inl e ↦ cc | inr c ↦ not_saved xs i c ]
