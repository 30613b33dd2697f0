-- The words of a hold, by their number.
use Rattle.std.proofs.Common.{◌≡◌, ℕ, suc, ◌+◌, ◌-◌, ◌*◌, ◌/◌, ◌%◌, ◌<◌, ◌≤◌, List, [], ◌∷◌, ◌++◌, length, get_or, drop, refl, sym, ap, ◌∙◌, inl, inr, length-append, arith}
use Rattle.std.specs.Prelude.{Bool, true, false, cond, ◌==◌, ◌&&◌, nat_lt, if◌then◌else◌}
use Rattle.std.specs.List.{filter, flat_map, range_with_len}
use Rattle.std.proofs.lemmas.Bool.{cases_lt, true≢false}
use Rattle.std.proofs.lemmas.Bool.Decides.{nat_tests}
use Rattle.std.proofs.lemmas.List.{map-id, get_or_append_left, get_or-append_right, drop_more, drop_all, length-drop}
use Rattle.std.proofs.lemmas.List.FromFn.{length-map-range_with_len, get_or-map-range_with_len, filter_of_map_range_with_len_more}
use Rattle.s2_join.specs.declared.item.Item.{Item}
use Rattle.s2_join.specs.declared.item.Item.TheVariants.{Local, Saved}
use Rattle.s2_join.specs.CopyOrder.{CopyState, none_left, page_items, saved_items, is_last_item, copy_after_item, copy_after_first}
use Rattle.s2_join.specs.HoldItems.{saved_items_if, hold_items, hold_length, hold_item}

-- one more page of a range that passes a test, or not
pub filter_next : (p : ℕ → Bool) (a n j : ℕ) → a + n ≡ j → filter p (range_with_len a (n + 1)) ≡ filter p (range_with_len a n) ++ cond (p j) (j ∷ []) []
filter_next p a n j h =
    let e = filter_of_map_range_with_len_more p (λ (x : ℕ). x) a n j h in
    rw (map-id, map-id) at e

pub words_length : (page : ℕ) → length (page_items page) ≡ 1024
unfolding page_items
words_length page = length-map-range_with_len Local (page * 1024) 1024

pub word_of_page : (page n : ℕ) (d : Item) → n < 1024 → get_or (page_items page) n d ≡ Local (page * 1024 + n)
unfolding page_items
word_of_page page n d h = get_or-map-range_with_len Local (page * 1024) 1024 n (page * 1024 + n) d h refl

pub saved_length : length saved_items ≡ 176
unfolding saved_items
saved_length = length-map-range_with_len Saved 0 176

pub saved_word : (n : ℕ) (d : Item) → n < 176 → get_or saved_items n d ≡ Saved n
unfolding saved_items
saved_word n d h = get_or-map-range_with_len Saved 0 176 n n d h (omega arith)

pub pages_length : (pages : List ℕ) → length (flat_map page_items pages) ≡ 1024 * length pages
pages_length [] = refl
pages_length (page ∷ pages) = omega (arith, length-append (page_items page) (flat_map page_items pages), words_length page, pages_length pages)

pub saved_part_length : (closing : Bool) → length (saved_items_if closing) ≡ (if closing then 176 else 0)
saved_part_length true = saved_length
saved_part_length false = refl

pub hold_size : (pages : List ℕ) (closing : Bool) → length (hold_items pages closing) ≡ hold_length pages closing
hold_size pages closing = omega (arith, length-append (flat_map page_items pages) (saved_items_if closing), pages_length pages, saved_part_length closing)

page_word : (pages : List ℕ) (n : ℕ) (d : Item) → n < 1024 * length pages → get_or (flat_map page_items pages) n d ≡ Local (get_or pages (n / 1024) 0 * 1024 + n % 1024)
page_word [] n d h = absurd (omega arith)
page_word (page ∷ pages) n d h = elim (cases_lt n 1024) [
  | inl low ↦
      let in_first : n < length (page_items page) = omega (arith, words_length page) in
      let first : n / 1024 ≡ 0 = omega arith in
      let rest : n % 1024 ≡ n = omega arith in
      get_or_append_left (page_items page) (flat_map page_items pages) d n in_first ∙
      (word_of_page page n d low ∙ sym (ap (λ (k : ℕ). Local (get_or (page ∷ pages) k 0 * 1024 + n % 1024)) first ∙ ap (λ (k : ℕ). Local (page * 1024 + k)) rest))
  | inr high ↦
      let next : n / 1024 ≡ suc ((n - 1024) / 1024) = omega arith in
      let rest : n % 1024 ≡ (n - 1024) % 1024 = omega arith in
      get_or-append_right (page_items page) (flat_map page_items pages) 1024 n d (words_length page) high ∙
      (page_word pages (n - 1024) d (omega arith) ∙
      sym (ap (λ (k : ℕ). Local (get_or (page ∷ pages) k 0 * 1024 + n % 1024)) next ∙ ap (λ (k : ℕ). Local (get_or pages ((n - 1024) / 1024) 0 * 1024 + k)) rest))
]

-- whether a word of the local list comes
word_by : (pages : List ℕ) (n : ℕ) (local : Bool) → nat_lt (n / 1024) (length pages) ≡ local → hold_item pages n ≡ (if local then Local (get_or pages (n / 1024) 0 * 1024 + n % 1024) else Saved (n - 1024 * length pages))
word_by pages n local h = ap (λ (b : Bool). if b then Local (get_or pages (n / 1024) 0 * 1024 + n % 1024) else Saved (n - 1024 * length pages)) h

below : (n m : ℕ) → n < m → nat_lt n m ≡ true
below n m h = grind (arith, nat_tests)

above : (n m : ℕ) → m ≤ n → nat_lt n m ≡ false
above n m h = grind (arith, nat_tests)

saved_at : (closing : Bool) (n : ℕ) (d : Item) → n < (if closing then 176 else 0) → get_or (saved_items_if closing) n d ≡ Saved n
saved_at true n d h = saved_word n d h
saved_at false n d h = absurd (omega arith)

pub hold_item_is : (pages : List ℕ) (closing : Bool) (n : ℕ) (d : Item) → n < hold_length pages closing → get_or (hold_items pages closing) n d ≡ hold_item pages n
hold_item_is pages closing n d h = elim (cases_lt n (1024 * length pages)) [
  | inl low ↦
      let inside : n < length (flat_map page_items pages) = omega (arith, pages_length pages) in
      get_or_append_left (flat_map page_items pages) (saved_items_if closing) d n inside ∙ (page_word pages n d low ∙ sym (word_by pages n true (below (n / 1024) (length pages) (omega arith))))
  | inr high ↦
      get_or-append_right (flat_map page_items pages) (saved_items_if closing) (1024 * length pages) n d (pages_length pages) high ∙
      (saved_at closing (n - 1024 * length pages) d (omega arith) ∙ sym (word_by pages n false (above (n / 1024) (length pages) (omega arith))))
]

pub hold_more : (pages : List ℕ) (closing : Bool) (n : ℕ) → n < hold_length pages closing → drop n (hold_items pages closing) ≡ hold_item pages n ∷ drop (n + 1) (hold_items pages closing)
hold_more pages closing n h =
    let inside : n < length (hold_items pages closing) = omega (arith, hold_size pages closing) in
    drop_more (hold_items pages closing) n (Saved 0) inside ∙ ap (λ (w : Item). w ∷ drop (n + 1) (hold_items pages closing)) (hold_item_is pages closing n (Saved 0) h)

pub hold_left : (pages : List ℕ) (closing : Bool) (n : ℕ) → length (drop n (hold_items pages closing)) ≡ hold_length pages closing - n
hold_left pages closing n = length-drop n (hold_items pages closing) ∙ ap (λ (k : ℕ). k - n) (hold_size pages closing)

pub hold_done : (pages : List ℕ) (closing : Bool) (n : ℕ) → n ≡ hold_length pages closing → drop n (hold_items pages closing) ≡ []
hold_done pages closing n h = drop_all n (hold_items pages closing) (omega (arith, hold_size pages closing))

same_test : (n m k l : ℕ) → (n ≡ m → k ≡ l) → (k ≡ l → n ≡ m) → (n == m) ≡ (k == l)
same_test n m k l f g = grind (arith, nat_tests)

never : (n m : ℕ) → (n ≡ m → ⊥) → (n == m) ≡ false
never n m f = grind (arith, nat_tests)

last_by : (pages : List ℕ) (closing : Bool) (n : ℕ) → n < hold_length pages closing → (closing && (n + 1 == hold_length pages closing)) ≡ is_last_item (hold_item pages n)
last_by pages false n h = sym (ap is_last_item (word_by pages n true (below (n / 1024) (length pages) (omega arith))))
last_by pages true n h = elim (cases_lt n (1024 * length pages)) [
  | inl low ↦ never (n + 1) (hold_length pages true) (λ e. omega arith) ∙ sym (ap is_last_item (word_by pages n true (below (n / 1024) (length pages) (omega arith))))
  | inr high ↦
      same_test (n + 1) (hold_length pages true) (n - 1024 * length pages + 1) 176 (λ e. omega arith) (λ e. omega arith) ∙
      sym (ap is_last_item (word_by pages n false (above (n / 1024) (length pages) (omega arith))))
]

pub hold_last : (pages : List ℕ) (closing : Bool) (n : ℕ) → n < hold_length pages closing → (closing && (n + 1 == hold_length pages closing)) ≡ is_last_item (hold_item pages n)
hold_last = last_by

pub hold_open : (pages : List ℕ) (closing : Bool) (n : ℕ) → n ≤ hold_length pages closing → none_left (drop n (hold_items pages closing)) ≡ false → n < hold_length pages closing
hold_open pages closing n within some = elim (cases_lt n (hold_length pages closing)) [ inl low ↦ low | inr high ↦ absurd (true≢false (sym (ap none_left (hold_done pages closing n (omega arith))) ∙ some)) ]

-- what a Join is seen as, before and after a word
abbrev pub seen : ℕ → List Bool → ℕ → ℕ → List ℕ → Bool → ℕ → CopyState
seen joiner clean cursor syncs pages closing n = record { joiner = joiner; clean = clean; cursor = cursor; syncs = syncs; left = drop n (hold_items pages closing); saved = closing && (n == hold_length pages closing) }

pub hold_copied : (joiner : ℕ) (clean : List Bool) (cursor syncs : ℕ) (pages : List ℕ) (closing : Bool) (n : ℕ) → n < hold_length pages closing →
    seen joiner clean cursor syncs pages closing (n + 1) ≡ copy_after_item (seen joiner clean cursor syncs pages closing n)
hold_copied joiner clean cursor syncs pages closing n h =
    let now : CopyState = seen joiner clean cursor syncs pages closing n in
    sym (ap (copy_after_first now) (hold_more pages closing n h) ∙ ap (λ (b : Bool). record now { left = drop (n + 1) (hold_items pages closing); saved = b }) (sym (hold_last pages closing n h)))

pub hold_test : (pages : List ℕ) (closing : Bool) (n : ℕ) → n ≤ hold_length pages closing → (n == hold_length pages closing) ≡ none_left (drop n (hold_items pages closing))
hold_test pages closing n h = elim (cases_lt n (hold_length pages closing)) [
  | inl low ↦ never n (hold_length pages closing) (λ e. omega arith) ∙ sym (ap none_left (hold_more pages closing n low))
  | inr high ↦
      let whole : n ≡ hold_length pages closing = omega arith in
      let yes : (n == hold_length pages closing) ≡ true = grind (arith, nat_tests) in
      yes ∙ sym (ap none_left (hold_done pages closing n whole))
]

-- a hold that none_left and has not ended does not close
pub hold_closes : (pages : List ℕ) (closing : Bool) (n : ℕ) → n ≤ hold_length pages closing → none_left (drop n (hold_items pages closing)) ≡ true → (closing && (n == hold_length pages closing)) ≡ false → closing ≡ false
hold_closes pages true n h rest going =
    let yes : (n == hold_length pages true) ≡ true = hold_test pages true n h ∙ rest in
    absurd (true≢false (sym yes ∙ going))
hold_closes pages false n h rest going = refl
