-- The numbers of a reintegration.
use Rattle.std.proofs.Common.{◌≡◌, ℕ, zero, suc, ◌+◌, ◌-◌, ◌*◌, ◌<◌, ◌≤◌, List, [], ◌∷◌, ◌++◌, length, map, refl, sym, ap, subst, ◌∙◌, arith, length-set, length-append}
use Rattle.std.specs.Prelude.{Bool, true, false, not, nat_lt, if◌then◌else◌}
use Rattle.std.specs.List.{flat_map, range_with_len}
use Rattle.std.proofs.lemmas.Bool.{true≢false, and_parts}
use Rattle.std.proofs.lemmas.Bool.Decides.{nat_tests}
use Rattle.std.proofs.lemmas.List.{append-nil, length-replicate}
use Rattle.std.proofs.lemmas.List.Sums.{count_by-le-length}
use Rattle.s2_join.specs.declared.item.Item.{Item}
use Rattle.s2_join.specs.declared.item.Item.TheVariants.{Local, Saved}
use Rattle.s2_join.specs.CopyOrder.{CopyState, copy_start, page_items, saved_items, unclean_pages, unclean_count, is_single_page_sync, copy_after_single_page, copy_after_closing, copy_after_sync, is_last_item, copy_after_item, copy_after_first, none_left}
use Rattle.s2_join.proofs.HoldLemmas.{words_length, saved_length, pages_length}
use Rattle.s2_join.proofs.UncleanPages.{unclean_length}
use Rattle.s2_plant_laws.specs.CopiedPages.{SavedWordsLast}
use Rattle.s2_plant_laws.specs.RepairProgress.{has_saved, WordsFit, RepairProgress, RepairProgresses, WordsOfSync}
use Rattle.s2_plant_laws.proofs.CopyItems.{page_words, all_saved_words, words_are, indices_of}
use Rattle.s2_plant_laws.proofs.CopiedPages.{rest_nil, saved_next}

-- whether saved words stand behind words of local lists
closes_locals : (locals : List ℕ) (rest : List Item) → has_saved (map Local locals ++ rest) ≡ has_saved rest
closes_locals [] rest = refl
closes_locals (i ∷ locals) rest = closes_locals locals rest

closes_page : (page : ℕ) → has_saved (page_items page) ≡ false
closes_page page =
    ap has_saved (page_words page ∙ sym (append-nil (map Local (range_with_len (page * 1024) 1024)))) ∙ closes_locals (range_with_len (page * 1024) 1024) []

saved_closes : (a n : ℕ) → has_saved (map Saved (range_with_len a (suc n))) ≡ true
saved_closes a n = refl

closes_all : (pages : List ℕ) → has_saved (flat_map page_items pages ++ saved_items) ≡ true
closes_all pages =
    ap (λ (l : List Item). has_saved (l ++ saved_items)) (words_are pages) ∙ (ap (λ (l : List Item). has_saved (map Local (indices_of pages) ++ l)) all_saved_words ∙ (closes_locals (indices_of pages) (map Saved (range_with_len 0 176)) ∙ saved_closes 0 175))

all_length : (pages : List ℕ) → length (flat_map page_items pages ++ saved_items) ≡ 1024 * length pages + 176
all_length pages = omega (arith, length-append (flat_map page_items pages) saved_items, pages_length pages, saved_length)

begins : (p : ℕ) → RepairProgress 0 (copy_start p)
begins p = record { flags = length-replicate 272 false; cursor = omega arith; fits = (omega arith, omega arith) }

stores : (words : ℕ) (j : CopyState) (clean : List Bool) → length clean ≡ 272 → RepairProgress words j → RepairProgress words (record j { clean = clean })
stores words j clean size h = record { flags = size; cursor = h.cursor; fits = h.fits }

-- before a Sync nothing is to copy
before : (words : ℕ) (j : CopyState) → none_left j.left ≡ true → RepairProgress words j → (j.syncs ≤ 544) × (words ≤ 1024 * j.syncs)
before words j rest h =
    let f : WordsFit false j.syncs (words + 0) = subst (λ (l : List Item). WordsFit (has_saved l) j.syncs (words + length l)) (rest_nil j.left rest) h.fits in
    (f.0, omega (arith, f.1))

one_fits : (words : ℕ) (j : CopyState) (pages : List ℕ) → j.syncs < 544 → none_left j.left ≡ true → RepairProgress words j → RepairProgress words (copy_after_single_page j pages)
one_fits words j [] few rest h = h
one_fits words j (page ∷ pages) few rest h =
    let b = before words j rest h in
    let f : WordsFit false (j.syncs + 1) (words + length (page_items page)) = (omega arith, omega (arith, b.1, words_length page)) in
    record {
      flags = length-set j.clean page true ∙ h.flags;
      cursor = omega arith;
      fits = subst (λ (c : Bool). WordsFit c (j.syncs + 1) (words + length (page_items page))) (sym (closes_page page)) f;
    }

all_fits : (words : ℕ) (j : CopyState) → none_left j.left ≡ true → RepairProgress words j → RepairProgress words (copy_after_closing j (unclean_pages j.clean j.cursor))
all_fits words j rest h =
    let pages : List ℕ = unclean_pages j.clean j.cursor in
    let b = before words j rest h in
    let few : length pages ≤ 272 = omega (arith, unclean_length j.clean j.cursor h.flags h.cursor, count_by-le-length not j.clean, h.flags) in
    let size = all_length pages in
    let f : WordsFit true (j.syncs + 1) (words + length (flat_map page_items pages ++ saved_items)) = (omega (arith, b.0), omega (arith, b.1)) in
    record {
      flags = length-replicate 272 true;
      cursor = h.cursor;
      fits = subst (λ (c : Bool). WordsFit c (j.syncs + 1) (words + length (flat_map page_items pages ++ saved_items))) (sym (closes_all pages)) f;
    }

sync_by : (words : ℕ) (j : CopyState) (single : Bool) → is_single_page_sync j ≡ single → none_left j.left ≡ true → RepairProgress words j → RepairProgress words (copy_after_sync j)
sync_by words j true which rest h =
    let pages : List ℕ = unclean_pages j.clean j.cursor in
    let few : j.syncs < 544 = (let t = (and_parts (nat_lt 8 (unclean_count j.clean)) (nat_lt j.syncs 544) which).1 in grind (arith, nat_tests)) in
    subst (λ (b : Bool). RepairProgress words (if b then copy_after_single_page j pages else copy_after_closing j pages)) (sym which) (one_fits words j pages few rest h)
sync_by words j false which rest h =
    let pages : List ℕ = unclean_pages j.clean j.cursor in
    subst (λ (b : Bool). RepairProgress words (if b then copy_after_single_page j pages else copy_after_closing j pages)) (sym which) (all_fits words j rest h)

syncs : (words : ℕ) (j : CopyState) → none_left j.left ≡ true → RepairProgress words j → RepairProgress words (copy_after_sync j)
syncs words j rest h = sync_by words j _ refl rest h

-- a word: the sum stays
copied_by : (words : ℕ) (item : Item) (left : List Item) (j : CopyState) → j.left ≡ item ∷ left → has_saved (item ∷ left) ≡ has_saved left → RepairProgress words j → RepairProgress (words + 1) (copy_after_item j)
copied_by words item left j next same h =
    let was : WordsFit (has_saved (item ∷ left)) j.syncs (words + length (item ∷ left)) = subst (λ (l : List Item). WordsFit (has_saved l) j.syncs (words + length l)) next h.fits in
    let kept : WordsFit (has_saved left) j.syncs (words + length (item ∷ left)) = subst (λ (c : Bool). WordsFit c j.syncs (words + length (item ∷ left))) same was in
    let count : words + length (item ∷ left) ≡ words + 1 + length left = omega arith in
    let now : RepairProgress (words + 1) (record j { left = left; saved = is_last_item item }) = record { flags = h.flags; cursor = h.cursor; fits = subst (λ (n : ℕ). WordsFit (has_saved left) j.syncs n) count kept } in
    subst (λ (l : List Item). RepairProgress (words + 1) (copy_after_first j l)) (sym next) now

local : (words i : ℕ) (left : List Item) (j : CopyState) → j.left ≡ Local i ∷ left → RepairProgress words j → RepairProgress (words + 1) (copy_after_item j)
local words i left j next h = copied_by words (Local i) left j next refl h

more_saved : (a n : ℕ) (left : List Item) → left ≡ map Saved (range_with_len a n) → none_left left ≡ false → has_saved left ≡ true
more_saved a zero left e h = absurd (true≢false (sym (ap none_left e) ∙ h))
more_saved a (suc n) left e h = ap has_saved e

saved_by : (k : ℕ) (left : List Item) (j : CopyState) (locals : List ℕ) (first : ℕ) → j.left ≡ Saved k ∷ left → none_left left ≡ false → (o : SavedWordsLast j) → o.locals ≡ locals → o.first ≡ first → has_saved left ≡ true
saved_by k left j [] first next more o is at =
    let all : j.left ≡ map Saved (range_with_len o.first (176 - o.first)) = o.is ∙ ap (λ (l : List ℕ). map Local l ++ map Saved (range_with_len o.first (176 - o.first))) is in
    let s = saved_next j (Saved k) left o.first _ refl next all o.most o.clean in
    more_saved (o.first + 1) (176 - (o.first + 1)) left s.2 more
saved_by k left j (i ∷ locals) first next more o is at =
    let all : Saved k ∷ left ≡ Local i ∷ (map Local locals ++ map Saved (range_with_len o.first (176 - o.first))) = sym next ∙ (o.is ∙ ap (λ (l : List ℕ). map Local l ++ map Saved (range_with_len o.first (176 - o.first))) is) in
    absurd cc

saved : (words k : ℕ) (left : List Item) (j : CopyState) → j.left ≡ Saved k ∷ left → none_left left ≡ false → SavedWordsLast j → RepairProgress words j → RepairProgress (words + 1) (copy_after_item j)
saved words k left j next more o h = copied_by words (Saved k) left j next (sym (saved_by k left j o.locals o.first next more o refl refl)) h

most_by : (syncs words : ℕ) (c : Bool) → WordsFit c syncs words → (syncs ≤ 545) × (words ≤ 544 * 1024 + 278528 + 176)
most_by syncs words true h = (h.0, (let a = h.0 in let b = h.1 in omega arith))
most_by syncs words false h = ((let a = h.0 in omega arith), (let a = h.0 in let b = h.1 in omega arith))

pub progress_most : (words : ℕ) (j : CopyState) → RepairProgress words j → (j.syncs ≤ 545) × (words + length j.left ≤ 544 * 1024 + 278528 + 176)
progress_most words j h = most_by j.syncs (words + length j.left) (has_saved j.left) h.fits

pub repair_progresses : RepairProgresses
repair_progresses = record { start = begins; stores = stores; syncs = syncs; local = local; saved = saved; most = progress_most }

-- the words of a hold
one_length : (j : CopyState) (pages : List ℕ) → 8 < length pages → length (copy_after_single_page j pages).left ≡ 1024
one_length j [] many = absurd (omega arith)
one_length j (page ∷ pages) many = words_length page

words_by : (j : CopyState) (single : Bool) → is_single_page_sync j ≡ single → length j.clean ≡ 272 → j.cursor < 272 → length (copy_after_sync j).left ≡ (if is_single_page_sync j then 1024 else 1024 * unclean_count j.clean + 176)
words_by j true which size low =
    let pages : List ℕ = unclean_pages j.clean j.cursor in
    let count = unclean_length j.clean j.cursor size low in
    let many : 8 < unclean_count j.clean = (let t = (and_parts (nat_lt 8 (unclean_count j.clean)) (nat_lt j.syncs 544) which).0 in grind (arith, nat_tests)) in
    subst (λ (b : Bool). length (if b then copy_after_single_page j pages else copy_after_closing j pages).left ≡ (if b then 1024 else 1024 * unclean_count j.clean + 176)) (sym which) (one_length j pages (omega arith))
words_by j false which size low =
    let pages : List ℕ = unclean_pages j.clean j.cursor in
    let count = unclean_length j.clean j.cursor size low in
    subst (λ (b : Bool). length (if b then copy_after_single_page j pages else copy_after_closing j pages).left ≡ (if b then 1024 else 1024 * unclean_count j.clean + 176)) (sym which)
    (all_length pages ∙ ap (λ (n : ℕ). 1024 * n + 176) count)

pub words_of_sync : WordsOfSync
words_of_sync j size low = words_by j _ refl size low
