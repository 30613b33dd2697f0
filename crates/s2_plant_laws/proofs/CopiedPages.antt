-- What the steps of a reintegration keep.
use Rattle.std.proofs.Common.{◌≡◌, ℕ, zero, suc, ◌+◌, ◌-◌, ◌*◌, ◌/◌, ◌<◌, ◌≤◌, List, [], ◌∷◌, ◌++◌, length, get_or, set, map, refl, sym, ap, subst, ◌∙◌, inl, inr, arith, length-set, get_or-set_same}
use Rattle.std.specs.Prelude.{Bool, true, false, not, ◌==◌, ◌≢◌, if◌then◌else◌}
use Rattle.std.specs.List.{flat_map, range_with_len, Contains, All}
use Rattle.std.proofs.lemmas.Bool.{cases_eq, true≢false, and_parts, not-true}
use Rattle.std.proofs.lemmas.Bool.Decides.{nat_tests}
use Rattle.std.proofs.lemmas.List.{append-nil, get_or-set_other, length-replicate, ext_get_or}
use Rattle.std.proofs.lemmas.List.Elements.{Contains-append_left, All-nil, All-tail, All-from_get_or}
use Rattle.s2_join.specs.declared.item.Item.{Item}
use Rattle.s2_join.specs.declared.item.Item.TheVariants.{Local, Saved}
use Rattle.s2_join.specs.CopyOrder.{CopyState, copy_start, page_items, saved_items, unclean_pages, is_single_page_sync, copy_after_single_page, copy_after_closing, is_last_item, copy_after_first, none_left}
use Rattle.s2_join.proofs.UncleanPages.{unclean_below}
use Rattle.s2_plant_laws.specs.DirtyPages.{is_marked, UnmarkedPagesStay, StoresMarkPages, clean_without}
use Rattle.s2_plant_laws.specs.LocalReplicas.{LocalReplicas, replica_words, replica_marks, replica_word, joiner_of, lowest_beside, lowest_member, IsMember, MembersEqual}
use Rattle.s2_plant_laws.specs.CopiedPages.{is_clean_page, SavedWordsLast, CopiedPages}
use Rattle.s2_plant_laws.specs.CopySteps.{IsRepairStart, CopiedPagesAtStart, IsLocalRun, CopiedPagesAfterRun, ClearsMarks, join_with_marks, IsCopySync, CopiedPagesAfterSync, IsWordCopy, words_after_copy, CopiedPagesAfterWord, CopiedPagesAfterAct, ListsEqualAtLastWord}
use Rattle.s2_plant_laws.proofs.Containment.{head_is, tail_is, contains_cases, contains_none, none_set, all_set}
use Rattle.s2_plant_laws.proofs.CopyItems.{indices_of, page_words, all_saved_words, words_are, page_within, all_within, word_among, words_among, unclean_among}

-- the reintegration and the disturbance in place of what they are
moved : (new : LocalReplicas) (j : CopyState) (b : Bool) → new.join ≡ j → new.disturbed ≡ b → CopiedPages (record new { join = j; disturbed = b }) → CopiedPages new
moved new j b is was h =
    subst (λ (x : Bool). CopiedPages (record new { join = new.join; disturbed = x })) (sym was) (subst (λ (x : CopyState). CopiedPages (record new { join = x; disturbed = b })) (sym is) h)

-- the lower of the others
other_cases : (p : ℕ) (z : Bool) → (p == 0) ≡ z → (lowest_beside p < 3) × (lowest_beside p ≢ p)
other_cases p true h = let e : p ≡ 0 = grind (arith, nat_tests) in let f : lowest_beside p ≡ 1 = ap (λ (b : Bool). if b then 1 else 0) h in (omega arith, λ x. omega arith)
other_cases p false h = let e : p ≢ 0 = grind (arith, nat_tests) in let f : lowest_beside p ≡ 0 = ap (λ (b : Bool). if b then 1 else 0) h in (omega arith, λ x. omega arith)

pub lowest_is_member : (d : LocalReplicas) → IsMember d (lowest_member d)
lowest_is_member d = other_cases (joiner_of d) _ refl

-- nothing to copy is in order
rest_order : (j : CopyState) → j.left ≡ [] → SavedWordsLast j
rest_order j rest = record { locals = []; first = 176; is = rest; most = omega arith; within = All-nil (λ (i : ℕ). i < 278528); clean = λ h. absurd (omega arith) }

pub rest_nil : (left : List Item) → none_left left ≡ true → left ≡ []
rest_nil [] h = refl
rest_nil (x ∷ left) h = absurd (true≢false (sym h))

begin_at : (p : ℕ) (new : LocalReplicas) → IsRepairStart p new → CopiedPages (record new { join = copy_start p; disturbed = new.disturbed })
begin_at p new h = record {
  joiner = h.known;
  flags = length-replicate 272 false;
  cursor = omega arith;
  sizes = h.sizes;
  equal = λ _ q i m low clean. absurd (true≢false (sym clean ∙ none_set 272 (i / 1024)));
  unmarked = λ e. absurd (true≢false e);
  order = rest_order (copy_start p) refl;
  unsaved = refl;
}

pub copied_pages_at_start : CopiedPagesAtStart
copied_pages_at_start p new h = moved new (copy_start p) new.disturbed h.join refl (begin_at p new h)

-- the members run on
run_at : (old new : LocalReplicas) → none_left old.join.left ≡ true → IsLocalRun old new → CopiedPages old → CopiedPages (record new { join = old.join; disturbed = old.disturbed })
run_at old new rest h k = record {
  joiner = k.joiner;
  flags = k.flags;
  cursor = k.cursor;
  sizes = λ q low. h.sizes q low ∙ k.sizes q low;
  equal = λ calm q i m low clean left unmarked.
      ap (λ (l : List ℕ). get_or l i 0) h.joining ∙ (k.equal calm q i m low clean left ((h.members q m).unmarked (i / 1024) unmarked) ∙ sym ((h.members q m).same i unmarked));
  unmarked = λ e. absurd (true≢false (sym rest ∙ e));
  order = k.order;
  unsaved = k.unsaved;
}

pub copied_pages_after_run : CopiedPagesAfterRun
copied_pages_after_run old new rest h k = moved new old.join old.disturbed h.join h.disturbed (run_at old new rest h k)

-- flags after the marks were taken over
length-clean_without : (clean marks : List Bool) → length (clean_without clean marks) ≡ length clean
length-clean_without [] marks = refl
length-clean_without (c ∷ clean) [] = refl
length-clean_without (c ∷ clean) (m ∷ marks) = ap suc (length-clean_without clean marks)

clean-clean_without : (clean marks : List Bool) (page : ℕ) → get_or (clean_without clean marks) page false ≡ true → (get_or clean page false ≡ true) × (get_or marks page false ≡ false)
clean-clean_without [] marks page h = absurd (true≢false (sym h))
clean-clean_without (c ∷ clean) [] page h = (h, refl)
clean-clean_without (c ∷ clean) (m ∷ marks) zero h = let both = and_parts c (not m) h in (both.0, not-true m both.1)
clean-clean_without (c ∷ clean) (m ∷ marks) (suc page) h = clean-clean_without clean marks page h

-- a clean page that is not to copy was clean
abbrev Recovers : CopyState → CopyState → Type 0
Recovers was now = (i : ℕ) → i < 278528 → is_clean_page now (i / 1024) ≡ true → (Contains now.left (Local i) → ⊥) → is_clean_page was (i / 1024) ≡ true

sync_at : (old new : LocalReplicas) (j : CopyState) → none_left old.join.left ≡ true → ClearsMarks old new → MembersEqual old → CopiedPages old → j.joiner ≡ old.join.joiner → length j.clean ≡ 272 → j.cursor < 272 → j.saved ≡ false →
    Recovers (join_with_marks old) j → SavedWordsLast j → CopiedPages (record new { join = j; disturbed = old.disturbed })
sync_at old new j rest h same k joins flags cursor unsaved recovers order = record {
  joiner = subst (λ (p : ℕ). p < 3) (sym joins) k.joiner;
  flags = flags;
  cursor = cursor;
  sizes = λ q low. ap length (h.locals q low) ∙ k.sizes q low;
  equal = λ calm q i m low clean left unmarked.
      let member : IsMember old q = (m.0, λ e. m.1 (e ∙ sym joins)) in
      let was = clean-clean_without old.join.clean (replica_marks old (lowest_member old)) (i / 1024) (recovers i low clean left) in
      let equal : replica_word old (joiner_of old) i ≡ replica_word old (lowest_member old) i = k.equal calm (lowest_member old) i (lowest_is_member old) low was.0 (λ c. contains_none (Local i) (subst (λ (l : List Item). Contains l (Local i)) (rest_nil old.join.left rest) c)) was.1 in
      ap (λ (p : ℕ). replica_word new p i) joins ∙ (ap (λ (l : List ℕ). get_or l i 0) (h.locals (joiner_of old) k.joiner) ∙ (equal ∙ (ap (λ (l : List ℕ). get_or l i 0) (sym (same q member)) ∙ sym (ap (λ (l : List ℕ). get_or l i 0) (h.locals q m.0)))));
  unmarked = λ e q page m. h.cleared q page (m.0, λ x. m.1 (x ∙ sym joins));
  order = order;
  unsaved = unsaved;
}

-- one page: its words are to copy
one_recovers : (j : CopyState) (page : ℕ) (pages : List ℕ) → page < 272 → length j.clean ≡ 272 → Recovers j (copy_after_single_page j (page ∷ pages))
one_recovers j page pages low flags i within clean left = elim (cases_eq (i / 1024) page) [
  | inl e ↦ absurd (left (subst (λ (x : ℕ). Contains (page_items x) (Local i)) e (word_among i)))
  | inr other ↦ sym (get_or-set_other j.clean page (i / 1024) true false other) ∙ clean
]

one_order : (j : CopyState) (page : ℕ) (pages : List ℕ) → page < 272 → SavedWordsLast (copy_after_single_page j (page ∷ pages))
one_order j page pages low = record {
  locals = range_with_len (page * 1024) 1024;
  first = 176;
  is = page_words page ∙ sym (append-nil (map Local (range_with_len (page * 1024) 1024)));
  most = omega arith;
  within = page_within page low;
  clean = λ h. absurd (omega arith);
}

-- all unclean pages: their words are to copy
all_recovers : (j : CopyState) → j.cursor < 272 → Recovers j (copy_after_closing j (unclean_pages j.clean j.cursor))
all_recovers j low i within clean left = flag (is_clean_page j (i / 1024)) refl
  where
    flag : (b : Bool) → is_clean_page j (i / 1024) ≡ b → is_clean_page j (i / 1024) ≡ true
    flag true h = h
    flag false h =
        absurd (left (Contains-append_left (flat_map page_items (unclean_pages j.clean j.cursor)) saved_items (Local i) (words_among (unclean_pages j.clean j.cursor) i (unclean_among j.clean j.cursor (i / 1024) low (omega arith) h))))

all_order : (j : CopyState) (pages : List ℕ) → ((k : ℕ) → k < length pages → get_or pages k 0 < 272) → SavedWordsLast (copy_after_closing j pages)
all_order j pages below = record {
  locals = indices_of pages;
  first = 0;
  is = ap (λ (l : List Item). l ++ saved_items) (words_are pages) ∙ ap (λ (l : List Item). map Local (indices_of pages) ++ l) all_saved_words;
  most = omega arith;
  within = all_within pages (All-from_get_or (λ (page : ℕ). page < 272) pages 0 below);
  clean = λ h page low. all_set 272 page low;
}

sync_one : (old new : LocalReplicas) (pages : List ℕ) → none_left old.join.left ≡ true → ClearsMarks old new → MembersEqual old → CopiedPages old → ((k : ℕ) → k < length pages → get_or pages k 0 < 272) →
    CopiedPages (record new { join = copy_after_single_page (join_with_marks old) pages; disturbed = old.disturbed })
sync_one old new [] rest h same k below =
    sync_at old new (join_with_marks old) rest h same k refl (length-clean_without old.join.clean (replica_marks old (lowest_member old)) ∙ k.flags) k.cursor k.unsaved (λ i within clean left. clean) (rest_order (join_with_marks old) (rest_nil old.join.left rest))
sync_one old new (page ∷ pages) rest h same k below =
    let flags : length (clean_without old.join.clean (replica_marks old (lowest_member old))) ≡ 272 = length-clean_without old.join.clean (replica_marks old (lowest_member old)) ∙ k.flags in
    sync_at old new (copy_after_single_page (join_with_marks old) (page ∷ pages)) rest h same k refl (length-set (clean_without old.join.clean (replica_marks old (lowest_member old))) page true ∙ flags) (omega arith) k.unsaved
    (one_recovers (join_with_marks old) page pages (below 0 (omega arith)) flags) (one_order (join_with_marks old) page pages (below 0 (omega arith)))

sync_all : (old new : LocalReplicas) → none_left old.join.left ≡ true → ClearsMarks old new → MembersEqual old → CopiedPages old →
    CopiedPages (record new { join = copy_after_closing (join_with_marks old) (unclean_pages (join_with_marks old).clean old.join.cursor); disturbed = old.disturbed })
sync_all old new rest h same k =
    sync_at old new (copy_after_closing (join_with_marks old) (unclean_pages (join_with_marks old).clean old.join.cursor)) rest h same k refl (length-replicate 272 true) k.cursor k.unsaved
    (all_recovers (join_with_marks old) k.cursor) (all_order (join_with_marks old) (unclean_pages (join_with_marks old).clean old.join.cursor) (unclean_below (join_with_marks old).clean old.join.cursor k.cursor))

sync_by : (old new : LocalReplicas) (single : Bool) → is_single_page_sync (join_with_marks old) ≡ single → none_left old.join.left ≡ true → IsCopySync old new → MembersEqual old → CopiedPages old → CopiedPages new
sync_by old new true which rest h same k =
    let pages : List ℕ = unclean_pages (join_with_marks old).clean old.join.cursor in
    moved new (copy_after_single_page (join_with_marks old) pages) old.disturbed (h.join ∙ ap (λ (b : Bool). if b then copy_after_single_page (join_with_marks old) pages else copy_after_closing (join_with_marks old) pages) which) h.clears.disturbed
    (sync_one old new pages rest h.clears same k (unclean_below (join_with_marks old).clean old.join.cursor k.cursor))
sync_by old new false which rest h same k =
    let pages : List ℕ = unclean_pages (join_with_marks old).clean old.join.cursor in
    moved new (copy_after_closing (join_with_marks old) pages) old.disturbed (h.join ∙ ap (λ (b : Bool). if b then copy_after_single_page (join_with_marks old) pages else copy_after_closing (join_with_marks old) pages) which) h.clears.disturbed
    (sync_all old new rest h.clears same k)

pub copied_pages_after_sync : CopiedPagesAfterSync
copied_pages_after_sync old new rest h same k = sync_by old new _ refl rest h same k

-- the order after a word
abbrev Next : CopyState → List Item → Item → Type 0
Next j left item = SavedWordsLast (record j { left = left; saved = is_last_item item })

local_next : (j : CopyState) (item : Item) (left : List Item) (locals : List ℕ) (i first : ℕ) → j.left ≡ item ∷ left → j.left ≡ map Local (i ∷ locals) ++ map Saved (range_with_len first (176 - first)) → first ≤ 176 →
    All (λ (n : ℕ). n < 278528) (i ∷ locals) → (first < 176 → (page : ℕ) → page < 272 → is_clean_page j page ≡ true) → Next j left item
local_next j item left locals i first next is most within clean = record {
  locals = locals;
  first = first;
  is = tail_is item (Local i) left (map Local locals ++ map Saved (range_with_len first (176 - first))) (sym next ∙ is);
  most = most;
  within = All-tail (λ (n : ℕ). n < 278528) i locals within;
  clean = clean;
}

pub saved_next : (j : CopyState) (item : Item) (left : List Item) (first n : ℕ) → 176 - first ≡ n → j.left ≡ item ∷ left → j.left ≡ map Saved (range_with_len first (176 - first)) → first ≤ 176 →
    (first < 176 → (page : ℕ) → page < 272 → is_clean_page j page ≡ true) → (item ≡ Saved first) × (first < 176) × (left ≡ map Saved (range_with_len (first + 1) (176 - (first + 1))))
saved_next j item left first zero size next is most clean =
    let none : item ∷ left ≡ [] = sym next ∙ (is ∙ ap (λ (n : ℕ). map Saved (range_with_len first n)) size) in
    absurd cc
saved_next j item left first (suc n) size next is most clean =
    let some : item ∷ left ≡ Saved first ∷ map Saved (range_with_len (first + 1) n) = sym next ∙ (is ∙ ap (λ (n : ℕ). map Saved (range_with_len first n)) size) in
    let count : n ≡ 176 - (first + 1) = omega arith in (
      head_is item (Saved first) left (map Saved (range_with_len (first + 1) n)) some,
      omega arith,
      tail_is item (Saved first) left (map Saved (range_with_len (first + 1) n)) some ∙ ap (λ (n : ℕ). map Saved (range_with_len (first + 1) n)) count,
    )

order_next : (j : CopyState) (item : Item) (left : List Item) (locals : List ℕ) (first : ℕ) → j.left ≡ item ∷ left → j.left ≡ map Local locals ++ map Saved (range_with_len first (176 - first)) → first ≤ 176 →
    All (λ (n : ℕ). n < 278528) locals → (first < 176 → (page : ℕ) → page < 272 → is_clean_page j page ≡ true) → Next j left item
order_next j item left [] first next is most within clean =
    let s = saved_next j item left first _ refl next is most clean in
    record { locals = []; first = first + 1; is = s.2; most = (let l = s.1 in omega arith); within = All-nil (λ (n : ℕ). n < 278528); clean = λ h page low. clean s.1 page low }
order_next j item left (i ∷ locals) first next is most within clean = local_next j item left locals i first next is most within clean

-- a word of the joining list after a word was copy_after_item
still : (item : Item) (left : List Item) (n : ℕ) → (item ≢ Local n) → (Contains left (Local n) → ⊥) → Contains (item ∷ left) (Local n) → ⊥
still item left n other none h = elim (contains_cases left item (Local n) h) [ inl e ↦ other e | inr c ↦ none c ]

joined_word : (d : LocalReplicas) (item : Item) (left : List Item) (q n : ℕ) → MembersEqual d → CopiedPages d → d.join.left ≡ item ∷ left → d.disturbed ≡ false → IsMember d q → n < 278528 →
    is_clean_page d.join (n / 1024) ≡ true → (Contains left (Local n) → ⊥) → is_marked (replica_marks d q) (n / 1024) ≡ false → get_or (words_after_copy d item) n 0 ≡ replica_word d q n
joined_word d (Saved s) left q n same k next calm m low clean none unmarked =
    k.equal calm q n m low clean (λ c. still (Saved s) left n (λ e. cc) none (subst (λ (l : List Item). Contains l (Local n)) next c)) unmarked
joined_word d (Local i) left q n same k next calm m low clean none unmarked = elim (cases_eq n i) [
  | inl e ↦
      let size = k.sizes (joiner_of d) k.joiner in
      let here : get_or (set (replica_words d (joiner_of d)) i (replica_word d (lowest_member d) i)) i 0 ≡ replica_word d (lowest_member d) i = get_or-set_same (replica_words d (joiner_of d)) i (replica_word d (lowest_member d) i) 0 (omega arith) in
      ap (λ (x : ℕ). get_or (set (replica_words d (joiner_of d)) i (replica_word d (lowest_member d) i)) x 0) e ∙ (here ∙ (ap (λ (l : List ℕ). get_or l i 0) (sym (same q m)) ∙ ap (λ (x : ℕ). replica_word d q x) (sym e)))
  | inr other ↦
      get_or-set_other (replica_words d (joiner_of d)) i n (replica_word d (lowest_member d) i) 0 other ∙
      k.equal calm q n m low clean (λ c. still (Local i) left n (λ e. other (let same_index : i ≡ n = cc in sym same_index)) none (subst (λ (l : List Item). Contains l (Local n)) next c)) unmarked
]

joining_size : (d : LocalReplicas) (item : Item) → length (words_after_copy d item) ≡ length (replica_words d (joiner_of d))
joining_size d (Local i) = length-set (replica_words d (joiner_of d)) i (replica_word d (lowest_member d) i)
joining_size d (Saved s) = refl

word_sizes : (item : Item) (left : List Item) (old new : LocalReplicas) → IsWordCopy item left old new → CopiedPages old → (q : ℕ) → q < 3 → length (replica_words new q) ≡ 278528
word_sizes item left old new h k q low = elim (cases_eq q (joiner_of old)) [
  | inl e ↦ ap (λ (x : ℕ). length (replica_words new x)) e ∙ (ap length h.joining ∙ (joining_size old item ∙ k.sizes (joiner_of old) k.joiner))
  | inr other ↦ ap length (h.members q (low, other)).0 ∙ k.sizes q low
]

word_at : (item : Item) (left : List Item) (old new : LocalReplicas) → IsWordCopy item left old new → is_last_item item ≡ false → MembersEqual old → CopiedPages old →
    CopiedPages (record new { join = record old.join { left = left; saved = is_last_item item }; disturbed = old.disturbed })
word_at item left old new h last same k = record {
  joiner = k.joiner;
  flags = k.flags;
  cursor = k.cursor;
  sizes = word_sizes item left old new h k;
  equal = λ calm q n m low clean none unmarked.
      let there = h.members q m in
      ap (λ (l : List ℕ). get_or l n 0) h.joining ∙
      (joined_word old item left q n same k h.next calm m low clean none (sym (ap (λ (l : List Bool). is_marked l (n / 1024)) there.1) ∙ unmarked) ∙ sym (ap (λ (l : List ℕ). get_or l n 0) there.0));
  unmarked = λ e q page m. ap (λ (l : List Bool). is_marked l page) (h.members q m).1 ∙ k.unmarked (ap none_left h.next) q page m;
  order = order_next old.join item left k.order.locals k.order.first h.next k.order.is k.order.most k.order.within k.order.clean;
  unsaved = last;
}

pub copied_pages_after_word : CopiedPagesAfterWord
copied_pages_after_word item left old new h last same k =
    moved new (record old.join { left = left; saved = is_last_item item }) old.disturbed (h.join ∙ ap (λ (l : List Item). copy_after_first old.join l) h.next) h.disturbed (word_at item left old new h last same k)

pub copied_pages_after_act : CopiedPagesAfterAct
copied_pages_after_act old new h k = moved new old.join new.disturbed h.join refl (record {
  joiner = k.joiner;
  flags = k.flags;
  cursor = k.cursor;
  sizes = λ q low. h.sizes q low ∙ k.sizes q low;
  equal = λ calm q i m low clean left unmarked.
      let was = h.disturbed calm in
      let there = h.members q m in
      ap (λ (l : List ℕ). get_or l i 0) was.1 ∙ (k.equal (sym was.0 ∙ calm) q i m low clean left (sym (ap (λ (l : List Bool). is_marked l (i / 1024)) there.1) ∙ unmarked) ∙ sym (ap (λ (l : List ℕ). get_or l i 0) there.0));
  unmarked = λ e q page m. ap (λ (l : List Bool). is_marked l page) (h.members q m).1 ∙ k.unmarked e q page m;
  order = k.order;
  unsaved = k.unsaved;
})

-- the last saved word
last_locals : (d : LocalReplicas) (item : Item) (left : List Item) (locals : List ℕ) (first : ℕ) → d.join.left ≡ item ∷ left → is_last_item item ≡ true → d.join.left ≡ map Local locals ++ map Saved (range_with_len first (176 - first)) → first ≤ 176 →
    (first < 176 → (page : ℕ) → page < 272 → is_clean_page d.join page ≡ true) → (item ≡ Saved 175) × (left ≡ []) × ((page : ℕ) → page < 272 → is_clean_page d.join page ≡ true)
last_locals d item left (i ∷ locals) first next last is most clean =
    let e : item ≡ Local i = head_is item (Local i) left (map Local locals ++ map Saved (range_with_len first (176 - first))) (sym next ∙ is) in
    absurd (true≢false (sym last ∙ ap is_last_item e))
last_locals d item left [] first next last is most clean =
    let s = saved_next d.join item left first _ refl next is most clean in
    let test : (first + 1 == 176) ≡ true = sym (ap is_last_item s.0) ∙ last in
    let e : first ≡ 175 = grind (arith, nat_tests) in
    (s.0 ∙ ap Saved e, s.2 ∙ ap (λ (n : ℕ). map Saved (range_with_len (n + 1) (176 - (n + 1)))) e, clean s.1)

all_lists : (d : LocalReplicas) (item : Item) (left : List Item) → d.join.left ≡ item ∷ left → (item ≡ Saved 175) → left ≡ [] → ((page : ℕ) → page < 272 → is_clean_page d.join page ≡ true) → MembersEqual d → CopiedPages d →
    d.disturbed ≡ false → (q : ℕ) → q < 3 → replica_words d q ≡ replica_words d (lowest_member d)
all_lists d item left next last none clean same k calm q low = elim (cases_eq q (joiner_of d)) [
  | inl e ↦
      let m = lowest_is_member d in
      let sizes : length (replica_words d (joiner_of d)) ≡ length (replica_words d (lowest_member d)) = k.sizes (joiner_of d) k.joiner ∙ sym (k.sizes (lowest_member d) m.0) in
      let words : (n : ℕ) → n < length (replica_words d (joiner_of d)) → get_or (replica_words d (joiner_of d)) n 0 ≡ get_or (replica_words d (lowest_member d)) n 0 = λ n h.
      let within : n < 278528 = (let s = k.sizes (joiner_of d) k.joiner in omega arith) in
      k.equal calm (lowest_member d) n m within (clean (n / 1024) (omega arith))
      (λ c. still item left n (λ x. let y : Saved 175 ≡ Local n = sym last ∙ x in cc) (λ c. contains_none (Local n) (subst (λ (l : List Item). Contains l (Local n)) none c)) (subst (λ (l : List Item). Contains l (Local n)) next c))
      (k.unmarked (ap none_left next) (lowest_member d) (n / 1024) m)
      in
      ap (λ (x : ℕ). replica_words d x) e ∙ ext_get_or 0 (replica_words d (joiner_of d)) (replica_words d (lowest_member d)) sizes words
  | inr other ↦ same q (low, other)
]

pub lists_equal_at_last_word : ListsEqualAtLastWord
lists_equal_at_last_word item left d next last same k =
    let l = last_locals d item left k.order.locals k.order.first next last k.order.is k.order.most k.order.clean in
    record { nothing = l.1; equal = all_lists d item left next l.0 l.1 l.2 same k }

-- the marks of a list
marks_stay : (words : List ℕ) (marks : List Bool) → UnmarkedPagesStay words marks words marks
marks_stay words marks = record { unmarked = λ page h. h; same = λ i h. refl }

set_unmarked : (marks : List Bool) (at page : ℕ) → at < length marks → is_marked (set marks at true) page ≡ false → (page ≢ at) × (is_marked marks page ≡ false)
set_unmarked marks at page low h = elim (cases_eq page at) [
  | inl e ↦ absurd (true≢false (sym (ap (λ (k : ℕ). get_or (set marks at true) k false) e ∙ get_or-set_same marks at true false low) ∙ h))
  | inr other ↦ (other, sym (get_or-set_other marks at page true false other) ∙ h)
]

marks_store : (words : List ℕ) (marks : List Bool) (i v : ℕ) → length words ≡ 278528 → i < 278528 → length marks ≡ 272 → UnmarkedPagesStay words marks (set words i v) (set marks (i / 1024) true)
marks_store words marks i v size within flags = record {
  unmarked = λ page h. (set_unmarked marks (i / 1024) page (omega arith) h).1;
  same = λ k h. let other : k ≢ i = λ e. (set_unmarked marks (i / 1024) (k / 1024) (omega arith) h).0 (ap (λ (n : ℕ). n / 1024) e) in get_or-set_other words i k v 0 other;
}

marks_join : (a b c : List ℕ) (x y z : List Bool) → UnmarkedPagesStay a x b y → UnmarkedPagesStay b y c z → UnmarkedPagesStay a x c z
marks_join a b c x y z f g = record { unmarked = λ page h. f.unmarked page (g.unmarked page h); same = λ i h. g.same i h ∙ f.same i (g.unmarked (i / 1024) h) }

pub stores_mark_pages : StoresMarkPages
stores_mark_pages = record { none = marks_stay; one = marks_store; both = marks_join }
