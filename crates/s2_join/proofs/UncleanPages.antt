-- The unclean pages, in the cursor's order.
use Rattle.std.proofs.Common.{◌≡◌, ℕ, zero, suc, ◌+◌, ◌-◌, ◌<◌, ◌≤◌, List, [], ◌∷◌, ◌++◌, length, get_or, refl, sym, ap, subst, ◌∙◌, length-append, append_assoc, arith}
use Rattle.std.specs.Prelude.{Bool, true, false, not, cond}
use Rattle.std.specs.List.{filter, range_with_len, All}
use Rattle.std.proofs.lemmas.List.{append-nil}
use Rattle.std.proofs.lemmas.List.Sums.{length-filter}
use Rattle.std.proofs.lemmas.List.Elements.{filter-append, All-filter, All-append, All-from_get_or, All-get_or}
use Rattle.std.proofs.lemmas.List.FromFn.{length-range_with_len, get_or-range_with_len}
use Rattle.s2_join.specs.CopyOrder.{is_unclean, unclean_pages, unclean_count}
use Rattle.s2_join.proofs.HoldLemmas.{filter_next}

next : (a n : ℕ) → a + suc n ≡ a + 1 + n
next a n = omega arith

-- a range in two parts
range_split : (a n m : ℕ) → range_with_len a (n + m) ≡ range_with_len a n ++ range_with_len (a + n) m
range_split a zero m = let e : m ≡ zero + m = omega arith in let f : a ≡ a + zero = omega arith in subst (λ (k : ℕ). range_with_len a k ≡ range_with_len (a + zero) m) e (ap (λ (k : ℕ). range_with_len k m) f)
range_split a (suc n) m =
    let e : suc (n + m) ≡ suc n + m = omega arith in
    subst (λ (k : ℕ). range_with_len a k ≡ a ∷ range_with_len (a + 1) n ++ range_with_len (a + suc n) m) e
    (ap (λ (l : List ℕ). a ∷ l) (range_split (a + 1) n m ∙ ap (λ (k : ℕ). range_with_len (a + 1) n ++ range_with_len k m) (sym (next a n))))

cond_length : (b : Bool) (x : ℕ) (xs : List ℕ) (ys : List Bool) (y : Bool) → length xs ≡ length ys → length (cond b (x ∷ xs) xs) ≡ length (cond b (y ∷ ys) ys)
cond_length true x xs ys y h = ap suc h
cond_length false x xs ys y h = h

-- the pages of a range that are unclean, and the flags of that range that are false
flags : (clean xs : List Bool) (a : ℕ) → ((k : ℕ) → k < length xs → get_or clean (a + k) false ≡ get_or xs k false) → length (filter (is_unclean clean) (range_with_len a (length xs))) ≡ length (filter not xs)
flags clean [] a same = refl
flags clean (x ∷ xs) a same =
    let e : a ≡ a + 0 = omega arith in
    let here : get_or clean a false ≡ x = ap (λ (k : ℕ). get_or clean k false) e ∙ same 0 (omega arith) in
    let rest = flags clean xs (a + 1) (λ k h. let f : a + 1 + k ≡ a + suc k = omega arith in ap (λ (n : ℕ). get_or clean n false) f ∙ same (suc k) (omega arith)) in
    cond_length (not (get_or clean a false)) a (filter (is_unclean clean) (range_with_len (a + 1) (length xs))) (filter not xs) x rest ∙
    ap (λ (b : Bool). length (cond (not b) (x ∷ filter not xs) (filter not xs))) here

two : (p : ℕ → Bool) (xs ys : List ℕ) → length (filter p (xs ++ ys)) ≡ length (filter p xs) + length (filter p ys)
two p xs ys = ap length (filter-append p xs ys) ∙ length-append (filter p xs) (filter p ys)

pub unclean_length : (clean : List Bool) (cursor : ℕ) → length clean ≡ 272 → cursor < 272 → length (unclean_pages clean cursor) ≡ unclean_count clean
unfolding unclean_pages
unclean_length clean cursor size low =
    let whole : cursor + (272 - cursor) ≡ length clean = omega arith in
    let split : range_with_len 0 (length clean) ≡ range_with_len 0 cursor ++ range_with_len cursor (272 - cursor) = ap (λ (k : ℕ). range_with_len 0 k) (sym whole) ∙ range_split 0 cursor (272 - cursor) ∙ (let f : 0 + cursor ≡ cursor = omega arith in ap (λ (k : ℕ). range_with_len 0 cursor ++ range_with_len k (272 - cursor)) f) in
    let all = flags clean clean 0 (λ k h. let f : 0 + k ≡ k = omega arith in ap (λ (n : ℕ). get_or clean n false) f) in
    let parts = two (is_unclean clean) (range_with_len cursor (272 - cursor)) (range_with_len 0 cursor) in
    let other = two (is_unclean clean) (range_with_len 0 cursor) (range_with_len cursor (272 - cursor)) in
    let back = ap (λ (l : List ℕ). length (filter (is_unclean clean) l)) split in
    omega (arith, length-filter not clean)

range_below : (a n : ℕ) → a + n ≤ 272 → All (λ (x : ℕ). x < 272) (range_with_len a n)
range_below a n h = All-from_get_or (λ (x : ℕ). x < 272) (range_with_len a n) 0 (λ k low. let e = length-range_with_len a n in omega (arith, get_or-range_with_len a n k 0 (omega arith)))

pub unclean_below : (clean : List Bool) (cursor : ℕ) → cursor < 272 → (k : ℕ) → k < length (unclean_pages clean cursor) → get_or (unclean_pages clean cursor) k 0 < 272
unfolding unclean_pages
unclean_below clean cursor low k h =
    All-get_or (λ (x : ℕ). x < 272) (filter (is_unclean clean) (range_with_len cursor (272 - cursor) ++ range_with_len 0 cursor)) k 0 h
    (All-filter (is_unclean clean) (λ (x : ℕ). x < 272) (range_with_len cursor (272 - cursor) ++ range_with_len 0 cursor)
    (All-append (λ (x : ℕ). x < 272) (range_with_len cursor (272 - cursor)) (range_with_len 0 cursor) (range_below cursor (272 - cursor) (omega arith)) (range_below 0 cursor (omega arith))))

-- what the two ranges leave
pub in_two : (clean : List Bool) (cursor n : ℕ) → n ≡ cursor → [] ++ filter (is_unclean clean) (range_with_len cursor (272 - cursor)) ++ filter (is_unclean clean) (range_with_len 0 n) ≡ unclean_pages clean cursor
unfolding unclean_pages
in_two clean cursor n same =
    ap (λ (k : ℕ). [] ++ filter (is_unclean clean) (range_with_len cursor (272 - cursor)) ++ filter (is_unclean clean) (range_with_len 0 k)) same ∙
    sym (filter-append (is_unclean clean) (range_with_len cursor (272 - cursor)) (range_with_len 0 cursor))

-- the loop that collects them
more : (from page : ℕ) → from ≤ page → page + 1 - from ≡ page - from + 1
more from page h = omega arith

pub collect_next : (p : ℕ → Bool) (from page : ℕ) (start now then : List ℕ) → from ≤ page → now ≡ start ++ filter p (range_with_len from (page - from)) → then ≡ now ++ cond (p page) (page ∷ []) [] →
    then ≡ start ++ filter p (range_with_len from (page + 1 - from))
collect_next p from page start now then low was is =
    let e = filter_next p from (page - from) page (omega arith) in
    is ∙ ap (λ (l : List ℕ). l ++ cond (p page) (page ∷ []) []) was ∙ append_assoc start (filter p (range_with_len from (page - from))) (cond (p page) (page ∷ []) []) ∙ ap (λ (l : List ℕ). start ++ l) (sym e) ∙
    ap (λ (n : ℕ). start ++ filter p (range_with_len from n)) (sym (more from page low))

pub collect_yes : (p : ℕ → Bool) (from page : ℕ) (start now then : List ℕ) → from ≤ page → now ≡ start ++ filter p (range_with_len from (page - from)) → then ≡ now ++ page ∷ [] → p page ≡ true →
    then ≡ start ++ filter p (range_with_len from (page + 1 - from))
collect_yes p from page start now then low was is passes = collect_next p from page start now then low was (is ∙ ap (λ (b : Bool). now ++ cond b (page ∷ []) []) (sym passes))

pub collect_no : (p : ℕ → Bool) (from page : ℕ) (start now then : List ℕ) → from ≤ page → now ≡ start ++ filter p (range_with_len from (page - from)) → then ≡ now → p page ≡ false →
    then ≡ start ++ filter p (range_with_len from (page + 1 - from))
collect_no p from page start now then low was is fails = collect_next p from page start now then low was (is ∙ sym (append-nil now) ∙ ap (λ (b : Bool). now ++ cond b (page ∷ []) []) (sym fails))

-- a page is unclean where its flag is false
pub unclean_at : (clean : List Bool) (page : ℕ) (b : Bool) → get_or clean page false ≡ b → is_unclean clean page ≡ not b
unclean_at clean page b h = ap not h
