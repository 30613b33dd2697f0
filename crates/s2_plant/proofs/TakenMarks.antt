-- Marks that are taken over a page at a time.
use Rattle.std.proofs.Common.{◌≡◌, ℕ, zero, suc, ◌+◌, ◌≤◌, List, [], ◌∷◌, length, refl, ap, sym, ◌∙◌, arith}
use Rattle.std.specs.Prelude.{Bool, true, false, not, ◌&&◌, slice_index_or, slice_set, if◌then◌else◌}
use Rattle.s2_join.specs.CopyOrder.{CopyState, copy_after_store}
use Rattle.s2_triplex.specs.CopyHolds.{clean_without}

-- the flags of the pages after one page
abbrev pub mark_taken : Bool → List Bool → ℕ → List Bool
mark_taken mark clean page = if mark then slice_set clean page false else clean

-- and after so many
abbrev pub marks_taken : List Bool → List Bool → ℕ → List Bool
marks_taken clean marks zero = clean
marks_taken clean marks (suc i) = mark_taken (slice_index_or marks i false) (marks_taken clean marks i) i

taken_first : (c m : Bool) (cs : List Bool) → mark_taken m (c ∷ cs) 0 ≡ (c && not m) ∷ cs
taken_first true true cs = refl
taken_first false true cs = refl
taken_first true false cs = refl
taken_first false false cs = refl

taken_behind : (m c : Bool) (cs : List Bool) (i : ℕ) → mark_taken m (c ∷ cs) (suc i) ≡ c ∷ mark_taken m cs i
taken_behind true c cs i = refl
taken_behind false c cs i = refl

taken_cons : (c : Bool) (cs : List Bool) (m : Bool) (ms : List Bool) (n : ℕ) → marks_taken (c ∷ cs) (m ∷ ms) (suc n) ≡ (c && not m) ∷ marks_taken cs ms n
taken_cons c cs m ms zero = taken_first c m cs
taken_cons c cs m ms (suc n) =
    ap (λ (xs : List Bool). mark_taken (slice_index_or ms n false) xs (suc n)) (taken_cons c cs m ms n) ∙ taken_behind (slice_index_or ms n false) (c && not m) (marks_taken cs ms n) n

none_clean : (m : Bool) (i : ℕ) → mark_taken m [] i ≡ []
none_clean true i = refl
none_clean false i = refl

taken_nothing : (ms : List Bool) (n : ℕ) → marks_taken [] ms n ≡ []
taken_nothing ms zero = refl
taken_nothing ms (suc n) = ap (λ (xs : List Bool). mark_taken (slice_index_or ms n false) xs n) (taken_nothing ms n) ∙ none_clean (slice_index_or ms n false) n

taken_unmarked : (cs : List Bool) (n : ℕ) → marks_taken cs [] n ≡ cs
taken_unmarked cs zero = refl
taken_unmarked cs (suc n) = taken_unmarked cs n

pub taken_all : (n : ℕ) (cs ms : List Bool) → length ms ≤ n → marks_taken cs ms n ≡ clean_without cs ms
taken_all n [] ms h = taken_nothing ms n
taken_all n (c ∷ cs) [] h = taken_unmarked (c ∷ cs) n
taken_all zero (c ∷ cs) (m ∷ ms) h = absurd (omega arith)
taken_all (suc n) (c ∷ cs) (m ∷ ms) h = taken_cons c cs m ms n ∙ ap (λ (xs : List Bool). (c && not m) ∷ xs) (taken_all n cs ms (omega arith))

-- in the order of copying
abbrev pub with_marks : CopyState → List Bool → ℕ → CopyState
with_marks j marks i = record j { clean = marks_taken j.clean marks i }

store_if : (m : Bool) (j : CopyState) (i : ℕ) → (if m then copy_after_store i j else j) ≡ record j { clean = mark_taken m j.clean i }
store_if true j i = refl
store_if false j i = refl

next : (i : ℕ) → i + 1 ≡ suc i
next i = omega arith

pub one_more : (j k l : CopyState) (marks : List Bool) (i : ℕ) → k ≡ with_marks j marks i → l ≡ (if slice_index_or marks i false then copy_after_store i k else k) → l ≡ with_marks j marks (i + 1)
one_more j k l marks i before step =
    step ∙ (store_if (slice_index_or marks i false) k i ∙ (ap (λ (x : CopyState). record x { clean = mark_taken (slice_index_or marks i false) x.clean i }) before ∙ ap (with_marks j marks) (sym (next i))))

pub all_taken : (j k : CopyState) (marks : List Bool) (n : ℕ) → length marks ≤ n → k ≡ with_marks j marks n → k ≡ record j { clean = clean_without j.clean marks }
all_taken j k marks n h is = is ∙ ap (λ (xs : List Bool). record j { clean = xs }) (taken_all n j.clean marks h)
