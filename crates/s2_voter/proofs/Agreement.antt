-- Which request is agreed, and who is named.
use Rattle.std.proofs.Common.{◌≡◌, ℕ, zero, suc, ◌+◌, ◌<◌, ◌≤◌, ◌≢◌, List, [], ◌∷◌, ◌++◌, length, refl, sym, ap, subst, ◌∙◌, arith}
use Rattle.std.specs.Prelude.{Bool, true, false, cond, not, ◌&&◌, map, find, count_by, Some, None, IfSome, is_some, slice_index_or, if◌then◌else◌}
use Rattle.std.specs.declared.option.Option.{Option}
use Rattle.std.specs.Option.{option_map_or}
use Rattle.std.proofs.lemmas.Bool.Decides.{nat_tests}
use Rattle.std.proofs.lemmas.List.Sums.{sum_by-cons}
use Rattle.s2_ports.specs.declared.requests.Request.{Request}
use Rattle.s2_ports.specs.declared.requests.Posted.{Posted}
use Rattle.s2_voter.specs.declared.verdicts.Verdict.{Verdict}
use Rattle.s2_voter.specs.declared.verdicts.Verdict.TheVariants.{Waiting, Split}
use Rattle.s2_voter.specs.RequestEquality.{is_same_request}
use Rattle.s2_voter.specs.VoterState.{VoterState, is_member, latch_of}
use Rattle.s2_voter.specs.Verdicts.{processors, is_due, is_unlatched, is_differing, request_of, holds_request, latched_requests, is_shared, agreed_request, done_with, first_that_holds, verdict_of}
use Rattle.s2_voter.specs.VoterLaws.{TwoEqualLatches, DecidesFor}
use Rattle.s2_voter.proofs.EqualRequests.{same_self, same_is}

-- the first row that holds is that of the first request that passes
rows_decide : (test : Request → Bool) (verdict : Request → Verdict) (rs : List Request) → first_that_holds (map (λ r. (test r, verdict r)) rs ++ (true, Split) ∷ []) ≡ option_map_or verdict (find test rs) Split
rows_decide test verdict [] = refl
rows_decide test verdict (r ∷ rs) = by_test (test r) (first_that_holds (map (λ x. (test x, verdict x)) rs ++ (true, Split) ∷ [])) (find test rs) (rows_decide test verdict rs)
  where
    by_test : (b : Bool) (x : Verdict) (o : Option Request) → x ≡ option_map_or verdict o Split → (if b then verdict r else x) ≡ option_map_or verdict (cond b (Some r) o) Split
    by_test true x o h = refl
    by_test false x o h = h

not_else : (b : Bool) (x y : Verdict) → (if not b then x else y) ≡ (if b then y else x)
not_else true x y = refl
not_else false x y = refl

-- the verdict, by the request that is agreed
pub verdict_decided : (v : VoterState) → verdict_of v ≡ (if is_due v then option_map_or (done_with v) (agreed_request v.latches) Split else Waiting)
verdict_decided v =
    ap (λ (x : Verdict). if not (is_due v) then Waiting else x) (rows_decide (is_shared v.latches) (done_with v) (latched_requests v.latches)) ∙
    not_else (is_due v) Waiting (option_map_or (done_with v) (agreed_request v.latches) Split)

-- the count of a list, by its first element
count_cons : (test : Option Posted → Bool) (l : Option Posted) (ls : List (Option Posted)) (b : Bool) → test l ≡ b → count_by test (l ∷ ls) ≡ cond b 1 0 + count_by test ls
count_cons test l ls b e = sum_by-cons (λ x. cond (test x) 1 0) l ls ∙ ap (λ (c : Bool). cond c 1 0 + count_by test ls) e

-- a test that holds of two places of a list counts two
one_counts : (test : Option Posted → Bool) (ls : List (Option Posted)) (p : ℕ) → test None ≡ false → test (slice_index_or ls p None) ≡ true → 1 ≤ count_by test ls
one_counts test [] p none h = absurd (let x = sym none ∙ h in cc)
one_counts test (l ∷ ls) zero none h = let e = count_cons test l ls true h in omega arith
one_counts test (l ∷ ls) (suc p) none h =
    let rest = one_counts test ls p none h in let e = count_cons test l ls (test l) refl in omega arith

two_count : (test : Option Posted → Bool) (ls : List (Option Posted)) (p q : ℕ) → p ≢ q → test None ≡ false → test (slice_index_or ls p None) ≡ true → test (slice_index_or ls q None) ≡ true → 2 ≤ count_by test ls
two_count test [] p q ne none h k = absurd (let x = sym none ∙ h in cc)
two_count test (l ∷ ls) zero zero ne none h k = absurd (ne refl)
two_count test (l ∷ ls) zero (suc q) ne none h k =
    let rest = one_counts test ls q none k in let e = count_cons test l ls true h in omega arith
two_count test (l ∷ ls) (suc p) zero ne none h k =
    let rest = one_counts test ls p none h in let e = count_cons test l ls true k in omega arith
two_count test (l ∷ ls) (suc p) (suc q) ne none h k =
    let rest = two_count test ls p q (λ e. ne (ap suc e)) none h k in
    let e = count_cons test l ls (test l) refl in omega arith

-- two tests that never hold together count no more than the list has
counts_apart : (f g : Option Posted → Bool) → ((l : Option Posted) → f l ≡ true → g l ≡ false) → (ls : List (Option Posted)) → count_by f ls + count_by g ls ≤ length ls
counts_apart f g apart [] = omega arith
counts_apart f g apart (l ∷ ls) = by_tests (f l) (g l) refl refl (counts_apart f g apart ls)
  where
    by_tests : (x y : Bool) → f l ≡ x → g l ≡ y → count_by f ls + count_by g ls ≤ length ls → count_by f (l ∷ ls) + count_by g (l ∷ ls) ≤ length (l ∷ ls)
    by_tests true true ex ey h = absurd (let z = sym ey ∙ apart l ex in cc)
    by_tests true false ex ey h = let a = count_cons f l ls true ex in let b = count_cons g l ls false ey in omega arith
    by_tests false true ex ey h = let a = count_cons f l ls false ex in let b = count_cons g l ls true ey in omega arith
    by_tests false false ex ey h = let a = count_cons f l ls false ex in let b = count_cons g l ls false ey in omega arith

-- the request of a latch is held by it, and two requests are not held by one latch
holds_own : (r : Request) (l : Option Posted) → request_of l ≡ Some r → holds_request r l ≡ true
holds_own r None e = absurd cc
holds_own r (Some posted) e = let same : posted.request ≡ r = cc in subst (λ (x : Request). is_same_request r x ≡ true) (sym same) (same_self r)

holds_apart : (x r : Request) → is_same_request x r ≡ false → (l : Option Posted) → holds_request x l ≡ true → holds_request r l ≡ false
holds_apart x r differ None h = refl
holds_apart x r differ (Some posted) h = by_test (is_same_request r posted.request) refl
  where
    by_test : (b : Bool) → is_same_request r posted.request ≡ b → b ≡ false
    by_test false e = refl
    by_test true e =
        let one : x ≡ r = same_is x posted.request h ∙ sym (same_is r posted.request e) in
        absurd (let z = sym differ ∙ (ap (λ (y : Request). is_same_request x y) (sym one) ∙ same_self x) in cc)

-- a list has a request in it
data Among (r : Request) : List Request → Type 0 where
  here : (x : Request) (rs : List Request) → x ≡ r → Among r (x ∷ rs)
  there : (x : Request) (rs : List Request) → Among r rs → Among r (x ∷ rs)

among_at : (r : Request) (ls : List (Option Posted)) (p : ℕ) → request_of (slice_index_or ls p None) ≡ Some r → Among r (latched_requests ls)
among_at r [] p e = absurd cc
among_at r (None ∷ ls) zero e = absurd cc
among_at r (Some posted ∷ ls) zero e = here posted.request (latched_requests ls) cc
among_at r (None ∷ ls) (suc p) e = among_at r ls p e
among_at r (Some posted ∷ ls) (suc p) e = there posted.request (latched_requests ls) (among_at r ls p e)

-- the only one that passes is found
find_only : (test : Request → Bool) (r : Request) → test r ≡ true → ((x : Request) → test x ≡ true → x ≡ r) → (rs : List Request) → Among r rs → find test rs ≡ Some r
find_only test r passes only [] among = elim among [ ]
find_only test r passes only (x ∷ rs) (here _ _ e) = subst (λ (y : Request). find test (y ∷ rs) ≡ Some r) (sym e) (subst (λ (b : Bool). cond b (Some r) (find test rs) ≡ Some r) (sym passes) refl)
find_only test r passes only (x ∷ rs) (there _ _ among) = by_test (test x) refl (find_only test r passes only rs among)
  where
    by_test : (b : Bool) → test x ≡ b → find test rs ≡ Some r → cond b (Some x) (find test rs) ≡ Some r
    by_test true e h = ap (λ (y : Request). Some y) (only x e)
    by_test false e h = h

agreed_is : (v : VoterState) (p q : ℕ) (r : Request) → TwoEqualLatches v p q r → agreed_request v.latches ≡ Some r
agreed_is v p q r h = find_only (is_shared v.latches) r passes only (latched_requests v.latches) (among_at r v.latches p h.first)
  where
    two : 2 ≤ count_by (holds_request r) v.latches
    two = two_count (holds_request r) v.latches p q h.apart refl (holds_own r (latch_of v p) h.first) (holds_own r (latch_of v q) h.second)

    passes : is_shared v.latches r ≡ true
    passes = let t = two in grind (arith, nat_tests)

    by_test : (x : Request) (b : Bool) → is_same_request x r ≡ b → is_shared v.latches x ≡ true → x ≡ r
    by_test x true e s = same_is x r e
    by_test x false e s =
        let t = two in
        let apart = counts_apart (holds_request x) (holds_request r) (holds_apart x r e) v.latches in
        let many : 1 < count_by (holds_request x) v.latches = grind (arith, nat_tests) in
        let three = h.latches in
        absurd (omega arith)

    only : (x : Request) → is_shared v.latches x ≡ true → x ≡ r
    only x s = by_test x (is_same_request x r) refl s

-- what is found passes
found_passes : (test : ℕ → Bool) (ns : List ℕ) → IfSome (find test ns) (λ n. test n ≡ true)
found_passes test [] = tt
found_passes test (n ∷ ns) = by_test (test n) refl (found_passes test ns)
  where
    by_test : (b : Bool) → test n ≡ b → IfSome (find test ns) (λ m. test m ≡ true) → IfSome (cond b (Some n) (find test ns)) (λ m. test m ≡ true)
    by_test true e h = e
    by_test false e h = h

-- so one that does not pass is not found
found_other : (test : ℕ → Bool) (p q : ℕ) → test p ≡ false → test q ≡ false → (o : Option ℕ) → IfSome o (λ n. test n ≡ true) → IfSome o (λ n. (n ≢ p) × (n ≢ q))
found_other test p q hp hq None h = tt
found_other test p q hp hq (Some n) h = (λ e. clash n p h hp e, λ e. clash n q h hq e)
  where
    clash : (n m : ℕ) → test n ≡ true → test m ≡ false → n ≡ m → ⊥
    clash n m x y e = let z = sym x ∙ (ap test e ∙ y) in cc

and_false : (a b : Bool) → b ≡ false → (a && b) ≡ false
and_false true b h = h
and_false false b h = refl

named_by : (test : ℕ → Bool) (p q : ℕ) → test p ≡ false → test q ≡ false → IfSome (find test processors) (λ n. (n ≢ p) × (n ≢ q))
named_by test p q hp hq = found_other test p q hp hq (find test processors) (found_passes test processors)

agrees : (m : Bool) (r : Request) (l : Option Posted) → request_of l ≡ Some r → (m && (is_some l && not (holds_request r l))) ≡ false
agrees m r None e = absurd cc
agrees m r (Some posted) e = and_false m _ (ap not (holds_own r (Some posted) e))

is_latched : (m : Bool) (r : Request) (l : Option Posted) → request_of l ≡ Some r → (m && not (is_some l)) ≡ false
is_latched m r None e = absurd cc
is_latched m r (Some posted) e = and_false m false refl

pub two_decide : (v : VoterState) (p q : ℕ) (r : Request) → TwoEqualLatches v p q r → DecidesFor v p q r
two_decide v p q r h = record {
  verdict = verdict_decided v ∙ ap (λ (o : Option Request). if is_due v then option_map_or (done_with v) o Split else Waiting) (agreed_is v p q r h);
  differ = named_by (is_differing v r) p q (agrees (is_member v p) r (latch_of v p) h.first) (agrees (is_member v q) r (latch_of v q) h.second);
  late = named_by (is_unlatched v) p q (is_latched (is_member v p) r (latch_of v p) h.first) (is_latched (is_member v q) r (latch_of v q) h.second);
}
