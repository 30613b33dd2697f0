-- The voter's part of a step as calls of the voter, one after another.
use Rattle.std.proofs.Common.{◌≡◌, ℕ, zero, suc, ◌<◌, List, [], ◌∷◌, length, refl, sym, ap, subst, ◌∙◌, arith}
use Rattle.std.specs.Prelude.{Bool, true, false, not, cond, ◌==◌, ◌&&◌, ◌||◌, find, Some, None, is_some, IfSome, slice_index_or, slice_set, if◌then◌else◌}
use Rattle.std.specs.declared.option.Option.{Option}
use Rattle.std.specs.Option.{option_map_or}
use Rattle.std.proofs.lemmas.List.{set-get_or}
use Rattle.s2_ports.specs.declared.requests.Request.{Request}
use Rattle.s2_ports.specs.declared.requests.Posted.{Posted}
use Rattle.s2_voter.specs.declared.verdicts.Verdict.TheVariants.{Waiting, Done, Split}
use Rattle.s2_voter.specs.VoterState.{VoterState, is_member, latch_of, has_two_latches}
use Rattle.s2_voter.specs.VoterCalls.{no_latches, started_age, older, remaining_age, ticked_voter}
use Rattle.s2_voter.specs.Verdicts.{processors, is_due, is_unlatched, is_differing, agreed_request, done_with}
use Rattle.s2_voter.proofs.Agreement.{verdict_decided}
use Rattle.s2_triplex.specs.TriplexState.{three_of}
use Rattle.s2_triplex.specs.TickFirings.{latch_taken, latched_from}
use Rattle.s2_triplex.specs.VoterDecision.{is_named}
use Rattle.s2_triplex.specs.ActStep.{voter_without}
use Rattle.s2_triplex_laws.specs.VoterTurn.{latched_where, latched_at, without_named, LatchingByCalls, RemovalIsACall, MembersLeaveByCalls, NamedAreProcessors, JoinerIsAdded}

-- a list of three, and one of its places set
pub list_is_three : {A : Type 0} (xs : List A) (x : A) → length xs ≡ 3 → three_of (λ q. slice_index_or xs q x) ≡ xs
list_is_three (a ∷ b ∷ c ∷ []) x h = refl
list_is_three [] x h = absurd (omega arith)
list_is_three (a ∷ []) x h = absurd (omega arith)
list_is_three (a ∷ b ∷ []) x h = absurd (omega arith)
list_is_three (a ∷ b ∷ c ∷ d ∷ xs) x h = absurd (omega arith)

pub set_is_three : {A : Type 0} (xs : List A) (p : ℕ) (x y : A) → p < 3 → length xs ≡ 3 → slice_set xs p y ≡ three_of (λ q. if p == q then y else slice_index_or xs q x)
set_is_three (a ∷ b ∷ c ∷ []) zero x y low h = refl
set_is_three (a ∷ b ∷ c ∷ []) (suc zero) x y low h = refl
set_is_three (a ∷ b ∷ c ∷ []) (suc (suc zero)) x y low h = refl
set_is_three (a ∷ b ∷ c ∷ []) (suc (suc (suc p))) x y low h = absurd (omega arith)
set_is_three [] p x y low h = absurd (omega arith)
set_is_three (a ∷ []) p x y low h = absurd (omega arith)
set_is_three (a ∷ b ∷ []) p x y low h = absurd (omega arith)
set_is_three (a ∷ b ∷ c ∷ d ∷ xs) p x y low h = absurd (omega arith)

-- a member whose place is true or false
true_is_three : (xs : List Bool) (p : ℕ) → p < 3 → length xs ≡ 3 → three_of (λ q. (p == q) || slice_index_or xs q false) ≡ slice_set xs p true
true_is_three (a ∷ b ∷ c ∷ []) zero low h = refl
true_is_three (a ∷ b ∷ c ∷ []) (suc zero) low h = refl
true_is_three (a ∷ b ∷ c ∷ []) (suc (suc zero)) low h = refl
true_is_three (a ∷ b ∷ c ∷ []) (suc (suc (suc p))) low h = absurd (omega arith)
true_is_three [] p low h = absurd (omega arith)
true_is_three (a ∷ []) p low h = absurd (omega arith)
true_is_three (a ∷ b ∷ []) p low h = absurd (omega arith)
true_is_three (a ∷ b ∷ c ∷ d ∷ xs) p low h = absurd (omega arith)

false_is_three : (xs : List Bool) (p : ℕ) → p < 3 → length xs ≡ 3 → three_of (λ q. not (p == q) && slice_index_or xs q false) ≡ slice_set xs p false
false_is_three (a ∷ b ∷ c ∷ []) zero low h = refl
false_is_three (a ∷ b ∷ c ∷ []) (suc zero) low h = refl
false_is_three (a ∷ b ∷ c ∷ []) (suc (suc zero)) low h = refl
false_is_three (a ∷ b ∷ c ∷ []) (suc (suc (suc p))) low h = absurd (omega arith)
false_is_three [] p low h = absurd (omega arith)
false_is_three (a ∷ []) p low h = absurd (omega arith)
false_is_three (a ∷ b ∷ []) p low h = absurd (omega arith)
false_is_three (a ∷ b ∷ c ∷ d ∷ xs) p low h = absurd (omega arith)

-- a processor that joins, and one that is removed
pub joiner_added : JoinerIsAdded
joiner_added v joiner low size = ap (λ (ms : List Bool). record v { members = ms }) (true_is_three v.members joiner low size)

pub removal_call : RemovalIsACall
removal_call p v low members latches =
    ap (λ (ms : List Bool). record (voter_without p v) { members = ms }) (false_is_three v.members p low members) ∙
    ap (λ (ls : List (Option Posted)). record { members = slice_set v.members p false; latches = ls; age = remaining_age (has_two_latches ls) v.age; timer = v.timer }) (sym (set_is_three v.latches p None None low latches))

-- latching: the age that has begun
begun_stays : (two : Bool) (age : Option ℕ) → started_age two (started_age two age) ≡ started_age two age
begun_stays true None = refl
begun_stays false None = refl
begun_stays two (Some age) = refl

begun_at_first : (timer : ℕ) (two : Bool) (age : Option ℕ) → is_some age ≡ two → started_age two (older timer age) ≡ older timer age
begun_at_first timer two (Some age) h = refl
begun_at_first timer false None h = refl
begun_at_first timer true None h = absurd cc

-- one processor's latch
abbrev with_taken : Option Posted → ℕ → VoterState → VoterState
with_taken port p v =
    let latches = slice_set v.latches p (latch_taken (is_member v p) (latch_of v p) port) in
    record v { latches = latches; age = started_age (has_two_latches latches) v.age }

latch_stays : (p : ℕ) (v : VoterState) → started_age (has_two_latches v.latches) v.age ≡ v.age → v ≡ record v { latches = slice_set v.latches p (latch_of v p); age = started_age (has_two_latches (slice_set v.latches p (latch_of v p))) v.age }
latch_stays p v begun =
    ap (λ (age : Option ℕ). record v { age = age }) (sym begun) ∙
    ap (λ (ls : List (Option Posted)). record v { latches = ls; age = started_age (has_two_latches ls) v.age }) (sym (set-get_or v.latches p None))

latched_is : (port : Option Posted) (p : ℕ) (v : VoterState) → started_age (has_two_latches v.latches) v.age ≡ v.age → latched_at port p v ≡ with_taken port p v
latched_is port p v begun = by_case (is_member v p) (latch_of v p) port refl
  where
    by_case : (member : Bool) (latch port : Option Posted) → latch_of v p ≡ latch →
        latched_where member latch port p v ≡ record v { latches = slice_set v.latches p (latch_taken member latch port); age = started_age (has_two_latches (slice_set v.latches p (latch_taken member latch port))) v.age }
    by_case true None (Some posted) e = refl
    by_case true None None e = latch_stays p v begun ∙ ap (λ (l : Option Posted). record v { latches = slice_set v.latches p l; age = started_age (has_two_latches (slice_set v.latches p l)) v.age }) e
    by_case true (Some latch) port e = latch_stays p v begun ∙ ap (λ (l : Option Posted). record v { latches = slice_set v.latches p l; age = started_age (has_two_latches (slice_set v.latches p l)) v.age }) e
    by_case false None port e = latch_stays p v begun ∙ ap (λ (l : Option Posted). record v { latches = slice_set v.latches p l; age = started_age (has_two_latches (slice_set v.latches p l)) v.age }) e
    by_case false (Some latch) port e = latch_stays p v begun ∙ ap (λ (l : Option Posted). record v { latches = slice_set v.latches p l; age = started_age (has_two_latches (slice_set v.latches p l)) v.age }) e

-- an age that began with two latches of three is there with more
begun_before : (a b : Bool) (age : Option ℕ) → (a ≡ true → b ≡ true) → started_age b (started_age a age) ≡ started_age b age
begun_before a b (Some age) h = refl
begun_before false b None h = refl
begun_before true true None h = refl
begun_before true false None h = absurd (let x = h refl in cc)

latch_grows : (member : Bool) (latch port : Option Posted) → is_some latch ≡ true → is_some (latch_taken member latch port) ≡ true
latch_grows member (Some latch) port h = refl
latch_grows member None port h = absurd cc

second_grows : (a b c x : Option Posted) → (is_some b ≡ true → is_some x ≡ true) → has_two_latches (a ∷ b ∷ c ∷ []) ≡ true → has_two_latches (a ∷ x ∷ c ∷ []) ≡ true
second_grows (Some a) (Some b) c (Some x) h two = by_last c
  where
    by_last : (c : Option Posted) → has_two_latches (Some a ∷ Some x ∷ c ∷ []) ≡ true
    by_last (Some c) = refl
    by_last None = refl
second_grows (Some a) None (Some c) (Some x) h two = refl
second_grows (Some a) None (Some c) None h two = refl
second_grows None (Some b) (Some c) (Some x) h two = refl
second_grows (Some a) None None x h two = absurd cc
second_grows None (Some b) None x h two = absurd cc
second_grows None None (Some c) x h two = absurd cc
second_grows None None None x h two = absurd cc
second_grows (Some a) (Some b) c None h two = absurd (let x = h refl in cc)
second_grows None (Some b) (Some c) None h two = absurd (let x = h refl in cc)

third_grows : (a b c x : Option Posted) → (is_some c ≡ true → is_some x ≡ true) → has_two_latches (a ∷ b ∷ c ∷ []) ≡ true → has_two_latches (a ∷ b ∷ x ∷ []) ≡ true
third_grows (Some a) (Some b) (Some c) (Some x) h two = refl
third_grows (Some a) (Some b) None (Some x) h two = refl
third_grows (Some a) (Some b) None None h two = refl
third_grows (Some a) None (Some c) (Some x) h two = refl
third_grows None (Some b) (Some c) (Some x) h two = refl
third_grows (Some a) None None x h two = absurd cc
third_grows None (Some b) None x h two = absurd cc
third_grows None None (Some c) x h two = absurd cc
third_grows None None None x h two = absurd cc
third_grows (Some a) (Some b) (Some c) None h two = absurd (let x = h refl in cc)
third_grows (Some a) None (Some c) None h two = absurd (let x = h refl in cc)
third_grows None (Some b) (Some c) None h two = absurd (let x = h refl in cc)

-- the three together
taken_together : (ports : ℕ → Option Posted) (timer : ℕ) (members : List Bool) (latches : List (Option Posted)) (age : Option ℕ) → length members ≡ 3 → length latches ≡ 3 →
    with_taken (ports 2) 2 (with_taken (ports 1) 1 (with_taken (ports 0) 0 (record { members = members; latches = latches; age = older timer age; timer = timer }))) ≡
    latched_from ports (record { members = members; latches = latches; age = age; timer = timer })
taken_together ports timer (m ∷ n ∷ o ∷ []) (a ∷ b ∷ c ∷ []) age h k =
    let x = latch_taken m a (ports 0) in
    let y = latch_taken n b (ports 1) in
    let z = latch_taken o c (ports 2) in
    ap (λ (age : Option ℕ). record { members = m ∷ n ∷ o ∷ []; latches = x ∷ y ∷ z ∷ []; age = age; timer = timer })
    (ap (started_age (has_two_latches (x ∷ y ∷ z ∷ []))) (begun_before (has_two_latches (x ∷ b ∷ c ∷ [])) (has_two_latches (x ∷ y ∷ c ∷ [])) (older timer age) (second_grows x b c y (latch_grows n b (ports 1)))) ∙
    begun_before (has_two_latches (x ∷ y ∷ c ∷ [])) (has_two_latches (x ∷ y ∷ z ∷ [])) (older timer age) (third_grows x y c z (latch_grows o c (ports 2))))
taken_together ports timer members [] age h k = absurd (omega arith)
taken_together ports timer members (a ∷ []) age h k = absurd (omega arith)
taken_together ports timer members (a ∷ b ∷ []) age h k = absurd (omega arith)
taken_together ports timer members (a ∷ b ∷ c ∷ d ∷ ls) age h k = absurd (omega arith)
taken_together ports timer [] (a ∷ b ∷ c ∷ []) age h k = absurd (omega arith)
taken_together ports timer (m ∷ []) (a ∷ b ∷ c ∷ []) age h k = absurd (omega arith)
taken_together ports timer (m ∷ n ∷ []) (a ∷ b ∷ c ∷ []) age h k = absurd (omega arith)
taken_together ports timer (m ∷ n ∷ o ∷ q ∷ ms) (a ∷ b ∷ c ∷ []) age h k = absurd (omega arith)

pub latching_calls : LatchingByCalls
latching_calls ports v kept =
    let w = ticked_voter v in
    let u = with_taken (ports 0) 0 w in
    let t = with_taken (ports 1) 1 u in
    ap (λ (s : VoterState). latched_at (ports 2) 2 (latched_at (ports 1) 1 s)) (latched_is (ports 0) 0 w (begun_at_first v.timer (has_two_latches v.latches) v.age kept.aged)) ∙
    (ap (λ (s : VoterState). latched_at (ports 2) 2 s) (latched_is (ports 1) 1 u (begun_stays (has_two_latches u.latches) w.age)) ∙
    (latched_is (ports 2) 2 t (begun_stays (has_two_latches t.latches) u.age) ∙ taken_together ports v.timer v.members v.latches v.age kept.members kept.latches))

-- who leaves at a decision
abbrev stays : List Bool → Option ℕ → Option ℕ → ℕ → Bool
stays members differ late p = not (is_named differ late p) && slice_index_or members p false

or_none : (b : Bool) → (b || false) ≡ b
or_none true = refl
or_none false = refl

some_leave : (timer : ℕ) (members : List Bool) (age : Option ℕ) (differ late : Option ℕ) → length members ≡ 3 → IfSome differ (λ p. p < 3) → IfSome late (λ p. p < 3) →
    (latches : List (Option Posted)) → (without_named late (without_named differ (record { members = members; latches = latches; age = age; timer = timer }))).members ≡ three_of (stays members differ late)
some_leave timer members age None None size a b latches = sym (list_is_three members false size)
some_leave timer members age None (Some q) size a b latches = sym (false_is_three members q b size)
some_leave timer members age (Some p) None size a b latches =
    sym (three_same members p ∙ false_is_three members p a size)
  where
    three_same : (members : List Bool) (p : ℕ) → three_of (stays members (Some p) None) ≡ three_of (λ q. not (p == q) && slice_index_or members q false)
    three_same members p =
        ap (λ (x : Bool). (not x && slice_index_or members 0 false) ∷ (not ((p == 1) || false) && slice_index_or members 1 false) ∷ (not ((p == 2) || false) && slice_index_or members 2 false) ∷ []) (or_none (p == 0)) ∙
        (ap (λ (x : Bool). (not (p == 0) && slice_index_or members 0 false) ∷ (not x && slice_index_or members 1 false) ∷ (not ((p == 2) || false) && slice_index_or members 2 false) ∷ []) (or_none (p == 1)) ∙
        ap (λ (x : Bool). (not (p == 0) && slice_index_or members 0 false) ∷ (not (p == 1) && slice_index_or members 1 false) ∷ (not x && slice_index_or members 2 false) ∷ []) (or_none (p == 2)))
some_leave timer members age (Some p) (Some q) size a b latches = two_leave members p q size a b
  where
    two_leave : (members : List Bool) (p q : ℕ) → length members ≡ 3 → p < 3 → q < 3 → slice_set (slice_set members p false) q false ≡ three_of (stays members (Some p) (Some q))
    two_leave (m ∷ n ∷ o ∷ []) zero zero size a b = refl
    two_leave (m ∷ n ∷ o ∷ []) zero (suc zero) size a b = refl
    two_leave (m ∷ n ∷ o ∷ []) zero (suc (suc zero)) size a b = refl
    two_leave (m ∷ n ∷ o ∷ []) (suc zero) zero size a b = refl
    two_leave (m ∷ n ∷ o ∷ []) (suc zero) (suc zero) size a b = refl
    two_leave (m ∷ n ∷ o ∷ []) (suc zero) (suc (suc zero)) size a b = refl
    two_leave (m ∷ n ∷ o ∷ []) (suc (suc zero)) zero size a b = refl
    two_leave (m ∷ n ∷ o ∷ []) (suc (suc zero)) (suc zero) size a b = refl
    two_leave (m ∷ n ∷ o ∷ []) (suc (suc zero)) (suc (suc zero)) size a b = refl
    two_leave (m ∷ n ∷ o ∷ []) (suc (suc (suc p))) q size a b = absurd (omega arith)
    two_leave (m ∷ n ∷ o ∷ []) p (suc (suc (suc q))) size a b = absurd (omega arith)
    two_leave [] p q size a b = absurd (omega arith)
    two_leave (m ∷ []) p q size a b = absurd (omega arith)
    two_leave (m ∷ n ∷ []) p q size a b = absurd (omega arith)
    two_leave (m ∷ n ∷ o ∷ r ∷ ms) p q size a b = absurd (omega arith)

-- who leaves leaves the timer
timer_left : (named : Option ℕ) (v : VoterState) → (without_named named v).timer ≡ v.timer
timer_left None v = refl
timer_left (Some p) v = refl

pub members_leave : MembersLeaveByCalls
members_leave d differ late size a b =
    ap (λ (timer : ℕ). record { members = (without_named late (without_named differ d.voter)).members; latches = no_latches; age = None; timer = timer }) (timer_left late (without_named differ d.voter) ∙ timer_left differ d.voter) ∙
    ap (λ (ms : List Bool). record { members = ms; latches = no_latches; age = None; timer = d.voter.timer }) (some_leave d.voter.timer d.voter.members d.voter.age differ late size a b d.voter.latches)

-- who is named is one of three
found_in : (test : ℕ → Bool) → IfSome (find test processors) (λ p. p < 3)
found_in test = by_tests (test 0) (test 1) (test 2)
  where
    by_tests : (a b c : Bool) → IfSome (cond a (Some 0) (cond b (Some 1) (cond c (Some 2) None))) (λ p. p < 3)
    by_tests true b c = omega arith
    by_tests false true c = omega arith
    by_tests false false true = omega arith
    by_tests false false false = tt

same_named : (r s : Request) (a b x y : Option ℕ) → Done r a b ≡ Done s x y → (a ≡ x) × (b ≡ y)
same_named r s a b x y h = (cc, cc)

pub named_in : NamedAreProcessors
named_in v r differ late h = by_due (is_due v) (agreed_request v.latches) (sym (verdict_decided v) ∙ h)
  where
    by_due : (due : Bool) (agreed : Option Request) → (if due then option_map_or (done_with v) agreed Split else Waiting) ≡ Done r differ late → IfSome differ (λ p. p < 3) × IfSome late (λ p. p < 3)
    by_due true (Some request) e =
        let same = same_named request r (find (is_differing v request) processors) (find (is_unlatched v) processors) differ late e in
        (subst (λ (x : Option ℕ). IfSome x (λ p. p < 3)) same.0 (found_in (is_differing v request)), subst (λ (x : Option ℕ). IfSome x (λ p. p < 3)) same.1 (found_in (is_unlatched v)))
    by_due true None e = absurd cc
    by_due false agreed e = absurd cc
