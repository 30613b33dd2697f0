-- How many processors are latched, and that the voter stays in one of its states.
use Rattle.std.proofs.Common.{◌≡◌, ℕ, zero, suc, ◌+◌, ◌≤◌, List, [], ◌∷◌, length, refl, sym, ap, subst, ◌∙◌, arith}
use Rattle.std.specs.Prelude.{not, ◌==◌, ◌&&◌, Bool, true, false, nat_lt, Some, None, is_some, count_by, slice_index_or, cond, if◌then◌else◌}
use Rattle.std.specs.declared.option.Option.{Option}
use Rattle.std.proofs.lemmas.Bool.Decides.{nat_tests}
use Rattle.std.proofs.lemmas.List.Sums.{sum_by-cons}
use Rattle.s2_ports.specs.declared.requests.Posted.{Posted}
use Rattle.s2_voter.specs.VoterCalls.{older, remaining_age, started_age}
use Rattle.s2_voter.specs.VoterState.{IsAge, IsVoter, VoterState, has_two_latches, is_member, latch_of}
use Rattle.s2_triplex.specs.ActStep.{voter_without}
use Rattle.s2_triplex.specs.TickFirings.{latch_taken, latched_from}

-- whether two of three are
abbrev pub held : Bool → ℕ
held true = 1
held false = 0

abbrev pub two_of : Bool → Bool → Bool → Bool
two_of a b c = nat_lt 1 (held a + (held b + held c))

count_cons : (l : Option Posted) (ls : List (Option Posted)) → count_by is_some (l ∷ ls) ≡ held (is_some l) + count_by is_some ls
count_cons l ls = sum_by-cons (λ (x : Option Posted). cond (is_some x) 1 0) l ls ∙ ap (λ (n : ℕ). n + count_by is_some ls) (by_test (is_some l))
  where
    by_test : (b : Bool) → cond b 1 0 ≡ held b
    by_test true = refl
    by_test false = refl

abbrev no_posted : List (Option Posted)
no_posted = []

count_none : count_by is_some no_posted ≡ 0
count_none = refl

count_three : (x y z : Option Posted) → count_by is_some (x ∷ y ∷ z ∷ []) ≡ held (is_some x) + (held (is_some y) + held (is_some z))
count_three x y z =
    let a = count_cons x (y ∷ z ∷ []) in
    let b = count_cons y (z ∷ []) in
    let c = count_cons z [] in
    let none = count_none in
    omega arith

pub two_three : (x y z : Option Posted) → has_two_latches (x ∷ y ∷ z ∷ []) ≡ two_of (is_some x) (is_some y) (is_some z)
two_three x y z = ap (nat_lt 1) (count_three x y z)

pub two_is : (ls : List (Option Posted)) → length ls ≡ 3 → has_two_latches ls ≡ two_of (is_some (slice_index_or ls 0 None)) (is_some (slice_index_or ls 1 None)) (is_some (slice_index_or ls 2 None))
two_is [] h = absurd (omega arith)
two_is (x ∷ []) h = absurd (omega arith)
two_is (x ∷ y ∷ []) h = absurd (omega arith)
two_is (x ∷ y ∷ z ∷ []) h = two_three x y z
two_is (x ∷ y ∷ z ∷ w ∷ ls) h = absurd (omega arith)

two_first : (c : Bool) → two_of true true c ≡ true
two_first true = refl
two_first false = refl

two_outer : (b : Bool) → two_of true b true ≡ true
two_outer true = refl
two_outer false = refl

two_last : (a : Bool) → two_of a true true ≡ true
two_last true = refl
two_last false = refl

-- where two were, two are
pub two_grows : (a b c x y z : Bool) → (a ≡ true → x ≡ true) → (b ≡ true → y ≡ true) → (c ≡ true → z ≡ true) → two_of a b c ≡ true → two_of x y z ≡ true
two_grows true true c x y z ha hb hc h =
    subst (λ (u : Bool). two_of u y z ≡ true) (sym (ha refl)) (subst (λ (v : Bool). two_of true v z ≡ true) (sym (hb refl)) (two_first z))
two_grows true false true x y z ha hb hc h =
    subst (λ (u : Bool). two_of u y z ≡ true) (sym (ha refl)) (subst (λ (v : Bool). two_of true y v ≡ true) (sym (hc refl)) (two_outer y))
two_grows false true true x y z ha hb hc h =
    subst (λ (u : Bool). two_of x u z ≡ true) (sym (hb refl)) (subst (λ (v : Bool). two_of x true v ≡ true) (sym (hc refl)) (two_last x))
two_grows true false false x y z ha hb hc h = absurd cc
two_grows false true false x y z ha hb hc h = absurd cc
two_grows false false true x y z ha hb hc h = absurd cc
two_grows false false false x y z ha hb hc h = absurd cc

-- the age of a tick
age_next : (timer : ℕ) (age : Option ℕ) (old new : Bool) → (old ≡ true → new ≡ true) → is_some age ≡ old → is_some (started_age new (older timer age)) ≡ new
age_next timer (Some a) old new grows h = sym (grows (sym h))
age_next timer None old true grows h = refl
age_next timer None old false grows h = refl

age_by : (timer a : ℕ) (less : Bool) → nat_lt a timer ≡ less → a ≤ timer → (if less then a + 1 else a) ≤ timer
age_by timer a true e h = grind (arith, nat_tests)
age_by timer a false e h = h

age_fits : (timer : ℕ) (age : Option ℕ) (two : Bool) → IsAge timer age → IsAge timer (started_age two (older timer age))
age_fits timer (Some a) two h = age_by timer a (nat_lt a timer) refl h
age_fits timer None true h = omega arith
age_fits timer None false h = tt

-- latching
taken_some : (member : Bool) (l port : Option Posted) → is_some l ≡ true → is_some (latch_taken member l port) ≡ true
taken_some member (Some x) port h = refl
taken_some member None port h = absurd cc

taken_member : (member : Bool) (l port : Option Posted) → (is_some l ≡ true → member ≡ true) → is_some (latch_taken member l port) ≡ true → member ≡ true
taken_member true l port old h = refl
taken_member false (Some x) port old h = old refl
taken_member false None port old h = absurd cc

pub voter_latched : (ports : ℕ → Option Posted) (v : VoterState) → IsVoter v → IsVoter (latched_from ports v)
voter_latched ports v h =
    let now : (p : ℕ) → Option Posted = λ p. latch_taken (is_member v p) (latch_of v p) (ports p) in
    record {
      members = h.members;
      latches = refl;
      latched = λ p some. by_place p some;
      aged =
          age_next v.timer v.age (has_two_latches v.latches) (has_two_latches (latched_from ports v).latches)
          (λ two.
          two_three (now 0) (now 1) (now 2) ∙
          two_grows (is_some (latch_of v 0)) (is_some (latch_of v 1)) (is_some (latch_of v 2)) _ _ _ (taken_some (is_member v 0) (latch_of v 0) (ports 0))
          (taken_some (is_member v 1) (latch_of v 1) (ports 1)) (taken_some (is_member v 2) (latch_of v 2) (ports 2)) (sym (two_is v.latches h.latches) ∙ two))
          h.aged;
      age = age_fits v.timer v.age (has_two_latches (latched_from ports v).latches) h.age;
      timer = h.timer;
    }
  where
    by_place : (p : ℕ) → is_some (latch_of (latched_from ports v) p) ≡ true → is_member v p ≡ true
    by_place zero some = taken_member (is_member v 0) (latch_of v 0) (ports 0) (h.latched 0) some
    by_place (suc zero) some = taken_member (is_member v 1) (latch_of v 1) (ports 1) (h.latched 1) some
    by_place (suc (suc zero)) some = taken_member (is_member v 2) (latch_of v 2) (ports 2) (h.latched 2) some
    by_place (suc (suc (suc p))) some = absurd cc

-- a processor that leaves
left_latched : (b : Bool) (l : Option Posted) (member : Bool) → (is_some l ≡ true → member ≡ true) → is_some (if b then None else l) ≡ true → (not b && member) ≡ true
left_latched true l member old h = absurd cc
left_latched false l member old h = old h

dropped : (b : Bool) (l : Option Posted) → is_some (if b then None else l) ≡ true → is_some l ≡ true
dropped true l h = absurd cc
dropped false l h = h

age_left : (age : Option ℕ) (old new : Bool) → (new ≡ true → old ≡ true) → is_some age ≡ old → is_some (remaining_age new age) ≡ new
age_left age old true shrinks h = h ∙ shrinks refl
age_left age old false shrinks h = refl

age_left_fits : (timer : ℕ) (two : Bool) (age : Option ℕ) → IsAge timer age → IsAge timer (remaining_age two age)
age_left_fits timer true age h = h
age_left_fits timer false age h = tt

pub voter_left : (p : ℕ) (v : VoterState) → IsVoter v → IsVoter (voter_without p v)
voter_left p v h =
    let now : (q : ℕ) → Option Posted = λ q. if p == q then None else latch_of v q in
    record {
      members = refl;
      latches = refl;
      latched = λ q some. by_place q some;
      aged =
          age_left v.age (has_two_latches v.latches) (has_two_latches (voter_without p v).latches)
          (λ two.
          two_is v.latches h.latches ∙
          two_grows (is_some (now 0)) (is_some (now 1)) (is_some (now 2)) _ _ _ (dropped (p == 0) (latch_of v 0)) (dropped (p == 1) (latch_of v 1)) (dropped (p == 2) (latch_of v 2))
          (sym (two_three (now 0) (now 1) (now 2)) ∙ two))
          h.aged;
      age = age_left_fits v.timer (has_two_latches (voter_without p v).latches) v.age h.age;
      timer = h.timer;
    }
  where
    by_place : (q : ℕ) → is_some (latch_of (voter_without p v) q) ≡ true → is_member (voter_without p v) q ≡ true
    by_place zero some = left_latched (p == 0) (latch_of v 0) (is_member v 0) (h.latched 0) some
    by_place (suc zero) some = left_latched (p == 1) (latch_of v 1) (is_member v 1) (h.latched 1) some
    by_place (suc (suc zero)) some = left_latched (p == 2) (latch_of v 2) (is_member v 2) (h.latched 2) some
    by_place (suc (suc (suc q))) some = absurd cc
