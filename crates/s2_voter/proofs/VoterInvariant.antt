-- Without a member, and with another timer, the voter keeps its invariant.
use Rattle.std.proofs.Common.{◌≡◌, ◌≢◌, ℕ, ◌<◌, ◌≤◌, ◌⊎◌, inl, inr, List, length, set, get_or, refl, sym, ap, ◌∙◌, arith, length-set, get_or-set_same, get_or-set_other, take, ◌++◌}
use Rattle.std.specs.Prelude.{Bool, true, false, cond, Some, None, [], ◌∷◌, is_some, count_by}
use Rattle.std.specs.declared.option.Option.{Option}
use Rattle.std.proofs.lemmas.Bool.{cases_eq}
use Rattle.std.proofs.lemmas.Bool.Decides.{nat_tests}
use Rattle.std.specs.List.{refill}
use Rattle.std.proofs.lemmas.List.{append-nil, take_all, drop_all}
use Rattle.std.proofs.lemmas.List.Sums.{sum_by-set}
use Rattle.s2_ports.specs.declared.requests.Posted.{Posted}
use Rattle.s2_voter.specs.VoterState.{VoterState, IsVoter, IsAge, IsTimer, has_two_latches, latch_of}
use Rattle.s2_voter.specs.VoterCalls.{remaining_age, timed_voter, without_member}

-- a list refilled by its own length is the new one
pub refilled : (ls : List (Option Posted)) (p : ℕ) (l : Option Posted) → refill (length ls) ls (set ls p l) ≡ set ls p l
refilled ls p l =
    let same : length ls ≡ length (set ls p l) = sym (length-set ls p l) in
    ap (λ (rest : List (Option Posted)). take (length ls) (set ls p l ++ rest)) (drop_all (length (set ls p l)) ls (omega arith)) ∙
    (ap (take (length ls)) (append-nil (set ls p l)) ∙ take_all (length ls) (set ls p l) (omega arith))

-- fewer latches than before
fewer : (ls : List (Option Posted)) (p : ℕ) → p < length ls → count_by is_some (set ls p None) ≤ count_by is_some ls
fewer ls p h = let e = sum_by-set (λ (l : Option Posted). cond (is_some l) 1 0) ls p None None h in omega arith

two_before : (ls : List (Option Posted)) (p : ℕ) → p < length ls → has_two_latches (set ls p None) ≡ true → has_two_latches ls ≡ true
two_before ls p h two = let less = fewer ls p h in grind (arith, nat_tests)

age_remains : (two : Bool) (age : Option ℕ) → (two ≡ true → is_some age ≡ true) → is_some (remaining_age two age) ≡ two
age_remains true age h = h refl
age_remains false age h = refl

age_fits : (timer : ℕ) (two : Bool) (age : Option ℕ) → IsAge timer age → IsAge timer (remaining_age two age)
age_fits timer true age h = h
age_fits timer false age h = tt

pub member_dropped : (v : VoterState) (p : ℕ) → p < 3 → IsVoter v → IsVoter (without_member p v)
member_dropped v p h kept = record {
  members = length-set v.members p false ∙ kept.members;
  latches = length-set v.latches p None ∙ kept.latches;
  latched = λ q latched. by_case q latched (cases_eq q p);
  aged = age_remains (has_two_latches (set v.latches p None)) v.age (λ two. kept.aged ∙ two_before v.latches p in_latches two);
  age = age_fits v.timer (has_two_latches (set v.latches p None)) v.age kept.age;
  timer = kept.timer;
}
  where
    in_latches : p < length v.latches
    in_latches = let three = kept.latches in omega arith

    by_case : (q : ℕ) → is_some (get_or (set v.latches p None) q None) ≡ true → (q ≡ p) ⊎ (q ≢ p) → get_or (set v.members p false) q false ≡ true
    by_case q latched (inl same) =
        absurd (let gone = ap is_some (ap (λ (i : ℕ). get_or (set v.latches p None) i None) same ∙ get_or-set_same v.latches p None None in_latches) in let x = sym latched ∙ gone in cc)
    by_case q latched (inr other) =
        get_or-set_other v.members p q false false other ∙ kept.latched q (ap is_some (sym (get_or-set_other v.latches p q None None other)) ∙ latched)

-- a voter without a latch has no age
none_latched : (ls : List (Option Posted)) → length ls ≡ 3 → ((p : ℕ) → p < 3 → get_or ls p None ≡ None) → has_two_latches ls ≡ false
none_latched [] h none = absurd (omega arith)
none_latched (a ∷ []) h none = absurd (omega arith)
none_latched (a ∷ b ∷ []) h none = absurd (omega arith)
none_latched (a ∷ b ∷ c ∷ d ∷ ls) h none = absurd (omega arith)
none_latched (a ∷ b ∷ c ∷ []) h none =
    ap (λ (x : Option Posted). has_two_latches (x ∷ b ∷ c ∷ [])) (none 0 (omega arith)) ∙
    (ap (λ (x : Option Posted). has_two_latches (None ∷ x ∷ c ∷ [])) (none 1 (omega arith)) ∙ ap (λ (x : Option Posted). has_two_latches (None ∷ None ∷ x ∷ [])) (none 2 (omega arith)))

no_age : (timer : ℕ) (age : Option ℕ) → is_some age ≡ false → IsAge timer age
no_age timer None h = tt
no_age timer (Some age) h = absurd cc

pub timer_set : (v : VoterState) (timer : ℕ) → IsTimer timer → ((p : ℕ) → p < 3 → latch_of v p ≡ None) → IsVoter v → IsVoter (timed_voter timer v)
timer_set v timer one none kept = record {
  members = kept.members;
  latches = kept.latches;
  latched = kept.latched;
  aged = kept.aged;
  age = no_age timer v.age (kept.aged ∙ none_latched v.latches kept.latches none);
  timer = one;
}
