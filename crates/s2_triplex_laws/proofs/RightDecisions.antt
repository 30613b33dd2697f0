-- A decision where every good processor is latched: what is agreed, and who is named.
use Rattle.std.proofs.Common.{◌≡◌, ℕ, zero, suc, ◌<◌, ◌≤◌, ◌≢◌, refl, sym, ap, subst, inl, inr, ◌∙◌, arith}
use Rattle.std.specs.Option.{option_map_or}
use Rattle.std.specs.Prelude.{is_none, cond, Bool, true, false, not, ◌==◌, ◌&&◌, ◌||◌, Some, None, is_some, ◌⊎◌, if◌then◌else◌}
use Rattle.std.specs.declared.option.Option.{Option}
use Rattle.std.proofs.lemmas.Bool.Decides.{nat_tests}
use Rattle.s2_voter.proofs.Agreement.{two_decide, verdict_decided}
use Rattle.s2_voter.proofs.EqualRequests.{same_self}
use Rattle.s2_ports.specs.declared.requests.Posted.{Posted}
use Rattle.s2_ports.specs.declared.requests.Request.{Request}
use Rattle.s2_voter.specs.Verdicts.{agreed_request, differing_member, done_with, holds_request, is_differing, is_due, is_unlatched, late_member, request_of, verdict_of}
use Rattle.s2_voter.specs.VoterLaws.{TwoEqualLatches}
use Rattle.s2_voter.specs.VoterState.{IsVoter, VoterState, is_member, latch_of}
use Rattle.s2_voter.specs.declared.verdicts.Verdict.TheVariants.{Split, Waiting}
use Rattle.s2_machine.specs.declared.ask.Ask.TheVariants.{Outside}
use Rattle.s2_triplex.specs.ModuleState.{Replica, replica_ask, replica_of}
use Rattle.s2_triplex.specs.TriplexCores.{TriplexCore}
use Rattle.s2_triplex.specs.TriplexState.{TriplexState, is_good, module_at}
use Rattle.s2_triplex.specs.VoterDecision.{is_named, is_processor}
use Rattle.s2_triplex_laws.specs.LatchAgreement.{AllLatched, IsGood, IsOwnPort, LatchAgreement}
use Rattle.s2_triplex_laws.specs.ReplicaEquality.{ReplicaEquality}
use Rattle.s2_triplex_laws.proofs.ReferenceGoesOn.{same_replica}
use Rattle.s2_triplex_laws.proofs.SlowestProcessor.{either_good}

-- what a good processor's latch holds
pub record LatchHolds (delivered accepted : ℕ) (r : Request) (l : Option Posted) : Type 0 where
  pub seen : ℕ
  pub is : l ≡ Some (record { request = r; seen = seen })
  pub from : delivered ≤ seen
  pub to : seen ≤ accepted

-- every good processor is one replica, and asks for one request, with which it is latched
pub record AllAsk (k : TriplexCore) (d : TriplexState) (s : Replica) (r : Request) : Type 0 where
  pub asks : replica_ask k s ≡ Outside r
  pub each : (p : ℕ) → p < 3 → IsGood d p → replica_of (module_at d.modules p) ≡ s
  pub full : (p : ℕ) → p < 3 → IsGood d p → is_some (module_at d.modules p).port ≡ true
  pub latched : (p : ℕ) → p < 3 → IsGood d p → LatchHolds d.delivered d.accepted r (latch_of d.voter p)

record Own (k : TriplexCore) (delivered accepted : ℕ) (s : Replica) (port l : Option Posted) : Type 0 where
  request : Request
  asks : replica_ask k s ≡ Outside request
  holds : LatchHolds delivered accepted request l
  full : is_some port ≡ true

own_by : (k : TriplexCore) (delivered accepted : ℕ) (s : Replica) (port l : Option Posted) → IsOwnPort k delivered accepted s port → l ≡ port → is_some l ≡ true → Own k delivered accepted s port l
own_by k delivered accepted s None l fits e some = absurd (let x = ap is_some e in cc)
own_by k delivered accepted s (Some posted) l fits e some = record {
  request = posted.request;
  asks = fits.own;
  holds = record { seen = posted.seen; is = e; from = fits.from; to = fits.to };
  full = refl;
}

own_at : (k : TriplexCore) (d : TriplexState) → LatchAgreement k d → AllLatched d → (p : ℕ) → p < 3 → IsGood d p →
    Own k d.delivered d.accepted (replica_of (module_at d.modules p)) (module_at d.modules p).port (latch_of d.voter p)
own_at k d h all p hp g = let t = h.good p hp g in own_by k d.delivered d.accepted (replica_of (module_at d.modules p)) (module_at d.modules p).port (latch_of d.voter p) t.port t.latch (all p hp g)

one_request : (k : TriplexCore) (s t : Replica) (r q : Request) → t ≡ s → replica_ask k s ≡ Outside r → replica_ask k t ≡ Outside q → q ≡ r
one_request k s t r q e hr hq = one_ask r q (sym hr ∙ (ap (replica_ask k) (sym e) ∙ hq))
  where
    one_ask : (r q : Request) → Outside r ≡ Outside q → q ≡ r
    one_ask r q h = cc

pub all_ask_at : (k : TriplexCore) (d : TriplexState) → LatchAgreement k d → (a : ReplicaEquality k d) → AllLatched d → (p : ℕ) → p < 3 → IsGood d p →
    (r : Request) × AllAsk k d (replica_of (module_at d.modules p)) r
all_ask_at k d h a all p hp g =
    let o = own_at k d h all p hp g in (
      o.request,
      record {
        asks = o.asks;
        each = λ q hq gq. let w = own_at k d h all q hq gq in same_replica k d a q p hq gq hp g w.request o.request w.asks o.asks;
        full = λ q hq gq. (own_at k d h all q hq gq).full;
        latched = λ q hq gq.
            let w = own_at k d h all q hq gq in
            let same = same_replica k d a q p hq gq hp g w.request o.request w.asks o.asks in
            subst (λ (x : Request). LatchHolds d.delivered d.accepted x (latch_of d.voter q)) (one_request k (replica_of (module_at d.modules p)) (replica_of (module_at d.modules q)) o.request w.request same o.asks w.asks) w.holds;
      },
    )

-- two latches hold that request
requested : (delivered accepted : ℕ) (r : Request) (l : Option Posted) → LatchHolds delivered accepted r l → request_of l ≡ Some r
requested delivered accepted r l h = ap request_of h.is

two_at : (k : TriplexCore) (d : TriplexState) (s : Replica) (r : Request) → AllAsk k d s r → IsVoter d.voter → (p q : ℕ) → p < 3 → q < 3 → p ≢ q → IsGood d p → IsGood d q → TwoEqualLatches d.voter p q r
two_at k d s r h v p q hp hq ne gp gq = record {
  latches = v.latches;
  first_processor = hp;
  second_processor = hq;
  apart = ne;
  first = requested d.delivered d.accepted r (latch_of d.voter p) (h.latched p hp gp);
  second = requested d.delivered d.accepted r (latch_of d.voter q) (h.latched q hq gq);
}

-- two of the three are good
pub record TwoGood (d : TriplexState) : Type 0 where
  pub first : ℕ
  pub second : ℕ
  pub first_low : first < 3
  pub second_low : second < 3
  pub apart : first ≢ second
  pub first_good : IsGood d first
  pub second_good : IsGood d second

pub two_good : (d : TriplexState) → TwoGood d
two_good d =
    elim (either_good d.tainted 0 1 (omega arith)) [
      | inl zero_good ↦ elim (either_good d.tainted 1 2 (omega arith)) [
        | inl one_good ↦ record { first = 0; second = 1; first_low = omega arith; second_low = omega arith; apart = omega arith; first_good = zero_good; second_good = one_good }
        | inr last_good ↦ record { first = 0; second = 2; first_low = omega arith; second_low = omega arith; apart = omega arith; first_good = zero_good; second_good = last_good }
      ]
      | inr one_good ↦ elim (either_good d.tainted 0 2 (omega arith)) [
        | inl zero_good ↦ record { first = 0; second = 1; first_low = omega arith; second_low = omega arith; apart = omega arith; first_good = zero_good; second_good = one_good }
        | inr last_good ↦ record { first = 1; second = 2; first_low = omega arith; second_low = omega arith; apart = omega arith; first_good = one_good; second_good = last_good }
      ]
    ]

-- the verdict
pub decides_for : (k : TriplexCore) (d : TriplexState) (s : Replica) (r : Request) → AllAsk k d s r → IsVoter d.voter → verdict_of d.voter ≡ (if is_due d.voter then done_with d.voter r else Waiting)
decides_for k d s r h v =
    let t = two_good d in
    (two_decide d.voter t.first t.second r (two_at k d s r h v t.first t.second t.first_low t.second_low t.apart t.first_good t.second_good)).verdict

pub verdict_is : (k : TriplexCore) (d : TriplexState) (s : Replica) (r : Request) → AllAsk k d s r → IsVoter d.voter → is_due d.voter ≡ true → verdict_of d.voter ≡ done_with d.voter r
verdict_is k d s r h v due = decides_for k d s r h v ∙ ap (λ (b : Bool). if b then done_with d.voter r else Waiting) due

pub verdict_waits : (v : VoterState) → is_due v ≡ false → verdict_of v ≡ Waiting
verdict_waits v due = verdict_decided v ∙ ap (λ (b : Bool). if b then option_map_or (done_with v) (agreed_request v.latches) Split else Waiting) due

-- no good processor is named
abbrev first_of : Bool → Bool → Bool → Option ℕ
first_of a b c = cond a (Some 0) (cond b (Some 1) (cond c (Some 2) None))

first_zero : (b c : Bool) → is_processor (first_of false b c) 0 ≡ false
first_zero true c = refl
first_zero false true = refl
first_zero false false = refl

first_one : (a c : Bool) → is_processor (first_of a false c) 1 ≡ false
first_one true c = refl
first_one false true = refl
first_one false false = refl

first_two : (a b : Bool) → is_processor (first_of a b false) 2 ≡ false
first_two true b = refl
first_two false true = refl
first_two false false = refl

pub not_first : (x : ℕ → Bool) (p : ℕ) → p < 3 → x p ≡ false → is_processor (first_of (x 0) (x 1) (x 2)) p ≡ false
not_first x zero h e = subst (λ (b : Bool). is_processor (first_of b (x 1) (x 2)) 0 ≡ false) (sym e) (first_zero (x 1) (x 2))
not_first x (suc zero) h e = subst (λ (b : Bool). is_processor (first_of (x 0) b (x 2)) 1 ≡ false) (sym e) (first_one (x 0) (x 2))
not_first x (suc (suc zero)) h e = subst (λ (b : Bool). is_processor (first_of (x 0) (x 1) b) 2 ≡ false) (sym e) (first_two (x 0) (x 1))
not_first x (suc (suc (suc p))) h e = absurd (omega arith)

and_false : (a b : Bool) → b ≡ false → (a && b) ≡ false
and_false true b h = h
and_false false b h = refl

pub good_differs : (k : TriplexCore) (d : TriplexState) (s : Replica) (r : Request) → AllAsk k d s r → (p : ℕ) → p < 3 → IsGood d p → is_differing d.voter r p ≡ false
good_differs k d s r h p hp g =
    and_false (is_member d.voter p) (is_some (latch_of d.voter p) && not (holds_request r (latch_of d.voter p)))
    (ap (λ (l : Option Posted). is_some l && not (holds_request r l)) (h.latched p hp g).is ∙ ap not (same_self r))

pub good_lates : (k : TriplexCore) (d : TriplexState) (s : Replica) (r : Request) → AllAsk k d s r → (p : ℕ) → p < 3 → IsGood d p → is_unlatched d.voter p ≡ false
good_lates k d s r h p hp g = and_false (is_member d.voter p) (is_none (latch_of d.voter p)) (ap is_none (h.latched p hp g).is)

or_false : (a b : Bool) → a ≡ false → b ≡ false → (a || b) ≡ false
or_false true b x y = absurd cc
or_false false b x y = y

pub good_unnamed : (k : TriplexCore) (d : TriplexState) (s : Replica) (r : Request) → AllAsk k d s r → (p : ℕ) → p < 3 → IsGood d p →
    is_named (differing_member d.voter r) (late_member d.voter) p ≡ false
good_unnamed k d s r h p hp g =
    or_false (is_processor (differing_member d.voter r) p) (is_processor (late_member d.voter) p) (not_first (is_differing d.voter r) p hp (good_differs k d s r h p hp g))
    (not_first (is_unlatched d.voter) p hp (good_lates k d s r h p hp g))

-- the one that is named is tainted
number_is : (n m : ℕ) → (n == m) ≡ true → n ≡ m
number_is n m h = grind (arith, nat_tests)

pub tainted_is : (t : Option ℕ) (p : ℕ) → is_good t p ≡ false → t ≡ Some p
tainted_is None p h = absurd cc
tainted_is (Some t) p h = by_test (t == p) refl h
  where
    by_test : (b : Bool) → (t == p) ≡ b → not b ≡ false → Some t ≡ Some p
    by_test true e x = ap (λ (v : ℕ). Some v) (number_is t p e)
    by_test false e x = absurd cc

bool_cases : (b : Bool) → (b ≡ true) ⊎ (b ≡ false)
bool_cases true = inl refl
bool_cases false = inr refl

clash : (b : Bool) → b ≡ true → b ≡ false → ⊥
clash b x y = cc

pub named_tainted : (k : TriplexCore) (d : TriplexState) (s : Replica) (r : Request) → AllAsk k d s r → (p : ℕ) → p < 3 →
    is_named (differing_member d.voter r) (late_member d.voter) p ≡ true → d.tainted ≡ Some p
named_tainted k d s r h p hp named =
    elim (bool_cases (is_good d.tainted p)) [ inl g ↦ absurd (clash _ named (good_unnamed k d s r h p hp g)) | inr bad ↦ tainted_is d.tainted p bad ]

-- each member that differs or is late is named
other_good : (t : Option ℕ) (p q : ℕ) → p ≢ q → is_good t p ≡ false → is_good t q ≡ true
other_good t p q ne bad = elim (either_good t p q ne) [ inl g ↦ absurd (clash (is_good t p) g bad) | inr g ↦ g ]

first_is : (x : ℕ → Bool) (p : ℕ) → p < 3 → x p ≡ true → ((q : ℕ) → q < 3 → p ≢ q → x q ≡ false) → first_of (x 0) (x 1) (x 2) ≡ Some p
first_is x zero h e others = subst (λ (b : Bool). first_of b (x 1) (x 2) ≡ Some 0) (sym e) refl
first_is x (suc zero) h e others =
    subst (λ (b : Bool). first_of b (x 1) (x 2) ≡ Some 1) (sym (others 0 (omega arith) (omega arith))) (subst (λ (b : Bool). first_of false b (x 2) ≡ Some 1) (sym e) refl)
first_is x (suc (suc zero)) h e others =
    subst (λ (b : Bool). first_of b (x 1) (x 2) ≡ Some 2) (sym (others 0 (omega arith) (omega arith)))
    (subst (λ (b : Bool). first_of false b (x 2) ≡ Some 2) (sym (others 1 (omega arith) (omega arith))) (subst (λ (b : Bool). first_of false false b ≡ Some 2) (sym e) refl))
first_is x (suc (suc (suc p))) h e others = absurd (omega arith)

pub differ_named : (k : TriplexCore) (d : TriplexState) (s : Replica) (r : Request) → AllAsk k d s r → (p : ℕ) → p < 3 → is_differing d.voter r p ≡ true → differing_member d.voter r ≡ Some p
differ_named k d s r h p hp differ =
    elim (bool_cases (is_good d.tainted p)) [
      | inl g ↦ absurd (clash (is_differing d.voter r p) differ (good_differs k d s r h p hp g))
      | inr bad ↦ first_is (is_differing d.voter r) p hp differ (λ q hq ne. good_differs k d s r h q hq (other_good d.tainted p q ne bad))
    ]

pub late_named : (k : TriplexCore) (d : TriplexState) (s : Replica) (r : Request) → AllAsk k d s r → (p : ℕ) → p < 3 → is_unlatched d.voter p ≡ true → late_member d.voter ≡ Some p
late_named k d s r h p hp late =
    elim (bool_cases (is_good d.tainted p)) [
      | inl g ↦ absurd (clash (is_unlatched d.voter p) late (good_lates k d s r h p hp g))
      | inr bad ↦ first_is (is_unlatched d.voter) p hp late (λ q hq ne. good_lates k d s r h q hq (other_good d.tainted p q ne bad))
    ]
