-- The agreed count of events is one that a good processor could have seen.
use Rattle.std.proofs.Common.{◌≡◌, ◌≢◌, ℕ, ◌<◌, ◌≤◌, List, [], ◌∷◌, ◌++◌, length, refl, sym, ap, subst, inl, inr, ◌∙◌, arith}
use Rattle.std.specs.Prelude.{Bool, true, false, Some, None, ◌⊎◌, slice_index, if◌then◌else◌}
use Rattle.std.specs.declared.option.Option.{Option}
use Rattle.s2_agree.proofs.Medians.{agreed_within}
use Rattle.s2_voter.proofs.EqualRequests.{same_self}
use Rattle.s2_ports.specs.declared.requests.Posted.{Posted}
use Rattle.s2_ports.specs.declared.requests.Request.{Request}
use Rattle.s2_agree.specs.AgreedCount.{agreed_count}
use Rattle.s2_agree.specs.CountBounds.{IsCountWithin, TwoCountsFit}
use Rattle.s2_voter.specs.RequestEquality.{is_same_request}
use Rattle.s2_voter.specs.VoterState.{latch_of}
use Rattle.s2_triplex.specs.ModuleState.{Replica}
use Rattle.s2_triplex.specs.TriplexCores.{TriplexCore}
use Rattle.s2_triplex.specs.TriplexState.{TriplexState}
use Rattle.s2_triplex.specs.VotedAccess.{seen_in, seen_of}
use Rattle.s2_triplex_laws.specs.LatchAgreement.{IsGood}
use Rattle.s2_triplex_laws.proofs.RightDecisions.{AllAsk, LatchHolds}
use Rattle.s2_triplex_laws.proofs.SlowestProcessor.{either_good}

-- what a latch adds to the counts: nothing or one
seen_if : (b : Bool) (n : ℕ) → ((if b then n ∷ [] else []) ≡ []) ⊎ ((m : ℕ) × ((if b then n ∷ [] else []) ≡ m ∷ []))
seen_if true n = inr (n, refl)
seen_if false n = inl refl

abbrev AnyCount : List ℕ → Type 0
AnyCount xs = (xs ≡ []) ⊎ ((m : ℕ) × (xs ≡ m ∷ []))

any_count : (r : Request) (l : Option Posted) → AnyCount (seen_of r l)
any_count r None = inl refl
any_count r (Some posted) = seen_if (is_same_request r posted.request) posted.seen

record GoodCount (delivered accepted : ℕ) (xs : List ℕ) : Type 0 where
  count : ℕ
  is : xs ≡ count ∷ []
  within : IsCountWithin count delivered accepted

good_count : (delivered accepted : ℕ) (r : Request) (l : Option Posted) → LatchHolds delivered accepted r l → GoodCount delivered accepted (seen_of r l)
good_count delivered accepted r l h = record {
  count = h.seen;
  is = ap (seen_of r) h.is ∙ subst (λ (b : Bool). (if b then h.seen ∷ [] else []) ≡ h.seen ∷ []) (sym (same_self r)) refl;
  within = record { from = h.from; to = h.to };
}

-- two places of the counts are right
two_fit : (seen : List ℕ) (delivered accepted first second : ℕ) → length seen ≤ 3 → first < length seen → second < length seen → first ≢ second → IsCountWithin (slice_index seen first) delivered accepted →
    IsCountWithin (slice_index seen second) delivered accepted → TwoCountsFit seen delivered accepted
two_fit seen delivered accepted first second short first_in second_in apart a b = record {
  at_most_three = short;
  first = first;
  second = second;
  first_in = first_in;
  second_in = second_in;
  apart = apart;
  first_from = a.from;
  first_to = a.to;
  second_from = b.from;
  second_to = b.to;
}

abbrev Fits : ℕ → ℕ → List ℕ → List ℕ → List ℕ → Type 0
Fits low high xs ys zs = TwoCountsFit (xs ++ (ys ++ zs)) low high

fits_first : (low high : ℕ) (xs ys zs : List ℕ) → GoodCount low high xs → GoodCount low high ys → AnyCount zs → Fits low high xs ys zs
fits_first low high xs ys zs a b c =
    subst (λ (x : List ℕ). Fits low high x ys zs) (sym a.is) (subst (λ (y : List ℕ). Fits low high (a.count ∷ []) y zs) (sym b.is) (elim c [
      | inl none ↦ subst (λ (z : List ℕ). Fits low high (a.count ∷ []) (b.count ∷ []) z) (sym none) (two_fit (a.count ∷ b.count ∷ []) low high 0 1 (omega arith) (omega arith) (omega arith) (omega arith) a.within b.within)
      | inr one ↦ subst (λ (z : List ℕ). Fits low high (a.count ∷ []) (b.count ∷ []) z) (sym one.1) (two_fit (a.count ∷ b.count ∷ one.0 ∷ []) low high 0 1 (omega arith) (omega arith) (omega arith) (omega arith) a.within b.within)
    ]))

fits_outer : (low high : ℕ) (xs ys zs : List ℕ) → GoodCount low high xs → AnyCount ys → GoodCount low high zs → Fits low high xs ys zs
fits_outer low high xs ys zs a b c =
    subst (λ (x : List ℕ). Fits low high x ys zs) (sym a.is) (subst (λ (z : List ℕ). Fits low high (a.count ∷ []) ys z) (sym c.is) (elim b [
      | inl none ↦ subst (λ (y : List ℕ). Fits low high (a.count ∷ []) y (c.count ∷ [])) (sym none) (two_fit (a.count ∷ c.count ∷ []) low high 0 1 (omega arith) (omega arith) (omega arith) (omega arith) a.within c.within)
      | inr one ↦ subst (λ (y : List ℕ). Fits low high (a.count ∷ []) y (c.count ∷ [])) (sym one.1) (two_fit (a.count ∷ one.0 ∷ c.count ∷ []) low high 0 2 (omega arith) (omega arith) (omega arith) (omega arith) a.within c.within)
    ]))

fits_last : (low high : ℕ) (xs ys zs : List ℕ) → AnyCount xs → GoodCount low high ys → GoodCount low high zs → Fits low high xs ys zs
fits_last low high xs ys zs a b c =
    subst (λ (y : List ℕ). Fits low high xs y zs) (sym b.is) (subst (λ (z : List ℕ). Fits low high xs (b.count ∷ []) z) (sym c.is) (elim a [
      | inl none ↦ subst (λ (x : List ℕ). Fits low high x (b.count ∷ []) (c.count ∷ [])) (sym none) (two_fit (b.count ∷ c.count ∷ []) low high 0 1 (omega arith) (omega arith) (omega arith) (omega arith) b.within c.within)
      | inr one ↦ subst (λ (x : List ℕ). Fits low high x (b.count ∷ []) (c.count ∷ [])) (sym one.1) (two_fit (one.0 ∷ b.count ∷ c.count ∷ []) low high 1 2 (omega arith) (omega arith) (omega arith) (omega arith) b.within c.within)
    ]))

pub count_within : (k : TriplexCore) (d : TriplexState) (s : Replica) (r : Request) → AllAsk k d s r → IsCountWithin (agreed_count (seen_in d.voter r) d.delivered) d.delivered d.accepted
count_within k d s r h =
    agreed_within (seen_in d.voter r) d.delivered d.accepted (elim (either_good d.tainted 0 1 (omega arith)) [
      | inl zero_good ↦ elim (either_good d.tainted 1 2 (omega arith)) [
        | inl one_good ↦ fits_first d.delivered d.accepted _ _ _ (at 0 (omega arith) zero_good) (at 1 (omega arith) one_good) (any_count r (latch_of d.voter 2))
        | inr last_good ↦ fits_outer d.delivered d.accepted _ _ _ (at 0 (omega arith) zero_good) (any_count r (latch_of d.voter 1)) (at 2 (omega arith) last_good)
      ]
      | inr one_good ↦ elim (either_good d.tainted 0 2 (omega arith)) [
        | inl zero_good ↦ fits_first d.delivered d.accepted _ _ _ (at 0 (omega arith) zero_good) (at 1 (omega arith) one_good) (any_count r (latch_of d.voter 2))
        | inr last_good ↦ fits_last d.delivered d.accepted _ _ _ (any_count r (latch_of d.voter 0)) (at 1 (omega arith) one_good) (at 2 (omega arith) last_good)
      ]
    ])
  where
    at : (p : ℕ) → p < 3 → IsGood d p → GoodCount d.delivered d.accepted (seen_of r (latch_of d.voter p))
    at p hp g = good_count d.delivered d.accepted r (latch_of d.voter p) (h.latched p hp g)
