-- Events are delivered in the order in which they were accepted, and none that all good processors saw waits on.
use Rattle.std.proofs.Common.{◌≡◌, ℕ, zero, suc, ◌+◌, ◌-◌, ◌<◌, ◌≤◌, List, [], ◌∷◌, ◌++◌, length, take, drop, refl, sym, ap, subst, inl, inr, ◌∙◌, arith}
use Rattle.std.specs.Prelude.{Bool, true, false, ◌⊎◌, nat_lt, nat_le, slice_index, Some, None, if◌then◌else◌}
use Rattle.std.specs.declared.option.Option.{Option}
use Rattle.std.proofs.lemmas.List.{append-nil, take-append-drop}
use Rattle.std.proofs.lemmas.Bool.Decides.{nat_tests}
use Rattle.s2_base.specs.Map.{place_at}
use Rattle.s2_ports.specs.declared.events.Event.{Event}
use Rattle.s2_ports.specs.declared.events.Event.TheVariants.{Private}
use Rattle.s2_ports.specs.declared.requests.Request.{Request}
use Rattle.s2_ports.specs.declared.requests.Kind.{Kind}
use Rattle.s2_ports.specs.declared.requests.Kind.TheVariants.{Load, Store, Sync}
use Rattle.s2_ports.specs.declared.requests.Posted.{Posted}
use Rattle.s2_agree.specs.AgreedCount.{inserted, lower_median, agreed_count}
use Rattle.s2_voter.specs.declared.verdicts.Verdict.{Verdict}
use Rattle.s2_voter.specs.declared.verdicts.Verdict.TheVariants.{Waiting, Done, Split}
use Rattle.s2_voter.specs.RequestEquality.{is_same_request}
use Rattle.s2_voter.specs.VoterState.{latch_of}
use Rattle.s2_voter.proofs.EqualRequests.{same_self}
use Rattle.s2_join.specs.declared.item.Item.{Item}
use Rattle.s2_join.specs.declared.item.Item.TheVariants.{Local, Saved}
use Rattle.s2_join.specs.CopyOrder.{is_last_item}
use Rattle.s2_machine.specs.Cores.{is_sync}
use Rattle.s2_machine.specs.PrivateArea.{is_private_place}
use Rattle.s2_script.specs.declared.entry.Act.TheVariants.{Event as EventAct, Poke, PokeLocal, Drive, Mute, Remove, Revive, Board, Mend}
use Rattle.s2_triplex.specs.declared.numbers.TheConstants.{INBOX_EVENTS}
use Rattle.s2_triplex.specs.TriplexCores.{TriplexCore}
use Rattle.s2_triplex.specs.TriplexState.{TriplexState, Reintegration}
use Rattle.s2_triplex.specs.VotedAccess.{deliveries_at, seen_of, seen_in, access_of_kind}
use Rattle.s2_triplex.specs.WaitingEvents.{AreFromOutside, from_outside}
use Rattle.s2_triplex.specs.TickFirings.{after_firings}
use Rattle.s2_triplex.specs.VoterDecision.{no_effects, after_verdict, tick_verdict, voted, is_sync_verdict}
use Rattle.s2_triplex.specs.CopyHolds.{hold_begun, hold_begun_if, is_holding, after_idle_tick, saved_word_copied, item_copied, copied, after_hold_tick}
use Rattle.s2_triplex.specs.TickStep.{after_working_tick}
use Rattle.s2_triplex.specs.ActStep.{is_revivable, revived}
use Rattle.s2_triplex_laws.specs.LatchAgreement.{IsGood}
use Rattle.s2_triplex_laws.specs.EventOrder.{events_of, TicksDeliverInOrder, ActsAcceptInOrder, FrameEndsDeliverWhatWasSeen}
use Rattle.s2_triplex_laws.proofs.SlowestProcessor.{either_good}
use Rattle.s2_triplex_laws.proofs.MaskingLaws.{decisions_are_right}

-- the events that are delivered, and those that are left
events_at : (run : ℕ) (es : List Event) → events_of (deliveries_at run es) ≡ es
events_at run [] = refl
events_at run (e ∷ es) = ap (λ (xs : List Event). e ∷ xs) (events_at run es)

all_outside : (es : List Event) → AreFromOutside es → from_outside es ≡ es
all_outside [] h = refl
all_outside (e ∷ es) h = subst (λ (b : Bool). (if b then e ∷ from_outside es else from_outside es) ≡ e ∷ es) (sym h.0) (ap (λ (xs : List Event). e ∷ xs) (all_outside es h.1))

pub take_outside : (n : ℕ) (es : List Event) → AreFromOutside es → AreFromOutside (take n es)
take_outside zero es h = tt
take_outside (suc n) [] h = tt
take_outside (suc n) (e ∷ es) h = (h.0, take_outside n es h.1)

-- private values do not come from outside
none_outside : (run : ℕ) (b : Bool) (x y z : ℕ) → from_outside (events_of (deliveries_at run (if b then Private x y z ∷ [] else []))) ≡ []
none_outside run true x y z = refl
none_outside run false x y z = refl

access_in_order : (k : TriplexCore) (d : TriplexState) (r : Request) (kind : Kind) → AreFromOutside d.inbox → from_outside (events_of (access_of_kind k d r kind).deliveries) ++ (access_of_kind k d r kind).inbox ≡ d.inbox
access_in_order k d r Sync h =
    let n = agreed_count (seen_in d.voter r) d.delivered - d.delivered in
    ap (λ (xs : List Event). from_outside xs ++ drop n d.inbox) (events_at r.run (take n d.inbox)) ∙
    (ap (λ (xs : List Event). xs ++ drop n d.inbox) (all_outside (take n d.inbox) (take_outside n d.inbox h)) ∙ take-append-drop n d.inbox)
access_in_order k d r Load h = refl
access_in_order k d r Store h = ap (λ (xs : List Event). xs ++ d.inbox) (none_outside r.run (is_private_place (place_at r.address)) _ _ _)

verdict_in_order : (k : TriplexCore) (d : TriplexState) (v : Verdict) → AreFromOutside d.inbox → from_outside (events_of (after_verdict k d v).effects.deliveries) ++ (after_verdict k d v).next.inbox ≡ d.inbox
verdict_in_order k d Waiting h = refl
verdict_in_order k d Split h = refl
verdict_in_order k d (Done r differ late) h = access_in_order k d r r.kind h

-- a reintegration leaves them
begun_inbox : (d : TriplexState) (o : Option Reintegration) → (hold_begun d o).inbox ≡ d.inbox
begun_inbox d None = refl
begun_inbox d (Some j) = refl

begun_if_inbox : (b : Bool) (d : TriplexState) → (hold_begun_if b d).inbox ≡ d.inbox
begun_if_inbox true d = begun_inbox d d.reintegration
begun_if_inbox false d = refl

saved_inbox : (b : Bool) (d : TriplexState) (j : Reintegration) → (saved_word_copied b d j).inbox ≡ d.inbox
saved_inbox true d j = refl
saved_inbox false d j = refl

item_inbox : (d : TriplexState) (j : Reintegration) (items : List Item) → (item_copied d j items).inbox ≡ d.inbox
item_inbox d j [] = refl
item_inbox d j (Local i ∷ left) = refl
item_inbox d j (Saved n ∷ left) = saved_inbox (is_last_item (Saved n)) d j

copied_inbox : (d : TriplexState) (o : Option Reintegration) → (copied d o).inbox ≡ d.inbox
copied_inbox d None = refl
copied_inbox d (Some j) = item_inbox d j j.copying.left

pub ticks_in_order : TicksDeliverInOrder
ticks_in_order k d mask h = by_hold (is_holding d.reintegration)
  where
    by_hold : (b : Bool) → let s = if b then record { next = after_hold_tick d mask; effects = no_effects } else after_working_tick k d mask in from_outside (events_of s.effects.deliveries) ++ s.next.inbox ≡ d.inbox
    by_hold true = copied_inbox (after_idle_tick d mask) d.reintegration
    by_hold false =
        ap (λ (xs : List Event). from_outside (events_of (voted k d mask).effects.deliveries) ++ xs) (begun_if_inbox (is_sync_verdict (tick_verdict k d mask)) (voted k d mask).next) ∙
        verdict_in_order k (after_firings k d mask) (tick_verdict k d mask) h

-- acts
received_inbox : (b : Bool) (d : TriplexState) (event : Event) → (if b then record d { inbox = d.inbox ++ event ∷ []; accepted = d.accepted + 1 } else d).inbox ≡ d.inbox ++ (if b then event ∷ [] else [])
received_inbox true d event = refl
received_inbox false d event = sym (append-nil d.inbox)

revived_inbox : (b : Bool) (p : ℕ) (d : TriplexState) → (if b then revived p d else d).inbox ≡ d.inbox
revived_inbox true p d = refl
revived_inbox false p d = refl

pub acts_in_order : ActsAcceptInOrder
acts_in_order d (EventAct event) = received_inbox (nat_lt (length d.inbox) INBOX_EVENTS) d event
acts_in_order d (Poke p k v) = sym (append-nil d.inbox)
acts_in_order d (PokeLocal p i v) = sym (append-nil d.inbox)
acts_in_order d (Drive p posted) = sym (append-nil d.inbox)
acts_in_order d (Mute p) = sym (append-nil d.inbox)
acts_in_order d (Remove p) = sym (append-nil d.inbox)
acts_in_order d (Revive p) = revived_inbox (is_revivable p d) p d ∙ sym (append-nil d.inbox)
acts_in_order d (Board fault) = sym (append-nil d.inbox)
acts_in_order d (Mend board) = sym (append-nil d.inbox)

-- the lower median of counts of which two reach a number reaches it
two_reach : (n a b : ℕ) → n ≤ a → n ≤ b → n ≤ lower_median (a ∷ b ∷ [])
two_reach n a b x y = by_test (nat_le a b)
  where
    by_test : (t : Bool) → n ≤ slice_index (if t then a ∷ b ∷ [] else (b ∷ a ∷ [])) 0
    by_test true = x
    by_test false = y

data TwoReach (n a b c : ℕ) : Type 0 where
  first : n ≤ a → n ≤ b → TwoReach n a b c
  outer : n ≤ a → n ≤ c → TwoReach n a b c
  last : n ≤ b → n ≤ c → TwoReach n a b c

in_order : (n a b c : ℕ) → b ≤ c → TwoReach n a b c → n ≤ slice_index (inserted a (b ∷ c ∷ [])) 1
in_order n a b c h t = by_tests (nat_le a b) (nat_le a c) refl refl t
  where
    by_tests : (x y : Bool) → nat_le a b ≡ x → nat_le a c ≡ y → TwoReach n a b c → n ≤ slice_index (if x then a ∷ b ∷ c ∷ [] else (b ∷ (if y then a ∷ c ∷ [] else (c ∷ a ∷ [])))) 1
    by_tests true y ex ey (first p q) = q
    by_tests true y ex ey (outer p q) = let low : a ≤ b = grind (arith, nat_tests) in omega arith
    by_tests true y ex ey (last p q) = p
    by_tests false true ex ey (first p q) = p
    by_tests false true ex ey (outer p q) = p
    by_tests false true ex ey (last p q) = let low : b < a = grind (arith, nat_tests) in omega arith
    by_tests false false ex ey (first p q) = omega arith
    by_tests false false ex ey (outer p q) = q
    by_tests false false ex ey (last p q) = q

three_reach : (n a b c : ℕ) → TwoReach n a b c → n ≤ lower_median (a ∷ b ∷ c ∷ [])
three_reach n a b c t = by_test (nat_le b c) refl t
  where
    by_test : (x : Bool) → nat_le b c ≡ x → TwoReach n a b c → n ≤ slice_index (inserted a (if x then b ∷ c ∷ [] else (c ∷ b ∷ []))) 1
    by_test true ex t = in_order n a b c (grind (arith, nat_tests)) t
    by_test false ex (first p q) = in_order n a c b (let h : c ≤ b = grind (arith, nat_tests) in h) (outer p q)
    by_test false ex (outer p q) = in_order n a c b (let h : c ≤ b = grind (arith, nat_tests) in h) (first p q)
    by_test false ex (last p q) = in_order n a c b (let h : c ≤ b = grind (arith, nat_tests) in h) (last q p)

-- what a latch adds to the counts: nothing or one; that of a good processor, one that it saw
abbrev AnyCount : List ℕ → Type 0
AnyCount xs = (xs ≡ []) ⊎ ((m : ℕ) × (xs ≡ m ∷ []))

any_if : (b : Bool) (n : ℕ) → AnyCount (if b then n ∷ [] else [])
any_if true n = inr (n, refl)
any_if false n = inl refl

any_count : (r : Request) (l : Option Posted) → AnyCount (seen_of r l)
any_count r None = inl refl
any_count r (Some posted) = any_if (is_same_request r posted.request) posted.seen

abbrev SawCount : ℕ → List ℕ → Type 0
SawCount n xs = (m : ℕ) × (xs ≡ m ∷ []) × (n ≤ m)

saw_count : (n seen : ℕ) (r : Request) (l : Option Posted) → l ≡ Some (record { request = r; seen = seen }) → n ≤ seen → SawCount n (seen_of r l)
saw_count n seen r l e h = (seen, ap (seen_of r) e ∙ subst (λ (b : Bool). (if b then seen ∷ [] else []) ≡ seen ∷ []) (sym (same_self r)) refl, h)

abbrev Reaches : ℕ → List ℕ → List ℕ → List ℕ → Type 0
Reaches n xs ys zs = n ≤ lower_median (xs ++ (ys ++ zs))

reach_first : (n : ℕ) (xs ys zs : List ℕ) → SawCount n xs → SawCount n ys → AnyCount zs → Reaches n xs ys zs
reach_first n xs ys zs a b c =
    subst (λ (x : List ℕ). Reaches n x ys zs) (sym a.1) (subst (λ (y : List ℕ). Reaches n (a.0 ∷ []) y zs) (sym b.1) (elim c [
      | inl none ↦ subst (λ (z : List ℕ). Reaches n (a.0 ∷ []) (b.0 ∷ []) z) (sym none) (two_reach n a.0 b.0 a.2 b.2)
      | inr one ↦ subst (λ (z : List ℕ). Reaches n (a.0 ∷ []) (b.0 ∷ []) z) (sym one.1) (three_reach n a.0 b.0 one.0 (first a.2 b.2))
    ]))

reach_outer : (n : ℕ) (xs ys zs : List ℕ) → SawCount n xs → AnyCount ys → SawCount n zs → Reaches n xs ys zs
reach_outer n xs ys zs a b c =
    subst (λ (x : List ℕ). Reaches n x ys zs) (sym a.1) (subst (λ (z : List ℕ). Reaches n (a.0 ∷ []) ys z) (sym c.1) (elim b [
      | inl none ↦ subst (λ (y : List ℕ). Reaches n (a.0 ∷ []) y (c.0 ∷ [])) (sym none) (two_reach n a.0 c.0 a.2 c.2)
      | inr one ↦ subst (λ (y : List ℕ). Reaches n (a.0 ∷ []) y (c.0 ∷ [])) (sym one.1) (three_reach n a.0 one.0 c.0 (outer a.2 c.2))
    ]))

reach_last : (n : ℕ) (xs ys zs : List ℕ) → AnyCount xs → SawCount n ys → SawCount n zs → Reaches n xs ys zs
reach_last n xs ys zs a b c =
    subst (λ (y : List ℕ). Reaches n xs y zs) (sym b.1) (subst (λ (z : List ℕ). Reaches n xs (b.0 ∷ []) z) (sym c.1) (elim a [
      | inl none ↦ subst (λ (x : List ℕ). Reaches n x (b.0 ∷ []) (c.0 ∷ [])) (sym none) (two_reach n b.0 c.0 b.2 c.2)
      | inr one ↦ subst (λ (x : List ℕ). Reaches n x (b.0 ∷ []) (c.0 ∷ [])) (sym one.1) (three_reach n one.0 b.0 c.0 (last b.2 c.2))
    ]))

-- a frame's end moves the count of delivered events to the agreed one
pub delivered_by : (k : TriplexCore) (d : TriplexState) (r : Request) (kind : Kind) → is_sync kind ≡ true → (access_of_kind k d r kind).delivered ≡ agreed_count (seen_in d.voter r) d.delivered
delivered_by k d r Sync h = refl
delivered_by k d r Load h = absurd cc
delivered_by k d r Store h = absurd cc

pub seen_is_delivered : FrameEndsDeliverWhatWasSeen
seen_is_delivered k d r differ late count masking latched done sync saw =
    let facts = decisions_are_right k d r differ late masking latched done in
    let at : (p : ℕ) → p < 3 → IsGood d p → SawCount count (seen_of r (latch_of d.voter p)) =
    λ p hp g. let l = facts.latched p hp g in saw_count count l.0 r (latch_of d.voter p) l.1 (saw p hp g (record { request = r; seen = l.0 }) l.1) in
    let reach : count ≤ lower_median (seen_in d.voter r) = elim (either_good d.tainted 0 1 (omega arith)) [
      | inl zero_good ↦ elim (either_good d.tainted 1 2 (omega arith)) [
        | inl one_good ↦ reach_first count _ _ _ (at 0 (omega arith) zero_good) (at 1 (omega arith) one_good) (any_count r (latch_of d.voter 2))
        | inr last_good ↦ reach_outer count _ _ _ (at 0 (omega arith) zero_good) (any_count r (latch_of d.voter 1)) (at 2 (omega arith) last_good)
      ]
      | inr one_good ↦ elim (either_good d.tainted 0 2 (omega arith)) [
        | inl zero_good ↦ reach_first count _ _ _ (at 0 (omega arith) zero_good) (at 1 (omega arith) one_good) (any_count r (latch_of d.voter 2))
        | inr last_good ↦ reach_last count _ _ _ (any_count r (latch_of d.voter 0)) (at 1 (omega arith) one_good) (at 2 (omega arith) last_good)
      ]
    ] in
    let is = delivered_by k d r r.kind sync in
    omega arith
