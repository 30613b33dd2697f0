-- The ticks of a hold, before its end: time passes, and one word is copied.
use Rattle.std.proofs.Common.{◌≡◌, ℕ, zero, suc, ◌+◌, ◌%◌, ◌^◌, ◌<◌, ◌≢◌, List, [], ◌∷◌, length, refl, sym, ap, subst, inl, inr, ◌∙◌, arith}
use Rattle.std.specs.Prelude.{Bool, true, false, not, ◌==◌, Some, None, is_some, ◌⊎◌, slice_set}
use Rattle.std.specs.declared.option.Option.{Option}
use Rattle.std.proofs.lemmas.Bool.Decides.{nat_tests}
use Rattle.std.proofs.Math.ListN.{length-set}
use Rattle.s2_ports.specs.declared.requests.Posted.{Posted}
use Rattle.s2_device.specs.DeviceState.{lines_of}
use Rattle.s2_clock.specs.ClockWatch.{is_firing, slow_of}
use Rattle.s2_join.specs.declared.item.Item.{Item}
use Rattle.s2_join.specs.declared.item.Item.TheVariants.{Local, Saved}
use Rattle.s2_join.specs.CopyOrder.{CopyState, copy_after_first, is_last_item, none_left}
use Rattle.s2_voter.specs.VoterState.{is_member, latch_of}
use Rattle.s2_machine.specs.Cores.{word_at}
use Rattle.s2_plant_laws.specs.LocalReplicas.{replica_words, lowest_member as lowest_of_replicas}
use Rattle.s2_plant_laws.proofs.FairTicks.{stays_fair}
use Rattle.s2_plant_laws.proofs.CopiedPages.{lowest_is_member, copied_pages_after_word}
use Rattle.s2_triplex.specs.TriplexCores.{TriplexCore}
use Rattle.s2_triplex.specs.ModuleState.{ModuleState, Replica, replica_of}
use Rattle.s2_triplex.specs.TriplexState.{TriplexState, Reintegration, module_at, membership_at, is_good}
use Rattle.s2_triplex.specs.CopyHolds.{lowest_member, is_holding, idled_if, idled_at, after_idle_tick, after_copy, word_set_if, word_copied_at, word_copied}
use Rattle.s2_triplex_laws.specs.LatchAgreement.{IsGood, IsOwnPort, LatchAgreement}
use Rattle.s2_triplex_laws.specs.ReplicaEquality.{ReplicaEquality, posting_ticks}
use Rattle.s2_triplex_laws.specs.RepairInvariant.{local_replicas, IsOpenReintegration, ReintegrationOf, RepairInvariant}
use Rattle.s2_triplex_laws.proofs.LatchCounts.{two_of, two_is}
use Rattle.s2_triplex_laws.proofs.Firings.{port_moved}
use Rattle.s2_triplex_laws.proofs.RightDecisions.{tainted_is}
use Rattle.s2_triplex_laws.proofs.LocalReplicas.{local_of_is, marks_of_is, same_copied}
use Rattle.s2_triplex_laws.proofs.RepairDuringTicks.{joining_out, other_good}
use Rattle.s2_triplex_laws.proofs.HoldBegins.{now_replica, now_empty, lowest_is, members_equal, member_good}

some_is : (x y : Reintegration) → Some x ≡ Some y → x ≡ y
some_is x y h = cc

bool_cases : (b : Bool) → (b ≡ true) ⊎ (b ≡ false)
bool_cases true = inl refl
bool_cases false = inr refl

clash : (b : Bool) → b ≡ true → b ≡ false → ⊥
clash b x y = cc

-- no latch is held in a hold
pub no_latch : (k : TriplexCore) (d : TriplexState) (j : Reintegration) → LatchAgreement k d → ReplicaEquality k d → IsOpenReintegration d j → d.resumed ≡ d.ticks → (p : ℕ) → p < 3 → is_some (latch_of d.voter p) ≡ false
no_latch k d j h a o now p hp = elim (bool_cases (is_good d.tainted p)) [
  | inl g ↦ ap (λ (l : Option Posted). is_some l) ((h.good p hp g).latch ∙ now_empty k d a now p hp g)
  | inr bad ↦ (elim (bool_cases (is_some (latch_of d.voter p))) [
    | inl some ↦ absurd (clash (is_member d.voter p) (h.voter.latched p some) (ap (is_member d.voter) (same p j.copying.joiner (sym (tainted_is d.tainted p bad) ∙ o.tainted)) ∙ joining_out k d j h o))
    | inr none ↦ none
  ])
]
  where
    same : (x y : ℕ) → Some x ≡ Some y → x ≡ y
    same x y e = cc

pub no_age : (k : TriplexCore) (d : TriplexState) (j : Reintegration) → LatchAgreement k d → ReplicaEquality k d → IsOpenReintegration d j → d.resumed ≡ d.ticks → d.voter.age ≡ None
no_age k d j h a o now =
    none_is d.voter.age (h.voter.aged ∙ (two_is d.voter.latches h.voter.latches ∙
    two_none _ _ _ (no_latch k d j h a o now 0 (omega arith)) (no_latch k d j h a o now 1 (omega arith)) (no_latch k d j h a o now 2 (omega arith))))
  where
    none_is : (x : Option ℕ) → is_some x ≡ false → x ≡ None
    none_is None e = refl
    none_is (Some v) e = absurd cc

    two_none : (a b c : Bool) → a ≡ false → b ≡ false → c ≡ false → two_of a b c ≡ false
    two_none false false false x y z = refl
    two_none true b c x y z = absurd cc
    two_none false true c x y z = absurd cc
    two_none false false true x y z = absurd cc

-- no module works
idled_is : (d : TriplexState) (mask p : ℕ) → p < 3 → module_at (after_idle_tick d mask).modules p ≡ idled_at d mask p
idled_is d mask zero h = refl
idled_is d mask (suc zero) h = refl
idled_is d mask (suc (suc zero)) h = refl
idled_is d mask (suc (suc (suc p))) h = absurd (omega arith)

pub record IdlesModule (m n : ModuleState) : Type 0 where
  pub replica : replica_of n ≡ replica_of m
  pub muted : n.muted ≡ m.muted
  pub port : n.port ≡ m.port
  pub marks : n.marks ≡ m.marks
  pub fires : m.fires < 256 → n.fires < 256

idles_if : (b : Bool) (m : ModuleState) → IdlesModule m (idled_if b m)
idles_if true m = record { replica = refl; muted = refl; port = refl; marks = refl; fires = λ h. next m.fires }
  where
    next : (f : ℕ) → (f + 1) % 256 < 256
    next f = omega arith
idles_if false m = record { replica = refl; muted = refl; port = refl; marks = refl; fires = λ h. h }

pub idles_at : (d : TriplexState) (mask p : ℕ) → p < 3 → IdlesModule (module_at d.modules p) (module_at (after_idle_tick d mask).modules p)
idles_at d mask p hp = subst (λ (n : ModuleState). IdlesModule (module_at d.modules p) n) (sym (idled_is d mask p hp)) (idles_if (is_firing mask p) (module_at d.modules p))

pub idle_agrees : (k : TriplexCore) (d : TriplexState) (mask : ℕ) → LatchAgreement k d → LatchAgreement k (after_idle_tick d mask)
idle_agrees k d mask h = record {
  frame = h.frame;
  timer = h.timer;
  members = h.members;
  voter = h.voter;
  good = λ p hp g.
      let t = h.good p hp g in
      let i = idles_at d mask p hp in
      record {
        membership = t.membership;
        awake = i.muted ∙ t.awake;
        port = port_moved k d.delivered d.accepted _ _ _ _ i.replica i.port t.port;
        latch = t.latch ∙ sym i.port;
        lines = ap (λ (s : Replica). s.cpu.lines) i.replica ∙ t.lines;
      };
  inbox = h.inbox;
  room = h.room;
  boards = h.boards;
}

unfoldable pub idle_equal : (k : TriplexCore) (d : TriplexState) (mask : ℕ) → ReplicaEquality k d → d.resumed ≡ d.ticks → d.ticks < 2 ^ 40 → ReplicaEquality k (after_idle_tick d mask)
idle_equal k d mask a now room =
    let low = a.low in
    record {
      start = a.start;
      frame = a.frame;
      at = a.at;
      ends = a.ends;
      low = omega arith;
      room = omega arith;
      each = λ p hp g.
          let i = idles_at d mask p hp in
          let empty : posting_ticks (module_at (after_idle_tick d mask).modules p).port ≡ 0 = ap posting_ticks (i.port ∙ now_empty k d a now p hp g) in
          record { cycles = 0; quiet = λ j less. absurd (omega arith); is = i.replica ∙ now_replica k d a now p hp g; spent = omega arith };
    }

pub idle_keeps_repair : (d : TriplexState) (mask : ℕ) (j : Reintegration) → slow_of mask d.tainted d.windows ≡ None → RepairInvariant d → d.reintegration ≡ Some j → is_holding (Some j) ≡ true → RepairInvariant (after_idle_tick d mask)
idle_keeps_repair d mask j slow r is holds = record {
  modules = λ p hp.
      let i = idles_at d mask p hp in
      let m = r.modules p hp in
      record { fires = i.fires m.fires; local = ap (λ (s : Replica). length s.local) i.replica ∙ m.local; marks = ap length i.marks ∙ m.marks; frame = ap (λ (s : Replica). s.frame) i.replica ∙ m.frame };
  fair = stays_fair mask d.tainted d.windows r.fair slow;
  joining = r.joining;
  opened = λ x x_is.
      let o = r.opened x x_is in
      let w = o.hold (subst (λ (y : Reintegration). is_holding (Some y) ≡ true) (some_is j x (sym is ∙ x_is)) holds) in
      record {
        membership = o.membership;
        tainted = o.tainted;
        hold = λ y. record { now = refl; due = λ q hq g. ap (λ (s : Replica). s.due) (idles_at d mask q hq).replica ∙ w.due q hq g };
        copied = same_copied d (after_idle_tick d mask) x (λ q hq. ap (λ (s : Replica). s.local) (idles_at d mask q hq).replica) (λ q hq. (idles_at d mask q hq).marks) o.copied;
      };
}

-- one word is copied
pub copied_is : (d : TriplexState) (j : Reintegration) (i p : ℕ) → p < 3 → module_at (word_copied d j i).modules p ≡ word_copied_at d j i p
copied_is d j i zero h = refl
copied_is d j i (suc zero) h = refl
copied_is d j i (suc (suc zero)) h = refl
copied_is d j i (suc (suc (suc p))) h = absurd (omega arith)

not_it : (p q : ℕ) → p ≢ q → (p == q) ≡ false
not_it p q ne = grind (arith, nat_tests)

is_it : (p : ℕ) → (p == p) ≡ true
is_it p = grind (arith, nat_tests)

pub copied_place : (d : TriplexState) (j : Reintegration) (i q : ℕ) → q < 3 → j.copying.joiner ≢ q → module_at (word_copied d j i).modules q ≡ module_at d.modules q
copied_place d j i q hq ne = copied_is d j i q hq ∙ ap (λ (b : Bool). word_set_if b i (word_at (module_at d.modules (lowest_member d.voter)).local i) (module_at d.modules q)) (not_it j.copying.joiner q ne)

pub copied_other : (d : TriplexState) (j : Reintegration) (i : ℕ) → IsOpenReintegration d j → (q : ℕ) → q < 3 → IsGood d q → module_at (word_copied d j i).modules q ≡ module_at d.modules q
copied_other d j i o q hq g = copied_place d j i q hq (other_good d j q o g)

copied_same : (d : TriplexState) (j : Reintegration) (i : ℕ) → j.copying.joiner < 3 →
    (module_at (word_copied d j i).modules j.copying.joiner).local ≡ slice_set (module_at d.modules j.copying.joiner).local i (word_at (module_at d.modules (lowest_member d.voter)).local i)
copied_same d j i low =
    ap (λ (m : ModuleState). m.local) (copied_is d j i j.copying.joiner low ∙
    ap (λ (b : Bool). word_set_if b i (word_at (module_at d.modules (lowest_member d.voter)).local i) (module_at d.modules j.copying.joiner)) (is_it j.copying.joiner))

pub word_agrees : (k : TriplexCore) (d : TriplexState) (j : Reintegration) (i : ℕ) → IsOpenReintegration d j → LatchAgreement k d → LatchAgreement k (word_copied d j i)
word_agrees k d j i o h = record {
  frame = h.frame;
  timer = h.timer;
  members = h.members;
  voter = h.voter;
  good = λ q hq g.
      let t = h.good q hq g in
      let same = sym (copied_other d j i o q hq g) in
      record {
        membership = t.membership;
        awake = subst (λ (m : ModuleState). m.muted ≡ false) same t.awake;
        port = subst (λ (m : ModuleState). IsOwnPort k d.delivered d.accepted (replica_of m) m.port) same t.port;
        latch = subst (λ (m : ModuleState). latch_of d.voter q ≡ m.port) same t.latch;
        lines = subst (λ (m : ModuleState). m.cpu.lines ≡ lines_of d.device) same t.lines;
      };
  inbox = h.inbox;
  room = h.room;
  boards = h.boards;
}

-- what a copied word leaves of a module
record KeepsSizes (m n : ModuleState) : Type 0 where
  fires : n.fires ≡ m.fires
  local : length n.local ≡ length m.local
  marks : n.marks ≡ m.marks
  frame : n.frame ≡ m.frame

keeps_sizes : (b : Bool) (i v : ℕ) (m : ModuleState) → KeepsSizes m (word_set_if b i v m)
keeps_sizes true i v m = record { fires = refl; local = length-set m.local i v; marks = refl; frame = refl }
keeps_sizes false i v m = record { fires = refl; local = refl; marks = refl; frame = refl }

keeps_at : (d : TriplexState) (j : Reintegration) (i p : ℕ) → p < 3 → KeepsSizes (module_at d.modules p) (module_at (word_copied d j i).modules p)
keeps_at d j i p hp =
    subst (λ (n : ModuleState). KeepsSizes (module_at d.modules p) n) (sym (copied_is d j i p hp)) (keeps_sizes (j.copying.joiner == p) i (word_at (module_at d.modules (lowest_member d.voter)).local i) (module_at d.modules p))

-- a copied word keeps the processor that joins
joiner_after_first : (c : CopyState) (ws : List Item) → (copy_after_first c ws).joiner ≡ c.joiner
joiner_after_first c [] = refl
joiner_after_first c (item ∷ ws) = refl

pub joiner_stays : (j : Reintegration) → (after_copy j).copying.joiner ≡ j.copying.joiner
joiner_stays j = joiner_after_first j.copying j.copying.left

joiner_of : (j : Reintegration) (p : ℕ) (r : Option Reintegration) → r ≡ Some j → ReintegrationOf r p → (after_copy j).copying.joiner ≡ p
joiner_of j p r is x = joiner_stays j ∙ (ap (λ (y : Reintegration). y.copying.joiner) (some_is j x.of (sym is ∙ x.is)) ∙ x.joiner)

-- a word less is to copy
pub word_keeps_repair : (k : TriplexCore) (d : TriplexState) (j : Reintegration) (i : ℕ) (rest : List Item) → LatchAgreement k d → ReplicaEquality k d → RepairInvariant d → d.reintegration ≡ Some j → j.copying.left ≡ Local i ∷ rest → RepairInvariant (word_copied d j i)
word_keeps_repair k d j i rest h a r is words =
    let o = r.opened j is in
    let held : is_holding (Some j) ≡ true = ap (λ (ws : List Item). not (none_left ws)) words in
    let w = o.hold held in
    let low = lowest_is k d j h o in
    let l = lowest_is_member (local_replicas d j) in
    let e = word_copied d j i in
    let next = after_copy j in
    record {
      modules = λ p hp.
          let s = keeps_at d j i p hp in
          let m = r.modules p hp in
          record { fires = subst (λ (f : ℕ). f < 256) (sym s.fires) m.fires; local = s.local ∙ m.local; marks = ap length s.marks ∙ m.marks; frame = s.frame ∙ m.frame };
      fair = r.fair;
      joining = λ p hp joins. record { of = next; is = refl; joiner = joiner_of j p d.reintegration is (r.joining p hp joins) };
      opened = λ x x_is.
          subst (IsOpenReintegration e) (some_is next x x_is) (record {
            membership = ap (membership_at d.memberships) (joiner_stays j) ∙ o.membership;
            tainted = o.tainted ∙ ap (λ (v : ℕ). Some v) (sym (joiner_stays j));
            hold = λ y. record { now = w.now; due = λ q hq g. ap (λ (m : ModuleState). m.due) (copied_other d j i o q hq g) ∙ w.due q hq g };
            copied = copied_pages_after_word (Local i) rest (local_replicas d j) (local_replicas e next) (record {
              next = words;
              join = refl;
              disturbed = refl;
              joining =
                  local_of_is e next j.copying.joiner o.copied.joiner ∙
                  (copied_same d j i o.copied.joiner ∙
                  (ap (λ (ws : List ℕ). slice_set ws i (word_at (module_at d.modules (lowest_member d.voter)).local i)) (sym (local_of_is d j j.copying.joiner o.copied.joiner)) ∙
                  ap (λ (ws : List ℕ). slice_set (replica_words (local_replicas d j) j.copying.joiner) i (word_at ws i)) (ap (λ (p : ℕ). (module_at d.modules p).local) low ∙ sym (local_of_is d j (lowest_of_replicas (local_replicas d j)) l.0))));
              members = λ q m.
                  let same = copied_other d j i o q m.0 (member_good d j q o m) in
                  (local_of_is e next q m.0 ∙ (ap (λ (n : ModuleState). n.local) same ∙ sym (local_of_is d j q m.0)), marks_of_is e next q m.0 ∙ (ap (λ (n : ModuleState). n.marks) same ∙ sym (marks_of_is d j q m.0)));
            }) refl (members_equal k d j a h o w.now) o.copied;
          });
    }

-- one saved word is copied
pub saved_agrees : (k : TriplexCore) (d : TriplexState) (x : Reintegration) → LatchAgreement k d → LatchAgreement k (record d { reintegration = Some x })
saved_agrees k d x h = record {
  frame = h.frame;
  timer = h.timer;
  members = h.members;
  voter = h.voter;
  good = λ q hq g. let t = h.good q hq g in record { membership = t.membership; awake = t.awake; port = t.port; latch = t.latch; lines = t.lines };
  inbox = h.inbox;
  room = h.room;
  boards = h.boards;
}

pub saved_keeps_repair : (k : TriplexCore) (d : TriplexState) (j : Reintegration) (n : ℕ) (rest : List Item) → LatchAgreement k d → ReplicaEquality k d → RepairInvariant d → d.reintegration ≡ Some j → j.copying.left ≡ Saved n ∷ rest → is_last_item (Saved n) ≡ false →
    RepairInvariant (record d { reintegration = Some (after_copy j) })
saved_keeps_repair k d j n rest h a r is words last =
    let o = r.opened j is in
    let held : is_holding (Some j) ≡ true = ap (λ (ws : List Item). not (none_left ws)) words in
    let w = o.hold held in
    let next = after_copy j in
    let e : TriplexState = record d { reintegration = Some next } in
    record {
      modules = r.modules;
      fair = r.fair;
      joining = λ p hp joins. record { of = next; is = refl; joiner = joiner_of j p d.reintegration is (r.joining p hp joins) };
      opened = λ x x_is.
          subst (IsOpenReintegration e) (some_is next x x_is) (record {
            membership = ap (membership_at d.memberships) (joiner_stays j) ∙ o.membership;
            tainted = o.tainted ∙ ap (λ (v : ℕ). Some v) (sym (joiner_stays j));
            hold = λ y. record { now = w.now; due = w.due };
            copied = copied_pages_after_word (Saved n) rest (local_replicas d j) (local_replicas e next) (record {
              next = words;
              join = refl;
              disturbed = refl;
              joining = refl;
              members = λ q m. (refl, refl);
            }) last (members_equal k d j a h o w.now) o.copied;
          });
    }
