-- A Sync that sets words to be copied, after which the machine holds.
use Rattle.std.proofs.Common.{◌≡◌, ℕ, zero, suc, ◌<◌, ◌≢◌, List, [], ◌∷◌, length, refl, sym, ap, subst, ◌∙◌, arith}
use Rattle.std.specs.Prelude.{Bool, true, false, not, ◌==◌, Some, None, replicate, slice_index_or, if◌then◌else◌}
use Rattle.std.specs.declared.option.Option.{Option}
use Rattle.std.proofs.lemmas.Bool.Decides.{nat_tests}
use Rattle.std.proofs.lemmas.List.{length-replicate}
use Rattle.s2_ports.specs.declared.requests.Posted.{Posted}
use Rattle.s2_clock.specs.ClockWatch.{window_at}
use Rattle.s2_join.specs.CopyOrder.{CopyState, copy_after_sync, copy_after_single_page, copy_after_closing, is_single_page_sync, none_left, unclean_pages}
use Rattle.s2_voter.specs.VoterState.{VoterState, is_member}
use Rattle.s2_machine.specs.Cores.{mark_at}
use Rattle.s2_plant_laws.specs.ClockPace.{ClockData}
use Rattle.s2_plant_laws.specs.LocalReplicas.{replica_marks, lowest_beside, lowest_member as lowest_of_replicas, IsMember, MembersEqual}
use Rattle.s2_plant_laws.proofs.CopiedPages.{lowest_is_member, copied_pages_after_sync}
use Rattle.s2_triplex.specs.TriplexCores.{TriplexCore}
use Rattle.s2_triplex.specs.ModuleState.{ModuleState, Replica, replica_of, after_local_cycles, no_marks}
use Rattle.s2_triplex.specs.TriplexState.{TriplexState, Reintegration, module_at, membership_at, posted_at, is_good}
use Rattle.s2_triplex.specs.ReferenceMachine.{slowest}
use Rattle.s2_triplex.specs.CopyHolds.{lowest_member, clean_without, copying_after_sync, unmarked_if, unmarked_at, hold_begun}
use Rattle.s2_triplex_laws.specs.LatchAgreement.{IsGood, LatchAgreement}
use Rattle.s2_triplex_laws.specs.ReplicaEquality.{ReplicaEquality, posting_ticks}
use Rattle.s2_triplex_laws.specs.TriplexInvariant.{clock_data, skew_data}
use Rattle.s2_triplex_laws.specs.RepairInvariant.{local_replicas, IsOpenReintegration, RepairInvariant}
use Rattle.s2_triplex_laws.proofs.SlowestProcessor.{slowest_is}
use Rattle.s2_triplex_laws.proofs.Firings.{good_member, port_moved}
use Rattle.s2_triplex_laws.proofs.LocalReplicas.{local_of_is, marks_of_is}
use Rattle.s2_triplex_laws.proofs.RepairDuringTicks.{joining_out}

-- right after a resume, all good processors are at the start
pub now_replica : (k : TriplexCore) (d : TriplexState) (a : ReplicaEquality k d) → d.resumed ≡ d.ticks → (p : ℕ) → p < 3 → IsGood d p → replica_of (module_at d.modules p) ≡ a.start
now_replica k d a now p hp g =
    let x = a.each p hp g in
    let spent = x.spent in
    let none : x.cycles ≡ 0 = omega arith in
    x.is ∙ ap (λ (i : ℕ). after_local_cycles k i a.start) none

pub now_empty : (k : TriplexCore) (d : TriplexState) (a : ReplicaEquality k d) → d.resumed ≡ d.ticks → (p : ℕ) → p < 3 → IsGood d p → (module_at d.modules p).port ≡ None
now_empty k d a now p hp g = let x = a.each p hp g in let spent = x.spent in none_is (module_at d.modules p).port (omega arith)
  where
    none_is : (port : Option Posted) → posting_ticks port ≡ 0 → port ≡ None
    none_is None h = refl
    none_is (Some posted) h = absurd (omega arith)

-- the lowest member is good
pub good_other : (d : TriplexState) (j : Reintegration) (q : ℕ) → IsOpenReintegration d j → j.copying.joiner ≢ q → IsGood d q
good_other d j q o ne = subst (λ (t : Option ℕ). is_good t q ≡ true) (sym o.tainted) (by_test (j.copying.joiner == q) refl)
  where
    by_test : (b : Bool) → (j.copying.joiner == q) ≡ b → not b ≡ true
    by_test true e = absurd (grind (arith, nat_tests))
    by_test false e = refl

-- where some processor is a member, the lowest one is
lowest_is_in : (v : VoterState) (p : ℕ) → p < 3 → is_member v p ≡ true → (lowest_member v < 3) × (is_member v (lowest_member v) ≡ true)
lowest_is_in v p hp h = by_first (is_member v 0) (is_member v 1) refl refl
  where
    last : (p : ℕ) → p < 3 → is_member v p ≡ true → is_member v 0 ≡ false → is_member v 1 ≡ false → is_member v 2 ≡ true
    last zero hp h x y = absurd cc
    last (suc zero) hp h x y = absurd cc
    last (suc (suc zero)) hp h x y = h
    last (suc (suc (suc p))) hp h x y = absurd (omega arith)

    by_first : (a b : Bool) → is_member v 0 ≡ a → is_member v 1 ≡ b → ((if a then 0 else if b then 1 else 2) < 3) × (is_member v (if a then 0 else if b then 1 else 2) ≡ true)
    by_first true b x y = (omega arith, x)
    by_first false true x y = (omega arith, y)
    by_first false false x y = (omega arith, last p hp h x y)

pub record LowestMember (d : TriplexState) : Type 0 where
  pub low : lowest_member d.voter < 3
  pub good : IsGood d (lowest_member d.voter)

pub lowest_good : (k : TriplexCore) (d : TriplexState) (j : Reintegration) → LatchAgreement k d → IsOpenReintegration d j → LowestMember d
lowest_good k d j h o =
    let p = slowest_is d.tainted d.modules in
    let l = lowest_is_in d.voter (slowest d.tainted d.modules) p.low (good_member k d (slowest d.tainted d.modules) p.low p.good h) in
    record { low = l.0; good = good_other d j (lowest_member d.voter) o (λ e. clash (is_member d.voter (lowest_member d.voter)) l.1 (ap (is_member d.voter) (sym e) ∙ joining_out k d j h o)) }
  where
    clash : (b : Bool) → b ≡ true → b ≡ false → ⊥
    clash b x y = cc

some_is : (x y : Reintegration) → Some x ≡ Some y → x ≡ y
some_is x y h = cc

-- a Sync keeps the processor that joins
one_joiner : (c : CopyState) (pages : List ℕ) → (copy_after_single_page c pages).joiner ≡ c.joiner
one_joiner c [] = refl
one_joiner c (page ∷ pages) = refl

sync_joiner : (c : CopyState) → (copy_after_sync c).joiner ≡ c.joiner
sync_joiner c = by_test (is_single_page_sync c)
  where
    by_test : (b : Bool) → (if b then copy_after_single_page c (unclean_pages c.clean c.cursor) else copy_after_closing c (unclean_pages c.clean c.cursor)).joiner ≡ c.joiner
    by_test true = one_joiner c (unclean_pages c.clean c.cursor)
    by_test false = refl

-- the reintegration after a Sync
abbrev pub repair_after_sync : TriplexState → Reintegration → Reintegration
repair_after_sync d j = record j { copying = copying_after_sync d j.copying }

pub joiner_same : (d : TriplexState) (j : Reintegration) → (repair_after_sync d j).copying.joiner ≡ j.copying.joiner
joiner_same d j = sync_joiner (record j.copying { clean = clean_without j.copying.clean (module_at d.modules (lowest_member d.voter)).marks })

-- no page is marked
replicated_mark : (n page : ℕ) → slice_index_or (replicate n false) page false ≡ false
replicated_mark zero page = refl
replicated_mark (suc n) zero = refl
replicated_mark (suc n) (suc page) = replicated_mark n page

pub no_mark : (page : ℕ) → mark_at no_marks page ≡ false
unfolding no_marks
no_mark page = replicated_mark 272 page

pub no_marks_length : length no_marks ≡ 272
unfolding no_marks
no_marks_length = length-replicate 272 false

-- clearing changes the marks alone
pub record ClearsModule (m n : ModuleState) : Type 0 where
  pub replica : replica_of n ≡ replica_of m
  pub fires : n.fires ≡ m.fires
  pub muted : n.muted ≡ m.muted
  pub port : n.port ≡ m.port
  pub size : length m.marks ≡ 272 → length n.marks ≡ 272

clears_by : (b : Bool) (m : ModuleState) → ClearsModule m (unmarked_if b m)
clears_by true m = record { replica = refl; fires = refl; muted = refl; port = refl; size = λ h. no_marks_length }
clears_by false m = record { replica = refl; fires = refl; muted = refl; port = refl; size = λ h. h }

cleared_is : (d : TriplexState) (j : Reintegration) (p : ℕ) → p < 3 → module_at (hold_begun d (Some j)).modules p ≡ unmarked_at d p
cleared_is d j zero h = refl
cleared_is d j (suc zero) h = refl
cleared_is d j (suc (suc zero)) h = refl
cleared_is d j (suc (suc (suc p))) h = absurd (omega arith)

pub clears_at : (d : TriplexState) (j : Reintegration) (p : ℕ) → p < 3 → ClearsModule (module_at d.modules p) (module_at (hold_begun d (Some j)).modules p)
clears_at d j p hp = subst (λ (n : ModuleState). ClearsModule (module_at d.modules p) n) (sym (cleared_is d j p hp)) (clears_by (is_member d.voter p) (module_at d.modules p))

clock_clear : (b : Bool) (m : ModuleState) (posted : ℕ) (window : List Bool) → clock_data (unmarked_if b m) posted window ≡ clock_data m posted window
clock_clear true m posted window = refl
clock_clear false m posted window = refl

three_same : (a b c x y z : ClockData) → a ≡ x → b ≡ y → c ≡ z → (a ∷ b ∷ c ∷ []) ≡ (x ∷ y ∷ z ∷ [])
three_same a b c x y z ea eb ec = cc

pub skew_same : (d : TriplexState) (j : Reintegration) → skew_data (hold_begun d (Some j)) ≡ skew_data d
skew_same d j =
    ap (λ (cs : List ClockData). record (skew_data d) { clocks = cs }) (three_same _ _ _ _ _ _ (clock_clear (is_member d.voter 0) (module_at d.modules 0) (posted_at d.posted 0) (window_at d.windows 0))
    (clock_clear (is_member d.voter 1) (module_at d.modules 1) (posted_at d.posted 1) (window_at d.windows 1)) (clock_clear (is_member d.voter 2) (module_at d.modules 2) (posted_at d.posted 2) (window_at d.windows 2)))

-- the lowest member is the lower of the two others
pub lowest_is : (k : TriplexCore) (d : TriplexState) (j : Reintegration) → LatchAgreement k d → IsOpenReintegration d j → lowest_member d.voter ≡ lowest_of_replicas (local_replicas d j)
lowest_is k d j h o = by_joiner j.copying.joiner o.copied.joiner refl
  where
    member : (p : ℕ) → p < 3 → j.copying.joiner ≢ p → is_member d.voter p ≡ true
    member p hp ne = good_member k d p hp (good_other d j p o ne) h

    first : (b : Bool) → is_member d.voter 0 ≡ b → b ≡ true → lowest_member d.voter ≡ 0
    first b e t = ap (λ (x : Bool). if x then 0 else if is_member d.voter 1 then 1 else 2) (e ∙ t)

    by_joiner : (p : ℕ) → p < 3 → j.copying.joiner ≡ p → lowest_member d.voter ≡ lowest_beside j.copying.joiner
    by_joiner zero hp is =
        let out : is_member d.voter 0 ≡ false = ap (is_member d.voter) (sym is) ∙ joining_out k d j h o in
        let next : is_member d.voter 1 ≡ true = member 1 (omega arith) (λ e. omega arith) in
        ap (λ (x : Bool). if x then 0 else if is_member d.voter 1 then 1 else 2) out ∙ (ap (λ (x : Bool). if x then 1 else 2) next ∙ ap lowest_beside (sym is))
    by_joiner (suc zero) hp is = first (is_member d.voter 0) refl (member 0 (omega arith) (λ e. omega arith)) ∙ ap lowest_beside (sym is)
    by_joiner (suc (suc zero)) hp is = first (is_member d.voter 0) refl (member 0 (omega arith) (λ e. omega arith)) ∙ ap lowest_beside (sym is)
    by_joiner (suc (suc (suc p))) hp is = absurd (omega arith)

-- the two others are good, and equal where no time has passed
pub member_good : (d : TriplexState) (j : Reintegration) (q : ℕ) → IsOpenReintegration d j → IsMember (local_replicas d j) q → IsGood d q
member_good d j q o m = good_other d j q o (λ e. m.1 (sym e))

pub members_equal : (k : TriplexCore) (d : TriplexState) (j : Reintegration) (a : ReplicaEquality k d) → LatchAgreement k d → IsOpenReintegration d j → d.resumed ≡ d.ticks → MembersEqual (local_replicas d j)
members_equal k d j a h o now q m =
    let l = lowest_is_member (local_replicas d j) in
    local_of_is d j q m.0 ∙
    (ap (λ (s : Replica). s.local)
    (now_replica k d a now q m.0 (member_good d j q o m) ∙ sym (now_replica k d a now (lowest_of_replicas (local_replicas d j)) l.0 (member_good d j (lowest_of_replicas (local_replicas d j)) o l))) ∙
    sym (local_of_is d j (lowest_of_replicas (local_replicas d j)) l.0))

pub hold_begun_keeps_repair : (k : TriplexCore) (d : TriplexState) (j : Reintegration) → LatchAgreement k d → ReplicaEquality k d → RepairInvariant d → d.reintegration ≡ Some j → d.resumed ≡ d.ticks →
    ((q : ℕ) → q < 3 → IsGood d q → (module_at d.modules q).due ≡ false) → (none_left j.copying.left ≡ true) → RepairInvariant (hold_begun d (Some j))
hold_begun_keeps_repair k d j h a r is now due rest =
    let o = r.opened j is in
    let e = hold_begun d (Some j) in
    let next = repair_after_sync d j in
    let low = lowest_is k d j h o in
    let l = lowest_is_member (local_replicas d j) in
    let marks : (module_at d.modules (lowest_member d.voter)).marks ≡ replica_marks (local_replicas d j) (lowest_of_replicas (local_replicas d j)) =
    ap (λ (p : ℕ). (module_at d.modules p).marks) low ∙ sym (marks_of_is d j (lowest_of_replicas (local_replicas d j)) l.0) in
    record {
      modules = λ p hp.
          let c = clears_at d j p hp in
          let m = r.modules p hp in
          record { fires = subst (λ (f : ℕ). f < 256) (sym c.fires) m.fires; local = ap (λ (s : Replica). length s.local) c.replica ∙ m.local; marks = c.size m.marks; frame = ap (λ (s : Replica). s.frame) c.replica ∙ m.frame };
      fair = r.fair;
      joining = λ p hp joins. let x = r.joining p hp joins in record { of = next; is = refl; joiner = joiner_same d j ∙ (ap (λ (y : Reintegration). y.copying.joiner) (some_is j x.of (sym is ∙ x.is)) ∙ x.joiner) };
      opened = λ x x_is.
          subst (IsOpenReintegration e) (some_is next x x_is) (record {
            membership = ap (membership_at d.memberships) (joiner_same d j) ∙ o.membership;
            tainted = o.tainted ∙ ap (λ (v : ℕ). Some v) (sym (joiner_same d j));
            hold = λ holds. record { now = now; due = λ q hq g. ap (λ (s : Replica). s.due) (clears_at d j q hq).replica ∙ due q hq g };
            copied = copied_pages_after_sync (local_replicas d j) (local_replicas e next) rest (record {
              join = ap (λ (ms : List Bool). copy_after_sync (record j.copying { clean = clean_without j.copying.clean ms })) marks;
              clears = record {
                disturbed = refl;
                locals = λ q hq. local_of_is e next q hq ∙ (ap (λ (s : Replica). s.local) (clears_at d j q hq).replica ∙ sym (local_of_is d j q hq));
                cleared = λ q page m.
                    ap (λ (ms : List Bool). mark_at ms page) (marks_of_is e next q m.0) ∙
                    (ap (λ (n : ModuleState). mark_at n.marks page) (cleared_is d j q m.0 ∙ ap (λ (b : Bool). unmarked_if b (module_at d.modules q)) (good_member k d q m.0 (member_good d j q o m) h)) ∙ no_mark page);
              };
            }) (members_equal k d j a h o now) o.copied;
          });
    }

-- it changes nothing that the reference machine or the skew reads
pub hold_begun_agrees : (k : TriplexCore) (d : TriplexState) (j : Reintegration) → LatchAgreement k d → LatchAgreement k (hold_begun d (Some j))
hold_begun_agrees k d j h = record {
  frame = h.frame;
  timer = h.timer;
  members = h.members;
  voter = h.voter;
  good = λ p hp g.
      let t = h.good p hp g in
      let c = clears_at d j p hp in
      record {
        membership = t.membership;
        awake = c.muted ∙ t.awake;
        port = port_moved k d.delivered d.accepted _ _ _ _ c.replica c.port t.port;
        latch = t.latch ∙ sym c.port;
        lines = ap (λ (s : Replica). s.cpu.lines) c.replica ∙ t.lines;
      };
  inbox = h.inbox;
  room = h.room;
  boards = h.boards;
}

unfoldable pub hold_begun_equal : (k : TriplexCore) (d : TriplexState) (j : Reintegration) → ReplicaEquality k d → ReplicaEquality k (hold_begun d (Some j))
hold_begun_equal k d j a = record {
  start = a.start;
  frame = a.frame;
  at = a.at;
  ends = a.ends;
  low = a.low;
  room = a.room;
  each = λ p hp g.
      let x = a.each p hp g in
      let c = clears_at d j p hp in
      let full = ap posting_ticks c.port in
      let spent = x.spent in
      record { cycles = x.cycles; quiet = x.quiet; is = c.replica ∙ x.is; spent = omega arith };
}
