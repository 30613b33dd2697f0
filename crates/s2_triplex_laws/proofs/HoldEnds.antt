-- The end of a reintegration.
use Rattle.std.proofs.Common.{◌≡◌, ℕ, zero, suc, ◌<◌, List, [], ◌∷◌, length, refl, sym, ap, subst, inl, inr, ◌∙◌, arith}
use Rattle.std.specs.Prelude.{Bool, true, false, not, ◌==◌, ◌||◌, Some, None, is_some, ◌⊎◌, slice_index_or}
use Rattle.std.specs.declared.option.Option.{Option}
use Rattle.std.proofs.lemmas.Bool.Decides.{nat_tests}
use Rattle.s2_ports.specs.declared.requests.Posted.{Posted}
use Rattle.s2_join.specs.declared.item.Item.{Item}
use Rattle.s2_join.specs.CopyOrder.{is_last_item}
use Rattle.s2_voter.specs.VoterState.{IsVoter, is_member, latch_of}
use Rattle.s2_plant_laws.specs.LocalReplicas.{lowest_member as lowest_of_replicas}
use Rattle.s2_plant_laws.proofs.CopiedPages.{lowest_is_member, lists_equal_at_last_word}
use Rattle.s2_triplex.specs.declared.membership.Membership.{Membership}
use Rattle.s2_triplex.specs.declared.membership.Membership.TheVariants.{In, Joining}
use Rattle.s2_triplex.specs.TriplexCores.{TriplexCore}
use Rattle.s2_triplex.specs.ModuleState.{ModuleState, Replica, replica_of}
use Rattle.s2_triplex.specs.ModuleFaults.{module_restored}
use Rattle.s2_triplex.specs.TriplexState.{TriplexState, Reintegration, module_at, membership_at, is_in, is_good}
use Rattle.s2_triplex.specs.CopyHolds.{lowest_member, membership_joined, tainted_if, joined}
use Rattle.s2_triplex_laws.specs.LatchAgreement.{IsGood, IsOwnPort, LatchAgreement}
use Rattle.s2_triplex_laws.specs.ReplicaEquality.{ReplicaEquality, posting_ticks}
use Rattle.s2_triplex_laws.specs.RepairInvariant.{local_replicas, IsAtHold, IsOpenReintegration, RepairInvariant}
use Rattle.s2_triplex_laws.proofs.LocalReplicas.{local_of_is}
use Rattle.s2_triplex_laws.proofs.HoldBegins.{now_replica, lowest_good, good_other, lowest_is, members_equal, no_marks_length}
use Rattle.s2_triplex_laws.proofs.HoldTicks.{no_latch}

some_is : (x y : Reintegration) → Some x ≡ Some y → x ≡ y
some_is x y h = cc

clash : (b : Bool) → b ≡ true → b ≡ false → ⊥
clash b x y = cc

is_it : (p : ℕ) → (p == p) ≡ true
is_it p = grind (arith, nat_tests)

-- the modules, memberships and members of the new machine
pub restored_is : (d : TriplexState) (j : Reintegration) (p : ℕ) → p < 3 → module_at (joined d j).modules p ≡ module_restored (module_at d.modules (lowest_member d.voter)).cpu (module_at d.modules p)
restored_is d j zero h = refl
restored_is d j (suc zero) h = refl
restored_is d j (suc (suc zero)) h = refl
restored_is d j (suc (suc (suc p))) h = absurd (omega arith)

pub membership_is : (d : TriplexState) (j : Reintegration) (p : ℕ) → p < 3 → membership_at (joined d j).memberships p ≡ membership_joined (j.copying.joiner == p) (membership_at d.memberships p)
membership_is d j zero h = refl
membership_is d j (suc zero) h = refl
membership_is d j (suc (suc zero)) h = refl
membership_is d j (suc (suc (suc p))) h = absurd (omega arith)

member_is : (d : TriplexState) (j : Reintegration) (p : ℕ) → p < 3 → is_member (joined d j).voter p ≡ ((j.copying.joiner == p) || is_member d.voter p)
member_is d j zero h = refl
member_is d j (suc zero) h = refl
member_is d j (suc (suc zero)) h = refl
member_is d j (suc (suc (suc p))) h = absurd (omega arith)

-- what is known at the end
pub record AtLastWord (k : TriplexCore) (d : TriplexState) (j : Reintegration) : Type 0 where
  pub agreement : LatchAgreement k d
  pub replicas : ReplicaEquality k d
  pub repair : RepairInvariant d
  pub open_now : IsOpenReintegration d j
  pub hold : IsAtHold d
  pub item : Item
  pub rest : List Item
  pub next : j.copying.left ≡ item ∷ rest
  pub last : is_last_item item ≡ true

-- all words are equal, where no act came
local_is : (k : TriplexCore) (d : TriplexState) (j : Reintegration) → AtLastWord k d j → j.disturbed ≡ false → (module_at d.modules j.copying.joiner).local ≡ (module_at d.modules (lowest_member d.voter)).local
local_is k d j x clean =
    let o = x.open_now in
    let l = lowest_is_member (local_replicas d j) in
    let ends = lists_equal_at_last_word x.item x.rest (local_replicas d j) x.next x.last (members_equal k d j x.replicas x.agreement o x.hold.now) o.copied in
    sym (local_of_is d j j.copying.joiner o.copied.joiner) ∙
    (ends.equal clean j.copying.joiner o.copied.joiner ∙ (local_of_is d j (lowest_of_replicas (local_replicas d j)) l.0 ∙ ap (λ (p : ℕ). (module_at d.modules p).local) (sym (lowest_is k d j x.agreement o))))

-- a good processor of the new machine was good, or is the one that joins, undisturbed
still_good : (d : TriplexState) (j : Reintegration) → IsOpenReintegration d j → (q : ℕ) → IsGood (joined d j) q → (IsGood d q) ⊎ ((j.copying.joiner ≡ q) × (j.disturbed ≡ false))
still_good d j o q g = by_place j.disturbed refl (j.copying.joiner == q) refl
  where
    by_place : (b : Bool) → j.disturbed ≡ b → (c : Bool) → (j.copying.joiner == q) ≡ c → (IsGood d q) ⊎ ((j.copying.joiner ≡ q) × (j.disturbed ≡ false))
    by_place b e false ne = inl (good_other d j q o (λ same. clash (j.copying.joiner == q) (ap (λ (x : ℕ). j.copying.joiner == x) (sym same) ∙ is_it j.copying.joiner) ne))
    by_place false e true at = inr (let same : j.copying.joiner ≡ q = grind (arith, nat_tests) in (same, e))
    by_place true e true at = absurd (clash (is_good (Some j.copying.joiner) q) (subst (λ (t : Option ℕ). is_good t q ≡ true) (ap (λ (b : Bool). tainted_if b d.tainted) e ∙ o.tainted) g) (ap not at))

-- so every good processor is as the lowest member
pub joined_replica : (k : TriplexCore) (d : TriplexState) (j : Reintegration) (x : AtLastWord k d j) (q : ℕ) → q < 3 → IsGood (joined d j) q → replica_of (module_at (joined d j).modules q) ≡ x.replicas.start
joined_replica k d j x q hq g =
    let o = x.open_now in
    let l = lowest_good k d j x.agreement o in
    let at = now_replica k d x.replicas x.hold.now (lowest_member d.voter) l.low l.good in
    let due : x.replicas.start.due ≡ false = ap (λ (s : Replica). s.due) (sym at) ∙ x.hold.due (lowest_member d.voter) l.low l.good in
    let same : (module_at d.modules q).local ≡ (module_at d.modules (lowest_member d.voter)).local = elim (still_good d j o q g) [
      | inl good ↦ ap (λ (s : Replica). s.local) (now_replica k d x.replicas x.hold.now q hq good ∙ sym at)
      | inr new ↦ subst (λ (p : ℕ). (module_at d.modules p).local ≡ (module_at d.modules (lowest_member d.voter)).local) new.0 (local_is k d j x new.1)
    ] in
    let frame : (module_at d.modules q).frame ≡ (module_at d.modules (lowest_member d.voter)).frame = (x.repair.modules q hq).frame ∙ sym (x.repair.modules (lowest_member d.voter) l.low).frame in
    ap replica_of (restored_is d j q hq) ∙
    (ap (λ (f : ℕ). record { cpu = (module_at d.modules (lowest_member d.voter)).cpu; local = (module_at d.modules q).local; due = false; frame = f }) frame ∙
    (ap (λ (xs : List ℕ). record { cpu = (module_at d.modules (lowest_member d.voter)).cpu; local = xs; due = false; frame = (module_at d.modules (lowest_member d.voter)).frame }) same ∙
    (ap (λ (s : Replica). record { cpu = s.cpu; local = s.local; due = false; frame = s.frame }) at ∙ ap (λ (b : Bool). record { cpu = x.replicas.start.cpu; local = x.replicas.start.local; due = b; frame = x.replicas.start.frame }) (sym due))))

joined_in : (d : TriplexState) (j : Reintegration) (q : ℕ) → q < 3 → (IsGood d q → membership_at d.memberships q ≡ In) → (IsGood d q) ⊎ (j.copying.joiner ≡ q) → membership_at (joined d j).memberships q ≡ In
joined_in d j q hq old (inl g) = membership_is d j q hq ∙ by_test (j.copying.joiner == q) (old g)
  where
    by_test : (b : Bool) → membership_at d.memberships q ≡ In → membership_joined b (membership_at d.memberships q) ≡ In
    by_test true e = refl
    by_test false e = e
joined_in d j q hq old (inr same) =
    membership_is d j q hq ∙ ap (λ (b : Bool). membership_joined b (membership_at d.memberships q)) (ap (λ (x : ℕ). j.copying.joiner == x) (sym same) ∙ is_it j.copying.joiner)

beyond : (ls : List (Option Posted)) (q : ℕ) → length ls ≡ 3 → is_some (slice_index_or ls (suc (suc (suc q))) None) ≡ false
beyond (x ∷ y ∷ z ∷ []) q h = refl
beyond [] q h = absurd (omega arith)
beyond (x ∷ []) q h = absurd (omega arith)
beyond (x ∷ y ∷ []) q h = absurd (omega arith)
beyond (x ∷ y ∷ z ∷ w ∷ ls) q h = absurd (omega arith)

joined_voter : (k : TriplexCore) (d : TriplexState) (j : Reintegration) → AtLastWord k d j → IsVoter (joined d j).voter
joined_voter k d j x = let v = x.agreement.voter in record { members = refl; latches = v.latches; latched = λ p some. by_place p some; aged = v.aged; age = v.age; timer = v.timer }
  where
    none_at : (p : ℕ) → p < 3 → is_some (latch_of d.voter p) ≡ false
    none_at p low = no_latch k d j x.agreement x.replicas x.open_now x.hold.now p low

    by_place : (p : ℕ) → is_some (latch_of d.voter p) ≡ true → is_member (joined d j).voter p ≡ true
    by_place zero some = absurd (clash (is_some (latch_of d.voter 0)) some (none_at 0 (omega arith)))
    by_place (suc zero) some = absurd (clash (is_some (latch_of d.voter 1)) some (none_at 1 (omega arith)))
    by_place (suc (suc zero)) some = absurd (clash (is_some (latch_of d.voter 2)) some (none_at 2 (omega arith)))
    by_place (suc (suc (suc p))) some = absurd (clash (is_some (latch_of d.voter (suc (suc (suc p))))) some (beyond d.voter.latches p x.agreement.voter.latches))

pub joined_agrees : (k : TriplexCore) (d : TriplexState) (j : Reintegration) → AtLastWord k d j → LatchAgreement k (joined d j)
joined_agrees k d j x =
    let h = x.agreement in
    let o = x.open_now in
    let l = lowest_good k d j h o in
    let at = now_replica k d x.replicas x.hold.now (lowest_member d.voter) l.low l.good in
    record {
      frame = h.frame;
      timer = h.timer;
      members = λ p hp. member_is d j p hp ∙ (by_member (j.copying.joiner == p) (membership_at d.memberships p) (is_member d.voter p) (h.members p hp) ∙ ap is_in (sym (membership_is d j p hp)));
      voter = joined_voter k d j x;
      good = λ q hq g.
          let was = restored_is d j q hq in
          record {
            membership = joined_in d j q hq (λ old. (h.good q hq old).membership) (elim (still_good d j o q g) [ inl old ↦ inl old | inr new ↦ inr new.0 ]);
            awake = ap (λ (m : ModuleState). m.muted) was;
            port = subst (λ (m : ModuleState). IsOwnPort k d.delivered d.accepted (replica_of m) m.port) (sym was) tt;
            latch = none_is (latch_of d.voter q) (no_latch k d j h x.replicas o x.hold.now q hq) ∙ sym (ap (λ (m : ModuleState). m.port) was);
            lines = ap (λ (s : Replica). s.cpu.lines) (joined_replica k d j x q hq g) ∙ (ap (λ (s : Replica). s.cpu.lines) (sym at) ∙ (h.good (lowest_member d.voter) l.low l.good).lines);
          };
      inbox = h.inbox;
      room = h.room;
      boards = h.boards;
    }
  where
    by_member : (b : Bool) (s : Membership) (member : Bool) → member ≡ is_in s → (b || member) ≡ is_in (membership_joined b s)
    by_member true s member e = refl
    by_member false s member e = e

    none_is : (l : Option Posted) → is_some l ≡ false → l ≡ None
    none_is None e = refl
    none_is (Some v) e = absurd cc

pub joined_equal : (k : TriplexCore) (d : TriplexState) (j : Reintegration) → AtLastWord k d j → ReplicaEquality k (joined d j)
joined_equal k d j x =
    let a = x.replicas in
    let now = x.hold.now in
    record {
      start = a.start;
      frame = a.frame;
      at = a.at;
      ends = a.ends;
      low = a.low;
      room = a.room;
      each = λ q hq g.
          let empty : posting_ticks (module_at (joined d j).modules q).port ≡ 0 = ap (λ (m : ModuleState). posting_ticks m.port) (restored_is d j q hq) in
          record { cycles = 0; quiet = λ i less. absurd (omega arith); is = joined_replica k d j x q hq g; spent = omega arith };
    }

pub joined_keeps_repair : (d : TriplexState) (j : Reintegration) → RepairInvariant d → d.reintegration ≡ Some j → RepairInvariant (joined d j)
joined_keeps_repair d j r is = record {
  modules = λ p hp.
      let was = restored_is d j p hp in
      let m = r.modules p hp in
      record { fires = subst (λ (n : ModuleState). n.fires < 256) (sym was) m.fires; local = ap (λ (n : ModuleState). length n.local) was ∙ m.local; marks = ap (λ (n : ModuleState). length n.marks) was ∙ no_marks_length; frame = ap (λ (n : ModuleState). n.frame) was ∙ m.frame };
  fair = r.fair;
  joining = λ p hp joins. absurd (by_place p hp (j.copying.joiner == p) refl (sym (membership_is d j p hp) ∙ joins));
  opened = λ x none. absurd (none_open x none);
}
  where
    none_open : (x : Reintegration) → None ≡ Some x → ⊥
    none_open x is = cc

    in_joining : In ≡ Joining → ⊥
    in_joining h = cc

    by_place : (p : ℕ) → p < 3 → (b : Bool) → (j.copying.joiner == p) ≡ b → membership_joined b (membership_at d.memberships p) ≡ Joining → ⊥
    by_place p hp true e h = in_joining h
    by_place p hp false e h =
        let x = r.joining p hp h in
        let same : j.copying.joiner ≡ p = ap (λ (y : Reintegration). y.copying.joiner) (some_is j x.of (sym is ∙ x.is)) ∙ x.joiner in
        clash (j.copying.joiner == p) (ap (λ (n : ℕ). j.copying.joiner == n) (sym same) ∙ is_it j.copying.joiner) e
