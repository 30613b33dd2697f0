-- A reintegration through firings and decisions.
use Rattle.std.proofs.Common.{◌≡◌, ℕ, zero, suc, ◌+◌, ◌/◌, ◌%◌, ◌<◌, ◌≢◌, List, length, refl, sym, ap, subst, ◌∙◌, arith}
use Rattle.std.specs.Prelude.{Bool, true, false, not, ◌==◌, ◌&&◌, ◌||◌, Some, None, find, if◌then◌else◌}
use Rattle.std.specs.declared.option.Option.{Option}
use Rattle.std.proofs.lemmas.Bool.Decides.{nat_tests}
use Rattle.s2_ports.specs.declared.requests.Request.{Request}
use Rattle.s2_ports.specs.declared.requests.Posted.{Posted}
use Rattle.s2_ports.specs.declared.requests.Kind.{Kind}
use Rattle.s2_ports.specs.declared.requests.Kind.TheVariants.{Load, Store, Sync}
use Rattle.s2_clock.specs.ClockWatch.{is_firing, slow_of}
use Rattle.s2_join.specs.CopyOrder.{none_left}
use Rattle.s2_voter.specs.VoterState.{is_member}
use Rattle.s2_voter.specs.Verdicts.{processors, is_differing, is_unlatched, differing_member, late_member}
use Rattle.s2_machine.specs.Cores.{mark_at, word_at}
use Rattle.s2_machine.specs.declared.ask.Ask.{Ask}
use Rattle.s2_machine.specs.declared.ask.Ask.TheVariants.{Local, Outside}
use Rattle.s2_plant_laws.specs.DirtyPages.{UnmarkedPagesStay}
use Rattle.s2_plant_laws.specs.LocalReplicas.{replica_words, replica_marks}
use Rattle.s2_plant_laws.proofs.CopiedPages.{copied_pages_after_run}
use Rattle.s2_plant_laws.proofs.FairTicks.{stays_fair}
use Rattle.s2_triplex.specs.declared.membership.Membership.{Membership}
use Rattle.s2_triplex.specs.declared.membership.Membership.TheVariants.{Joining}
use Rattle.s2_triplex.specs.TriplexCores.{TriplexCore, IsTriplexCore}
use Rattle.s2_triplex.specs.ModuleState.{ModuleState, Replica, replica_of, with_replica, replica_ask}
use Rattle.s2_triplex.specs.ModuleFiring.{is_working, after_work, after_work_unless_waiting, module_ticked}
use Rattle.s2_triplex.specs.ModuleAnswer.{finished_replica, is_asking}
use Rattle.s2_triplex.specs.TriplexState.{TriplexState, Reintegration, module_at, membership_at, is_in, is_good}
use Rattle.s2_triplex.specs.TickFirings.{after_firings}
use Rattle.s2_triplex.specs.VotedAccess.{VotedAccess}
use Rattle.s2_triplex.specs.VoterDecision.{is_processor, is_named, membership_unless_left, answered_if, stays_member, answered_at, after_decision}
use Rattle.s2_triplex.specs.CopyHolds.{is_holding, idled_if}
use Rattle.s2_triplex_laws.specs.LatchAgreement.{IsGood, LatchAgreement}
use Rattle.s2_triplex_laws.specs.RepairInvariant.{local_replicas, IsOpenReintegration, IsModule, RepairInvariant}
use Rattle.s2_triplex_laws.proofs.LocalCycles.{asked_local}
use Rattle.s2_triplex_laws.proofs.Firings.{FiredModule, stays, posts, works, module_is, fires_at, module_fires}
use Rattle.s2_triplex_laws.proofs.LocalReplicas.{local_of_is, marks_of_is, leaves_moved, same_copied}

-- a processor that joins is no member
pub joining_out : (k : TriplexCore) (d : TriplexState) (j : Reintegration) → LatchAgreement k d → IsOpenReintegration d j → is_member d.voter j.copying.joiner ≡ false
joining_out k d j h o = h.members j.copying.joiner o.copied.joiner ∙ ap is_in o.membership

-- and good ones are others
pub other_good : (d : TriplexState) (j : Reintegration) (q : ℕ) → IsOpenReintegration d j → IsGood d q → j.copying.joiner ≢ q
other_good d j q o g e = clash (subst (λ (t : Option ℕ). is_good t q ≡ true) o.tainted g) (by_test (j.copying.joiner == q) refl)
  where
    by_test : (b : Bool) → (j.copying.joiner == q) ≡ b → not b ≡ false
    by_test true x = refl
    by_test false x = absurd (grind (arith, nat_tests))

    clash : is_good (Some j.copying.joiner) q ≡ true → is_good (Some j.copying.joiner) q ≡ false → ⊥
    clash x y = cc

-- a tick of a module
fires_next : (k : TriplexCore) (seen : ℕ) (member fires : Bool) (m : ModuleState) → m.fires < 256 → (module_ticked k seen member fires m).fires < 256
fires_next k seen member false m h = h
fires_next k seen member true m h = if_next ((m.fires + 1) % 256) (is_working m member) (omega arith)
  where
    worked_fires : (f : ℕ) (a : Ask) → (after_work k seen (record m { fires = f }) a).fires ≡ f
    worked_fires f Local = refl
    worked_fires f (Outside r) = refl

    full_fires : (f : ℕ) (port : Option Posted) → (after_work_unless_waiting k seen (record m { fires = f }) port).fires ≡ f
    full_fires f (Some p) = refl
    full_fires f None = worked_fires f (replica_ask k (replica_of m))

    if_next : (f : ℕ) (b : Bool) → f < 256 → (if b then after_work_unless_waiting k seen (record m { fires = f }) m.port else record m { fires = f }).fires < 256
    if_next f true h = let e = full_fires f m.port in omega arith
    if_next f false h = h

-- one that is no member does not work
pub idled_module : (k : TriplexCore) (seen : ℕ) (fires : Bool) (m : ModuleState) → module_ticked k seen false fires m ≡ idled_if fires m
idled_module k seen true m = refl
idled_module k seen false m = refl

pub idled_replica : (fires : Bool) (m : ModuleState) → replica_of (idled_if fires m) ≡ replica_of m
idled_replica true m = refl
idled_replica false m = refl

size_next : (k : TriplexCore) (c : IsTriplexCore k) (seen : ℕ) (m n : ModuleState) → FiredModule k seen m n → length n.local ≡ length m.local
size_next k c seen m n (stays e i p mk) = ap (λ (s : Replica). length s.local) i
size_next k c seen m n (posts r e x a i p mk) = ap (λ (s : Replica). length s.local) i
size_next k c seen m n (works e x a i p mk) = ap (λ (s : Replica). length s.local) i ∙ c.core.length_after_turn m.cpu m.local (asked_local k (replica_of m) a)

marks_next : (k : TriplexCore) (c : IsTriplexCore k) (seen : ℕ) (m n : ModuleState) → FiredModule k seen m n → length n.marks ≡ length m.marks
marks_next k c seen m n (stays e s p mk) = ap length mk
marks_next k c seen m n (posts r e x a s p mk) = ap length mk
marks_next k c seen m n (works e x a s p mk) = ap length mk ∙ c.core.marks_length_after_turn m.cpu m.local m.marks (asked_local k (replica_of m) a)

frame_next : (k : TriplexCore) (seen : ℕ) (m n : ModuleState) → FiredModule k seen m n → n.frame ≡ m.frame
frame_next k seen m n (stays e i p mk) = ap (λ (s : Replica). s.frame) i
frame_next k seen m n (posts r e x a i p mk) = ap (λ (s : Replica). s.frame) i
frame_next k seen m n (works e x a i p mk) = ap (λ (s : Replica). s.frame) i

ticked_module : (k : TriplexCore) (c : IsTriplexCore k) (seen : ℕ) (member fires : Bool) (frame : ℕ) (m : ModuleState) → IsModule frame m → IsModule frame (module_ticked k seen member fires m)
ticked_module k c seen member fires frame m h = record {
  fires = fires_next k seen member fires m h.fires;
  local = size_next k c seen m (module_ticked k seen member fires m) (module_fires k seen member fires m) ∙ h.local;
  marks = marks_next k c seen m (module_ticked k seen member fires m) (module_fires k seen member fires m) ∙ h.marks;
  frame = frame_next k seen m (module_ticked k seen member fires m) (module_fires k seen member fires m) ∙ h.frame;
}

-- a page without a mark was without one before, and its words stay
leaves_next : (k : TriplexCore) (c : IsTriplexCore k) (seen : ℕ) (frame : ℕ) (m n : ModuleState) → IsModule frame m → FiredModule k seen m n → UnmarkedPagesStay m.local m.marks n.local n.marks
leaves_next k c seen frame m n h (stays e s p mk) = record {
  unmarked = λ page u. ap (λ (x : List Bool). mark_at x page) (sym mk) ∙ u;
  same = λ i u. ap (λ (x : Replica). word_at x.local i) s;
}
leaves_next k c seen frame m n h (posts r e x a s p mk) = record {
  unmarked = λ page u. ap (λ (x : List Bool). mark_at x page) (sym mk) ∙ u;
  same = λ i u. ap (λ (x : Replica). word_at x.local i) s;
}
leaves_next k c seen frame m n h (works e x a s p mk) = record {
  unmarked = λ page u. c.core.unmarked m.cpu m.local m.marks page (asked_local k (replica_of m) a) h.local h.marks (ap (λ (x : List Bool). mark_at x page) (sym mk) ∙ u);
  same = λ i u.
      ap (λ (x : Replica). word_at x.local i) s ∙
      c.core.stays m.cpu m.local m.marks i (asked_local k (replica_of m) a) h.local h.marks (ap (λ (x : List Bool). mark_at x (i / 1024)) (sym mk) ∙ u);
}

pub rest_of : (j : Reintegration) (r : Option Reintegration) → r ≡ Some j → is_holding r ≡ false → none_left j.copying.left ≡ true
rest_of j r e free = not_false (none_left j.copying.left) (ap is_holding (sym e) ∙ free)
  where
    not_false : (b : Bool) → not b ≡ false → b ≡ true
    not_false true h = refl
    not_false false h = absurd cc

not_holding : (j : Reintegration) (r : Option Reintegration) → r ≡ Some j → is_holding r ≡ false → is_holding (Some j) ≡ true → ⊥
not_holding j r e free held = clash (is_holding (Some j)) held (ap is_holding (sym e) ∙ free)
  where
    clash : (b : Bool) → b ≡ true → b ≡ false → ⊥
    clash b x y = cc

-- the firings
pub firings_keep_repair : (k : TriplexCore) (c : IsTriplexCore k) (d : TriplexState) (mask : ℕ) → slow_of mask d.tainted d.windows ≡ None → is_holding d.reintegration ≡ false → LatchAgreement k d → RepairInvariant d → RepairInvariant (after_firings k d mask)
firings_keep_repair k c d mask slow free h r = record {
  modules = λ p hp.
      subst (IsModule d.frame) (sym (module_is k d mask p hp)) (ticked_module k c d.accepted (is_member d.voter p) (is_firing mask p) d.frame (module_at d.modules p) (r.modules p hp));
  fair = stays_fair mask d.tainted d.windows r.fair slow;
  joining = r.joining;
  opened = λ j is.
      let o = r.opened j is in
      let e = after_firings k d mask in
      record {
        membership = o.membership;
        tainted = o.tainted;
        hold = λ held. absurd (not_holding j d.reintegration is free held);
        copied = copied_pages_after_run (local_replicas d j) (local_replicas e j) (rest_of j d.reintegration is free) (record {
          join = refl;
          disturbed = refl;
          joining =
              local_of_is e j j.copying.joiner o.copied.joiner ∙
              (ap (λ (m : ModuleState). m.local) (module_is k d mask j.copying.joiner o.copied.joiner ∙
              ap (λ (b : Bool). module_ticked k d.accepted b (is_firing mask j.copying.joiner) (module_at d.modules j.copying.joiner)) (joining_out k d j h o) ∙ idled_module k d.accepted (is_firing mask j.copying.joiner) (module_at d.modules j.copying.joiner)) ∙
              (ap (λ (s : Replica). s.local) (idled_replica (is_firing mask j.copying.joiner) (module_at d.modules j.copying.joiner)) ∙ sym (local_of_is d j j.copying.joiner o.copied.joiner)));
          members = λ q m.
              leaves_moved (replica_words (local_replicas d j) q) (replica_words (local_replicas e j) q) (module_at d.modules q).local (module_at e.modules q).local (replica_marks (local_replicas d j) q) (replica_marks (local_replicas e j) q)
              (module_at d.modules q).marks (module_at e.modules q).marks (local_of_is d j q m.0) (marks_of_is d j q m.0) (local_of_is e j q m.0) (marks_of_is e j q m.0)
              (leaves_next k c d.accepted d.frame (module_at d.modules q) (module_at e.modules q) (r.modules q m.0) (fires_at k d mask q m.0));
          sizes = λ q hq. ap length (local_of_is e j q hq) ∙ (size_next k c d.accepted (module_at d.modules q) (module_at e.modules q) (fires_at k d mask q hq) ∙ sym (ap length (local_of_is d j q hq)));
        }) o.copied;
      };
}

-- a decision changes no word and no mark
finished_local : (k : TriplexCore) (kind : Kind) (word lines : ℕ) (s : Replica) → (finished_replica k kind word lines s).local ≡ s.local
finished_local k Load word lines s = refl
finished_local k Store word lines s = refl
finished_local k Sync word lines s = refl

-- and not the frame
finished_frame : (k : TriplexCore) (kind : Kind) (word lines : ℕ) (s : Replica) → (finished_replica k kind word lines s).frame ≡ s.frame
finished_frame k Load word lines s = refl
finished_frame k Store word lines s = refl
finished_frame k Sync word lines s = refl

-- what an answer leaves of a module
record Answers (m n : ModuleState) : Type 0 where
  fires : n.fires ≡ m.fires
  local : n.local ≡ m.local
  marks : n.marks ≡ m.marks
  frame : n.frame ≡ m.frame

answers_by : (k : TriplexCore) (r : Request) (word lines : ℕ) (m : ModuleState) (b : Bool) → Answers m (record (if b then with_replica m (finished_replica k r.kind word lines (replica_of m)) else m) { port = None })
answers_by k r word lines m true = record { fires = refl; local = finished_local k r.kind word lines (replica_of m); marks = refl; frame = finished_frame k r.kind word lines (replica_of m) }
answers_by k r word lines m false = record { fires = refl; local = refl; marks = refl; frame = refl }

answers_if : (b : Bool) (k : TriplexCore) (r : Request) (word lines : ℕ) (m : ModuleState) → Answers m (answered_if b k r word lines m)
answers_if true k r word lines m = answers_by k r word lines m (is_asking (replica_ask k (replica_of m)) r)
answers_if false k r word lines m = record { fires = refl; local = refl; marks = refl; frame = refl }

pub decided_module : (k : TriplexCore) (d : TriplexState) (r : Request) (a : VotedAccess) (named : ℕ → Bool) (p : ℕ) → p < 3 → module_at (after_decision k d r a named).modules p ≡ answered_at k d r a named p
decided_module k d r a named zero h = refl
decided_module k d r a named (suc zero) h = refl
decided_module k d r a named (suc (suc zero)) h = refl
decided_module k d r a named (suc (suc (suc p))) h = absurd (omega arith)

decided_membership : (k : TriplexCore) (d : TriplexState) (r : Request) (a : VotedAccess) (named : ℕ → Bool) (p : ℕ) → p < 3 → membership_at (after_decision k d r a named).memberships p ≡ membership_unless_left (named p) (membership_at d.memberships p)
decided_membership k d r a named zero h = refl
decided_membership k d r a named (suc zero) h = refl
decided_membership k d r a named (suc (suc zero)) h = refl
decided_membership k d r a named (suc (suc (suc p))) h = absurd (omega arith)

answers_at : (k : TriplexCore) (d : TriplexState) (r : Request) (a : VotedAccess) (named : ℕ → Bool) (p : ℕ) → p < 3 → Answers (module_at d.modules p) (module_at (after_decision k d r a named).modules p)
answers_at k d r a named p hp =
    subst (λ (n : ModuleState). Answers (module_at d.modules p) n) (sym (decided_module k d r a named p hp)) (answers_if (stays_member d named p) k r a.word _ (module_at d.modules p))

-- one that is no member is not named
unfound : (test : ℕ → Bool) (p : ℕ) → p < 3 → test p ≡ false → is_processor (find test processors) p ≡ false
unfound test p hp none = by_tests p hp none (test 0) (test 1) (test 2) refl refl refl
  where
    clash : (b : Bool) → b ≡ true → b ≡ false → ⊥
    clash b x y = cc

    by_tests : (p : ℕ) → p < 3 → test p ≡ false → (a b c : Bool) → test 0 ≡ a → test 1 ≡ b → test 2 ≡ c → is_processor (if a then Some 0 else if b then Some 1 else if c then Some 2 else None) p ≡ false
    by_tests zero hp none true b c x y z = absurd (clash (test 0) x none)
    by_tests (suc p) hp none true b c x y z = grind (arith, nat_tests)
    by_tests zero hp none false true c x y z = refl
    by_tests (suc zero) hp none false true c x y z = absurd (clash (test 1) y none)
    by_tests (suc (suc p)) hp none false true c x y z = grind (arith, nat_tests)
    by_tests zero hp none false false true x y z = refl
    by_tests (suc zero) hp none false false true x y z = refl
    by_tests (suc (suc zero)) hp none false false true x y z = absurd (clash (test 2) z none)
    by_tests (suc (suc (suc p))) hp none false false true x y z = absurd (omega arith)
    by_tests p hp none false false false x y z = refl

pub out_unnamed : (d : TriplexState) (r : Request) (p : ℕ) → p < 3 → is_member d.voter p ≡ false → is_named (differing_member d.voter r) (late_member d.voter) p ≡ false
out_unnamed d r p hp out =
    or_false (is_processor (differing_member d.voter r) p) (is_processor (late_member d.voter) p) (unfound (is_differing d.voter r) p hp (and_out (is_member d.voter p) _ out)) (unfound (is_unlatched d.voter) p hp (and_out (is_member d.voter p) _ out))
  where
    or_false : (a b : Bool) → a ≡ false → b ≡ false → (a || b) ≡ false
    or_false true b x y = absurd cc
    or_false false b x y = y

    and_out : (a b : Bool) → a ≡ false → (a && b) ≡ false
    and_out true b x = absurd cc
    and_out false b x = refl

membership_before : (b : Bool) (s : Membership) → membership_unless_left b s ≡ Joining → s ≡ Joining
membership_before true s h = absurd cc
membership_before false s h = h

pub decision_keeps_repair : (k : TriplexCore) (d : TriplexState) (r : Request) (a : VotedAccess) (named : ℕ → Bool) → is_holding d.reintegration ≡ false → ((j : Reintegration) → d.reintegration ≡ Some j → named j.copying.joiner ≡ false) → RepairInvariant d →
    RepairInvariant (after_decision k d r a named)
decision_keeps_repair k d r a named free unnamed x = record {
  modules = λ p hp.
      let n = answers_at k d r a named p hp in
      let m = x.modules p hp in
      record { fires = subst (λ (f : ℕ). f < 256) (sym n.fires) m.fires; local = ap length n.local ∙ m.local; marks = ap length n.marks ∙ m.marks; frame = n.frame ∙ m.frame };
  fair = x.fair;
  joining = λ p hp is. x.joining p hp (membership_before (named p) (membership_at d.memberships p) (sym (decided_membership k d r a named p hp) ∙ is));
  opened = λ j is.
      let o = x.opened j is in
      record {
        membership = decided_membership k d r a named j.copying.joiner o.copied.joiner ∙ (ap (λ (b : Bool). membership_unless_left b (membership_at d.memberships j.copying.joiner)) (unnamed j is) ∙ o.membership);
        tainted = o.tainted;
        hold = λ held. absurd (not_holding j d.reintegration is free held);
        copied = same_copied d (after_decision k d r a named) j (λ q hq. (answers_at k d r a named q hq).local) (λ q hq. (answers_at k d r a named q hq).marks) o.copied;
      };
}
