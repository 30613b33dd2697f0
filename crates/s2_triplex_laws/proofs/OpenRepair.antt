-- What an open reintegration tells.
use Rattle.std.proofs.Common.{◌≡◌, ℕ, ◌/◌, ◌<◌, ◌≢◌, List, refl, sym, ap, ◌∙◌}
use Rattle.std.specs.Prelude.{Bool, true, false, not, Some, None}
use Rattle.s2_join.specs.CopyOrder.{none_left}
use Rattle.s2_voter.specs.VoterState.{is_member}
use Rattle.s2_machine.specs.Cores.{mark_at, word_at}
use Rattle.s2_plant_laws.specs.LocalReplicas.{IsMember}
use Rattle.s2_triplex.specs.TriplexCores.{TriplexCore}
use Rattle.s2_triplex.specs.TriplexState.{TriplexState, Reintegration, module_at, membership_at}
use Rattle.s2_triplex.specs.CopyHolds.{is_holding}
use Rattle.s2_triplex_laws.specs.LatchAgreement.{IsGood, LatchAgreement}
use Rattle.s2_triplex_laws.specs.TriplexInvariant.{TriplexInvariant}
use Rattle.s2_triplex_laws.specs.RepairInvariant.{local_replicas, IsOpenReintegration}
use Rattle.s2_triplex_laws.specs.OpenRepair.{HoldFacts, OpenReintegrationTells, NoReintegrationTells}
use Rattle.s2_triplex_laws.proofs.LocalReplicas.{local_of_is, marks_of_is}
use Rattle.s2_triplex_laws.proofs.RepairDuringTicks.{joining_out}
use Rattle.s2_triplex_laws.proofs.HoldBegins.{good_other, now_empty}

clash : (b : Bool) → b ≡ true → b ≡ false → ⊥
clash b x y = cc

some_is : (x y : Reintegration) → Some x ≡ Some y → x ≡ y
some_is x y h = cc

none_some : (x : Reintegration) → None ≡ Some x → ⊥
none_some x h = cc

not_true : (b : Bool) → not b ≡ true → b ≡ false
not_true true h = absurd cc
not_true false h = refl

other_than_joiner : (k : TriplexCore) (d : TriplexState) (j : Reintegration) (p : ℕ) → LatchAgreement k d → IsOpenReintegration d j → is_member d.voter p ≡ true → j.copying.joiner ≢ p
other_than_joiner k d j p h o member same = clash (is_member d.voter p) member (ap (is_member d.voter) (sym same) ∙ joining_out k d j h o)

member_is : (k : TriplexCore) (d : TriplexState) (j : Reintegration) (p : ℕ) → p < 3 → LatchAgreement k d → IsOpenReintegration d j → is_member d.voter p ≡ true → IsMember (local_replicas d j) p
member_is k d j p hp h o member = (hp, λ same. other_than_joiner k d j p h o member (sym same))

hold_tells : (k : TriplexCore) (d : TriplexState) (j : Reintegration) → TriplexInvariant k d → IsOpenReintegration d j → is_holding (Some j) ≡ true → HoldFacts d
hold_tells k d j i o held =
    let h = i.masking.agreement in
    let w = o.hold held in
    let good : (p : ℕ) → is_member d.voter p ≡ true → IsGood d p = λ p member. good_other d j p o (other_than_joiner k d j p h o member) in
    let ports : (p : ℕ) → p < 3 → is_member d.voter p ≡ true → (module_at d.modules p).port ≡ None = λ p hp member. now_empty k d i.masking.replicas w.now p hp (good p member) in
    record {
      latches = λ p hp member. (h.good p hp (good p member)).latch ∙ ports p hp member;
      ports = ports;
      marks = λ p page hp member. ap (λ (ms : List Bool). mark_at ms page) (sym (marks_of_is d j p hp)) ∙ o.copied.unmarked (not_true (none_left j.copying.left) held) p page (member_is k d j p hp h o member);
    }

pub open_reintegration_tells : OpenReintegrationTells
open_reintegration_tells k d j i r is =
    let h = i.masking.agreement in
    let o = r.opened j is in
    record {
      joining = λ p hp. (λ joins. (let x = r.joining p hp joins in ap (λ (y : Reintegration). y.copying.joiner) (some_is j x.of (sym is ∙ x.is)) ∙ x.joiner), λ same. ap (membership_at d.memberships) (sym same) ∙ o.membership);
      tainted = o.tainted;
      held = λ held. hold_tells k d j i o (ap is_holding (sym is) ∙ held);
      order = o.copied.order;
      unsaved = o.copied.unsaved;
      copied = λ calm p i hp member low clean left mark.
          ap (λ (ws : List ℕ). word_at ws i) (sym (local_of_is d j j.copying.joiner o.copied.joiner)) ∙
          (o.copied.equal calm p i (member_is k d j p hp h o member) low clean left (ap (λ (ms : List Bool). mark_at ms (i / 1024)) (marks_of_is d j p hp) ∙ mark) ∙ ap (λ (ws : List ℕ). word_at ws i) (local_of_is d j p hp));
    }

pub no_reintegration_tells : NoReintegrationTells
no_reintegration_tells d r is = record { joining = λ p hp joins. (let x = r.joining p hp joins in none_some x.of (sym is ∙ x.is)); free = ap is_holding is }
