-- The state after the tick that ends a reintegration.
use Rattle.std.proofs.Common.{◌≡◌, ℕ, ◌^◌, ◌<◌, List, ◌∷◌, refl, sym, ap, subst, ◌∙◌, arith}
use Rattle.std.specs.Prelude.{Bool, true, false, not, ◌==◌, ◌+◌, Some, None, if◌then◌else◌}
use Rattle.std.specs.declared.option.Option.{Option}
use Rattle.std.proofs.lemmas.Bool.Decides.{nat_tests}
use Rattle.s2_join.specs.declared.item.Item.{Item}
use Rattle.s2_join.specs.declared.item.Item.TheVariants.{Local, Saved}
use Rattle.s2_join.specs.CopyOrder.{is_last_item, none_left}
use Rattle.s2_machine.specs.Cores.{mark_at}
use Rattle.s2_triplex.specs.declared.membership.Membership.TheVariants.{In}
use Rattle.s2_triplex.specs.TriplexCores.{TriplexCore}
use Rattle.s2_triplex.specs.ModuleState.{ModuleState, Replica}
use Rattle.s2_triplex.specs.TriplexState.{TriplexState, Reintegration, membership_at, is_good}
use Rattle.s2_triplex.specs.VoterDecision.{no_effects}
use Rattle.s2_triplex.specs.CopyHolds.{is_holding, after_idle_tick, membership_joined, tainted_if, joined, saved_word_copied, item_copied, copied, after_hold_tick}
use Rattle.s2_triplex.specs.TickStep.{after_working_tick, ticked}
use Rattle.s2_triplex.specs.StepRefusals.{tick_refusal}
use Rattle.s2_triplex.specs.StepTurns.{copy_notes, joined_notes_if, hold_notes, hold_turn, working_turn, tick_turn}
use Rattle.s2_triplex_laws.specs.RepairSteps.{CanStepInRepair, IsReintegrated, LastWordReintegrates}
use Rattle.s2_triplex_laws.proofs.HoldBegins.{good_other, no_mark}
use Rattle.s2_triplex_laws.proofs.HoldTicks.{idle_keeps_repair}
use Rattle.s2_triplex_laws.proofs.HoldEnds.{AtLastWord, restored_is, membership_is, joined_replica}
use Rattle.s2_triplex_laws.proofs.HoldSteps.{idle_invariant}
use Rattle.s2_triplex_laws.proofs.TicksInRepair.{can_step, none_slow}

-- the machine after the tick
ticked_is : (k : TriplexCore) (d : TriplexState) (mask : ℕ) (j : Reintegration) (item : Item) (left : List Item) → d.reintegration ≡ Some j → j.copying.left ≡ item ∷ left → is_last_item item ≡ true → (ticked k d mask).next ≡ joined (after_idle_tick d mask) j
ticked_is k d mask j item left is words last =
    ap (λ (b : Bool). (if b then record { next = after_hold_tick d mask; effects = no_effects } else after_working_tick k d mask).next) (ap is_holding is ∙ ap (λ (ws : List Item). not (none_left ws)) words) ∙
    (ap (λ (x : Option Reintegration). copied (after_idle_tick d mask) x) is ∙ (ap (λ (ws : List Item). item_copied (after_idle_tick d mask) j ws) words ∙ by_item item last))
  where
    by_item : (item : Item) → is_last_item item ≡ true → item_copied (after_idle_tick d mask) j (item ∷ left) ≡ joined (after_idle_tick d mask) j
    by_item (Local i) h = absurd cc
    by_item (Saved n) h = ap (λ (b : Bool). saved_word_copied b (after_idle_tick d mask) j) h

at_last_word : (k : TriplexCore) (d : TriplexState) (mask : ℕ) (j : Reintegration) (item : Item) (left : List Item) (s : CanStepInRepair k d) → d.ticks < 2 ^ 40 → tick_refusal d mask ≡ None → d.reintegration ≡ Some j → j.copying.left ≡ item ∷ left → is_last_item item ≡ true →
    AtLastWord k (after_idle_tick d mask) j
at_last_word k d mask j item left s room lawful is words last =
    let held : is_holding (Some j) ≡ true = ap (λ (ws : List Item). not (none_left ws)) words in
    let o = s.repair.opened j is in
    let r = idle_keeps_repair d mask j (none_slow d mask lawful) s.repair is held in
    let h = idle_invariant k d mask j (can_step k d s) room r o (o.hold held).now in
    let p = r.opened j is in
    record {
      agreement = h.invariant.masking.agreement;
      replicas = h.invariant.masking.replicas;
      repair = r;
      open_now = p;
      hold = p.hold held;
      item = item;
      rest = left;
      next = words;
      last = last;
    }

joined_tells : (k : TriplexCore) (e : TriplexState) (j : Reintegration) → AtLastWord k e j → IsReintegrated (joined e j) j
joined_tells k e j x = record {
  cpus = λ p q hp hq. ap (λ (m : ModuleState). m.cpu) (restored_is e j p hp) ∙ sym (ap (λ (m : ModuleState). m.cpu) (restored_is e j q hq));
  ports = λ p hp. ap (λ (m : ModuleState). m.port) (restored_is e j p hp);
  due = λ p hp. ap (λ (m : ModuleState). m.due) (restored_is e j p hp);
  muted = λ p hp. ap (λ (m : ModuleState). m.muted) (restored_is e j p hp);
  marks = λ p page hp. ap (λ (m : ModuleState). mark_at m.marks page) (restored_is e j p hp) ∙ no_mark page;
  memberships = λ p hp. membership_is e j p hp ∙ by_place p hp (j.copying.joiner == p) refl;
  locals = λ clean p q hp hq.
      ap (λ (s : Replica). s.local) (joined_replica k e j x p hp (free clean p)) ∙ sym (ap (λ (s : Replica). s.local) (joined_replica k e j x q hq (free clean q)));
  untainted = λ clean. ap (λ (b : Bool). tainted_if b e.tainted) clean;
  still_tainted = λ dirty. ap (λ (b : Bool). tainted_if b e.tainted) dirty ∙ x.open_now.tainted;
  closed = refl;
}
  where
    free : j.disturbed ≡ false → (p : ℕ) → is_good (tainted_if j.disturbed e.tainted) p ≡ true
    free clean p = subst (λ (b : Bool). is_good (tainted_if b e.tainted) p ≡ true) (sym clean) refl

    it_is : (p : ℕ) → (p == p) ≡ true
    it_is p = grind (arith, nat_tests)

    clash : (b : Bool) → b ≡ true → b ≡ false → ⊥
    clash b x y = cc

    by_place : (p : ℕ) → p < 3 → (b : Bool) → (j.copying.joiner == p) ≡ b → membership_joined b (membership_at e.memberships p) ≡ In
    by_place p hp true is = refl
    by_place p hp false is =
        (x.agreement.good p hp (good_other e j p x.open_now (λ same. clash (j.copying.joiner == p) (ap (λ (n : ℕ). j.copying.joiner == n) (sym same) ∙ it_is j.copying.joiner) is))).membership

-- its note
turn_is : (k : TriplexCore) (d : TriplexState) (mask : ℕ) (j : Reintegration) (item : Item) (left : List Item) → d.reintegration ≡ Some j → j.copying.left ≡ item ∷ left → is_last_item item ≡ true → (tick_turn k d mask).notes ≡ joined_notes_if true (d.ticks + 1) j
turn_is k d mask j item left is words last =
    ap (λ (b : Bool). (if b then hold_turn d else working_turn k d mask).notes) (ap is_holding is ∙ ap (λ (ws : List Item). not (none_left ws)) words) ∙
    (ap (λ (x : Option Reintegration). hold_notes (d.ticks + 1) x) is ∙ (ap (λ (ws : List Item). copy_notes (d.ticks + 1) j ws) words ∙ ap (λ (b : Bool). joined_notes_if b (d.ticks + 1) j) last))

pub last_word_reintegrates : LastWordReintegrates
last_word_reintegrates k d mask j item left s room lawful is words last =
    (subst (λ (e : TriplexState). IsReintegrated e j) (sym (ticked_is k d mask j item left is words last)) (joined_tells k (after_idle_tick d mask) j (at_last_word k d mask j item left s room lawful is words last)), turn_is k d mask j item left is words last)
