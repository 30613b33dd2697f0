-- A lawful tick, in a hold or not, keeps what a reintegration keeps, beside all else.
use Rattle.std.proofs.Common.{◌≡◌, ℕ, ◌^◌, ◌<◌, List, [], ◌∷◌, refl, sym, ap, subst, ◌∙◌}
use Rattle.std.specs.Prelude.{Bool, true, false, not, Some, None}
use Rattle.std.specs.declared.option.Option.{Option}
use Rattle.s2_ports.specs.declared.requests.Request.{Request}
use Rattle.s2_ports.specs.declared.requests.Kind.{Kind}
use Rattle.s2_ports.specs.declared.requests.Kind.TheVariants.{Load, Store, Sync}
use Rattle.s2_clock.specs.declared.watch.Slow.{Slow}
use Rattle.s2_clock.specs.ClockWatch.{slow_of}
use Rattle.s2_join.specs.declared.item.Item.{Item}
use Rattle.s2_join.specs.declared.item.Item.TheVariants.{Local, Saved}
use Rattle.s2_join.specs.CopyOrder.{is_last_item, none_left}
use Rattle.s2_voter.specs.declared.verdicts.Verdict.{Verdict}
use Rattle.s2_voter.specs.declared.verdicts.Verdict.TheVariants.{Done}
use Rattle.s2_voter.specs.Verdicts.{is_due, differing_member, late_member}
use Rattle.s2_machine.specs.Cores.{is_sync}
use Rattle.s2_triplex.specs.TriplexCores.{TriplexCore, IsTriplexCore}
use Rattle.s2_triplex.specs.ModuleState.{Replica}
use Rattle.s2_triplex.specs.ModuleAnswer.{finished_replica}
use Rattle.s2_triplex.specs.TriplexState.{TriplexState, Reintegration, module_at}
use Rattle.s2_triplex.specs.TickFirings.{after_firings}
use Rattle.s2_triplex.specs.VotedAccess.{voted_access, access_of_kind}
use Rattle.s2_triplex.specs.VoterDecision.{StepEffects, no_effects, is_named, after_verdict, tick_verdict, voted, is_sync_verdict}
use Rattle.s2_triplex.specs.CopyHolds.{hold_begun, hold_begun_if, is_holding, after_idle_tick, after_copy, word_copied, joined, saved_word_copied, item_copied, copied}
use Rattle.s2_triplex.specs.TickStep.{after_voting_tick}
use Rattle.s2_triplex.specs.StepRefusals.{slow_reason, tick_refusal}
use Rattle.s2_triplex_laws.specs.LatchAgreement.{IsGood, LatchAgreement}
use Rattle.s2_triplex_laws.specs.TriplexInvariant.{CanStep, StepInvariant}
use Rattle.s2_triplex_laws.specs.RepairInvariant.{RepairInvariant}
use Rattle.s2_triplex_laws.specs.RepairSteps.{CanStepInRepair, RepairStep}
use Rattle.s2_triplex_laws.proofs.RightDecisions.{verdict_waits}
use Rattle.s2_triplex_laws.proofs.AfterDecisions.{slow_replica, good_replica}
use Rattle.s2_triplex_laws.proofs.MaskingLaws.{VerdictTold, due_verdict, decision_for, firings_mask}
use Rattle.s2_triplex_laws.proofs.LawfulSteps.{all_latched, tick_keeps}
use Rattle.s2_triplex_laws.proofs.RepairDuringTicks.{joining_out, rest_of, firings_keep_repair, out_unnamed, decision_keeps_repair}
use Rattle.s2_triplex_laws.proofs.HoldBegins.{hold_begun_keeps_repair}
use Rattle.s2_triplex_laws.proofs.HoldTicks.{idle_keeps_repair, word_keeps_repair, saved_keeps_repair}
use Rattle.s2_triplex_laws.proofs.HoldEnds.{AtLastWord, joined_keeps_repair}
use Rattle.s2_triplex_laws.proofs.HoldSteps.{steps_join, step_then_none, hold_begun_invariant, idle_invariant, word_invariant, saved_invariant, joined_invariant}

pub repair_step : (k : TriplexCore) (d e : TriplexState) (effects : StepEffects) → StepInvariant k d e effects → RepairInvariant e → RepairStep k d e effects
repair_step k d e effects h r = record { invariant = h.invariant; advance = h.advance; repair = r }

abbrev pub can_step : (k : TriplexCore) (d : TriplexState) → CanStepInRepair k d → CanStep k d
can_step k d s = record { core = s.core; invariant = s.invariant; halt = s.halt }

-- no processor is too slow for a tick that is not refused
pub none_slow : (d : TriplexState) (mask : ℕ) → tick_refusal d mask ≡ None → slow_of mask d.tainted d.windows ≡ None
none_slow d mask h = by_reason (slow_of mask d.tainted d.windows) h
  where
    by_reason : (slow : Option Slow) → slow_reason slow ≡ None → slow ≡ None
    by_reason None e = refl
    by_reason (Some slow) e = absurd cc

clash : (b : Bool) → b ≡ true → b ≡ false → ⊥
clash b x y = cc

-- a tick in a hold, after the time that passes
record InHold (k : TriplexCore) (d e : TriplexState) (j : Reintegration) : Type 0 where
  core : IsTriplexCore k
  step : StepInvariant k d e no_effects
  repair : RepairInvariant e
  halt : e.halt ≡ None
  is : e.reintegration ≡ Some j
  held : is_holding (Some j) ≡ true

can_go_on : (k : TriplexCore) (d e : TriplexState) (j : Reintegration) → InHold k d e j → CanStep k e
can_go_on k d e j x = record { core = x.core; invariant = x.step.invariant; halt = x.halt }

saved_step : (k : TriplexCore) (d e : TriplexState) (j : Reintegration) (n : ℕ) (rest : List Item) (b : Bool) → is_last_item (Saved n) ≡ b → j.copying.left ≡ Saved n ∷ rest → InHold k d e j → RepairStep k d (saved_word_copied b e j) no_effects
saved_step k d e j n rest true last words x =
    let o = x.repair.opened j x.is in
    let ends : AtLastWord k e j = record {
      agreement = x.step.invariant.masking.agreement;
      replicas = x.step.invariant.masking.replicas;
      repair = x.repair;
      open_now = o;
      hold = o.hold x.held;
      item = Saved n;
      rest = rest;
      next = words;
      last = last;
    } in
    repair_step k d (joined e j) no_effects (steps_join k d e (joined e j) no_effects x.step (joined_invariant k x.core e j x.halt x.is ends)) (joined_keeps_repair e j x.repair x.is)
saved_step k d e j n rest false last words x =
    let next : Reintegration = after_copy j in
    repair_step k d (record e { reintegration = Some next }) no_effects
    (steps_join k d e (record e { reintegration = Some next }) no_effects x.step (saved_invariant k e next (can_go_on k d e j x)))
    (saved_keeps_repair k e j n rest x.step.invariant.masking.agreement x.step.invariant.masking.replicas x.repair x.is words last)

items_by : (k : TriplexCore) (d e : TriplexState) (j : Reintegration) (ws : List Item) → j.copying.left ≡ ws → InHold k d e j → RepairStep k d (item_copied e j ws) no_effects
items_by k d e j [] words x = absurd (clash (is_holding (Some j)) x.held (ap (λ (ws : List Item). not (none_left ws)) words))
items_by k d e j (Saved n ∷ rest) words x = saved_step k d e j n rest (is_last_item (Saved n)) refl words x
items_by k d e j (Local i ∷ rest) words x =
    repair_step k d (word_copied e j i) no_effects (steps_join k d e (word_copied e j i) no_effects x.step (word_invariant k e j i (can_go_on k d e j x) (x.repair.opened j x.is)))
    (word_keeps_repair k e j i rest x.step.invariant.masking.agreement x.step.invariant.masking.replicas x.repair x.is words)

pub hold_by : (k : TriplexCore) (d : TriplexState) (mask : ℕ) (s : CanStepInRepair k d) → d.ticks < 2 ^ 40 → tick_refusal d mask ≡ None → (r : Option Reintegration) → d.reintegration ≡ r → is_holding r ≡ true →
    RepairStep k d (copied (after_idle_tick d mask) r) no_effects
hold_by k d mask s room lawful None is held = absurd cc
hold_by k d mask s room lawful (Some j) is held =
    let o = s.repair.opened j is in
    let r = idle_keeps_repair d mask j (none_slow d mask lawful) s.repair is held in
    items_by k d (after_idle_tick d mask) j j.copying.left refl (record {
      core = s.core;
      step = idle_invariant k d mask j (can_step k d s) room r o (o.hold held).now;
      repair = r;
      halt = s.halt;
      is = is;
      held = held;
    })

-- a tick outside of a hold
abbrev pub VerdictStep : TriplexCore → TriplexState → TriplexState → Verdict → Type 0
VerdictStep k d e v = RepairStep k d (hold_begun_if (is_sync_verdict v) (after_verdict k e v).next) (after_verdict k e v).effects

sync_due : (k : TriplexCore) (kind : Kind) (word lines : ℕ) (s : Replica) → is_sync kind ≡ true → (finished_replica k kind word lines s).due ≡ false
sync_due k Sync word lines s h = refl
sync_due k Load word lines s h = absurd cc
sync_due k Store word lines s h = absurd cc

sync_halt : (k : TriplexCore) (d : TriplexState) (r : Request) (kind : Kind) → is_sync kind ≡ true → (access_of_kind k d r kind).halt ≡ d.halt
sync_halt k d r Sync h = refl
sync_halt k d r Load h = absurd cc
sync_halt k d r Store h = absurd cc

hold_begins : (k : TriplexCore) (c : IsTriplexCore k) (d f : TriplexState) (effects : StepEffects) → StepInvariant k d f effects → RepairInvariant f → f.halt ≡ None → f.resumed ≡ f.ticks →
    ((q : ℕ) → q < 3 → IsGood f q → (module_at f.modules q).due ≡ false) → is_holding f.reintegration ≡ false → (r : Option Reintegration) → f.reintegration ≡ r → RepairStep k d (hold_begun f r) effects
hold_begins k c d f effects h x halt now due free None is = repair_step k d f effects h x
hold_begins k c d f effects h x halt now due free (Some j) is =
    repair_step k d (hold_begun f (Some j)) effects (step_then_none k d f (hold_begun f (Some j)) effects h (hold_begun_invariant k f j (record { core = c; invariant = h.invariant; halt = halt })))
    (hold_begun_keeps_repair k f j h.invariant.masking.agreement h.invariant.masking.replicas x is now due (rest_of j f.reintegration is free))

decided_step : (k : TriplexCore) (c : IsTriplexCore k) (d e : TriplexState) (r : Request) (differ late : Option ℕ) → LatchAgreement k e → VerdictTold k e r differ late → e.halt ≡ None → is_holding e.reintegration ≡ false → RepairInvariant e →
    StepInvariant k d (after_verdict k e (Done r differ late)).next (after_verdict k e (Done r differ late)).effects → VerdictStep k d e (Done r differ late)
decided_step k c d e r differ late h t halt free x s = by_kind (is_sync r.kind) refl
  where
    unnamed : (j : Reintegration) → e.reintegration ≡ Some j → is_named differ late j.copying.joiner ≡ false
    unnamed j is =
        subst (λ (a : Option ℕ). is_named a late j.copying.joiner ≡ false) (sym t.differ_is)
        (subst (λ (b : Option ℕ). is_named (differing_member e.voter r) b j.copying.joiner ≡ false) (sym t.late_is) (out_unnamed e r j.copying.joiner (x.opened j is).copied.joiner (joining_out k e j h (x.opened j is))))

    repair : RepairInvariant (after_verdict k e (Done r differ late)).next
    repair = decision_keeps_repair k e r (voted_access k e r) (is_named differ late) free unnamed x

    by_kind : (b : Bool) → is_sync r.kind ≡ b → RepairStep k d (hold_begun_if b (after_verdict k e (Done r differ late)).next) (after_verdict k e (Done r differ late)).effects
    by_kind false is = repair_step k d (after_verdict k e (Done r differ late)).next (after_verdict k e (Done r differ late)).effects s repair
    by_kind true is =
        hold_begins k c d (after_verdict k e (Done r differ late)).next (after_verdict k e (Done r differ late)).effects s repair (sync_halt k e r r.kind is ∙ halt) refl
        (λ q hq g.
        ap (λ (i : Replica). i.due) (good_replica k e (slow_replica e) r (voted_access k e r) (is_named differ late) h (decision_for k e r differ late t) q hq g) ∙ sync_due k r.kind _ _ (slow_replica e) is)
        free e.reintegration refl

working_by : (k : TriplexCore) (d : TriplexState) (mask : ℕ) → CanStepInRepair k d → d.ticks < 2 ^ 40 → tick_refusal d mask ≡ None → is_holding d.reintegration ≡ false → (b : Bool) → is_due (after_firings k d mask).voter ≡ b →
    VerdictStep k d (after_firings k d mask) (tick_verdict k d mask)
working_by k d mask s room lawful free true due =
    let e = after_firings k d mask in
    let can = can_step k d s in
    let f = firings_mask k d mask (record { core = s.core; masking = s.invariant.masking; room = room; halt = s.halt }) in
    let x = due_verdict k e f.masking (all_latched k d mask can lawful due) due in
    let differ = differing_member e.voter x.0 in
    let late = late_member e.voter in
    subst (VerdictStep k d e) (sym x.2)
    (decided_step k s.core d e x.0 differ late f.masking.agreement (record { agrees = x.1; differ_is = refl; late_is = refl }) s.halt free
    (firings_keep_repair k s.core d mask (none_slow d mask lawful) free s.invariant.masking.agreement s.repair)
    (subst (λ (w : Verdict). StepInvariant k d (after_verdict k e w).next (after_verdict k e w).effects) x.2 (tick_keeps k d mask can room lawful)))
working_by k d mask s room lawful free false due =
    let e = after_firings k d mask in
    let is = verdict_waits e.voter due in
    subst (VerdictStep k d e) (sym is)
    (repair_step k d e no_effects (subst (λ (w : Verdict). StepInvariant k d (after_verdict k e w).next (after_verdict k e w).effects) is (tick_keeps k d mask (can_step k d s) room lawful))
    (firings_keep_repair k s.core d mask (none_slow d mask lawful) free s.invariant.masking.agreement s.repair))

pub voting_keeps : (k : TriplexCore) (d : TriplexState) (mask : ℕ) → CanStepInRepair k d → d.ticks < 2 ^ 40 → tick_refusal d mask ≡ None → is_holding d.reintegration ≡ false → RepairStep k d (after_voting_tick k d mask) (voted k d mask).effects
voting_keeps k d mask s room lawful free = working_by k d mask s room lawful free (is_due (after_firings k d mask).voter) refl
