-- The ticks of a hold as steps: all is kept, and the reference machine stays.
use Rattle.std.proofs.Common.{◌≡◌, ℕ, ◌-◌, ◌^◌, ◌<◌, List, [], ◌∷◌, ◌++◌, refl, sym, ap, subst, inl, ◌∙◌, arith}
use Rattle.std.specs.Prelude.{Some, None, ◌+◌}
use Rattle.s2_voter.specs.Timers.{timer_of}
use Rattle.s2_machine.specs.MachineRun.{bytes_of, core_machine_run}
use Rattle.s2_machine.specs.declared.deliveries.Delivery.{Delivery}
use Rattle.s2_revive.specs.MendingBoards.{memory_of}
use Rattle.s2_plant_laws.specs.BoundedSkew.{SkewData, BoundedSkew}
use Rattle.s2_triplex.specs.TriplexCores.{TriplexCore, IsTriplexCore}
use Rattle.s2_triplex.specs.ModuleState.{Replica, replica_of, after_local_cycles}
use Rattle.s2_triplex.specs.TriplexState.{TriplexState, Reintegration, module_at}
use Rattle.s2_triplex.specs.ReferenceMachine.{slowest, runs, reference}
use Rattle.s2_triplex.specs.VoterDecision.{StepEffects, no_effects}
use Rattle.s2_triplex.specs.CopyHolds.{hold_begun, after_idle_tick, word_copied, joined}
use Rattle.s2_triplex_laws.specs.LatchAgreement.{LatchAgreement}
use Rattle.s2_triplex_laws.specs.TriplexInvariant.{CanStep, StepInvariant}
use Rattle.s2_triplex_laws.specs.RepairInvariant.{IsOpenReintegration, RepairInvariant}
use Rattle.s2_triplex_laws.proofs.LocalCycles.{run_between}
use Rattle.s2_triplex_laws.proofs.SlowestProcessor.{slowest_is}
use Rattle.s2_triplex_laws.proofs.Firings.{StepGoesOn}
use Rattle.s2_triplex_laws.proofs.Acts.{ActEffect, act_goes_on}
use Rattle.s2_triplex_laws.proofs.DeliveredRuns.{append_none, machine_runs_add, up_to_at, advances_add}
use Rattle.s2_triplex_laws.proofs.MaskingLaws.{step_masks}
use Rattle.s2_triplex_laws.proofs.SkewSteps.{KeepsAge, FairClock, goes_on_keeps, resumed_invariant, act_keeps_skew}
use Rattle.s2_triplex_laws.proofs.HoldBegins.{now_replica, clears_at, skew_same, hold_begun_agrees, hold_begun_equal}
use Rattle.s2_triplex_laws.proofs.HoldTicks.{no_age, idles_at, idle_agrees, idle_equal, copied_other, word_agrees, saved_agrees}
use Rattle.s2_triplex_laws.proofs.HoldEnds.{AtLastWord, joined_replica, joined_agrees, joined_equal, joined_keeps_repair}

-- an act, or a step that is like one
pub act_invariant : (k : TriplexCore) (d e : TriplexState) → CanStep k d → ActEffect d e → e.posted ≡ d.posted → e.windows ≡ d.windows → LatchAgreement k e → KeepsAge d e → StepInvariant k d e no_effects
act_invariant k d e s acts posted windows h age =
    let a = s.invariant.masking.replicas in
    let o = act_goes_on k d e a s.halt acts in
    record {
      invariant = goes_on_keeps k d e a s.invariant.next h o (act_keeps_skew k d e (s.invariant.next.cycles + 1) acts posted windows h age s.invariant.skew);
      advance = (step_masks k s.core d e a h o).advance;
    }

-- a step after one that has no effects, and a step without effects after another
pub steps_join : (k : TriplexCore) (d e f : TriplexState) (effects : StepEffects) → StepInvariant k d e no_effects → StepInvariant k e f effects → StepInvariant k d f effects
steps_join k d e f effects a b = record { invariant = b.invariant; advance = advances_add k d e f no_effects effects refl refl a.advance b.advance }

pub step_then_none : (k : TriplexCore) (d e f : TriplexState) (effects : StepEffects) → StepInvariant k d e effects → StepInvariant k e f no_effects → StepInvariant k d f effects
step_then_none k d e f effects a b =
    let low = a.advance.grows in
    let high = b.advance.grows in
    record {
      invariant = b.invariant;
      advance = record {
        grows = omega arith;
        from = a.advance.from;
        to = up_to_at (runs e) (runs f) effects.deliveries b.advance.grows a.advance.to;
        reference_runs =
            ap (λ (ds : List Delivery). core_machine_run k.core (reference d) ds (runs f)) (sym (nothing effects.deliveries)) ∙
            (machine_runs_add k (reference d) (reference e) (reference f) (runs e) (runs f) effects.deliveries [] (bytes_of effects.out) [] a.advance.grows b.advance.grows refl a.advance.to tt a.advance.reference_runs b.advance.reference_runs ∙
            ap (λ (bs : List ℕ). record { machine = reference f; bytes = bs }) (append_none (bytes_of effects.out)));
      };
    }
  where
    nothing : (ds : List Delivery) → ds ++ [] ≡ ds
    nothing [] = refl
    nothing (x ∷ xs) = ap (λ (t : List Delivery). x ∷ t) (nothing xs)

-- a hold begins
hold_begun_goes_on : (k : TriplexCore) (d : TriplexState) (j : Reintegration) (s : CanStep k d) → StepGoesOn k d (hold_begun d (Some j)) s.invariant.masking.replicas
unfolding hold_begun_equal
hold_begun_goes_on k d j s = record {
  replicas = hold_begun_equal k d j s.invariant.masking.replicas;
  continues = record {
    frame = refl;
    start = refl;
    halt = s.halt;
    still = s.halt;
    global = refl;
    device = refl;
    good = λ p hp g. g;
    grows = λ p hp g. let same = ap (λ (r : Replica). r.cpu.run) (clears_at d j p hp).replica in omega arith;
  };
}

pub hold_begun_invariant : (k : TriplexCore) (d : TriplexState) (j : Reintegration) → CanStep k d → StepInvariant k d (hold_begun d (Some j)) no_effects
hold_begun_invariant k d j s =
    let a = s.invariant.masking.replicas in
    let e = hold_begun d (Some j) in
    let h = hold_begun_agrees k d j s.invariant.masking.agreement in
    let o = hold_begun_goes_on k d j s in
    record {
      invariant = goes_on_keeps k d e a s.invariant.next h o (subst (λ (x : SkewData). BoundedSkew (timer_of d.frame) (s.invariant.next.cycles + 1) x) (sym (skew_same d j)) s.invariant.skew);
      advance = (step_masks k s.core d e a h o).advance;
    }

-- time passes
idle_goes_on : (k : TriplexCore) (d : TriplexState) (mask : ℕ) (s : CanStep k d) → d.resumed ≡ d.ticks → d.ticks < 2 ^ 40 → StepGoesOn k d (after_idle_tick d mask) s.invariant.masking.replicas
unfolding idle_equal
idle_goes_on k d mask s now room = record {
  replicas = idle_equal k d mask s.invariant.masking.replicas now room;
  continues = record {
    frame = refl;
    start = refl;
    halt = s.halt;
    still = s.halt;
    global = refl;
    device = refl;
    good = λ p hp g. g;
    grows = λ p hp g. let same = ap (λ (r : Replica). r.cpu.run) (idles_at d mask p hp).replica in omega arith;
  };
}

-- the clocks of a machine with what is kept of a reintegration
pub fair_clocks : (d : TriplexState) → RepairInvariant d → (p : ℕ) → p < 3 → FairClock d p
fair_clocks d r p hp = record { fires = (r.modules p hp).fires; fair = r.fair p hp }

pub idle_invariant : (k : TriplexCore) (d : TriplexState) (mask : ℕ) (j : Reintegration) (s : CanStep k d) → d.ticks < 2 ^ 40 → RepairInvariant (after_idle_tick d mask) → IsOpenReintegration d j → d.resumed ≡ d.ticks → StepInvariant k d (after_idle_tick d mask) no_effects
idle_invariant k d mask j s room r o now =
    let h = s.invariant.masking.agreement in
    let a = s.invariant.masking.replicas in
    let e = after_idle_tick d mask in
    let c = idle_agrees k d mask h in
    record {
      invariant = resumed_invariant k s.core e (record { agreement = c; replicas = idle_equal k d mask a now room }) refl (no_age k d j h a o now) (λ p hp g. fair_clocks e r p hp);
      advance = (step_masks k s.core d e a c (idle_goes_on k d mask s now room)).advance;
    }

-- a word is copied
pub word_invariant : (k : TriplexCore) (d : TriplexState) (j : Reintegration) (i : ℕ) → CanStep k d → IsOpenReintegration d j → StepInvariant k d (word_copied d j i) no_effects
word_invariant k d j i s o =
    act_invariant k d (word_copied d j i) s (record { frame = refl; ticks = refl; resumed = refl; resumed_run = refl; halt = refl; global = refl; device = refl; good = λ q hq g. g; modules = λ q hq g. copied_other d j i o q hq g }) refl refl
    (word_agrees k d j i o s.invariant.masking.agreement) (inl refl)

pub saved_invariant : (k : TriplexCore) (d : TriplexState) (x : Reintegration) → CanStep k d → StepInvariant k d (record d { reintegration = Some x }) no_effects
saved_invariant k d x s =
    act_invariant k d (record d { reintegration = Some x }) s (record { frame = refl; ticks = refl; resumed = refl; resumed_run = refl; halt = refl; global = refl; device = refl; good = λ q hq g. g; modules = λ q hq g. refl }) refl refl
    (saved_agrees k d x s.invariant.masking.agreement) (inl refl)

-- the end
pub joined_invariant : (k : TriplexCore) (c : IsTriplexCore k) (d : TriplexState) (j : Reintegration) → d.halt ≡ None → d.reintegration ≡ Some j → AtLastWord k d j → StepInvariant k d (joined d j) no_effects
joined_invariant k c d j halt is x =
    let e = joined d j in
    let p = slowest_is d.tainted d.modules in
    let q = slowest_is e.tainted e.modules in
    let ip = now_replica k d x.replicas x.hold.now (slowest d.tainted d.modules) p.low p.good in
    let iq = joined_replica k d j x (slowest e.tainted e.modules) q.low q.good in
    let same : runs e ≡ runs d = ap (λ (s : Replica). s.cpu.run) (iq ∙ sym ip) in
    let none : runs e - runs d ≡ 0 = omega arith in
    let repair = joined_keeps_repair d j x.repair is in
    record {
      invariant = resumed_invariant k c e (record { agreement = joined_agrees k d j x; replicas = joined_equal k d j x }) x.hold.now (no_age k d j x.agreement x.replicas x.open_now x.hold.now) (λ n hn g. fair_clocks e repair n hn);
      advance = record {
        grows = omega arith;
        from = tt;
        to = tt;
        reference_runs =
            run_between k (runs e - runs d) (runs d) (memory_of d.boards) (memory_of e.boards) d.device e.device d.halt e.halt (module_at d.modules (slowest d.tainted d.modules)) (module_at e.modules (slowest e.tainted e.modules))
            halt halt refl refl (λ i less. absurd (omega arith)) (iq ∙ (sym ip ∙ ap (λ (n : ℕ). after_local_cycles k n (replica_of (module_at d.modules (slowest d.tainted d.modules)))) (sym none)));
      };
    }
