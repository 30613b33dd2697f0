-- Lawful acts keep what a reintegration keeps, beside all else.
use Rattle.std.proofs.Common.{◌≡◌, ℕ, zero, suc, ◌<◌, ◌≢◌, List, length, refl, sym, ap, subst, inl, inr, ◌∙◌, arith}
use Rattle.std.specs.Prelude.{Bool, true, false, nat_lt, ◌==◌, Some, None, ◌⊎◌, if◌then◌else◌}
use Rattle.std.specs.declared.option.Option.{Option}
use Rattle.std.proofs.lemmas.Bool.Decides.{nat_tests}
use Rattle.s2_ports.specs.declared.events.Event.{Event}
use Rattle.s2_device.specs.DeviceState.{lines_of}
use Rattle.s2_voter.specs.VoterState.{is_member, latch_of}
use Rattle.s2_plant_laws.proofs.CopiedPages.{copied_pages_at_start, copied_pages_after_act}
use Rattle.s2_triplex.specs.declared.membership.Membership.{Membership}
use Rattle.s2_triplex.specs.declared.membership.Membership.TheVariants.{In, Out, Joining}
use Rattle.s2_triplex.specs.declared.numbers.TheConstants.{INBOX_EVENTS}
use Rattle.s2_triplex.specs.TriplexCores.{TriplexCore}
use Rattle.s2_triplex.specs.ModuleState.{ModuleState, replica_of}
use Rattle.s2_triplex.specs.ModuleFaults.{module_revived}
use Rattle.s2_triplex.specs.TriplexState.{TriplexState, Reintegration, module_at, membership_at, is_in, is_good}
use Rattle.s2_triplex.specs.VoterDecision.{no_effects, membership_unless_left}
use Rattle.s2_triplex.specs.ActStep.{event_received, module_replaced, reintegration_disturbed, module_disturbed, removed, membership_revived, reintegration_begun, revived}
use Rattle.s2_triplex_laws.specs.LatchAgreement.{IsOwnPort}
use Rattle.s2_triplex_laws.specs.RepairInvariant.{local_replicas, IsOpenReintegration, ReintegrationOf, IsModule, RepairInvariant}
use Rattle.s2_triplex_laws.specs.RepairSteps.{FaultKeepsRepair, RemovalKeepsRepair, ReviveKeepsRepair, EventKeepsRepair}
use Rattle.s2_triplex_laws.proofs.Acts.{good_before, other_one, not_it, replaced_is, module_stays, state_is as membership_removed}
use Rattle.s2_triplex_laws.proofs.MaskingLaws.{good_processors_are_in}
use Rattle.s2_triplex_laws.proofs.LawfulSteps.{tainted_by, fault_keeps, removal_keeps, event_keeps}
use Rattle.s2_triplex_laws.proofs.LocalReplicas.{local_of_is, marks_of_is}
use Rattle.s2_triplex_laws.proofs.HoldSteps.{act_invariant}
use Rattle.s2_triplex_laws.proofs.TicksInRepair.{repair_step, can_step}

clash : (b : Bool) → b ≡ true → b ≡ false → ⊥
clash b x y = cc

some_is : (x y : Reintegration) → Some x ≡ Some y → x ≡ y
some_is x y h = cc

none_some : (x : Reintegration) → None ≡ Some x → ⊥
none_some x h = cc

one_place : (p q : ℕ) → Some p ≡ Some q → p ≡ q
one_place p q h = cc

it_is : (n : ℕ) → (n == n) ≡ true
it_is n = grind (arith, nat_tests)

same_one : (t : Option ℕ) (p q : ℕ) → (t ≡ None) ⊎ (t ≡ Some p) → t ≡ Some q → p ≡ q
same_one t p q (inl none) is = absurd cc
same_one t p q (inr some) is = one_place p q (sym some ∙ is)

-- a module in the place of another
replaced_by : (P : ModuleState → Type 0) (b : Bool) (m n : ModuleState) → (b ≡ true → P m) → P n → P (if b then m else n)
replaced_by P true m n x y = x refl
replaced_by P false m n x y = y

number_is : (p q : ℕ) → (p == q) ≡ true → p ≡ q
number_is p q h = grind (arith, nat_tests)

replaced_module : (d : TriplexState) (p : ℕ) (m : ModuleState) → RepairInvariant d → (p < 3 → IsModule d.frame m) → (q : ℕ) → q < 3 → IsModule d.frame (module_replaced p m d.modules q)
replaced_module d p m r fits q hq =
    replaced_by (IsModule d.frame) (p == q) m (module_at d.modules q) (λ same. fits (subst (λ (n : ℕ). n < 3) (sym (number_is p q same)) hq)) (r.modules q hq)

-- a fault of one processor
fault_repair : (k : TriplexCore) (d : TriplexState) (p : ℕ) (m : ModuleState) → RepairInvariant d → (d.tainted ≡ None) ⊎ (d.tainted ≡ Some p) → (p < 3 → IsModule d.frame m) → RepairInvariant (module_disturbed p m d)
fault_repair k d p m r who fits = record {
  modules = λ q hq. subst (IsModule d.frame) (sym (replaced_is p m d q hq)) (replaced_module d p m r fits q hq);
  fair = r.fair;
  joining = λ q hq joins. let x = r.joining q hq joins in record { of = record x.of { disturbed = true }; is = ap reintegration_disturbed x.is; joiner = x.joiner };
  opened = λ x is. by_open d.reintegration refl x is;
}
  where
    by_open : (open_before : Option Reintegration) → d.reintegration ≡ open_before → (x : Reintegration) → reintegration_disturbed open_before ≡ Some x → IsOpenReintegration (module_disturbed p m d) x
    by_open None e x is = absurd (none_some x is)
    by_open (Some j) e x is =
        let o = r.opened j e in
        let next : Reintegration = record j { disturbed = true } in
        let new = module_disturbed p m d in
        let who_is = same_one d.tainted p j.copying.joiner who o.tainted in
        let stays : (q : ℕ) → q < 3 → q ≢ j.copying.joiner → module_at new.modules q ≡ module_at d.modules q = λ q hq ne. module_stays p q m d hq (λ e. ne (sym e ∙ who_is)) in
        subst (IsOpenReintegration new) (some_is next x is) (record {
          membership = o.membership;
          tainted = ap (λ (v : ℕ). Some v) who_is;
          hold = λ held.
              let w = o.hold held in
              record { now = w.now; due = λ q hq g. ap (λ (n : ModuleState). n.due) (module_stays p q m d hq (other_one p q g)) ∙ w.due q hq (good_before d.tainted p q who g) };
          copied = copied_pages_after_act (local_replicas d j) (local_replicas new next) (record {
            join = refl;
            disturbed = λ clean. absurd (clash true refl clean);
            members = λ q mem.
                let same = stays q mem.0 mem.1 in
                (local_of_is new next q mem.0 ∙ (ap (λ (n : ModuleState). n.local) same ∙ sym (local_of_is d j q mem.0)), marks_of_is new next q mem.0 ∙ (ap (λ (n : ModuleState). n.marks) same ∙ sym (marks_of_is d j q mem.0)));
            sizes = λ q hq.
                ap length (local_of_is new next q hq) ∙
                ((subst (IsModule d.frame) (sym (replaced_is p m d q hq)) (replaced_module d p m r fits q hq)).local ∙ sym (ap length (local_of_is d j q hq) ∙ (r.modules q hq).local));
          }) o.copied;
        })

pub fault_keeps_repair : FaultKeepsRepair
fault_keeps_repair k d p m s lawful fits =
    repair_step k d (module_disturbed p m d) no_effects (fault_keeps k d p m (can_step k d s) lawful) (fault_repair k d p m s.repair (tainted_by d.tainted p lawful) fits)

-- a removal
pub removal_keeps_repair : RemovalKeepsRepair
removal_keeps_repair k d p s lawful =
    repair_step k d (removed p d) no_effects (removal_keeps k d p (can_step k d s) lawful)
    (record { modules = s.repair.modules; fair = s.repair.fair; joining = λ q hq joins. absurd (still_joining q hq joins); opened = λ x is. absurd (none_some x is) })
  where
    still_joining : (q : ℕ) → q < 3 → membership_at (removed p d).memberships q ≡ Joining → ⊥
    still_joining q hq joins = by_place (p == q) refl (sym (membership_removed p d q hq) ∙ joins)
      where
        out_joining : Out ≡ Joining → ⊥
        out_joining h = cc

        by_place : (b : Bool) → (p == q) ≡ b → membership_unless_left b (membership_at d.memberships q) ≡ Joining → ⊥
        by_place true e h = out_joining h
        by_place false e h =
            let x = s.repair.joining q hq h in
            let o = s.repair.opened x.of x.is in
            let same : p ≡ q = same_one d.tainted p x.of.copying.joiner (tainted_by d.tainted p lawful) o.tainted ∙ x.joiner in
            clash (p == q) (grind (arith, nat_tests)) e

-- a reintegration begins
revived_is : (d : TriplexState) (p q : ℕ) → q < 3 → module_at (revived p d).modules q ≡ module_replaced p (module_revived (module_at d.modules p)) d.modules q
revived_is d p zero h = refl
revived_is d p (suc zero) h = refl
revived_is d p (suc (suc zero)) h = refl
revived_is d p (suc (suc (suc q))) h = absurd (omega arith)

membership_is : (d : TriplexState) (p q : ℕ) → q < 3 → membership_at (revived p d).memberships q ≡ membership_revived (p == q) (membership_at d.memberships q)
membership_is d p zero h = refl
membership_is d p (suc zero) h = refl
membership_is d p (suc (suc zero)) h = refl
membership_is d p (suc (suc (suc q))) h = absurd (omega arith)

out_in : (s : Membership) → s ≡ Out → s ≡ In → ⊥
out_in s x y = cc

revived_module : (d : TriplexState) (p : ℕ) → RepairInvariant d → (q : ℕ) → q < 3 → IsModule d.frame (module_at (revived p d).modules q)
revived_module d p r q hq =
    subst (IsModule d.frame) (sym (revived_is d p q hq))
    (replaced_module d p (module_revived (module_at d.modules p)) r (λ hp. let m = r.modules p hp in record { fires = m.fires; local = m.local; marks = m.marks; frame = m.frame }) q hq)

pub revive_keeps_repair : ReviveKeepsRepair
revive_keeps_repair k d p s hp out =
    let h = s.invariant.masking.agreement in
    let tainted : d.tainted ≡ Some p = (good_processors_are_in k d h).out p hp (out_in (membership_at d.memberships p) out) in
    let first = reintegration_begun p d in
    repair_step k d (revived p d) no_effects
    (act_invariant k d (revived p d) (can_step k d s)
    (record { frame = refl; ticks = refl; resumed = refl; resumed_run = refl; halt = refl; global = refl; device = refl; good = λ q hq g. g; modules = λ q hq g. stays q hq (ne q tainted g) }) refl refl
    (record {
      frame = h.frame;
      timer = h.timer;
      members = λ q hq. by_membership q (p == q) refl (h.members q hq) ∙ ap is_in (sym (membership_is d p q hq));
      voter = h.voter;
      good = λ q hq g.
          let t = h.good q hq g in
          let same = sym (stays q hq (ne q tainted g)) in
          record {
            membership = membership_is d p q hq ∙ (ap (λ (b : Bool). membership_revived b (membership_at d.memberships q)) (not_it p q (ne q tainted g)) ∙ t.membership);
            awake = subst (λ (m : ModuleState). m.muted ≡ false) same t.awake;
            port = subst (λ (m : ModuleState). IsOwnPort k d.delivered d.accepted (replica_of m) m.port) same t.port;
            latch = subst (λ (m : ModuleState). latch_of d.voter q ≡ m.port) same t.latch;
            lines = subst (λ (m : ModuleState). m.cpu.lines ≡ lines_of d.device) same t.lines;
          };
      inbox = h.inbox;
      room = h.room;
      boards = h.boards;
    }) (inl refl))
    (record {
      modules = revived_module d p s.repair;
      fair = s.repair.fair;
      joining = λ q hq joins. by_joining tainted q hq (p == q) refl (sym (membership_is d p q hq) ∙ joins);
      opened = λ x is.
          subst (IsOpenReintegration (revived p d)) (some_is first x is) (record {
            membership = membership_is d p p hp ∙ ap (λ (b : Bool). membership_revived b (membership_at d.memberships p)) (it_is p);
            tainted = tainted;
            hold = λ held. absurd (clash false held refl);
            copied = copied_pages_at_start p (local_replicas (revived p d) first) (record {
              known = hp;
              join = refl;
              sizes = λ q hq. ap length (local_of_is (revived p d) first q hq) ∙ (revived_module d p s.repair q hq).local;
            });
          });
    })
  where
    by_joining : d.tainted ≡ Some p → (q : ℕ) → q < 3 → (b : Bool) → (p == q) ≡ b → membership_revived b (membership_at d.memberships q) ≡ Joining → ReintegrationOf (Some (reintegration_begun p d)) q
    by_joining t q hq true e h = record { of = reintegration_begun p d; is = refl; joiner = number_is p q e }
    by_joining t q hq false e h =
        let x = s.repair.joining q hq h in
        let o = s.repair.opened x.of x.is in
        let same : p ≡ q = one_place p x.of.copying.joiner (sym t ∙ o.tainted) ∙ x.joiner in
        absurd (clash (p == q) (ap (λ (n : ℕ). p == n) (sym same) ∙ it_is p) e)

    ne : (q : ℕ) → d.tainted ≡ Some p → is_good d.tainted q ≡ true → p ≢ q
    ne q t g = other_one p q (subst (λ (x : Option ℕ). is_good x q ≡ true) t g)

    stays : (q : ℕ) → q < 3 → p ≢ q → module_at (revived p d).modules q ≡ module_at d.modules q
    stays q hq n = revived_is d p q hq ∙ ap (λ (b : Bool). if b then module_revived (module_at d.modules p) else module_at d.modules q) (not_it p q n)

    by_membership : (q : ℕ) (b : Bool) → (p == q) ≡ b → is_member d.voter q ≡ is_in (membership_at d.memberships q) → is_member d.voter q ≡ is_in (membership_revived b (membership_at d.memberships q))
    by_membership q false e m = m
    by_membership q true e m = let same = number_is p q e in m ∙ ap is_in (ap (membership_at d.memberships) (sym same) ∙ out)

-- an event changes nothing of a reintegration
event_by : (d : TriplexState) (b : Bool) (inbox : List Event) (accepted : ℕ) → RepairInvariant d → RepairInvariant (if b then record d { inbox = inbox; accepted = accepted } else d)
event_by d false inbox accepted r = r
event_by d true inbox accepted r = record {
  modules = r.modules;
  fair = r.fair;
  joining = r.joining;
  opened = λ j is.
      let o = r.opened j is in
      record { membership = o.membership; tainted = o.tainted; copied = o.copied; hold = λ held. let w = o.hold held in record { now = w.now; due = w.due } };
}

pub event_keeps_repair : EventKeepsRepair
event_keeps_repair k d event s = repair_step k d (event_received event d) no_effects (event_keeps k d event (can_step k d s)) (event_by d (nat_lt (length d.inbox) INBOX_EVENTS) _ _ s.repair)
