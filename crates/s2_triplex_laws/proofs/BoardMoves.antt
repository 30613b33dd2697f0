-- The boards may be others that stand for the same list: all that is kept of a machine stays, and its reference machine.
use Rattle.std.proofs.Common.{◌≡◌, List, refl, sym, ap, inl, ◌∙◌}
use Rattle.std.specs.Prelude.{ℕ, Bool, true, false}
use Rattle.s2_machine.specs.MachineRun.{bytes_of}
use Rattle.s2_revive.specs.MendingBoards.{MendingBoards, AreMendingBoards, memory_of}
use Rattle.s2_revive.proofs.MendingMemory.{idle_keeps, idle_memory, begun_keeps, begun_memory}
use Rattle.s2_triplex.specs.TriplexCores.{TriplexCore}
use Rattle.s2_triplex.specs.TriplexState.{TriplexState, module_at}
use Rattle.s2_triplex.specs.ReferenceMachine.{slowest}
use Rattle.s2_triplex.specs.VoterDecision.{StepEffects, no_effects}
use Rattle.s2_triplex.specs.TickStep.{boards_idled_if, idled_after}
use Rattle.s2_triplex.specs.ActStep.{mend_begun}
use Rattle.s2_triplex_laws.specs.ReferenceAdvance.{ReferenceAdvance}
use Rattle.s2_triplex_laws.specs.TriplexInvariant.{TriplexInvariant}
use Rattle.s2_triplex_laws.specs.RepairInvariant.{RepairInvariant}
use Rattle.s2_triplex_laws.specs.RepairSteps.{CanStepInRepair, RepairStep}
use Rattle.s2_triplex_laws.specs.RepairTallies.{RepairCounted}
use Rattle.s2_triplex_laws.proofs.Acts.{boards_agree}
use Rattle.s2_triplex_laws.proofs.HoldSteps.{act_invariant}
use Rattle.s2_triplex_laws.proofs.TicksInRepair.{can_step}

pub boards_invariant : (k : TriplexCore) (d : TriplexState) (s : MendingBoards) → AreMendingBoards s → TriplexInvariant k d → TriplexInvariant k (record d { boards = s })
boards_invariant k d s boards h =
    let a = h.masking.replicas in
    record {
      masking = record {
        agreement = boards_agree k d s boards h.masking.agreement;
        replicas = record { start = a.start; frame = a.frame; at = a.at; ends = a.ends; low = a.low; room = a.room; each = a.each };
      };
      next = h.next;
      skew = h.skew;
    }

pub boards_repair : (d : TriplexState) (s : MendingBoards) → RepairInvariant d → RepairInvariant (record d { boards = s })
boards_repair d s r = record {
  modules = r.modules;
  fair = r.fair;
  joining = r.joining;
  opened = λ j is.
      let o = r.opened j is in
      record { membership = o.membership; tainted = o.tainted; copied = o.copied; hold = λ held. let w = o.hold held in record { now = w.now; due = w.due } };
}

pub boards_counted : (d : TriplexState) (s : MendingBoards) → RepairCounted d → RepairCounted (record d { boards = s })
boards_counted d s counts j is =
    let h = counts j is in
    record { ticks = h.ticks; sync = h.sync; posts = h.posts; past = h.past; waits = h.waits; progress = h.progress }

pub boards_advance : (k : TriplexCore) (d e : TriplexState) (s : MendingBoards) (effects : StepEffects) → memory_of s ≡ memory_of e.boards → ReferenceAdvance k d e effects → ReferenceAdvance k d (record e { boards = s }) effects
boards_advance k d e s effects same a = record {
  grows = a.grows;
  from = a.from;
  to = a.to;
  reference_runs =
      let m = module_at e.modules (slowest e.tainted e.modules) in
      a.reference_runs ∙ ap (λ (g : List ℕ). record { machine = record { cpu = m.cpu; local = m.local; global = g; device = e.device; halt = e.halt }; bytes = bytes_of effects.out }) (sym same);
}

pub boards_step : (k : TriplexCore) (d e : TriplexState) (s : MendingBoards) (effects : StepEffects) → AreMendingBoards s → memory_of s ≡ memory_of e.boards → RepairStep k d e effects → RepairStep k d (record e { boards = s }) effects
boards_step k d e s effects boards same w = record {
  invariant = boards_invariant k e s boards w.invariant;
  advance = boards_advance k d e s effects same w.advance;
  repair = boards_repair e s w.repair;
}

-- an idle turn
pub idled_keeps : (b : Bool) (s : MendingBoards) → AreMendingBoards s → AreMendingBoards (boards_idled_if b s)
idled_keeps true s d = idle_keeps s d
idled_keeps false s d = d

pub idled_memory : (b : Bool) (s : MendingBoards) → AreMendingBoards s → memory_of (boards_idled_if b s) ≡ memory_of s
idled_memory true s d = idle_memory s d
idled_memory false s d = refl

pub idled_step : (k : TriplexCore) (d e : TriplexState) (b : Bool) (effects : StepEffects) → RepairStep k d e effects → RepairStep k d (idled_after b e) effects
idled_step k d e b effects w =
    let boards = w.invariant.masking.agreement.boards in
    boards_step k d e (boards_idled_if b e.boards) effects (idled_keeps b e.boards boards) (idled_memory b e.boards boards) w

pub idled_counted : (e : TriplexState) (b : Bool) → RepairCounted e → RepairCounted (idled_after b e)
idled_counted e b counts = boards_counted e (boards_idled_if b e.boards) counts

-- a mending begins
no_step : (k : TriplexCore) (d : TriplexState) → CanStepInRepair k d → RepairStep k d d no_effects
no_step k d s =
    let h = act_invariant k d d (can_step k d s) (record { frame = refl; ticks = refl; resumed = refl; resumed_run = refl; halt = refl; global = refl; device = refl; good = λ q hq g. g; modules = λ q hq g. refl }) refl refl s.invariant.masking.agreement (inl refl) in
    record { invariant = s.invariant; advance = h.advance; repair = s.repair }

pub mend_step : (k : TriplexCore) (d : TriplexState) (board : ℕ) → CanStepInRepair k d → RepairStep k d (mend_begun board d) no_effects
mend_step k d board s =
    boards_step k d d _ no_effects (begun_keeps board d.boards s.invariant.masking.agreement.boards) (begun_memory board d.boards) (no_step k d s)
