use Rattle.std.proofs.Common.{◌≡◌, ℕ, suc, ◌+◌, ◌<◌, refl, sym, ap, subst, ◌∙◌, arith, below_more}
use Rattle.std.specs.Prelude.{true, false}
use Rattle.s2_core.specs.Working.{is_local}
use Rattle.s2_machine.specs.LocalWork.{ask_of}
use Rattle.s2_cpu.specs.Processor.{Processor}
use Rattle.s2_triplex.specs.ModuleState.{is_frame_end}
use Rattle.s2_module.specs.ModuleLeads.{AreTurns, IsTurned, Turning, turns}
use Rattle.s2_module.proofs.ModuleViews.{ran, rested}
use Rattle.s2_module.proofs.TurnRuns.{asks_first, asks_next, ends_at, stays_at, turned_more, turned_start, within_more}
use Rattle.s2_module.proofs.module.turns_on.Goals as goal

pub loop-ran-init : goal.loop-ran-init
loop-ran-init c = record { at = turned_start _ _ _; stays = λ j h. absurd (omega (arith, h)); within = λ j a b. absurd (omega (arith, a, b)) }

pub returns-then-not-turn_on-clause-cpu : goal.returns-then-not-turn_on-clause-cpu
returns-then-not-turn_on-clause-cpu c = rested _ _ _ _ c.if-not-turn_on.true c.turn_on.ensures.cpu ∙ c.loop-ran.invariant.at.cpu

pub returns-then-not-turn_on-clause-words : goal.returns-then-not-turn_on-clause-words
returns-then-not-turn_on-clause-words c = rested _ _ _ _ c.if-not-turn_on.true c.turn_on.ensures.words ∙ c.loop-ran.invariant.at.local

pub returns-then-not-turn_on-clause-marks : goal.returns-then-not-turn_on-clause-marks
returns-then-not-turn_on-clause-marks c = rested _ _ _ _ c.if-not-turn_on.true c.turn_on.ensures.marks ∙ c.loop-ran.invariant.at.marks

pub returns-then-not-turn_on-clause-turns : goal.returns-then-not-turn_on-clause-turns
returns-then-not-turn_on-clause-turns c = record { stays = c.loop-ran.invariant.stays; within = λ j a b. c.loop-ran.invariant.within j a (omega (arith, b)) }

pub returns-then-ends_frame-clause-cpu : goal.returns-then-ends_frame-clause-cpu
returns-then-ends_frame-clause-cpu c = (turned_more c.loop-ran.ran _ _ _ _ _ _ _ c.loop-ran.invariant.at (ran _ _ _ _ c.if-not-turn_on.false c.turn_on.ensures.cpu) (ran _ _ _ _ c.if-not-turn_on.false c.turn_on.ensures.words) (ran _ _ _ _ c.if-not-turn_on.false c.turn_on.ensures.marks)).cpu

pub returns-then-ends_frame-clause-words : goal.returns-then-ends_frame-clause-words
returns-then-ends_frame-clause-words c = (turned_more c.loop-ran.ran _ _ _ _ _ _ _ c.loop-ran.invariant.at (ran _ _ _ _ c.if-not-turn_on.false c.turn_on.ensures.cpu) (ran _ _ _ _ c.if-not-turn_on.false c.turn_on.ensures.words) (ran _ _ _ _ c.if-not-turn_on.false c.turn_on.ensures.marks)).local

pub returns-then-ends_frame-clause-marks : goal.returns-then-ends_frame-clause-marks
returns-then-ends_frame-clause-marks c = (turned_more c.loop-ran.ran _ _ _ _ _ _ _ c.loop-ran.invariant.at (ran _ _ _ _ c.if-not-turn_on.false c.turn_on.ensures.cpu) (ran _ _ _ _ c.if-not-turn_on.false c.turn_on.ensures.words) (ran _ _ _ _ c.if-not-turn_on.false c.turn_on.ensures.marks)).marks

pub returns-then-ends_frame-clause-turns : goal.returns-then-ends_frame-clause-turns
returns-then-ends_frame-clause-turns c =
    let s : Turning = record { cpu = c.args.cpu.now; local = c.args.pages.now.words; marks = c.args.pages.now.marks } in
    record {
      stays = below_more (λ (j : ℕ). is_local (ask_of (turns j s).cpu (turns j s).local) ≡ true) _ c.loop-ran.invariant.stays
          (stays_at c.loop-ran.ran s c.loop-ran.cpu c.loop-ran.pages.words c.loop-ran.pages.marks c.turn_on.result c.loop-ran.invariant.at c.if-not-turn_on.false c.turn_on.ensures.local);
      within = λ j a b. c.loop-ran.invariant.within j a (omega (arith, b));
    }

pub loop-ran-preserved : goal.loop-ran-preserved
loop-ran-preserved c =
    let s : Turning = record { cpu = c.args.cpu.now; local = c.args.pages.now.words; marks = c.args.pages.now.marks } in
    let at : IsTurned (c.loop-ran.ran + 1) s c.turn_on.new.cpu c.turn_on.new.pages.words c.turn_on.new.pages.marks =
    turned_more c.loop-ran.ran s _ _ _ _ _ _ c.loop-ran.invariant.at (ran _ _ _ _ c.if-not-turn_on.false c.turn_on.ensures.cpu) (ran _ _ _ _ c.if-not-turn_on.false c.turn_on.ensures.words) (ran _ _ _ _ c.if-not-turn_on.false c.turn_on.ensures.marks) in
    record {
      at = at;
      stays = below_more (λ (j : ℕ). is_local (ask_of (turns j s).cpu (turns j s).local) ≡ true) _ c.loop-ran.invariant.stays
          (stays_at c.loop-ran.ran s c.loop-ran.cpu c.loop-ran.pages.words c.loop-ran.pages.marks c.turn_on.result c.loop-ran.invariant.at c.if-not-turn_on.false c.turn_on.ensures.local);
      within = within_more c.args.frame c.loop-ran.ran s c.loop-ran.invariant.within
          (ends_at c.args.frame (c.loop-ran.ran + 1) s c.turn_on.new.cpu c.turn_on.new.pages.words c.turn_on.new.pages.marks c.ends_frame.result at c.if-ends_frame.false (c.ends_frame.ensures ∙ ap (λ (q : Processor). is_frame_end c.args.frame q.run) c.cpu.view_is));
    }

pub returns-then-not-turn_on-clause-asks : goal.returns-then-not-turn_on-clause-asks
returns-then-not-turn_on-clause-asks c = λ none _. asks_first c.loop-ran.ran _ c.loop-ran.cpu c.loop-ran.pages.words c.loop-ran.pages.marks c.turn_on.result c.loop-ran.invariant.at none c.if-not-turn_on.true c.turn_on.ensures.local

pub returns-then-not-turn_on-clause-next : goal.returns-then-not-turn_on-clause-next
returns-then-not-turn_on-clause-next c = λ _ _.
    asks_next c.loop-ran.cpu c.turn_on.new.cpu c.loop-ran.pages.words c.turn_on.new.pages.words c.turn_on.result c.if-not-turn_on.true
    (rested _ _ _ _ c.if-not-turn_on.true c.turn_on.ensures.cpu) (rested _ _ _ _ c.if-not-turn_on.true c.turn_on.ensures.words) c.turn_on.ensures.local
