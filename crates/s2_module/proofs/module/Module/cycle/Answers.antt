use Rattle.std.proofs.Common.{ap, ◌∙◌, ◌≡◌, sym}
use Rattle.s2_core.proofs.CarriedOut.{asks_nothing}
use Rattle.s2_machine.specs.LocalWork.{ask_of}
use Rattle.s2_triplex.specs.R2000Triplex.{r2000_triplex}
use Rattle.s2_triplex.specs.ModuleState.{is_frame_end, ModuleState}
use Rattle.s2_triplex.specs.ModuleFiring.{after_work}
use Rattle.s2_module.proofs.ModuleViews.{turned_by, asking_by, outside_is, outside_of, ran, rested, same_parts}
use Rattle.s2_module.proofs.module.Module.cycle.Goals as goal

pub returns-then-turn_once-clause-module : goal.returns-then-turn_once-clause-module
returns-then-turn_once-clause-module c =
    turned_by _ _ _ _ _ _ c.self.view_is (asks_nothing _ (sym c.if-turn_once.true ∙ c.turn_once.ensures.local))
    (ran _ _ _ _ c.if-turn_once.true c.turn_once.ensures.cpu) (ran _ _ _ _ c.if-turn_once.true c.turn_once.ensures.words) (ran _ _ _ _ c.if-turn_once.true c.turn_once.ensures.marks)
    (c.ends_frame-self-inside.ensures ∙ ap (is_frame_end _) c.run-run.ensures)

pub returns-then-turn_once-clause-posts : goal.returns-then-turn_once-clause-posts
returns-then-turn_once-clause-posts c = outside_of _ _ _ c.self.view_is c.if-turn_once.true c.turn_once.ensures.local

pub ask_and_post-requires : goal.ask_and_post-requires
ask_and_post-requires c = asking_by _ _ _ _ (same_parts _ _ c.turn_once.new.cpu c.turn_once.new.pages c.self.view_is (rested _ _ _ _ c.if-turn_once.false c.turn_once.ensures.cpu) (rested _ _ _ _ c.if-turn_once.false c.turn_once.ensures.words) (rested _ _ _ _ c.if-turn_once.false c.turn_once.ensures.marks)) c.self.view_is c.if-turn_once.false c.turn_once.ensures.local

pub returns-else-turn_once-clause-module : goal.returns-else-turn_once-clause-module
returns-else-turn_once-clause-module c =
    c.ask_and_post.ensures.module
    ∙ ap (λ (x : ModuleState). after_work r2000_triplex c.args.seen x (ask_of x.cpu x.local)) (same_parts _ _ c.turn_once.new.cpu c.turn_once.new.pages c.self.view_is (rested _ _ _ _ c.if-turn_once.false c.turn_once.ensures.cpu) (rested _ _ _ _ c.if-turn_once.false c.turn_once.ensures.words) (rested _ _ _ _ c.if-turn_once.false c.turn_once.ensures.marks))

pub returns-else-turn_once-clause-posts : goal.returns-else-turn_once-clause-posts
returns-else-turn_once-clause-posts c = outside_is _ _ _ c.self.view_is c.if-turn_once.false c.turn_once.ensures.local
