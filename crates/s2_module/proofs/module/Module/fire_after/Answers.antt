use Rattle.std.proofs.Common.{ap, sym, ◌∙◌}
use Rattle.s2_machine.specs.LocalWork.{ask_of}
use Rattle.s2_triplex.specs.R2000Triplex.{r2000_triplex}
use Rattle.s2_triplex.specs.ModuleState.{ModuleState}
use Rattle.s2_triplex.specs.ModuleFiring.{after_work}
use Rattle.s2_module.proofs.TurnRuns.{asks_idled, fired_asking, posts_asking}
use Rattle.s2_module.proofs.module.Module.fire_after.Goals as goal

pub ask_and_post-requires : goal.ask_and_post-requires
ask_and_post-requires c = asks_idled c.args.self.now c.idle.new.self (c.requires c.if-not-asks.false) c.idle.ensures

pub returns-clause-module : goal.returns-clause-module
returns-clause-module c =
    c.ask_and_post.ensures.module
    ∙ (ap (λ (x : ModuleState). after_work r2000_triplex c.args.seen x (ask_of x.cpu x.local)) c.idle.ensures
    ∙ sym (fired_asking c.args.seen c.args.self.now (c.requires c.if-not-asks.false)))

pub returns-clause-posts : goal.returns-clause-posts
returns-clause-posts c = sym (posts_asking c.args.seen c.args.self.now (c.requires c.if-not-asks.false))
