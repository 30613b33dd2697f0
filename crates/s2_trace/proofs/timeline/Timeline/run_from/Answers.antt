use Rattle.std.proofs.Common.{ℕ, subst}
use Rattle.s2_trace.specs.Travel.{IsPutBack}
use Rattle.s2_trace.proofs.PutBack.{on_the_way, arrived_from}
use Rattle.s2_trace.proofs.timeline.Timeline.run_from.Goals as goal

pub go_on-requires : goal.go_on-requires
go_on-requires c =
    on_the_way c.args.floor c.args.n c.args.self.now c.put_back.new.self c.settle.new.self c.requires
    (subst (λ (k : ℕ). IsPutBack k c.args.self.now c.put_back.new.self) c.min.ensures c.put_back.ensures) c.settle.ensures

pub returns : goal.returns
returns c =
    arrived_from c.args.floor c.args.n c.args.self.now c.put_back.new.self c.settle.new.self c.go_on.new.self
    (subst (λ (k : ℕ). IsPutBack k c.args.self.now c.put_back.new.self) c.min.ensures c.put_back.ensures) c.settle.ensures c.go_on.ensures
