use Rattle.std.proofs.Common.{sym, ap, ◌∙◌}
use Rattle.s2_revive.specs.MendingBoards.{MendingBoards}
use Rattle.s2_revive.proofs.IdleTurns.{idled_none, idled_silent}
use Rattle.s2_revive.proofs.revive.Revive.idle_by.Goals as goal

pub returns-in-None-clause-boards : goal.returns-in-None-clause-boards
returns-in-None-clause-boards c =
    sym (idled_none c.args.n c.args.self.now (ap (λ (s : MendingBoards). s.mending) (sym c.self.view_is) ∙ c.in-None.is))

pub returns-in-Some-clause-silent : goal.returns-in-Some-clause-silent
returns-in-Some-clause-silent c = idled_silent c.args.n c.args.self.now c.requires

pub returns-in-None-clause-silent : goal.returns-in-None-clause-silent
returns-in-None-clause-silent c = idled_silent c.args.n c.args.self.now c.requires
