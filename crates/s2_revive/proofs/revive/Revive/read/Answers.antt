use Rattle.std.proofs.Common.{sym, subst}
use Rattle.s2_duplex.specs.DuplexBoards.{BoardPair}
use Rattle.s2_revive.specs.MendingBoards.{IsMendingIn}
use Rattle.s2_revive.proofs.MendingMemory.{read_mending}
use Rattle.s2_revive.proofs.revive.Revive.read.Goals as goal

pub invariant_of-self : goal.invariant_of-self
invariant_of-self c =
    subst (λ (s : BoardPair). IsMendingIn s c.self.inside.mending) (sym c.read.ensures.boards) (read_mending c.self.inside.boards c.self.inside.mending c.args.i c.self.invariant)
