use Rattle.std.proofs.Common.{sym, subst}
use Rattle.s2_revive.specs.MendingBoards.{IsMendingIn}
use Rattle.s2_revive.proofs.MendedWords.{written_mending, recopied_mending}
use Rattle.s2_revive.proofs.revive.Revive.write.Goals as goal

pub invariant_of-self : goal.invariant_of-self
invariant_of-self c =
    subst (IsMendingIn c.copy_word.new.self) (sym c.in-Some.is)
    (recopied_mending c.self.inside.boards c.write.new.self c.in-Some.mending (subst (IsMendingIn c.self.inside.boards) c.in-Some.is c.self.invariant) c.args.i _ _ c.write.ensures.boards c.write.ensures.contents
    c.copy_word.new.self c.copy_word.ensures.boards c.copy_word.ensures.contents c.copy_word.ensures.word c.copy_word.ensures.parity)

pub invariant_of-self-else-i-mending : goal.invariant_of-self-else-i-mending
invariant_of-self-else-i-mending c =
    subst (IsMendingIn c.write.new.self) (sym c.in-Some.is)
    (written_mending c.self.inside.boards c.write.new.self c.in-Some.mending (subst (IsMendingIn c.self.inside.boards) c.in-Some.is c.self.invariant) c.args.i _ _ c.write.ensures.boards c.write.ensures.contents c.if-i-mending.false)
