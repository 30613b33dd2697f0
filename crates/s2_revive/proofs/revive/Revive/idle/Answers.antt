use Rattle.std.proofs.Common.{subst}
use Rattle.s2_revive.specs.MendingBoards.{IsMendingIn}
use Rattle.s2_revive.proofs.MendedWords.{copied_mending, copied_last}
use Rattle.s2_revive.proofs.revive.Revive.idle.Goals as goal

pub invariant_of-self : goal.invariant_of-self
invariant_of-self c =
    copied_mending c.self.inside.boards c.copy_word.new.self c.in-Some.mending (subst (IsMendingIn c.self.inside.boards) c.in-Some.is c.self.invariant)
    c.copy_word.ensures.boards c.copy_word.ensures.contents c.copy_word.ensures.word c.copy_word.ensures.parity c.if-mending-lt-GLOBAL_WORDS.true

pub bring_in-requires-clause-mended : goal.bring_in-requires-clause-mended
bring_in-requires-clause-mended c =
    copied_last c.self.inside.boards c.copy_word.new.self c.in-Some.mending (subst (IsMendingIn c.self.inside.boards) c.in-Some.is c.self.invariant)
    c.copy_word.ensures.boards c.copy_word.ensures.contents c.copy_word.ensures.word c.copy_word.ensures.parity c.if-mending-lt-GLOBAL_WORDS.false
