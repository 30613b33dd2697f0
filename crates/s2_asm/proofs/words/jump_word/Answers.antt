use Rattle.std.proofs.Common.{◌∙◌, sym}
use Rattle.s2_asm.proofs.Targets.{jump_gives}
use Rattle.s2_asm.proofs.words.jump_word.Goals as goal

pub returns : goal.returns
returns c = λ list holds. jump_gives list c.args.at c.args.n c.args.link c.args.to.now c.in-Some.x c.encode.result (sym (c.address.ensures list holds) ∙ c.in-Some.is) (sym c.jump_comes_to.ensures ∙ c.if-not-jump_comes_to.false) (c.encode.ensures.round_trip, c.encode.ensures.least)
