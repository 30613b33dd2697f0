use Rattle.std.proofs.Common.{◌∙◌, ℕ, ◌/◌, ◌%◌, sym, subst}
use Rattle.s2_decode.specs.declared.instr.Instr.TheVariants.{Branch}
use Rattle.s2_mnemonics.specs.LineWords.{IsWordOf}
use Rattle.s2_asm.proofs.Targets.{branch_gives}
use Rattle.s2_asm.proofs.words.branch_word.Goals as goal

pub returns : goal.returns
returns c = λ list holds. branch_gives list c.args.at c.args.n c.args.op c.args.rs c.args.rt c.args.to.now c.in-Some.x c.encode.result (sym (c.address.ensures list holds) ∙ c.in-Some.is) (sym c.branch_comes_to.ensures ∙ c.if-not-branch_comes_to.false)
    (subst (λ (d : ℕ). IsWordOf (Branch c.args.op c.args.rs c.args.rt (d / 4 % 65536)) c.encode.result) c.distance_to.ensures (c.encode.ensures.round_trip, c.encode.ensures.least))
