-- Each instruction's word is laid at its place.
use Rattle.std.proofs.Common.{arith}
use Rattle.std.proofs.lemmas.Option.{slice_get-get_or, slice_get_within}
use Rattle.s2_gen.proofs.LaidWords.{proper_at, laid_next}
use Rattle.s2_gen.proofs.building.lay.Goals as goal

pub encode-requires : goal.encode-requires
encode-requires c = proper_at c.args.code.now c.loop-i.i _ c.requires.proper (slice_get-get_or c.args.code.now c.loop-i.i _ c.loop-i-test.true)

pub loop-i-preserved : goal.loop-i-preserved
loop-i-preserved c =
    laid_next c.args.code.now c.args.words.now c.loop-i.words c.loop-i.i c.encode.result _ c.loop-i.invariant
    (slice_get-get_or c.args.code.now c.loop-i.i _ c.loop-i-test.true)
    (record { decodes = c.encode.ensures.round_trip; least = c.encode.ensures.least })
    (omega (arith, c.loop-i.invariant.size, c.requires.room, c.loop-i-test.true))

pub returns-clause-code : goal.returns-clause-code
returns-clause-code c = λ i instr found.
    c.loop-i.invariant.laid i instr (omega (arith, slice_get_within c.args.code.now i instr found, c.loop-i-test.false)) found
