-- The operands of the product are those of the definition.
use Rattle.std.proofs.Common.{arith}
use Rattle.std.proofs.lemmas.Grind.{common_steps}
use Rattle.s2_alu.proofs.SignedWords.{signed_is}
use Rattle.s2_alu.proofs.products.multiply_signed.Goals as goal

pub returns : goal.returns
returns c =
    let first = signed_is c.args.a c.ranges.a.fits in
    let second = signed_is c.args.b c.ranges.b.fits in
    rw (first, second) (grind (arith, common_steps))
