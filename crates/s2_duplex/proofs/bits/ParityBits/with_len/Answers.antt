use Rattle.std.proofs.Common.{◌≡◌, ◌*◌, length, ◌∙◌, arith}
use Rattle.s2_duplex.proofs.PackedUnits.{length_unpacked}
use Rattle.s2_duplex.proofs.bits.ParityBits.with_len.Goals as goal

pub returns-in-Ok : goal.returns-in-Ok
returns-in-Ok c =
    let units = c.in-Ok.units.items in
    length_unpacked units ∙ (let e : 64 * length units ≡ c.args.len = omega (arith, c.in-Ok.ensures.len, c.in-Ok.units.ok.0) in e)
