use Rattle.std.proofs.Common.{◌≡◌, ℕ, ◌/◌, ◌<◌, List, length, get_or, ap, sym, subst, ◌∙◌, arith}
use Rattle.std.specs.Prelude.{Bool, slice_set}
use Rattle.std.proofs.lemmas.List.{get_or_read}
use Rattle.s2_duplex.specs.ParityUnits.{unit_bit, unpacked}
use Rattle.s2_duplex.proofs.PackedUnits.{length_unpacked, unpacked_put}
use Rattle.s2_duplex.proofs.bits.ParityBits.set.Goals as goal

pub index_mut-unit-requires : goal.index_mut-unit-requires
index_mut-unit-requires c =
    let low : c.args.i < length (unpacked c.self.inside.units.items) = subst (λ (bits : List Bool). c.args.i < length bits) (sym c.self.view_is) c.requires in
    omega (arith, length_unpacked c.self.inside.units.items, c.self.inside.units.ok.0)

pub returns : goal.returns
returns c =
    let units = c.self.inside.units.items in
    let low : c.args.i < length (unpacked units) = subst (λ (bits : List Bool). c.args.i < length bits) (sym c.self.view_is) c.requires in
    let size = length_unpacked units in
    let old : c.index_mut-unit.result.now ≡ get_or units (c.args.i / 64) 0 = get_or_read units _ _ (omega arith) c.index_mut-unit.ensures.value 0 in
    unpacked_put units c.args.i c.with_bit.result c.args.bit low (record { same = c.with_bit.ensures.same; other = λ j below ne. c.with_bit.ensures.other j below ne ∙ ap (λ (unit : ℕ). unit_bit unit j) old }) ∙
    ap (λ (bits : List Bool). slice_set bits c.args.i c.args.bit) c.self.view_is
