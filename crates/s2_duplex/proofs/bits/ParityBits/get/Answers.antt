use Rattle.std.proofs.Common.{◌≡◌, ℕ, ◌/◌, ◌%◌, ◌<◌, List, length, get_or, ap, sym, subst, ◌∙◌, arith}
use Rattle.std.specs.Prelude.{Bool, false, ◌==◌, slice_index_or}
use Rattle.std.proofs.lemmas.List.{get_or_read}
use Rattle.std.proofs.lemmas.Nat.Bits.{shr_and_one}
use Rattle.s2_duplex.specs.ParityUnits.{unit_bit, unpacked}
use Rattle.s2_duplex.proofs.PackedUnits.{length_unpacked, unpacked_at}
use Rattle.s2_duplex.proofs.bits.ParityBits.get.Goals as goal

pub index-requires : goal.index-requires
index-requires c =
    let low : c.args.i < length (unpacked c.self.inside.units.items) = subst (λ (bits : List Bool). c.args.i < length bits) (sym c.self.view_is) c.requires in
    omega (arith, length_unpacked c.self.inside.units.items, c.self.inside.units.ok.0)

pub returns : goal.returns
returns c =
    let units = c.self.inside.units.items in
    let low : c.args.i < length (unpacked units) = subst (λ (bits : List Bool). c.args.i < length bits) (sym c.self.view_is) c.requires in
    let size = length_unpacked units in
    let unit : c.index.result.now ≡ get_or units (c.args.i / 64) 0 = get_or_read units _ _ (omega arith) c.index.ensures 0 in
    ap (λ (b : ℕ). b == 1) (shr_and_one c.index.result.now (c.args.i % 64)) ∙
    (ap (λ (u : ℕ). unit_bit u (c.args.i % 64)) unit ∙
    (sym (unpacked_at units c.args.i low) ∙ ap (λ (bits : List Bool). slice_index_or bits c.args.i false) c.self.view_is))
