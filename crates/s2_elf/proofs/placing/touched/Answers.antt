-- A word outside is apart from the segment.
use Rattle.std.proofs.Common.{◌≡◌, ◌+◌, ◌-◌, ◌*◌, ◌/◌, min, length, get_or, arith}
use Rattle.std.specs.Int.{div_ceil}
use Rattle.s2_elf.specs.Images.{base_of}
use Rattle.s2_elf.specs.Placing.{header_of}
use Rattle.s2_elf.proofs.PlacedWords.{untouched, apart_outside}
use Rattle.s2_elf.proofs.placing.touched.Goals as goal

pub returns-clause-untouched : goal.returns-clause-untouched
returns-clause-untouched c = λ bytes i within side.
    let h = header_of c.args.header in
    let first : c.saturating_sub-first.result / 4 ≡ (base_of h - c.args.base) / 4 = cc in
    let last : c.min.result ≡ min (div_ceil (base_of h + h.memsz - c.args.base) 4) (length c.args.words.now) = cc in
    untouched bytes (c.args.base + 4 * i) (get_or c.args.words.now i 0) h (omega (arith, c.type_inv.words i))
    (apart_outside h c.args.base _ _ _ i first last within side)
