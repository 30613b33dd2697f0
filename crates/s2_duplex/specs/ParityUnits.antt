-- For the parts of a board: bits that are packed into units: bit i of the list is bit i % UNIT_BITS of unit i / UNIT_BITS.
use Rattle.std.specs.Prelude.{ℕ, ◌*◌, ◌/◌, ◌%◌, ◌==◌, List, length, map, Bool, slice_index}
use Rattle.std.specs.List.{range_with_len}
use Rattle.std.specs.Int.{bit_at}
use Rattle.s2_duplex.specs.declared.bits.TheConstants.{UNIT_BITS}

-- whether a bit of a unit is set
abbrev pub unit_bit : ℕ → ℕ → Bool
unit_bit unit k = bit_at unit k == 1

-- the bit at an index of the list
abbrev pub packed_bit : List ℕ → ℕ → Bool
packed_bit units i = unit_bit (slice_index units (i / UNIT_BITS)) (i % UNIT_BITS)

-- the list of bits
abbrev pub unpacked : List ℕ → List Bool
unpacked units = map (packed_bit units) (range_with_len 0 (UNIT_BITS * length units))
