-- The even parity bit of a word.
use Rattle.std.specs.Prelude.{ℕ, ◌%◌, ◌==◌, not, Bool, true, false, count_ones}

-- it is set where the number of bits that are set is odd
abbrev pub parity_of : ℕ → Bool
parity_of word = count_ones word % 2 == 1

-- whether two bits are the same
abbrev pub is_same_bit : Bool → Bool → Bool
is_same_bit true bit = bit
is_same_bit false bit = not bit
