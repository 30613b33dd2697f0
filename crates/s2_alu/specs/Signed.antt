-- Words as signed numbers, and back.
use Rattle.std.specs.Prelude.{ℕ, ◌^◌, Bool, ◌&&◌, ℤ, pos, neg_ℤ, ◌-ℤ◌, nat_lt, int_lt, int_le, unsigned_abs, Option, Some, None, if◌then◌else◌}
use Rattle.std.specs.Int.{int_rem_euclid}

-- the number that a word stands for in two's complement, from -2 ^ 31 to 2 ^ 31 - 1
abbrev pub signed : ℕ → ℤ
signed word = if nat_lt word (2 ^ 31) then pos word else pos word -ℤ pos (2 ^ 32)

-- a number modulo 2 ^ n, from 0 on
abbrev pub modulo : ℤ → ℕ → ℕ
modulo z n = unsigned_abs (int_rem_euclid z (pos (2 ^ n)))

-- the word of a number: the number modulo 2 ^ 32
abbrev pub word_of : ℤ → ℕ
word_of z = modulo z 32

-- whether a number is one of a signed word
abbrev pub is_signed_word : ℤ → Bool
is_signed_word z = int_le (neg_ℤ (pos (2 ^ 31))) z && int_lt z (pos (2 ^ 31))

-- the word of a number, or nothing on signed overflow
abbrev pub checked : ℤ → Option ℕ
checked z = if is_signed_word z then Some (word_of z) else None
