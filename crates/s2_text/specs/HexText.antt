-- Numbers as digits of base 16.
use Rattle.std.specs.Prelude.{◌≡◌, ℕ, zero, suc, ◌+◌, ◌/◌, ◌%◌, ◌^◌, ◌<◌, ◌≤◌, List, [], ◌∷◌, length, nat_lt, if◌then◌else◌}
use Rattle.s2_text.specs.declared.hexadecimal.TheConstants.{WORD_DIGITS}

-- a digit of base 16: `0` to `9`, `a` to `f`
abbrev pub hex_digit : ℕ → ℕ
hex_digit d = if nat_lt d 10 then 48 + d else 87 + d

-- so many digits, which are the last ones of v
abbrev pub hex_text : ℕ → ℕ → List ℕ
hex_text zero v = []
hex_text (suc n) v = hex_digit (v / 16 ^ n % 16) ∷ hex_text n v

-- the text is 1 to 8 digits, and v is their number
pub record IsHexText (text : List ℕ) (v : ℕ) : Type 0 where
  pub some : 1 ≤ length text
  pub few : length text ≤ WORD_DIGITS
  pub fits : v < 16 ^ length text
  pub is : text ≡ hex_text (length text) v
