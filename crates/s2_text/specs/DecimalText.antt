-- Whole texts that are a decimal number, as std writes one: no sign, and no leading zero but the number 0.
use Rattle.std.specs.Prelude.{◌≡◌, ℕ, ◌≤◌, List}
use Rattle.std.specs.Fmt.{decimal}

-- the text is the decimal number n, which is at most max
pub record IsDecimalText (text : List ℕ) (max n : ℕ) : Type 0 where
  pub most : n ≤ max
  pub is : text ≡ decimal n
