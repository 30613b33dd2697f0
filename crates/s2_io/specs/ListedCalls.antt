-- The calls of an object in memory, of which the listed ones fail.
use Rattle.std.specs.Prelude.{ℕ, ◌==◌, Bool, true, false, List}
use Rattle.std.specs.List.{list_any}
use Rattle.s2_io.specs.Counts.{counted}

-- how many calls were made, the numbers of those that fail, and how many failed
pub record Calls : Type 0 where
  pub made : ℕ
  pub fails : List ℕ
  pub faults : ℕ

-- no call was made
abbrev pub uncalled : List ℕ → Calls
uncalled fails = record { made = 0; fails = fails; faults = 0 }

-- the next call is one of those that fail; the first call has number 1
abbrev pub is_failing : Calls → Bool
is_failing calls = list_any (λ k. k == counted calls.made) calls.fails

-- after one more call, which failed or not
abbrev pub called : Calls → Bool → Calls
called calls true = record { made = counted calls.made; fails = calls.fails; faults = counted calls.faults }
called calls false = record { made = counted calls.made; fails = calls.fails; faults = calls.faults }
