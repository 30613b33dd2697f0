-- The transcript of a run: what it writes, in order, each byte for the console or for the report.
use Rattle.std.specs.Prelude.{ℕ, List, [], ◌∷◌}

-- where a byte goes
pub data Outlet : Type 0 where
  Console : Outlet
  Report : Outlet

-- bytes that go to one outlet
abbrev pub for_outlet : Outlet → List ℕ → List (Outlet × ℕ)
for_outlet outlet [] = []
for_outlet outlet (b ∷ bs) = (outlet, b) ∷ for_outlet outlet bs

-- the byte before the others, where it goes to the console, and where it goes to the report
abbrev pub if_console : Outlet → ℕ → List ℕ → List ℕ
if_console Console b bs = b ∷ bs
if_console Report b bs = bs

abbrev pub if_report : Outlet → ℕ → List ℕ → List ℕ
if_report Console b bs = bs
if_report Report b bs = b ∷ bs

-- what a transcript has for the console, and for the report
abbrev pub console_of : List (Outlet × ℕ) → List ℕ
console_of [] = []
console_of (x ∷ xs) = if_console x.0 x.1 (console_of xs)

abbrev pub report_of : List (Outlet × ℕ) → List ℕ
report_of [] = []
report_of (x ∷ xs) = if_report x.0 x.1 (report_of xs)
