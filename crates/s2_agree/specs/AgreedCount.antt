-- The count of events on which two or three processors agree: the lower median of the counts that they have
-- seen, within the bounds of one delivery.
use Rattle.std.specs.Prelude.{ℕ, ◌+◌, ◌-◌, ◌/◌, List, [], ◌∷◌, length, min, max, nat_le, slice_index, if◌then◌else◌}
use Rattle.s2_agree.specs.declared.counts.TheConstants.{DELIVERY_LIMIT}

-- a sorted list with one more number in its place
abbrev pub inserted : ℕ → List ℕ → List ℕ
inserted n [] = n ∷ []
inserted n (m ∷ ms) = if nat_le n m then n ∷ m ∷ ms else m ∷ inserted n ms

-- a list in ascending order
abbrev pub sorted : List ℕ → List ℕ
sorted [] = []
sorted (n ∷ ns) = inserted n (sorted ns)

-- the lower median: the middle of three numbers, the lesser of two
abbrev pub lower_median : List ℕ → ℕ
lower_median ns = slice_index (sorted ns) ((length ns - 1) / 2)

-- the agreed count: the lower median, raised to what was delivered, and lowered to one full delivery more
abbrev pub agreed_count : List ℕ → ℕ → ℕ
agreed_count seen delivered = max delivered (min (lower_median seen) (delivered + DELIVERY_LIMIT))
