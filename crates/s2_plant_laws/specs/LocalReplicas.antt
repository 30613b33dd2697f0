-- What the laws of a repair read of the three processors.
use Rattle.std.specs.Prelude.{ℕ, ◌≡◌, ◌≢◌, ◌<◌, ◌==◌, Bool, List, [], slice_index, slice_index_or, if◌then◌else◌}
use Rattle.s2_join.specs.CopyOrder.{CopyState}

-- three local lists with their marks, the order of copying, and whether an act disturbed the one that joins
pub record LocalReplicas : Type 0 where
  pub locals : List (List ℕ)
  pub marks : List (List Bool)
  pub join : CopyState
  pub disturbed : Bool

-- the local list of processor q
abbrev pub replica_words : LocalReplicas → ℕ → List ℕ
replica_words d q = slice_index_or d.locals q []

-- its marks
abbrev pub replica_marks : LocalReplicas → ℕ → List Bool
replica_marks d q = slice_index_or d.marks q []

-- word i of its local list
abbrev pub replica_word : LocalReplicas → ℕ → ℕ → ℕ
replica_word d q i = slice_index (replica_words d q) i

-- the processor that joins
abbrev pub joiner_of : LocalReplicas → ℕ
joiner_of d = d.join.joiner

-- the members are the two others; the lower of them is the one that is copied from
abbrev pub IsMember : LocalReplicas → ℕ → Type 0
IsMember d q = (q < 3) × (q ≢ joiner_of d)

-- the lowest number of the others beside p
abbrev pub lowest_beside : ℕ → ℕ
lowest_beside p = if p == 0 then 1 else 0

-- the lowest member
abbrev pub lowest_member : LocalReplicas → ℕ
lowest_member d = lowest_beside (joiner_of d)

-- the members have equal local lists, as at each resume
abbrev pub MembersEqual : LocalReplicas → Type 0
MembersEqual d = (q : ℕ) → IsMember d q → replica_words d q ≡ replica_words d (lowest_member d)
