-- What two right counts say of the agreed count, whatever the third is.
use Rattle.std.specs.Prelude.{ℕ, ◌≢◌, ◌<◌, ◌≤◌, List, length, slice_index}
use Rattle.s2_agree.specs.AgreedCount.{agreed_count}

-- two or three counts, of which two lie between those delivered and those accepted
pub record TwoCountsFit (seen : List ℕ) (delivered accepted : ℕ) : Type 0 where
  pub at_most_three : length seen ≤ 3
  pub first : ℕ
  pub second : ℕ
  pub first_in : first < length seen
  pub second_in : second < length seen
  pub apart : first ≢ second
  pub first_from : delivered ≤ slice_index seen first
  pub first_to : slice_index seen first ≤ accepted
  pub second_from : delivered ≤ slice_index seen second
  pub second_to : slice_index seen second ≤ accepted

-- a count lies between those delivered and those accepted
pub record IsCountWithin (count delivered accepted : ℕ) : Type 0 where
  pub from : delivered ≤ count
  pub to : count ≤ accepted

-- the agreed count is never one that no right processor could have seen
abbrev pub TwoCountsBoundTheAgreed : Type 0
TwoCountsBoundTheAgreed = (seen : List ℕ) (delivered accepted : ℕ) → TwoCountsFit seen delivered accepted → IsCountWithin (agreed_count seen delivered) delivered accepted
