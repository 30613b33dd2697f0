-- For the parts of the command: how far a piece went, and why it went no further.
use Rattle.std.specs.Prelude.{ℕ, ◌≡◌, ◌≤◌, ◌⊎◌, List, [], ◌∷◌, take, Some, None, Ok, Err, OnOk, OnErr}
use Rattle.std.specs.declared.option.Option.{Option}
use Rattle.std.specs.declared.result.Result.{Result}
use Rattle.s2_io.specs.Counts.{Rose}
use Rattle.s2_run.specs.declared.output.Cut.{Cut}

-- the part of a piece that went: all of it, or the front before the cut
abbrev pub sent : {T A : Type 0} → Result T Cut → List A → List A
sent (Ok x) piece = piece
sent (Err cut) piece = take cut.taken piece

-- no count of a sink has fallen; a piece is cut only where one of them rose, and went whole only where none did
pub record SinkCause {T E : Type 0} (result : Result T E) (faults faults' empty_takes empty_takes' : ℕ) : Type 0 where
  pub faults_stay : faults ≤ faults'
  pub empty_takes_stay : empty_takes ≤ empty_takes'
  pub cut : OnErr result (Rose faults faults' ⊎ Rose empty_takes empty_takes')
  pub whole : OnOk result ((faults' ≡ faults) × (empty_takes' ≡ empty_takes))

-- the next byte of what is left
abbrev pub next_of : List ℕ → Option ℕ
next_of [] = None
next_of (b ∷ bs) = Some b

-- how many bytes a call took that gives at most one
abbrev pub byte_count : {E : Type 0} → Result (Option ℕ) E → ℕ
byte_count (Ok None) = 0
byte_count (Ok (Some b)) = 1
byte_count (Err e) = 0
