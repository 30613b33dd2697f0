-- Cases that are tested in an order, each a condition and its outcome: the first that holds is taken.
use Rattle.std.specs.Prelude.{Bool, List, [], ◌∷◌, Some, None, if◌then◌else◌}
use Rattle.std.specs.declared.option.Option.{Option}

abbrev pub first_that_holds : {A : Type 0} → List (Bool × A) → Option A
first_that_holds [] = None
first_that_holds (c ∷ cs) = if c.0 then Some c.1 else first_that_holds cs
