-- Lists of conditions: their first false one, and that all hold where there is none.
use Rattle.std.proofs.Common.{◌≡◌, ℕ, Bool, true, not, List, [], ◌∷◌, ◌++◌, inl, inr, refl, ap, ◌∙◌, Option, Some, None}
use Rattle.std.specs.List.{list_all}
use Rattle.std.specs.Option.{is_some}
use Rattle.std.proofs.lemmas.Bool.{cases_Bool}
use Rattle.s2_elf.specs.declared.fault.ElfFault.{ElfFault}
use Rattle.s2_elf.specs.Files.{first_false, conditions, refusal, accepts}

-- the first of two, where there is one
abbrev pub or_then : Option ElfFault → Option ElfFault → Option ElfFault
or_then (Some fault) next = Some fault
or_then None next = next

-- the first false condition of two lists, one after the other
pub first_false_append : (xs ys : List (Bool × ElfFault)) → first_false (xs ++ ys) ≡ or_then (first_false xs) (first_false ys)
first_false_append [] ys = refl
first_false_append (c ∷ cs) ys = elim (cases_Bool c.0) [
  | inl e ↦ rw e (first_false_append cs ys)
  | inr e ↦ rw e refl
]

-- a condition that holds
abbrev pub holds : Bool × ElfFault → Bool
holds c = c.0

-- all conditions hold where none is the first that is false
pub all_hold : (cs : List (Bool × ElfFault)) → list_all holds cs ≡ not (is_some (first_false cs))
all_hold [] = refl
all_hold (c ∷ cs) = elim (cases_Bool c.0) [
  | inl e ↦ rw e (all_hold cs)
  | inr e ↦ rw e refl
]

-- a file without a refusal is accepted
pub accepted : (bytes : List ℕ) → refusal bytes ≡ None → accepts bytes ≡ true
accepted bytes none = all_hold (conditions bytes) ∙ ap (λ o. not (is_some o)) none
