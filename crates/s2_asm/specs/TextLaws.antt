-- A text has one meaning.
use Rattle.std.specs.Prelude.{◌≡◌, ℕ, List, Result, Ok, Err}
use Rattle.s2_program.specs.Programs.{ProgramData}
use Rattle.s2_asm.specs.declared.fault.AsmFail.{AsmFail}
use Rattle.s2_asm.specs.declared.fault.AsmFail.TheVariants.{Fault, Memory}
use Rattle.s2_asm.specs.Building.{Assembled}

-- two answers are alike: one program, or one fault; want of memory is beside every answer
abbrev pub AreAlike : Result ProgramData AsmFail → Result ProgramData AsmFail → Type 0
AreAlike (Ok p) (Ok q) = p ≡ q
AreAlike (Ok p) (Err (Fault g)) = ⊥
AreAlike (Err (Fault f)) (Ok q) = ⊥
AreAlike (Err (Fault f)) (Err (Fault g)) = f ≡ g
AreAlike r (Err Memory) = Unit {0}
AreAlike (Err Memory) s = Unit {0}

-- all right answers for a text are alike
abbrev pub HaveOneMeaning : Type 0
HaveOneMeaning = (text : List ℕ) (r s : Result ProgramData AsmFail) → Assembled text r → Assembled text s → AreAlike r s
