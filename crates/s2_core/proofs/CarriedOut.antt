-- Steps that are carried out at once.
use Rattle.std.proofs.Common.{◌≡◌, ℕ, Bool, true, false, List, refl, subst, if◌then◌else◌, arith}
use Rattle.s2_cpu.specs.Processor.{Processor}
use Rattle.s2_machine.specs.declared.ask.Ask.{Ask}
use Rattle.s2_machine.specs.declared.ask.Ask.TheVariants.{Local, Outside}
use Rattle.s2_machine.specs.declared.step.Step.{Step}
use Rattle.s2_core.specs.Working.{unless_asked, is_local, IsCarriedOut}

-- equal steps are carried out alike
pub carried : (p p' : Processor) (local local' : List ℕ) (marks marks' : List Bool) (s t : Step) (done : Bool) → s ≡ t
    → IsCarriedOut p local marks s done p' local' marks' → IsCarriedOut p local marks t done p' local' marks'
carried p p' local local' marks marks' s t done e h = subst (λ u. IsCarriedOut p local marks u done p' local' marks') e h

-- what asks nothing is Local, and what is kept where something is asked is kept
pub asks_nothing : (ask : Ask) → true ≡ is_local ask → Local ≡ ask
asks_nothing Local e = refl
asks_nothing (Outside request) e = grind arith

pub keeps : {A : Type 0} (ask : Ask) (after before : A) → false ≡ is_local ask → before ≡ unless_asked ask after before
keeps Local after before e = grind arith
keeps (Outside request) after before e = refl

pub kept : {A : Type 0} (b : Bool) (x after before : A) → b ≡ false → x ≡ (if b then after else before) → x ≡ before
kept true x after before e h = grind arith
kept false x after before e h = h
