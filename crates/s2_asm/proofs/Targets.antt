-- The word of a line with a target.
use Rattle.std.proofs.Common.{◌≡◌, ℕ, ◌/◌, ◌%◌, ◌^◌, Bool, true, List, Some, Ok, refl}
use Rattle.s2_decode.specs.declared.instr.OpB.{OpB}
use Rattle.s2_decode.specs.declared.instr.Instr.TheVariants.{Jump as JumpWord, Branch as BranchWord}
use Rattle.s2_mnemonics.specs.declared.line.Target.{Target}
use Rattle.s2_mnemonics.specs.declared.line.Line.TheVariants.{Jump, Branch}
use Rattle.s2_mnemonics.specs.LineWords.{IsWordOf, distance, address_of, jump_reaches, branch_reaches}
use Rattle.s2_asm.specs.LineFaults.{Gives}

pub jump_gives : (labels : List (List ℕ × ℕ)) (at n : ℕ) (link : Bool) (to : Target) (x w : ℕ) → address_of labels to ≡ Some x → jump_reaches at x ≡ true → IsWordOf (JumpWord link (x / 4 % 2 ^ 26)) w → Gives labels at n (Jump link to) (Ok w)
jump_gives labels at n link to x w there reaches is = record { is = (rw (there, reaches) refl, (x, there, is)) }

pub branch_gives : (labels : List (List ℕ × ℕ)) (at n : ℕ) (op : OpB) (s t : ℕ) (to : Target) (x w : ℕ) → address_of labels to ≡ Some x → branch_reaches at x ≡ true → IsWordOf (BranchWord op s t (distance at x / 4 % 65536)) w → Gives labels at n (Branch op s t to) (Ok w)
branch_gives labels at n op s t to x w there reaches is = record { is = (rw (there, reaches) refl, (x, there, is)) }
