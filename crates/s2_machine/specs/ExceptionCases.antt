-- The exceptions of a cycle, in the order in which they are tested: each row is a condition and the exception
-- that it raises, and the first that holds is taken (MIPS R2000, exception priority).
use Rattle.std.specs.Prelude.{ℕ, ◌%◌, ◌==◌, ◌&&◌, Bool, true, false, not, List, [], ◌∷◌, ◌++◌, unwrap_or}
use Rattle.s2_cp0.specs.ControlRegisters.{is_interrupted, is_isolated}
use Rattle.s2_cpu.specs.Processor.{Processor}
use Rattle.s2_cpu.specs.Exceptions.{Int, AdEL, IBE, DBE, Sys, Bp, RI, CpU, Ov, address_error}
use Rattle.s2_cpu.specs.Translation.{translation_cases}
use Rattle.s2_cpu.specs.declared.exceptions.Exc.{Exc}
use Rattle.s2_cpu.specs.declared.exceptions.Access.TheVariants.{Fetch}
use Rattle.s2_decode.specs.Units.{unit_of}
use Rattle.s2_decode.specs.declared.instr.Instr.{Instr}
use Rattle.s2_decode.specs.declared.instr.Instr.TheVariants.{Memory, Syscall, Break, Reserved}
use Rattle.s2_decode.specs.declared.instr.OpM.{OpM}
use Rattle.s2_machine.specs.Fetch.{fetch_place, has_instructions, instruction_of}
use Rattle.s2_machine.specs.Computation.{overflows}
use Rattle.s2_machine.specs.MemoryAccess.{access_of, effective_address, is_aligned, word_place, refuses}
use Rattle.s2_machine.specs.SystemRows.{is_unusable}

abbrev pub is_reserved : Instr → Bool
is_reserved (Reserved word) = true
is_reserved i = false

abbrev pub is_system_call : Instr → Bool
is_system_call Syscall = true
is_system_call i = false

abbrev pub is_breakpoint : Instr → Bool
is_breakpoint Break = true
is_breakpoint i = false

-- of a fetch: the address is not aligned, not translated, or has no instructions
abbrev pub fetch_cases : Processor → List (Bool × Exc)
fetch_cases p =
    (not (p.pc % 4 == 0), AdEL p.pc)
    ∷ translation_cases p p.pc Fetch
    ++ (not (has_instructions (fetch_place p)), IBE)
    ∷ []

-- of a load or store at a virtual address: it is not aligned, not translated, or its place refuses it, which
-- does not come where the data cache is isolated
abbrev pub access_cases : Processor → OpM → ℕ → List (Bool × Exc)
access_cases p op va =
    (not (is_aligned op va), address_error (access_of op) va)
    ∷ translation_cases p va (access_of op)
    ++ ((not (is_isolated p.cp0) && refuses (word_place p op va) op), DBE)
    ∷ []

abbrev pub memory_cases : Processor → Instr → List (Bool × Exc)
memory_cases p (Memory op rt base off) = access_cases p op (effective_address p base off)
memory_cases p i = []

-- of an instruction
abbrev pub instruction_cases : Processor → Instr → List (Bool × Exc)
instruction_cases p i =
    (is_unusable p.cp0 (unit_of i), CpU (unwrap_or (unit_of i) 0))
    ∷ (is_reserved i, RI)
    ∷ (is_system_call i, Sys)
    ∷ (is_breakpoint i, Bp)
    ∷ (overflows p i, Ov)
    ∷ memory_cases p i

-- of a cycle: an enabled interrupt comes first
abbrev pub exception_cases : Processor → List ℕ → List (Bool × Exc)
exception_cases p local =
    (is_interrupted p.cp0 p.lines, Int)
    ∷ fetch_cases p
    ++ instruction_cases p (instruction_of p local)
