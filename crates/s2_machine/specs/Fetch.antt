-- The fetch of an instruction (MIPS R2000, the memory system). Which places have instructions is this
-- project's own.
use Rattle.std.specs.Prelude.{ℕ, Bool, true, false, List, slice_index}
use Rattle.s2_base.specs.Map.{place_at}
use Rattle.s2_base.specs.declared.places.Place.{Place}
use Rattle.s2_base.specs.declared.places.Place.TheVariants.{Local, Boot, Global, Device, Nowhere}
use Rattle.s2_cpu.specs.Processor.{Processor}
use Rattle.s2_cpu.specs.Translation.{physical_of}
use Rattle.s2_cpu.specs.declared.exceptions.Access.TheVariants.{Fetch}
use Rattle.s2_decode.specs.Table.{decoded}
use Rattle.s2_decode.specs.declared.instr.Instr.{Instr}

-- the place that pc names
abbrev pub fetch_place : Processor → Place
fetch_place p = place_at (physical_of p p.pc Fetch)

-- instructions stand in local memory and in the boot store
abbrev pub has_instructions : Place → Bool
has_instructions (Local i) = true
has_instructions (Boot i) = true
has_instructions (Global i) = false
has_instructions (Device k) = false
has_instructions Nowhere = false

-- the word of the local list at a place
abbrev pub local_word : List ℕ → Place → ℕ
local_word local (Local i) = slice_index local i
local_word local (Boot i) = slice_index local i
local_word local (Global i) = 0
local_word local (Device k) = 0
local_word local Nowhere = 0

-- the word that pc names, and its instruction
abbrev pub fetched_word : Processor → List ℕ → ℕ
fetched_word p local = local_word local (fetch_place p)

abbrev pub instruction_of : Processor → List ℕ → Instr
instruction_of p local = decoded (fetched_word p local)
