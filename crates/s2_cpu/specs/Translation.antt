-- The translation of a virtual address, alignment apart (MIPS R2000, the memory management system).
use Rattle.std.specs.Prelude.{ℕ, Bool, true, false, ◌&&◌, List, [], ◌∷◌, nat_lt, Some, None, Ok, Err}
use Rattle.std.specs.declared.option.Option.{Option}
use Rattle.std.specs.declared.result.Result.{Result}
use Rattle.s2_base.specs.Map.{segment_at}
use Rattle.s2_base.specs.declared.map.TheConstants.{UNMAPPED_START}
use Rattle.s2_base.specs.declared.places.Segment.{Segment}
use Rattle.s2_base.specs.declared.places.Segment.TheVariants.{Direct, Mapped, Denied}
use Rattle.s2_tlb.specs.TlbLookup.{look_of}
use Rattle.s2_tlb.specs.declared.outcomes.Look.{Look}
use Rattle.s2_tlb.specs.declared.outcomes.Look.TheVariants.{Hit, Miss, Invalid, ReadOnly}
use Rattle.s2_cp0.specs.ControlRegisters.{is_user, space_of}
use Rattle.s2_cpu.specs.Cases.{first_that_holds}
use Rattle.s2_cpu.specs.Processor.{Processor}
use Rattle.s2_cpu.specs.Exceptions.{Mod, address_error, failed_look_up, is_store}
use Rattle.s2_cpu.specs.declared.exceptions.Exc.{Exc}
use Rattle.s2_cpu.specs.declared.exceptions.Access.{Access}

-- what the segment of an address says, and what the look-up in the buffer says where it is mapped
abbrev pub segment_of : Processor → ℕ → Segment
segment_of p va = segment_at va (is_user p.cp0)

abbrev pub look_up : Processor → ℕ → Access → Look
look_up p va access = look_of p.tlb va (space_of p.cp0) (is_store access)

abbrev pub is_denied : Segment → Bool
is_denied Denied = true
is_denied (Direct pa) = false
is_denied Mapped = false

abbrev pub is_mapped : Segment → Bool
is_mapped Mapped = true
is_mapped (Direct pa) = false
is_mapped Denied = false

abbrev pub is_miss : Look → Bool
is_miss Miss = true
is_miss Invalid = false
is_miss ReadOnly = false
is_miss (Hit pa) = false

abbrev pub is_invalid : Look → Bool
is_invalid Invalid = true
is_invalid Miss = false
is_invalid ReadOnly = false
is_invalid (Hit pa) = false

abbrev pub is_read_only : Look → Bool
is_read_only ReadOnly = true
is_read_only Miss = false
is_read_only Invalid = false
is_read_only (Hit pa) = false

-- kuseg, whose misses go to the refill vector, in user mode and in kernel mode
abbrev pub is_in_kuseg : ℕ → Bool
is_in_kuseg va = nat_lt va UNMAPPED_START

-- why an address is not translated: denied to the user; no entry matches; the entry is not valid; the entry
-- may not be written
abbrev pub translation_cases : Processor → ℕ → Access → List (Bool × Exc)
translation_cases p va access =
    (is_denied (segment_of p va), address_error access va)
    ∷ ((is_mapped (segment_of p va) && is_miss (look_up p va access)), failed_look_up access (is_in_kuseg va) va)
    ∷ ((is_mapped (segment_of p va) && is_invalid (look_up p va access)), failed_look_up access false va)
    ∷ ((is_mapped (segment_of p va) && is_read_only (look_up p va access)), Mod va)
    ∷ []

-- the physical address of an address that is translated
abbrev pub hit_address : Look → ℕ
hit_address (Hit pa) = pa
hit_address Miss = 0
hit_address Invalid = 0
hit_address ReadOnly = 0

abbrev pub address_through : Segment → Look → ℕ
address_through (Direct pa) look = pa
address_through Mapped look = hit_address look
address_through Denied look = 0

abbrev pub physical_of : Processor → ℕ → Access → ℕ
physical_of p va access = address_through (segment_of p va) (look_up p va access)

-- the physical address, or the exception that prevents it
abbrev pub unless : {A : Type 0} → Option Exc → A → Result A Exc
unless (Some e) value = Err e
unless None value = Ok value

abbrev pub translated : Processor → ℕ → Access → Result ℕ Exc
translated p va access = unless (first_that_holds (translation_cases p va access)) (physical_of p va access)
