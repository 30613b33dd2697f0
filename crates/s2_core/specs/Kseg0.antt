-- Only proofs need these: local memory by kseg0 in kernel mode, where most programs fetch, load and store.
use Rattle.std.specs.Prelude.{ℕ, ◌-◌, ◌/◌, ◌%◌, ◌==◌, Bool, not, ◌&&◌, nat_le, nat_lt}
use Rattle.s2_base.specs.declared.map.TheConstants.{LOCAL_END, UNMAPPED_START}
use Rattle.s2_cp0.specs.ControlRegisters.{is_user, is_isolated, enables_interrupts}
use Rattle.s2_cpu.specs.Processor.{Processor}
use Rattle.s2_decode.specs.declared.instr.OpM.{OpM}
use Rattle.s2_machine.specs.MemoryAccess.{is_aligned}

-- a virtual address is one of local memory in kseg0
abbrev pub is_local : ℕ → Bool
is_local va = nat_le UNMAPPED_START va && nat_lt (va - UNMAPPED_START) LOCAL_END

-- the processor reaches local memory there
abbrev pub is_near : Processor → ℕ → Bool
is_near p va = not (is_user p.cp0) && is_local va

-- the index of the word there
abbrev pub near_index : ℕ → ℕ
near_index va = (va - UNMAPPED_START) / 4

-- the next instruction is fetched there
abbrev pub fetches_near : Processor → Bool
fetches_near p = (p.pc % 4 == 0) && is_near p p.pc

-- the same, with interrupts off, and the data cache not isolated
abbrev pub fetches_quietly : Processor → Bool
fetches_quietly p = not (enables_interrupts p.cp0) && (not (is_isolated p.cp0) && fetches_near p)

-- a row loads or stores a word there
abbrev pub accesses_near : Processor → OpM → ℕ → Bool
accesses_near p op va = is_aligned op va && (not (is_isolated p.cp0) && is_near p va)
