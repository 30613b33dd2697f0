-- The processor after a step.
use Rattle.std.specs.Prelude.{ℕ, ◌+◌, ◌%◌, ◌^◌, ◌==◌, true, false, unwrap_or, if◌then◌else◌}
use Rattle.std.specs.declared.option.Option.{Option}
use Rattle.s2_base.specs.Words.{word_sum}
use Rattle.s2_tlb.specs.TranslationEntries.{entry_at, entries_written}
use Rattle.s2_tlb.specs.TlbLookup.{probe_of}
use Rattle.s2_cp0.specs.ControlRegisters.{indexed_entry}
use Rattle.s2_cp0.specs.ControlRegisterAccess.{control_written, probed, entry_loaded}
use Rattle.s2_cp0.specs.ExceptionEntry.{popped}
use Rattle.s2_cpu.specs.GeneralRegisters.{register_set}
use Rattle.s2_cpu.specs.Processor.{Processor, after_load_delay}
use Rattle.s2_cpu.specs.ExceptionState.{after_exception}
use Rattle.s2_cpu.specs.declared.exceptions.Exc.{Exc}
use Rattle.s2_decode.specs.declared.instr.OpM.{OpM}
use Rattle.s2_machine.specs.MemoryAccess.{loaded_value, merge_base}
use Rattle.s2_machine.specs.declared.step.Step.{Step}
use Rattle.s2_machine.specs.declared.step.Step.TheVariants.{Raise, Proceed, Set, SetHiLo, Jump, Delay, Load, Store, SetControl, ReadEntry, WriteEntry, ProbeEntry, Restore}

-- every cycle counts
abbrev pub after_count : Processor → Processor
after_count p = record p { run = (p.run + 1) % 2 ^ 64 }

-- an exception is taken
abbrev pub after_raise : Processor → Exc → Processor
after_raise p e = after_count (after_exception p e)

-- what a row then changes: the pending load is written, and the cycle counts
abbrev pub row_base : Processor → Processor
row_base p = after_count (after_load_delay p)

-- and the next instruction follows
abbrev pub at_next_instruction : Processor → Processor
at_next_instruction p = let q = row_base p in record q { pc = q.npc; npc = word_sum q.npc 4; slot = false }

-- a register is written, after the pending load
abbrev pub after_set : Processor → ℕ → ℕ → Processor
after_set p reg value = let q = at_next_instruction p in record q { r = register_set q.r reg value }

-- HI and LO are written
abbrev pub after_set_hi_lo : Processor → ℕ → ℕ → Processor
after_set_hi_lo p hi lo = record (at_next_instruction p) { hi = hi; lo = lo }

-- a branch or a jump: the instruction of the delay slot follows, and then the target; the link is the
-- address behind the delay slot, as pc names it, whatever the slot is
abbrev pub after_jump : Processor → Option ℕ → ℕ → Processor
after_jump p target link = let q = row_base p in record q { pc = q.npc; npc = unwrap_or target (word_sum q.npc 4); slot = true; r = register_set q.r link (word_sum p.pc 8) }

-- a word is pending for a register; none is for register 0
abbrev pub after_delay : Processor → ℕ → ℕ → Processor
after_delay p reg value = record (at_next_instruction p) { load_reg = reg; load_value = if reg == 0 then 0 else value }

-- a load that read a word
abbrev pub after_load : Processor → OpM → ℕ → ℕ → ℕ → Processor
after_load p op reg byte word = after_delay p reg (loaded_value op byte (merge_base p reg) word)

-- a register of coprocessor 0 is written
abbrev pub after_set_control : Processor → ℕ → ℕ → Processor
after_set_control p reg value = record (at_next_instruction p) { cp0 = control_written p.cp0 reg value }

-- an entry of the translation lookaside buffer is read, written, and looked for
abbrev pub after_read_entry : Processor → Processor
after_read_entry p =
    let entry : ℕ × ℕ = entry_at p.tlb (indexed_entry p.cp0) in
    record (at_next_instruction p) { cp0 = entry_loaded p.cp0 entry.0 entry.1 }

abbrev pub after_write_entry : Processor → ℕ → Processor
after_write_entry p index = record (at_next_instruction p) { tlb = entries_written p.tlb index p.cp0.entry_hi p.cp0.entry_lo }

abbrev pub after_probe : Processor → Processor
after_probe p = record (at_next_instruction p) { cp0 = probed p.cp0 (probe_of p.tlb p.cp0.entry_hi) }

-- the saved modes return
abbrev pub after_restore : Processor → Processor
after_restore p = record (at_next_instruction p) { cp0 = popped p.cp0 }

-- the processor after a step, of which a load read a word
abbrev pub after_step : Processor → Step → ℕ → Processor
after_step p (Raise e) word = after_raise p e
after_step p Proceed word = at_next_instruction p
after_step p (Set reg value) word = after_set p reg value
after_step p (SetHiLo hi lo) word = after_set_hi_lo p hi lo
after_step p (Jump target link) word = after_jump p target link
after_step p (Delay reg value) word = after_delay p reg value
after_step p (Load op reg byte address place) word = after_load p op reg byte word
after_step p (Store stored mask address place) word = at_next_instruction p
after_step p (SetControl reg value) word = after_set_control p reg value
after_step p ReadEntry word = after_read_entry p
after_step p (WriteEntry index) word = after_write_entry p index
after_step p ProbeEntry word = after_probe p
after_step p Restore word = after_restore p

-- the interrupt lines after an access of global memory or a device
abbrev pub with_lines : Processor → ℕ → Processor
with_lines p lines = record p { lines = lines }
