-- Reading and writing the registers of coprocessor 0: MFC0 and MTC0, by a row for each register, TLBP and
-- TLBR, and the words of the registers that hold one.
use Rattle.std.specs.Prelude.{ℕ, ◌*◌, ◌==◌, Some, None, bit_and, bit_or, if◌then◌else◌}
use Rattle.std.specs.Int.{bit_not, w32}
use Rattle.std.specs.declared.option.Option.{Option}
use Rattle.s2_base.specs.declared.masks.TheConstants.{ENTRY_HI_BITS, ENTRY_LO_BITS}
use Rattle.s2_cp0.specs.declared.masks.TheConstants.{INDEX_BITS, CONTEXT_BITS, CONTEXT_WRITTEN, STATUS_BITS, CAUSE_BITS, CAUSE_WRITTEN, NO_ENTRY, PROCESSOR_ID}
use Rattle.s2_cp0.specs.declared.numbers.TheConstants.{INDEX, RANDOM, ENTRY_LO, CONTEXT, BAD_VADDR, ENTRY_HI, STATUS, CAUSE, EPC, PRID}
use Rattle.s2_cp0.specs.declared.kept.KeptRegister.{KeptRegister}
use Rattle.s2_cp0.specs.declared.kept.KeptRegister.TheVariants.{Index, EntryLo, Context, BadVAddr, EntryHi, Status, Cause, Epc}
use Rattle.s2_cp0.specs.ControlRegisters.{ControlRegisters, cause_with, random_entry}

-- what MFC0 reads from a register, at a run count and with the interrupt lines; what is not listed reads 0
abbrev pub control_read : ControlRegisters → ℕ → ℕ → ℕ → ℕ
control_read c register run lines =
    if register == INDEX then c.index
    else if register == RANDOM then random_entry run * 256
    else if register == ENTRY_LO then c.entry_lo
    else if register == CONTEXT then c.context
    else if register == BAD_VADDR then c.bad
    else if register == ENTRY_HI then c.entry_hi
    else if register == STATUS then c.status
    else if register == CAUSE then cause_with c lines
    else if register == EPC then c.epc
    else if register == PRID then PROCESSOR_ID
    else 0

-- a word whose bits of a mask come from another; the other bits keep their value
abbrev pub replaced_bits : ℕ → ℕ → ℕ → ℕ
replaced_bits old new mask = bit_or (bit_and old (bit_not w32 mask)) (bit_and new mask)

-- what MTC0 leaves when it writes a word to a register; what is not listed ignores it
abbrev pub control_written : ControlRegisters → ℕ → ℕ → ControlRegisters
control_written c register word =
    if register == INDEX then record c { index = replaced_bits c.index word INDEX_BITS }
    else if register == ENTRY_LO then record c { entry_lo = replaced_bits c.entry_lo word ENTRY_LO_BITS }
    else if register == CONTEXT then record c { context = replaced_bits c.context word CONTEXT_WRITTEN }
    else if register == ENTRY_HI then record c { entry_hi = replaced_bits c.entry_hi word ENTRY_HI_BITS }
    else if register == STATUS then record c { status = replaced_bits c.status word STATUS_BITS }
    else if register == CAUSE then record c { cause = replaced_bits c.cause word CAUSE_WRITTEN }
    else c

-- the word that a register holds
abbrev pub kept_word : ControlRegisters → KeptRegister → ℕ
kept_word c Index = c.index
kept_word c EntryLo = c.entry_lo
kept_word c Context = c.context
kept_word c BadVAddr = c.bad
kept_word c EntryHi = c.entry_hi
kept_word c Status = c.status
kept_word c Cause = c.cause
kept_word c Epc = c.epc

-- the registers after one of them was loaded with a word, restricted to the bits that the register keeps
abbrev pub register_loaded : ControlRegisters → KeptRegister → ℕ → ControlRegisters
register_loaded c Index word = record c { index = bit_and word INDEX_BITS }
register_loaded c EntryLo word = record c { entry_lo = bit_and word ENTRY_LO_BITS }
register_loaded c Context word = record c { context = bit_and word CONTEXT_BITS }
register_loaded c BadVAddr word = record c { bad = word }
register_loaded c EntryHi word = record c { entry_hi = bit_and word ENTRY_HI_BITS }
register_loaded c Status word = record c { status = bit_and word STATUS_BITS }
register_loaded c Cause word = record c { cause = bit_and word CAUSE_BITS }
register_loaded c Epc word = record c { epc = word }

-- TLBP: Index names the entry that was found, or has P set alone where none was
abbrev pub probed : ControlRegisters → Option ℕ → ControlRegisters
probed c (Some entry) = record c { index = entry * 256 }
probed c None = record c { index = NO_ENTRY }

-- TLBR: EntryHi and EntryLo become the two words of an entry
abbrev pub entry_loaded : ControlRegisters → ℕ → ℕ → ControlRegisters
entry_loaded c hi lo = record c { entry_hi = hi; entry_lo = lo }
