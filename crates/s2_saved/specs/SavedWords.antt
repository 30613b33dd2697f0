-- The state of a processor as words, in the order in which a reintegration copies them: the general
-- registers, the words of control, and the two words of each entry of the translation lookaside buffer. A
-- word is named by its number in this order, from 0 on.
use Rattle.std.specs.Prelude.{ℕ, ◌+◌, ◌-◌, ◌*◌, ◌/◌, ◌%◌, ◌==◌, List, [], ◌∷◌, ◌++◌, nat_lt, bit_and, if◌then◌else◌}
use Rattle.std.specs.List.{flat_map}
use Rattle.s2_base.specs.declared.masks.TheConstants.{ENTRY_HI_BITS, ENTRY_LO_BITS}
use Rattle.s2_tlb.specs.TranslationEntries.{entry_at, entries_written}
use Rattle.s2_cp0.specs.declared.masks.TheConstants.{INDEX_BITS, CONTEXT_BITS, STATUS_BITS, CAUSE_BITS}
use Rattle.s2_cp0.specs.declared.kept.KeptRegister.TheVariants.{Index, EntryLo, Context, BadVAddr, EntryHi, Status, Cause, Epc}
use Rattle.s2_cp0.specs.ControlRegisterAccess.{register_loaded}
use Rattle.s2_cpu.specs.declared.general_registers.TheConstants.{REGISTERS}
use Rattle.s2_cpu.specs.GeneralRegisters.{register_set}
use Rattle.s2_cpu.specs.Processor.{Processor}
use Rattle.s2_saved.specs.declared.numbers.TheConstants.{HI_WORD, LO_WORD, PC_WORD, NPC_WORD, FLAGS_WORD, LOAD_VALUE_WORD, STATUS_WORD, CAUSE_WORD, EPC_WORD, BAD_VADDR_WORD, ENTRY_HI_WORD, ENTRY_LO_WORD, INDEX_WORD, CONTEXT_WORD, RUN_HIGH_WORD, FIRST_ENTRY_WORD, FLAGS_BITS, LOAD_REG_UNIT, LINES_UNIT, LINES_STATES, RUN_HIGH_UNIT}

-- the flags: whether the next instruction stands in a delay slot in bit 0, the register of the pending load
-- in bits 6 to 2, and the interrupt lines in bits 9 and 8
abbrev pub flags_word : Processor → ℕ
flags_word p = (if p.slot then 1 else 0) + LOAD_REG_UNIT * p.load_reg + LINES_UNIT * p.lines

-- the words of control, of which HI has the number HI_WORD; Cause is as it is kept, without the lines, and
-- the run count has its high word first
abbrev pub control_words : Processor → List ℕ
control_words p =
    p.hi ∷ p.lo ∷ p.pc ∷ p.npc ∷ flags_word p ∷ p.load_value
    ∷ p.cp0.status ∷ p.cp0.cause ∷ p.cp0.epc ∷ p.cp0.bad ∷ p.cp0.entry_hi ∷ p.cp0.entry_lo ∷ p.cp0.index ∷ p.cp0.context
    ∷ p.run / RUN_HIGH_UNIT ∷ p.run % RUN_HIGH_UNIT ∷ []

-- the two words of an entry: hi, and then lo
abbrev pub entry_words : ℕ × ℕ → List ℕ
entry_words entry = entry.0 ∷ entry.1 ∷ []

-- the saved words of a processor
abbrev pub saved_words : Processor → List ℕ
saved_words p = p.r ++ (control_words p ++ flat_map entry_words p.tlb)

-- what a part keeps of a word that is loaded into it, by the word's number; register 0 is always 0
abbrev pub kept_bits : ℕ → ℕ → ℕ
kept_bits k v =
    if k == 0 then 0
    else if k == FLAGS_WORD then bit_and v FLAGS_BITS
    else if k == STATUS_WORD then bit_and v STATUS_BITS
    else if k == CAUSE_WORD then bit_and v CAUSE_BITS
    else if k == ENTRY_HI_WORD then bit_and v ENTRY_HI_BITS
    else if k == ENTRY_LO_WORD then bit_and v ENTRY_LO_BITS
    else if k == INDEX_WORD then bit_and v INDEX_BITS
    else if k == CONTEXT_WORD then bit_and v CONTEXT_BITS
    else if nat_lt k FIRST_ENTRY_WORD then v
    else if k % 2 == 0 then bit_and v ENTRY_HI_BITS
    else bit_and v ENTRY_LO_BITS

-- the processor after its flags were loaded with a word
abbrev pub after_flags_load : Processor → ℕ → Processor
after_flags_load p v = record p { slot = v % 2 == 1; load_reg = v / LOAD_REG_UNIT % REGISTERS; lines = v / LINES_UNIT % LINES_STATES }

-- the processor after a word of control was loaded with a word, by the number of it
abbrev pub after_control_load : Processor → ℕ → ℕ → Processor
after_control_load p k v =
    if k == HI_WORD then record p { hi = v }
    else if k == LO_WORD then record p { lo = v }
    else if k == PC_WORD then record p { pc = v }
    else if k == NPC_WORD then record p { npc = v }
    else if k == FLAGS_WORD then after_flags_load p v
    else if k == LOAD_VALUE_WORD then record p { load_value = v }
    else if k == STATUS_WORD then record p { cp0 = register_loaded p.cp0 Status v }
    else if k == CAUSE_WORD then record p { cp0 = register_loaded p.cp0 Cause v }
    else if k == EPC_WORD then record p { cp0 = register_loaded p.cp0 Epc v }
    else if k == BAD_VADDR_WORD then record p { cp0 = register_loaded p.cp0 BadVAddr v }
    else if k == ENTRY_HI_WORD then record p { cp0 = register_loaded p.cp0 EntryHi v }
    else if k == ENTRY_LO_WORD then record p { cp0 = register_loaded p.cp0 EntryLo v }
    else if k == INDEX_WORD then record p { cp0 = register_loaded p.cp0 Index v }
    else if k == CONTEXT_WORD then record p { cp0 = register_loaded p.cp0 Context v }
    else if k == RUN_HIGH_WORD then record p { run = v * RUN_HIGH_UNIT + p.run % RUN_HIGH_UNIT }
    else record p { run = p.run / RUN_HIGH_UNIT * RUN_HIGH_UNIT + v }

-- the entries after a word of them was loaded with a word: an even number is hi of an entry, an odd one lo;
-- the other word of the entry stays
abbrev pub after_entry_load : List (ℕ × ℕ) → ℕ → ℕ → List (ℕ × ℕ)
after_entry_load entries n v =
    if n % 2 == 0
    then entries_written entries (n / 2) v (entry_at entries (n / 2)).1
    else entries_written entries (n / 2) (entry_at entries (n / 2)).0 v

-- the processor after saved word k was loaded with a word
abbrev pub after_word_load : Processor → ℕ → ℕ → Processor
after_word_load p k v =
    if nat_lt k HI_WORD then record p { r = register_set p.r k v }
    else if nat_lt k FIRST_ENTRY_WORD then after_control_load p k v
    else record p { tlb = after_entry_load p.tlb (k - FIRST_ENTRY_WORD) v }
