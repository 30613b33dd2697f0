-- The state of a processor, as plain data.
use Rattle.std.specs.Prelude.{ℕ, Bool, false, List, slice_index}
use Rattle.s2_base.specs.Words.{word_sum}
use Rattle.s2_tlb.specs.TranslationEntries.{zero_entries}
use Rattle.s2_cp0.specs.ControlRegisters.{ControlRegisters, blank_registers}
use Rattle.s2_cpu.specs.GeneralRegisters.{zero_registers, register_set}

-- the 32 general registers, HI and LO, the place of this and of the next instruction, whether this one
-- stands in a delay slot, the pending load (register 0: none), coprocessor 0, the 64 entries of the
-- translation lookaside buffer, the run count and the interrupt lines
pub record Processor : Type 0 where
  pub r : List ℕ
  pub hi : ℕ
  pub lo : ℕ
  pub pc : ℕ
  pub npc : ℕ
  pub slot : Bool
  pub load_reg : ℕ
  pub load_value : ℕ
  pub cp0 : ControlRegisters
  pub tlb : List (ℕ × ℕ)
  pub run : ℕ
  pub lines : ℕ

-- the state at the start, which is this project's own
abbrev pub start_of : ℕ → Processor
start_of entry = record {
  r = zero_registers;
  hi = 0;
  lo = 0;
  pc = entry;
  npc = word_sum entry 4;
  slot = false;
  load_reg = 0;
  load_value = 0;
  cp0 = blank_registers;
  tlb = zero_entries;
  run = 0;
  lines = 0;
}

-- the word of a general register
abbrev pub register : Processor → ℕ → ℕ
register p n = slice_index p.r n

-- the pending load is written, and none is pending
abbrev pub after_load_delay : Processor → Processor
after_load_delay p = record p { r = register_set p.r p.load_reg p.load_value; load_reg = 0; load_value = 0 }
