-- The registers of coprocessor 0, as plain data, and what each of their fields says (MIPS R2000, the system
-- control coprocessor).
use Rattle.std.specs.Prelude.{◌≡◌, ℕ, ◌-◌, ◌*◌, ◌/◌, ◌%◌, ◌^◌, ◌==◌, ◌&&◌, ◌||◌, Bool, not, bit_and, nat_lt}
use Rattle.s2_base.specs.Words.{word_sum}
use Rattle.s2_base.specs.declared.masks.TheConstants.{ENTRY_HI_BITS, ENTRY_LO_BITS}
use Rattle.s2_cp0.specs.declared.masks.TheConstants.{INDEX_BITS, CONTEXT_BITS, STATUS_BITS, CAUSE_BITS, INTERRUPT_BITS}
use Rattle.s2_cp0.specs.declared.numbers.TheConstants.{RANDOM_START, RANDOM_PERIOD}

-- the registers that hold a word
pub record ControlRegisters : Type 0 where
  pub index : ℕ
  pub entry_lo : ℕ
  pub context : ℕ
  pub bad : ℕ
  pub entry_hi : ℕ
  pub status : ℕ
  pub cause : ℕ
  pub epc : ℕ

-- all registers 0: kernel mode, interrupts off, the caches not isolated
abbrev pub blank_registers : ControlRegisters
blank_registers = record { index = 0; entry_lo = 0; context = 0; bad = 0; entry_hi = 0; status = 0; cause = 0; epc = 0 }

-- a word has no set bit but those of a mask
abbrev pub IsWithin : ℕ → ℕ → Type 0
IsWithin word mask = bit_and word mask ≡ word

-- each register has no set bit but those that it keeps; BadVAddr and EPC keep all
pub record HasKeptBits (c : ControlRegisters) : Type 0 where
  pub index : IsWithin c.index INDEX_BITS
  pub entry_lo : IsWithin c.entry_lo ENTRY_LO_BITS
  pub context : IsWithin c.context CONTEXT_BITS
  pub entry_hi : IsWithin c.entry_hi ENTRY_HI_BITS
  pub status : IsWithin c.status STATUS_BITS
  pub cause : IsWithin c.cause CAUSE_BITS

-- one bit of a word is set
abbrev pub has_bit : ℕ → ℕ → Bool
has_bit word n = word / 2 ^ n % 2 == 1

-- interrupts are enabled: IEc, bit 0 of Status
abbrev pub enables_interrupts : ControlRegisters → Bool
enables_interrupts c = has_bit c.status 0

-- user mode: KUc, bit 1 of Status
abbrev pub is_user : ControlRegisters → Bool
is_user c = has_bit c.status 1

-- the data cache is isolated: IsC, bit 16 of Status
abbrev pub is_isolated : ControlRegisters → Bool
is_isolated c = has_bit c.status 16

-- the exception vectors stand in the boot store: BEV, bit 22 of Status
abbrev pub has_boot_vectors : ControlRegisters → Bool
has_boot_vectors c = has_bit c.status 22

-- coprocessor 0 is usable in user mode too: CU0, bit 28 of Status
abbrev pub is_open_to_users : ControlRegisters → Bool
is_open_to_users c = has_bit c.status 28

-- coprocessor 0 is usable: in kernel mode, or where it is in user mode too
abbrev pub is_usable : ControlRegisters → Bool
is_usable c = not (is_user c) || is_open_to_users c

-- Cause as it is read with the two interrupt lines of the devices, in bits 10 and 11
abbrev pub cause_with : ControlRegisters → ℕ → ℕ
cause_with c lines = word_sum c.cause (lines * 1024)

-- an enabled interrupt is up: IEc is set, and IP of Cause and IM of Status, bits 15 to 8, share a set bit
abbrev pub is_interrupted : ControlRegisters → ℕ → Bool
is_interrupted c lines = enables_interrupts c && nat_lt 0 (bit_and (bit_and (cause_with c lines) c.status) INTERRUPT_BITS)

-- the number of the present address space: ASID, bits 11 to 6 of EntryHi
abbrev pub space_of : ControlRegisters → ℕ
space_of c = c.entry_hi / 64 % 64

-- the entry that TLBR reads and TLBWI writes: bits 13 to 8 of Index
abbrev pub indexed_entry : ControlRegisters → ℕ
indexed_entry c = c.index / 256 % 64

-- the entry that TLBWR writes, by the run count: from 63 down to 8, and from 63 again
abbrev pub random_entry : ℕ → ℕ
random_entry run = RANDOM_START - run % RANDOM_PERIOD
