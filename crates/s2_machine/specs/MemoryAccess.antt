-- The loads and stores (MIPS R2000, the load and store instructions, big-endian). A load's register takes its
-- word one instruction later.
use Rattle.std.specs.Prelude.{ℕ, ◌-◌, ◌*◌, ◌/◌, ◌%◌, ◌^◌, ◌==◌, ◌&&◌, Bool, true, false, not, if◌then◌else◌}
use Rattle.s2_base.specs.Words.{sext8_of, sext16_of, word_sum, byte_at, merge_left_of, merge_right_of}
use Rattle.s2_base.specs.Map.{place_at}
use Rattle.s2_base.specs.declared.places.Place.{Place}
use Rattle.s2_base.specs.declared.places.Place.TheVariants.{Local, Boot, Global, Device, Nowhere}
use Rattle.s2_cp0.specs.ControlRegisters.{is_isolated}
use Rattle.s2_cpu.specs.Processor.{Processor, register}
use Rattle.s2_cpu.specs.Translation.{physical_of}
use Rattle.s2_cpu.specs.Exceptions.{is_store}
use Rattle.s2_cpu.specs.declared.exceptions.Access.{Access}
use Rattle.s2_cpu.specs.declared.exceptions.Access.TheVariants.{Load as LoadAccess, Store as StoreAccess}
use Rattle.s2_decode.specs.declared.instr.OpM.{OpM}
use Rattle.s2_decode.specs.declared.instr.OpM.TheVariants.{Lb, Lh, Lwl, Lw, Lbu, Lhu, Lwr, Sb, Sh, Swl, Sw, Swr}
use Rattle.s2_machine.specs.declared.step.Step.{Step}
use Rattle.s2_machine.specs.declared.step.Step.TheVariants.{Proceed, Delay, Load, Store}

abbrev pub access_of : OpM → Access
access_of Lb = LoadAccess
access_of Lh = LoadAccess
access_of Lwl = LoadAccess
access_of Lw = LoadAccess
access_of Lbu = LoadAccess
access_of Lhu = LoadAccess
access_of Lwr = LoadAccess
access_of Sb = StoreAccess
access_of Sh = StoreAccess
access_of Swl = StoreAccess
access_of Sw = StoreAccess
access_of Swr = StoreAccess

-- the virtual address of a load or store
abbrev pub effective_address : Processor → ℕ → ℕ → ℕ
effective_address p base off = word_sum (register p base) (sext16_of off)

-- a half word stands at an even address, a word at a multiple of 4
abbrev pub is_aligned : OpM → ℕ → Bool
is_aligned Lh va = va % 2 == 0
is_aligned Lhu va = va % 2 == 0
is_aligned Sh va = va % 2 == 0
is_aligned Lw va = va % 4 == 0
is_aligned Sw va = va % 4 == 0
is_aligned op va = true

-- the physical address of the word that is accessed, and its place
abbrev pub word_address : Processor → OpM → ℕ → ℕ
word_address p op va = physical_of p va (access_of op) / 4 * 4

abbrev pub word_place : Processor → OpM → ℕ → Place
word_place p op va = place_at (word_address p op va)

-- a device is accessed by LW and SW alone
abbrev pub is_word_row : OpM → Bool
is_word_row Lw = true
is_word_row Sw = true
is_word_row op = false

-- a place that does not serve a row (this project's own)
abbrev pub refuses : Place → OpM → Bool
refuses (Local i) op = false
refuses (Boot i) op = is_store (access_of op)
refuses (Global i) op = false
refuses (Device k) op = not (is_word_row op)
refuses Nowhere op = true

-- the half word at byte 0 or 2 of a word
abbrev pub half_at_byte : ℕ → ℕ → ℕ
half_at_byte word byte = if byte == 0 then word / 65536 else word % 65536

-- what a load makes of a word, of which the address names a byte, over the old word of its register
abbrev pub loaded_value : OpM → ℕ → ℕ → ℕ → ℕ
loaded_value Lb byte old word = sext8_of (byte_at word byte)
loaded_value Lbu byte old word = byte_at word byte
loaded_value Lh byte old word = sext16_of (half_at_byte word byte)
loaded_value Lhu byte old word = half_at_byte word byte
loaded_value Lwl byte old word = merge_left_of word old byte
loaded_value Lwr byte old word = merge_right_of word old byte
loaded_value op byte old word = word

-- the old word of LWL and LWR: where a load of the register is pending, the word of that load
abbrev pub merge_base : Processor → ℕ → ℕ
merge_base p reg = if ((p.load_reg == reg) && not (reg == 0)) then p.load_value else register p reg

-- the bytes that a store stores, in their places, and 0 elsewhere
abbrev pub stored_word : OpM → ℕ → ℕ → ℕ
stored_word Sb byte t = t % 256 * 2 ^ (24 - 8 * byte) % 2 ^ 32
stored_word Sh byte t = if byte == 0 then t % 65536 * 65536 else t % 65536
stored_word Swl byte t = t / 2 ^ (8 * byte)
stored_word Swr byte t = t * 2 ^ (24 - 8 * byte) % 2 ^ 32
stored_word op byte t = t

-- the mask of their places
abbrev pub stored_mask : OpM → ℕ → ℕ
stored_mask Sb byte = 8 / 2 ^ byte
stored_mask Sh byte = if byte == 0 then 12 else 3
stored_mask Swl byte = 15 / 2 ^ byte
stored_mask Swr byte = 15 * 2 ^ (3 - byte) % 16
stored_mask op byte = 15

-- where the data cache is isolated, a load reads the word 0 and a store changes nothing (this project's own)
abbrev pub load_step : Processor → OpM → ℕ → ℕ → Step
load_step p op rt va =
    if is_isolated p.cp0 then Delay rt (loaded_value op (va % 4) (merge_base p rt) 0)
    else Load op rt (va % 4) (word_address p op va) (word_place p op va)

abbrev pub store_step : Processor → OpM → ℕ → ℕ → Step
store_step p op rt va =
    if is_isolated p.cp0 then Proceed
    else Store (stored_word op (va % 4) (register p rt)) (stored_mask op (va % 4)) (word_address p op va) (word_place p op va)

abbrev pub memory_step : Processor → OpM → ℕ → ℕ → Step
memory_step p op rt va = if is_store (access_of op) then store_step p op rt va else load_step p op rt va
