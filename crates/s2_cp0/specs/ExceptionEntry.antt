-- What an exception leaves in the registers of coprocessor 0, and what RFE takes back.
use Rattle.std.specs.Prelude.{ℕ, ◌+◌, ◌*◌, ◌/◌, ◌%◌, ◌^◌, ◌==◌, ◌||◌, Bool, Some, None, bit_and, if◌then◌else◌}
use Rattle.std.specs.declared.option.Option.{Option}
use Rattle.s2_cp0.specs.declared.masks.TheConstants.{CAUSE_WRITTEN, BRANCH_DELAY}
use Rattle.s2_cp0.specs.declared.codes.TheConstants.{MOD, TLBL, TLBS, CPU}
use Rattle.s2_cp0.specs.ControlRegisters.{ControlRegisters}

-- Status after a push: its low four bits, KUp IEp KUc IEc, move up to KUo IEo KUp IEp, and KUc IEc become 0
abbrev pub pushed_status : ℕ → ℕ
pushed_status status = status / 64 * 64 + status % 16 * 4

-- Status after a pop: KUo IEo KUp IEp move down to KUp IEp KUc IEc, and KUo IEo stay
abbrev pub popped_status : ℕ → ℕ
popped_status status = status / 16 * 16 + status / 4 % 16

-- the registers after a push
abbrev pub pushed : ControlRegisters → ControlRegisters
pushed c = record c { status = pushed_status c.status }

-- the registers after a pop, by RFE
abbrev pub popped : ControlRegisters → ControlRegisters
popped c = record c { status = popped_status c.status }

-- CE of an exception: the coprocessor's number for CpU, and 0 for every other code
abbrev pub coprocessor_of : ℕ → ℕ → ℕ
coprocessor_of code unit = if code == CPU then unit else 0

-- Cause of an exception: BD, bit 31, where it came in a delay slot; CE, bits 29 and 28; ExcCode, bits 5 to 2; Sw
-- stays
abbrev pub cause_of : ℕ → ℕ → ℕ → Bool → ℕ
cause_of old code unit in_slot =
    (if in_slot then BRANCH_DELAY else 0) + coprocessor_of code unit * 2 ^ 28 + bit_and old CAUSE_WRITTEN + code * 4

-- Context after a look-up failed at an address: BadVPN, bits 20 to 2, becomes bits 30 to 12 of the address,
-- and PTEBase stays
abbrev pub context_at : ℕ → ℕ → ℕ
context_at old bad = old / 2 ^ 21 * 2 ^ 21 + bad / 2 ^ 12 % 2 ^ 19 * 4

-- EntryHi after that: VPN becomes bits 31 to 12 of the address, and ASID stays
abbrev pub entry_hi_at : ℕ → ℕ → ℕ
entry_hi_at old bad = bad / 2 ^ 12 * 2 ^ 12 + old % 2 ^ 12

-- the exceptions of a look-up in the translation lookaside buffer
abbrev pub is_look_up : ℕ → Bool
is_look_up code = code == MOD || code == TLBL || code == TLBS

-- the address of an exception, where it has one: BadVAddr has it, and after a look-up Context and EntryHi too
abbrev pub address_noted : ControlRegisters → ℕ → Option ℕ → ControlRegisters
address_noted c code None = c
address_noted c code (Some bad) =
    if is_look_up code
    then record c { bad = bad; context = context_at c.context bad; entry_hi = entry_hi_at c.entry_hi bad }
    else record c { bad = bad }

-- the registers after an exception of a code, for a coprocessor's number, with the address that it has, the
-- address that it returns to and whether it came in a delay slot
abbrev pub raised : ControlRegisters → ℕ → ℕ → Option ℕ → ℕ → Bool → ControlRegisters
raised c code unit bad return_to in_slot =
    record (address_noted (pushed c) code bad) { cause = cause_of c.cause code unit in_slot; epc = return_to }
