-- What each step of the registers keeps: no set bit but those of its mask.
use Rattle.std.proofs.Common.{◌≡◌, ℕ, ◌+◌, ◌*◌, ◌/◌, ◌%◌, ◌^◌, ◌<◌, refl, arith, subst}
use Rattle.std.specs.Prelude.{◌==◌, Bool, true, false, Option, Some, None, IfSome, bit_and, if◌then◌else◌}
use Rattle.std.proofs.lemmas.Nat.Bits.{and_high}
use Rattle.s2_base.specs.declared.masks.TheConstants.{ENTRY_HI_BITS, ENTRY_LO_BITS}
use Rattle.s2_cp0.specs.declared.masks.TheConstants.{INDEX_BITS, CONTEXT_BITS, STATUS_BITS, CAUSE_BITS, CAUSE_WRITTEN}
use Rattle.s2_cp0.specs.declared.codes.TheConstants.{CPU}
use Rattle.s2_cp0.specs.declared.kept.KeptRegister.{KeptRegister}
use Rattle.s2_cp0.specs.declared.kept.KeptRegister.TheVariants.{Index, EntryLo, Context, BadVAddr, EntryHi, Status, Cause, Epc}
use Rattle.s2_cp0.specs.ControlRegisters.{ControlRegisters, IsWithin, HasKeptBits}
use Rattle.s2_cp0.specs.ControlRegisterAccess.{probed, register_loaded}
use Rattle.s2_cp0.specs.ExceptionEntry.{pushed, popped, cause_of, coprocessor_of}
use Rattle.s2_cp0.proofs.MaskBits.{within_and, within_block, within_ones, within_low}

-- another Status, another Index and another Cause
pub with_status : (c : ControlRegisters) (status : ℕ) → HasKeptBits c → IsWithin status STATUS_BITS → HasKeptBits (record c { status = status })
with_status c status kept within = record { index = kept.index; entry_lo = kept.entry_lo; context = kept.context; entry_hi = kept.entry_hi; status = within; cause = kept.cause }

pub with_index : (c : ControlRegisters) (index : ℕ) → HasKeptBits c → IsWithin index INDEX_BITS → HasKeptBits (record c { index = index })
with_index c index kept within = record { index = within; entry_lo = kept.entry_lo; context = kept.context; entry_hi = kept.entry_hi; status = kept.status; cause = kept.cause }

pub with_cause : (c : ControlRegisters) (cause epc : ℕ) → HasKeptBits c → IsWithin cause CAUSE_BITS → HasKeptBits (record c { cause = cause; epc = epc })
with_cause c cause epc kept within = record { index = kept.index; entry_lo = kept.entry_lo; context = kept.context; entry_hi = kept.entry_hi; status = kept.status; cause = within }

-- a push and a pop
pub HasKeptBits-pushed : (c : ControlRegisters) → HasKeptBits c → HasKeptBits (pushed c)
HasKeptBits-pushed c kept = with_status c _ kept (within_low 6 0x410FFC c.status (c.status % 16 * 4) (omega arith) kept.status)

pub HasKeptBits-popped : (c : ControlRegisters) → HasKeptBits c → HasKeptBits (popped c)
HasKeptBits-popped c kept = with_status c _ kept (within_low 4 0x1043FF3 c.status (c.status / 4 % 16) (omega arith) kept.status)

-- the number of an entry in Index
pub entry-within : (entry : ℕ) → entry < 64 → IsWithin (entry * 256) INDEX_BITS
entry-within entry low =
    let number : IsWithin (0 * 2 ^ 6 + entry) (0x20000 * 2 ^ 6 + 63) = within_block 6 0 entry 0x20000 63 low (omega arith) refl (within_ones 6 entry low) in
    let placed = within_block 8 (0 * 2 ^ 6 + entry) 0 0x80003F 0 (omega arith) (omega arith) number refl in
    let same : (0 * 2 ^ 6 + entry) * 2 ^ 8 + 0 ≡ entry * 256 = omega arith in
    subst (λ (x : ℕ). IsWithin x INDEX_BITS) same placed

-- what TLBP leaves
pub HasKeptBits-probed : (c : ControlRegisters) (found : Option ℕ) → IfSome found (λ entry. entry < 64) → HasKeptBits c → HasKeptBits (probed c found)
HasKeptBits-probed c (Some entry) low kept = with_index c _ kept (entry-within entry low)
HasKeptBits-probed c None low kept = with_index c _ kept refl

-- the four fields of Cause
fields_within : (branch_delay unit software code : ℕ) → branch_delay < 2 → unit < 4 → software < 4 → code < 16 → IsWithin (branch_delay * 2 ^ 31 + unit * 2 ^ 28 + software * 2 ^ 8 + code * 4) CAUSE_BITS
fields_within branch_delay unit software code bd ce sw exc =
    let upper = within_block 3 branch_delay unit 1 3 (omega arith) (omega arith) (within_ones 1 branch_delay bd) (within_ones 2 unit ce) in
    let number = within_block 2 code 0 15 0 (omega arith) (omega arith) (within_ones 4 code exc) refl in
    let lower = within_block 8 software (code * 2 ^ 2 + 0) 3 0x3C (omega arith) (omega arith) (within_ones 2 software sw) number in
    let whole = within_block 28 (branch_delay * 2 ^ 3 + unit) (software * 2 ^ 8 + (code * 2 ^ 2 + 0)) 11 0x33C (omega arith) (omega arith) upper lower in
    let same : (branch_delay * 2 ^ 3 + unit) * 2 ^ 28 + (software * 2 ^ 8 + (code * 2 ^ 2 + 0)) ≡ branch_delay * 2 ^ 31 + unit * 2 ^ 28 + software * 2 ^ 8 + code * 4 = omega arith in
    subst (λ (x : ℕ). IsWithin x CAUSE_BITS) same whole

-- the coprocessor's number is one of four
coprocessor_low : (code unit : ℕ) → unit < 4 → coprocessor_of code unit < 4
coprocessor_low code unit low = by_code (code == CPU)
  where
    by_code : (b : Bool) → (if b then unit else 0) < 4
    by_code true = low
    by_code false = omega arith

-- Cause of an exception
pub cause-within : (old code unit : ℕ) (in_slot : Bool) → code < 16 → unit < 4 → IsWithin (cause_of old code unit in_slot) CAUSE_BITS
cause-within old code unit in_slot exc ce =
    let software : bit_and old CAUSE_WRITTEN ≡ old / 2 ^ 8 % 2 ^ 2 * 2 ^ 8 = and_high old 2 8 in
    rw software (cases in_slot)
  where
    low : coprocessor_of code unit < 4
    low = coprocessor_low code unit ce

    cases : (b : Bool) →
        IsWithin ((if b then 2 ^ 31 else 0) + coprocessor_of code unit * 2 ^ 28 + old / 2 ^ 8 % 2 ^ 2 * 2 ^ 8 + code * 4) CAUSE_BITS
    cases true = fields_within 1 (coprocessor_of code unit) (old / 2 ^ 8 % 2 ^ 2) code (omega arith) low (omega arith) exc
    cases false = fields_within 0 (coprocessor_of code unit) (old / 2 ^ 8 % 2 ^ 2) code (omega arith) low (omega arith) exc

-- a loaded word; for those who load the registers as plain data
pub HasKeptBits-register_loaded : (c : ControlRegisters) (register : KeptRegister) (word : ℕ) → HasKeptBits c → HasKeptBits (register_loaded c register word)
HasKeptBits-register_loaded c Index word kept = record { index = within_and word INDEX_BITS INDEX_BITS refl; entry_lo = kept.entry_lo; context = kept.context; entry_hi = kept.entry_hi; status = kept.status; cause = kept.cause }
HasKeptBits-register_loaded c EntryLo word kept = record { index = kept.index; entry_lo = within_and word ENTRY_LO_BITS ENTRY_LO_BITS refl; context = kept.context; entry_hi = kept.entry_hi; status = kept.status; cause = kept.cause }
HasKeptBits-register_loaded c Context word kept = record { index = kept.index; entry_lo = kept.entry_lo; context = within_and word CONTEXT_BITS CONTEXT_BITS refl; entry_hi = kept.entry_hi; status = kept.status; cause = kept.cause }
HasKeptBits-register_loaded c BadVAddr word kept = record { index = kept.index; entry_lo = kept.entry_lo; context = kept.context; entry_hi = kept.entry_hi; status = kept.status; cause = kept.cause }
HasKeptBits-register_loaded c EntryHi word kept = record { index = kept.index; entry_lo = kept.entry_lo; context = kept.context; entry_hi = within_and word ENTRY_HI_BITS ENTRY_HI_BITS refl; status = kept.status; cause = kept.cause }
HasKeptBits-register_loaded c Status word kept = record { index = kept.index; entry_lo = kept.entry_lo; context = kept.context; entry_hi = kept.entry_hi; status = within_and word STATUS_BITS STATUS_BITS refl; cause = kept.cause }
HasKeptBits-register_loaded c Cause word kept = record { index = kept.index; entry_lo = kept.entry_lo; context = kept.context; entry_hi = kept.entry_hi; status = kept.status; cause = within_and word CAUSE_BITS CAUSE_BITS refl }
HasKeptBits-register_loaded c Epc word kept = record { index = kept.index; entry_lo = kept.entry_lo; context = kept.context; entry_hi = kept.entry_hi; status = kept.status; cause = kept.cause }
