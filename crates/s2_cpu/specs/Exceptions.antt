-- The exceptions, by the manual's names (MIPS R2000, the exceptions).
use Rattle.std.specs.Prelude.{ℕ, ◌<◌, ◌≡◌, Bool, true, false, Some, None, IsSome}
use Rattle.s2_cp0.specs.declared.codes.TheConstants.{INT, MOD, TLBL as TLBL_CODE, TLBS as TLBS_CODE, ADEL, ADES, IBE as IBE_CODE, DBE as DBE_CODE, SYS, BP, RI as RI_CODE, CPU, OV}
use Rattle.s2_cp0.specs.ExceptionEntry.{is_look_up}
use Rattle.s2_cpu.specs.declared.exceptions.Exc.{Exc}
use Rattle.s2_cpu.specs.declared.exceptions.Access.{Access}
use Rattle.s2_cpu.specs.declared.exceptions.Access.TheVariants.{Fetch, Load, Store}

-- an exception without an address, and one with the address that caused it
abbrev pub exception : ℕ → Exc
exception code = record { code = code; refill = false; bad = None; unit = 0 }

abbrev pub exception_at : ℕ → ℕ → Exc
exception_at code va = record { code = code; refill = false; bad = Some va; unit = 0 }

-- interrupt; store to a page that may not be written; no valid entry of the translation lookaside buffer
-- for a fetch or a load, and for a store, by the refill vector or the general one; address error of a fetch
-- or a load, and of a store; bus error of a fetch, and of a load or store; system call; breakpoint;
-- reserved instruction; coprocessor unusable, with its number; arithmetic overflow
abbrev pub Int : Exc
Int = exception INT

abbrev pub Mod : ℕ → Exc
Mod va = exception_at MOD va

abbrev pub TLBL : Bool → ℕ → Exc
TLBL refill va = record { code = TLBL_CODE; refill = refill; bad = Some va; unit = 0 }

abbrev pub TLBS : Bool → ℕ → Exc
TLBS refill va = record { code = TLBS_CODE; refill = refill; bad = Some va; unit = 0 }

abbrev pub AdEL : ℕ → Exc
AdEL va = exception_at ADEL va

abbrev pub AdES : ℕ → Exc
AdES va = exception_at ADES va

abbrev pub IBE : Exc
IBE = exception IBE_CODE

abbrev pub DBE : Exc
DBE = exception DBE_CODE

abbrev pub Sys : Exc
Sys = exception SYS

abbrev pub Bp : Exc
Bp = exception BP

abbrev pub RI : Exc
RI = exception RI_CODE

abbrev pub CpU : ℕ → Exc
CpU unit = record { code = CPU; refill = false; bad = None; unit = unit }

abbrev pub Ov : Exc
Ov = exception OV

-- an address error, and a failed look-up, by the kind of access
abbrev pub address_error : Access → ℕ → Exc
address_error Fetch va = AdEL va
address_error Load va = AdEL va
address_error Store va = AdES va

abbrev pub failed_look_up : Access → Bool → ℕ → Exc
failed_look_up Fetch refill va = TLBL refill va
failed_look_up Load refill va = TLBL refill va
failed_look_up Store refill va = TLBS refill va

abbrev pub is_store : Access → Bool
is_store Fetch = false
is_store Load = false
is_store Store = true

-- an exception that can be entered: its code fits ExcCode, its unit is a coprocessor, and an exception of a
-- look-up has its address
pub record IsException (e : Exc) : Type 0 where
  pub code : e.code < 16
  pub unit : e.unit < 4
  pub address : is_look_up e.code ≡ true → IsSome e.bad
