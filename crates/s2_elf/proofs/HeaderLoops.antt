-- Going through the program headers one by one.
use Rattle.std.proofs.Common.{◌≡◌, ℕ, suc, ◌+◌, ◌-◌, ◌<◌, ◌≤◌, true, false, List, length, cond, refl, sym, ap, subst, inl, inr, ◌∙◌, Option, Some, None, arith}
use Rattle.std.proofs.lemmas.Bool.{cases_Bool, cases_eq}
use Rattle.s2_elf.specs.declared.headers.TheConstants.{LOAD}
use Rattle.s2_elf.specs.declared.fault.ElfFault.{ElfFault}
use Rattle.s2_elf.specs.declared.fault.ElfFault.TheVariants.{Dynamic}
use Rattle.s2_elf.specs.Files.{header_count, program_header, headers_of, first_false, is_dynamic, static_conditions, load_conditions, header_conditions}
use Rattle.s2_elf.specs.Placing.{headers_from, HasFileBytes, HasSegments}
use Rattle.s2_elf.proofs.FirstFalse.{first_false_append, or_then}

-- the first false condition of the headers from an index on
abbrev pub static_from : List ℕ → ℕ → Option ElfFault
static_from bytes i = first_false (static_conditions i (headers_from bytes i (header_count bytes - i)))

abbrev pub load_from : List ℕ → ℕ → Option ElfFault
load_from bytes i = first_false (load_conditions (length bytes) i (headers_from bytes i (header_count bytes - i)))

-- from the first one on they are all
none_gone : (n : ℕ) → n - 0 ≡ n
none_gone n = omega arith

pub static_all : (bytes : List ℕ) → static_from bytes 0 ≡ first_false (static_conditions 0 (headers_of bytes))
static_all bytes = ap (λ k. first_false (static_conditions 0 (headers_from bytes 0 k))) (none_gone (header_count bytes))

pub load_all : (bytes : List ℕ) → load_from bytes 0 ≡ first_false (load_conditions (length bytes) 0 (headers_of bytes))
load_all bytes = ap (λ k. first_false (load_conditions (length bytes) 0 (headers_from bytes 0 k))) (none_gone (header_count bytes))

-- the headers from an index on are that one and those behind it
static_split : (bytes : List ℕ) (i n : ℕ)
    → first_false (static_conditions i (headers_from bytes i (suc n)))
    ≡ cond (is_dynamic (program_header bytes i)) (Some (Dynamic i)) (first_false (static_conditions (i + 1) (headers_from bytes (i + 1) n)))
static_split bytes i n =
    elim (cases_Bool (is_dynamic (program_header bytes i))) [
      | inl e ↦ rw e refl
      | inr e ↦ rw e refl
    ]

load_split : (bytes : List ℕ) (i n : ℕ)
    → first_false (load_conditions (length bytes) i (headers_from bytes i (suc n)))
    ≡ or_then (first_false (header_conditions (length bytes) i (program_header bytes i)))
    (first_false (load_conditions (length bytes) (i + 1) (headers_from bytes (i + 1) n)))
load_split bytes i n =
    first_false_append (header_conditions (length bytes) i (program_header bytes i))
    (load_conditions (length bytes) (i + 1) (headers_from bytes (i + 1) n))

-- how many headers are left at an index that is one
left_at : (i n : ℕ) → i < n → n - i ≡ suc (n - (i + 1))
left_at i n below = omega arith

left_none : (i n : ℕ) → n ≤ i → n - i ≡ 0
left_none i n past = omega arith

-- a header that asks for neither is gone past
pub static_more : (bytes : List ℕ) (i : ℕ) → i < header_count bytes → is_dynamic (program_header bytes i) ≡ false
    → static_from bytes i ≡ static_from bytes (i + 1)
static_more bytes i below quiet =
    ap (λ k. first_false (static_conditions i (headers_from bytes i k))) (left_at i (header_count bytes) below)
    ∙ static_split bytes i (header_count bytes - (i + 1))
    ∙ ap (λ b. cond b (Some (Dynamic i)) (static_from bytes (i + 1))) quiet

-- and at one that does, the search ends
pub static_found : (bytes : List ℕ) (i : ℕ) → i < header_count bytes → is_dynamic (program_header bytes i) ≡ true
    → static_from bytes i ≡ Some (Dynamic i)
static_found bytes i below asks =
    ap (λ k. first_false (static_conditions i (headers_from bytes i k))) (left_at i (header_count bytes) below)
    ∙ static_split bytes i (header_count bytes - (i + 1))
    ∙ ap (λ b. cond b (Some (Dynamic i)) (static_from bytes (i + 1))) asks

-- behind the last one there is nothing
pub static_done : (bytes : List ℕ) (i : ℕ) → header_count bytes ≤ i → static_from bytes i ≡ None
static_done bytes i past =
    ap (λ k. first_false (static_conditions i (headers_from bytes i k))) (left_none i (header_count bytes) past)

-- the same for the segments that are loaded
pub load_at : (bytes : List ℕ) (i : ℕ) → i < header_count bytes
    → load_from bytes i ≡ or_then (first_false (header_conditions (length bytes) i (program_header bytes i))) (load_from bytes (i + 1))
load_at bytes i below =
    ap (λ k. first_false (load_conditions (length bytes) i (headers_from bytes i k))) (left_at i (header_count bytes) below)
    ∙ load_split bytes i (header_count bytes - (i + 1))

pub load_more : (bytes : List ℕ) (i : ℕ) → i < header_count bytes
    → first_false (header_conditions (length bytes) i (program_header bytes i)) ≡ None
    → load_from bytes i ≡ load_from bytes (i + 1)
load_more bytes i below none = load_at bytes i below ∙ ap (λ o. or_then o (load_from bytes (i + 1))) none

pub load_found : (bytes : List ℕ) (i : ℕ) (fault : ElfFault) → i < header_count bytes
    → first_false (header_conditions (length bytes) i (program_header bytes i)) ≡ Some fault
    → load_from bytes i ≡ Some fault
load_found bytes i fault below some = load_at bytes i below ∙ ap (λ o. or_then o (load_from bytes (i + 1))) some

pub load_done : (bytes : List ℕ) (i : ℕ) → header_count bytes ≤ i → load_from bytes i ≡ None
load_done bytes i past =
    ap (λ k. first_false (load_conditions (length bytes) i (headers_from bytes i k))) (left_none i (header_count bytes) past)

-- the segments of the headers before an index have their file bytes
abbrev pub HasSegmentsBefore : List ℕ → ℕ → Type 0
HasSegmentsBefore bytes i = (k : ℕ) → k < i → (program_header bytes k).kind ≡ LOAD → HasFileBytes (program_header bytes k) bytes

pub segments_more : (bytes : List ℕ) (i : ℕ) → HasSegmentsBefore bytes i
    → ((program_header bytes i).kind ≡ LOAD → HasFileBytes (program_header bytes i) bytes) → HasSegmentsBefore bytes (i + 1)
segments_more bytes i before here = λ k below.
    elim (cases_eq k i) [
      | inl e ↦ subst (λ n. (program_header bytes n).kind ≡ LOAD → HasFileBytes (program_header bytes n) bytes) (sym e) here
      | inr other ↦ before k (omega arith)
    ]

pub segments_all : (bytes : List ℕ) (i : ℕ) → header_count bytes ≤ i → HasSegmentsBefore bytes i → HasSegments bytes
segments_all bytes i past before = λ k below. before k (omega arith)
