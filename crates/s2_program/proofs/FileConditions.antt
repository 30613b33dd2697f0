-- A plain file meets each condition but those on places.
use Rattle.std.proofs.Common.{◌≡◌, ℕ, ◌+◌, ◌*◌, ◌^◌, ◌<◌, ◌≤◌, Bool, true, List, [], ◌∷◌, ◌++◌, length, refl, sym, ap, ◌∙◌, arith, inl, inr, Option, None, length-append}
use Rattle.std.specs.Prelude.{nat_le, ◌==◌, ◌||◌}
use Rattle.std.proofs.lemmas.Bool.{cases_Bool}
use Rattle.std.proofs.lemmas.Bool.Decides.{nat_tests}
use Rattle.std.specs.List.{list_all, range_with_len}
use Rattle.s2_elf.specs.declared.fault.ElfFault.{ElfFault}
use Rattle.s2_elf.specs.declared.fault.ElfFault.TheVariants.{Placed, Entry}
use Rattle.s2_elf.specs.Files.{is_loadable, is_entry, half_at, table_of, header_count, headers_of, first_false, file_conditions, static_conditions, segment_conditions, load_conditions, entry_conditions, rest_conditions, refusal}
use Rattle.s2_elf.proofs.FirstFalse.{first_false_append, or_then}
use Rattle.s2_program.specs.Programs.{PartData, ProgramData, words_in, FitParts}
use Rattle.s2_program.specs.PlainFiles.{file_header, size_of, part_headers, contents, contents_offset, plain_file}
use Rattle.s2_program.specs.ProgramImages.{IsOfPlace, part_conditions, place_refusal}
use Rattle.s2_program.proofs.FileHeaders.{segment_of, segments, plain_entry, plain_count, long_file_header, long_headers, long_file, plain_headers}

-- no part asks for dynamic linking or an interpreter
static_none : (offset i : ℕ) (parts : List PartData) → first_false (static_conditions i (segments offset parts)) ≡ None
static_none offset i [] = refl
static_none offset i (p ∷ ps) = static_none (offset + size_of p) (i + 1) ps

-- the tests of one part: its bytes are all in the file, and fill its memory
part_fault : (size i offset : ℕ) (p : PartData) → offset + size_of p ≤ size → first_false (segment_conditions size i (segment_of offset p)) ≡ first_false ((list_all (λ k. is_loadable (p.at + k)) (range_with_len 0 (size_of p)), Placed i) ∷ [])
part_fault size i offset p within =
    let all : nat_le (size_of p) (size_of p) ≡ true = grind (arith, nat_tests) in
    let inside : (size_of p == 0 || nat_le (offset + size_of p) size) ≡ true = grind (arith, nat_tests) in
    rw (all, inside) refl

load_fault : (size i offset : ℕ) (parts : List PartData) → offset + 4 * words_in parts ≤ size → first_false (load_conditions size i (segments offset parts)) ≡ first_false (part_conditions i parts)
load_fault size i offset [] within = refl
load_fault size i offset (p ∷ ps) within =
    let here = segment_conditions size i (segment_of offset p) in
    let more = load_conditions size (i + 1) (segments (offset + size_of p) ps) in
    let place : List (Bool × ElfFault) = (list_all (λ k. is_loadable (p.at + k)) (range_with_len 0 (size_of p)), Placed i) ∷ [] in
    first_false_append here more
    ∙ (ap (λ (o : Option ElfFault). or_then o (first_false more)) (part_fault size i offset p (omega arith))
    ∙ (ap (or_then (first_false place)) (load_fault size (i + 1) (offset + size_of p) ps (omega arith)) ∙ sym (first_false_append place (part_conditions (i + 1) ps))))

-- the conditions on the file's header
header_none : (e n : ℕ) (tail : List ℕ) → n ≤ 64 → 32 * n ≤ length tail → first_false (file_conditions (file_header e n ++ tail)) ≡ None
header_none e n tail few within =
    let bytes : List ℕ = file_header e n ++ tail in
    let size : length bytes ≡ 52 + length tail = omega (arith, long_file_header e n) in
    let count : header_count bytes ≡ n = plain_count e n tail (omega arith) in
    let long : nat_le 52 (length bytes) ≡ true = grind (arith, nat_tests) in
    let most : nat_le (header_count bytes) 64 ≡ true = grind (arith, nat_tests) in
    let same : (header_count bytes == 0 || half_at bytes 42 == 32) ≡ true = grind (arith, nat_tests) in
    let table : (header_count bytes == 0 || nat_le (table_of bytes + 32 * header_count bytes) (length bytes)) ≡ true = grind (arith, nat_tests) in
    rw (long, most, same, table) refl

-- the refusal of the file is that of its places
pub plain_refusal : (p : ProgramData) → p.entry < 2 ^ 32 → length p.parts ≤ 64 → words_in p.parts ≤ 540672 → FitParts p.parts → refusal (plain_file p) ≡ place_refusal p
plain_refusal p low few small fit =
    let bytes : List ℕ = plain_file p in
    let size : length bytes ≡ contents_offset p.parts + 4 * words_in p.parts = long_file p in
    let tail : List ℕ = part_headers (contents_offset p.parts) p.parts ++ contents p.parts in
    let head : first_false (file_conditions bytes) ≡ None = header_none p.entry (length p.parts) tail few (omega (arith, length-append (part_headers (contents_offset p.parts) p.parts) (contents p.parts), long_headers (contents_offset p.parts) p.parts)) in
    let hs : headers_of bytes ≡ segments (contents_offset p.parts) p.parts = plain_headers p few small fit in
    let statics : first_false (static_conditions 0 (headers_of bytes)) ≡ None = ap (λ h. first_false (static_conditions 0 h)) hs ∙ static_none (contents_offset p.parts) 0 p.parts in
    let loads : first_false (load_conditions (length bytes) 0 (headers_of bytes)) ≡ first_false (part_conditions 0 p.parts) =
    ap (λ h. first_false (load_conditions (length bytes) 0 h)) hs ∙ load_fault (length bytes) 0 (contents_offset p.parts) p.parts (omega arith) in
    let entry : entry_conditions bytes ≡ (is_entry p.entry, Entry) ∷ [] = ap (λ (e : ℕ). let cs : List (Bool × ElfFault) = (is_entry e, Entry) ∷ [] in cs) (plain_entry p.entry (length p.parts) tail low) in
    let last : first_false (load_conditions (length bytes) 0 (headers_of bytes) ++ entry_conditions bytes) ≡ place_refusal p =
    first_false_append (load_conditions (length bytes) 0 (headers_of bytes)) (entry_conditions bytes)
    ∙ (ap (λ (o : Option ElfFault). or_then o (first_false (entry_conditions bytes))) loads
    ∙ (ap (λ (cs : List (Bool × ElfFault)). or_then (first_false (part_conditions 0 p.parts)) (first_false cs)) entry
    ∙ sym (first_false_append (part_conditions 0 p.parts) ((is_entry p.entry, Entry) ∷ [])))) in
    let rest : first_false (rest_conditions bytes) ≡ place_refusal p =
    first_false_append (static_conditions 0 (headers_of bytes)) (load_conditions (length bytes) 0 (headers_of bytes) ++ entry_conditions bytes)
    ∙ (ap (λ (o : Option ElfFault). or_then o (first_false (load_conditions (length bytes) 0 (headers_of bytes) ++ entry_conditions bytes))) statics ∙ last) in
    first_false_append (file_conditions bytes) (rest_conditions bytes)
    ∙ (ap (λ (o : Option ElfFault). or_then o (first_false (rest_conditions bytes))) head ∙ rest)

-- which is for the place of a part or of the entry
entry_of_place : (e : ℕ) → IsOfPlace (first_false ((is_entry e, Entry) ∷ []))
entry_of_place e =
    elim (cases_Bool (is_entry e)) [
      | inl yes_ ↦ rw yes_ tt
      | inr no_ ↦ rw no_ tt
    ]

parts_of_place : (i e : ℕ) (parts : List PartData) → IsOfPlace (first_false (part_conditions i parts ++ (is_entry e, Entry) ∷ []))
parts_of_place i e [] = entry_of_place e
parts_of_place i e (p ∷ ps) =
    elim (cases_Bool (list_all (λ k. is_loadable (p.at + k)) (range_with_len 0 (size_of p)))) [
      | inl here ↦ rw here (parts_of_place (i + 1) e ps)
      | inr out ↦ rw out tt
    ]

pub refusal_of_place : (p : ProgramData) → IsOfPlace (place_refusal p)
refusal_of_place p = parts_of_place 0 p.entry p.parts
