-- The numbers of a plain file: those of its header, and its program headers.
use Rattle.std.proofs.Common.{◌≡◌, ℕ, ◌+◌, ◌*◌, ◌^◌, ◌<◌, ◌≤◌, List, [], ◌∷◌, ◌++◌, length, map, refl, sym, ap, ◌∙◌, append_assoc, arith, length-append}
use Rattle.std.specs.List.{range_with_len}
use Rattle.s2_elf.specs.declared.headers.TheConstants.{LOAD}
use Rattle.s2_elf.specs.Files.{ProgramHeader, entry_of, table_of, header_count, header_at, program_header, headers_of}
use Rattle.s2_program.specs.Programs.{PartData, ProgramData, words_in, FitParts}
use Rattle.s2_program.specs.PlainFiles.{words_bytes, file_header, size_of, part_header, part_headers, contents, contents_offset, plain_file}
use Rattle.s2_program.proofs.FileBytes.{number_behind, word_again, half_again, long_words}

-- a part's program header, as the loader sees it, and those of all parts
abbrev pub segment_of : ℕ → PartData → ProgramHeader
segment_of offset p = record { kind = LOAD; offset = offset; vaddr = p.at; filesz = size_of p; memsz = size_of p }

abbrev pub segments : ℕ → List PartData → List ProgramHeader
segments offset [] = []
segments offset (p ∷ ps) = segment_of offset p ∷ segments (offset + size_of p) ps

made : (offset vaddr size o v f m : ℕ) → o ≡ offset → v ≡ vaddr → f ≡ size → m ≡ size
    → (let h : ProgramHeader = record { kind = 1; offset = o; vaddr = v; filesz = f; memsz = m } in h) ≡ record { kind = 1; offset = offset; vaddr = vaddr; filesz = size; memsz = size }
made offset vaddr size o v f m a b c d = cc

-- one program header at the front of a list
front_header : (offset : ℕ) (p : PartData) (rest : List ℕ) → offset < 2 ^ 32 → p.at < 2 ^ 32 → size_of p < 2 ^ 32 → header_at (part_header offset p ++ rest) 0 ≡ segment_of offset p
front_header offset p rest a b c =
    made offset p.at (size_of p) _ _ _ _ (word_again offset a) (word_again p.at b) (word_again (size_of p) c) (word_again (size_of p) c)

-- one behind other bytes
header_behind : (xs ys : List ℕ) (i : ℕ) → i ≡ length xs → header_at (xs ++ ys) i ≡ header_at ys 0
header_behind xs ys i e =
    rw (
      number_behind xs ys i 0 (omega arith),
      number_behind xs ys (i + 4) 4 (omega arith),
      number_behind xs ys (i + 8) 8 (omega arith),
      number_behind xs ys (i + 16) 16 (omega arith),
      number_behind xs ys (i + 20) 20 (omega arith),
    ) refl

long_header : (offset : ℕ) (p : PartData) → length (part_header offset p) ≡ 32
long_header offset p = refl

pub headers_from_front : (front : List ℕ) (offset : ℕ) (parts : List PartData) (rest bytes : List ℕ) (i : ℕ)
    → table_of bytes ≡ 52 → length front ≡ 52 + 32 * i → bytes ≡ front ++ (part_headers offset parts ++ rest)
    → offset + 4 * words_in parts < 2 ^ 32 → FitParts parts
    → map (program_header bytes) (range_with_len i (length parts)) ≡ segments offset parts
headers_from_front front offset [] rest bytes i table long is few fit = refl
headers_from_front front offset (p ∷ ps) rest bytes i table long is few fit =
    let tail : List ℕ = part_headers (offset + size_of p) ps ++ rest in
    let split : bytes ≡ front ++ (part_header offset p ++ tail) = is ∙ ap (λ t. front ++ t) (append_assoc (part_header offset p) (part_headers (offset + size_of p) ps) rest) in
    let place : table_of bytes + 32 * i ≡ length front = omega arith in
    let here : program_header bytes i ≡ segment_of offset p =
    ap (λ k. header_at bytes k) place ∙ (ap (λ t. header_at t (length front)) split
    ∙ (header_behind front (part_header offset p ++ tail) (length front) refl ∙ front_header offset p tail (omega arith) fit.0.0 (omega arith))) in
    let long_front : length (front ++ part_header offset p) ≡ 52 + 32 * (i + 1) = omega (arith, length-append front (part_header offset p), long_header offset p) in
    let again : bytes ≡ (front ++ part_header offset p) ++ tail = split ∙ sym (append_assoc front (part_header offset p) tail) in
    let more = headers_from_front (front ++ part_header offset p) (offset + size_of p) ps rest bytes (i + 1) table long_front again (omega arith) fit.1 in
    ap (λ h. h ∷ map (program_header bytes) (range_with_len (i + 1) (length ps))) here ∙ ap (λ hs. segment_of offset p ∷ hs) more

-- ---- the file's header

pub record IsPlainFile (bytes : List ℕ) (p : ProgramData) : Type 0 where
  pub tail : List ℕ
  pub is : bytes ≡ file_header p.entry (length p.parts) ++ tail

pub plain_entry : (e n : ℕ) (tail : List ℕ) → e < 2 ^ 32 → entry_of (file_header e n ++ tail) ≡ e
plain_entry e n tail fits = word_again e fits

pub plain_table : (e n : ℕ) (tail : List ℕ) → table_of (file_header e n ++ tail) ≡ 52
plain_table e n tail = refl

pub plain_count : (e n : ℕ) (tail : List ℕ) → n < 65536 → header_count (file_header e n ++ tail) ≡ n
plain_count e n tail fits = half_again n fits

pub long_file_header : (e n : ℕ) → length (file_header e n) ≡ 52
long_file_header e n = refl

pub long_headers : (offset : ℕ) (parts : List PartData) → length (part_headers offset parts) ≡ 32 * length parts
long_headers offset [] = refl
long_headers offset (p ∷ ps) =
    let h = long_headers (offset + size_of p) ps in
    omega (arith, length-append (part_header offset p) (part_headers (offset + size_of p) ps), long_header offset p)

pub long_contents : (parts : List PartData) → length (contents parts) ≡ 4 * words_in parts
long_contents [] = refl
long_contents (p ∷ ps) = (let h = long_contents ps in omega (arith, length-append (words_bytes p.words) (contents ps), long_words p.words))

pub long_file : (p : ProgramData) → length (plain_file p) ≡ contents_offset p.parts + 4 * words_in p.parts
long_file p =
    let offset : ℕ = contents_offset p.parts in
    omega (
      arith,
      length-append (file_header p.entry (length p.parts)) (part_headers offset p.parts ++ contents p.parts),
      length-append (part_headers offset p.parts) (contents p.parts),
      long_file_header p.entry (length p.parts),
      long_headers offset p.parts,
      long_contents p.parts,
    )

pub plain_headers : (p : ProgramData) → length p.parts ≤ 64 → words_in p.parts ≤ 540672 → FitParts p.parts
    → headers_of (plain_file p) ≡ segments (contents_offset p.parts) p.parts
plain_headers p few small fit =
    let e : ℕ = p.entry in
    let n : ℕ = length p.parts in
    let offset : ℕ = contents_offset p.parts in
    let tail : List ℕ = part_headers offset p.parts ++ contents p.parts in
    let count : header_count (plain_file p) ≡ n = plain_count e n tail (omega arith) in
    ap (λ k. map (program_header (plain_file p)) (range_with_len 0 k)) count
    ∙ headers_from_front (file_header e n) offset p.parts (contents p.parts) (plain_file p) 0 (plain_table e n tail) (long_file_header e n) refl (omega arith) fit
