-- The plain ELF file of a program: a header, a program header for each part, and the words of the parts without gaps.
-- Source: the ELF-32 specification for the fields.
use Rattle.std.specs.Prelude.{ℕ, ◌+◌, ◌*◌, ◌/◌, ◌%◌, List, [], ◌∷◌, ◌++◌, length}
use Rattle.s2_program.specs.Programs.{PartData, ProgramData}

-- a half word and a word, most significant byte first
abbrev pub half_bytes : ℕ → List ℕ
half_bytes n = n / 256 % 256 ∷ n % 256 ∷ []

abbrev pub word_bytes : ℕ → List ℕ
word_bytes w = w / 16777216 % 256 ∷ w / 65536 % 256 ∷ w / 256 % 256 ∷ w % 256 ∷ []

abbrev pub words_bytes : List ℕ → List ℕ
words_bytes [] = []
words_bytes (w ∷ ws) = word_bytes w ++ words_bytes ws

-- e_ident: the magic number, 32 bits, most significant byte first, version 1, and zeros
abbrev pub identification : List ℕ
identification = 127 ∷ 69 ∷ 76 ∷ 70 ∷ 1 ∷ 2 ∷ 1 ∷ 0 ∷ 0 ∷ 0 ∷ 0 ∷ 0 ∷ 0 ∷ 0 ∷ 0 ∷ 0 ∷ []

-- the header of a file with so many program headers: an executable for MIPS, version 1; its entry and where its program
-- headers begin, and neither sections nor flags; the sizes of both headers and how many program headers there are
abbrev pub kind_fields : List ℕ
kind_fields = half_bytes 2 ++ half_bytes 8 ++ word_bytes 1

abbrev pub place_fields : ℕ → List ℕ
place_fields entry = word_bytes entry ++ word_bytes 52 ++ word_bytes 0 ++ word_bytes 0

abbrev pub size_fields : ℕ → List ℕ
size_fields count = half_bytes 52 ++ half_bytes 32 ++ half_bytes count ++ half_bytes 0 ++ half_bytes 0 ++ half_bytes 0

abbrev pub file_header : ℕ → ℕ → List ℕ
file_header entry count = identification ++ kind_fields ++ place_fields entry ++ size_fields count

-- how many bytes a part has
abbrev pub size_of : PartData → ℕ
size_of p = 4 * length p.words

-- the program header of a part whose bytes begin at this offset: it is loaded, with all rights, at a multiple of 4
abbrev pub where_fields : ℕ → PartData → List ℕ
where_fields offset p = word_bytes 1 ++ word_bytes offset ++ word_bytes p.at ++ word_bytes p.at

abbrev pub extent_fields : PartData → List ℕ
extent_fields p = word_bytes (size_of p) ++ word_bytes (size_of p) ++ word_bytes 7 ++ word_bytes 4

abbrev pub part_header : ℕ → PartData → List ℕ
part_header offset p = where_fields offset p ++ extent_fields p

-- the program headers of parts whose bytes follow each other from this offset on
abbrev pub part_headers : ℕ → List PartData → List ℕ
part_headers offset [] = []
part_headers offset (p ∷ ps) = part_header offset p ++ part_headers (offset + size_of p) ps

-- the bytes of the parts
abbrev pub contents : List PartData → List ℕ
contents [] = []
contents (p ∷ ps) = words_bytes p.words ++ contents ps

-- where they begin
abbrev pub contents_offset : List PartData → ℕ
contents_offset ps = 52 + 32 * length ps

abbrev pub plain_file : ProgramData → List ℕ
plain_file p = file_header p.entry (length p.parts) ++ (part_headers (contents_offset p.parts) p.parts ++ contents p.parts)
