-- The image of a plain file, word by word.
use Rattle.std.proofs.Common.{◌≡◌, ℕ, zero, suc, ◌+◌, ◌-◌, ◌*◌, ◌/◌, ◌%◌, ◌^◌, ◌<◌, ◌≤◌, Bool, true, false, List, [], ◌∷◌, ◌++◌, length, map, get_or, refl, sym, ap, ◌∙◌, append_assoc, arith, inl, inr, length-append, add-zero}
use Rattle.std.specs.Prelude.{nat_lt, ◌==◌, is_some}
use Rattle.std.specs.List.{range_with_len, filter}
use Rattle.std.proofs.lemmas.Bool.{cases_Bool, cond-true}
use Rattle.s2_base.specs.Map.{is_between}
use Rattle.s2_elf.proofs.ImageWords.{packed_word}
use Rattle.std.proofs.lemmas.Bool.Decides.{nat_tests}
use Rattle.s2_base.specs.declared.map.TheConstants.{LOCAL_WORDS, GLOBAL_WORDS}
use Rattle.s2_elf.specs.Files.{ProgramHeader, entry_of}
use Rattle.s2_elf.specs.Images.{segments_of, covers, segment_byte, last_covering, byte_of, image_byte, image_word, local_address, global_address, image_of}
use Rattle.s2_elf.specs.MemoryImage.{MemoryImage}
use Rattle.s2_program.specs.Programs.{PartData, ProgramData, words_in, AreAligned, AreWords, FitParts}
use Rattle.s2_program.specs.PlainFiles.{word_bytes, words_bytes, file_header, size_of, part_headers, contents, contents_offset, plain_file}
use Rattle.s2_program.specs.ProgramImages.{base_of_part, has_word, last_with, program_word, image_of_program}
use Rattle.s2_program.proofs.FileBytes.{behind, word_again, long_words}
use Rattle.s2_program.proofs.FileHeaders.{segment_of, segments, plain_entry, long_headers, long_file_header, plain_headers}

-- a test of a range
pub is_between_true : (low n high : ℕ) → low ≤ n → n < high → is_between low n high ≡ true
is_between_true low n high a b = grind (arith, nat_tests)

pub between_low : (low n high : ℕ) → is_between low n high ≡ true → low ≤ n
between_low low n high e = grind (arith, nat_tests)

pub between_high : (low n high : ℕ) → is_between low n high ≡ true → n < high
between_high low n high e = grind (arith, nat_tests)

-- two tests that are false together
pub beside : (b c : Bool) → c ≡ false → (b ≡ true → c ≡ true) → b ≡ c
beside true c not_it follows = sym (follows refl)
beside false c not_it follows = sym not_it

packed_by : (a b c d a2 b2 c2 d2 : ℕ) → a ≡ a2 → b ≡ b2 → c ≡ c2 → d ≡ d2 → packed_word a b c d ≡ packed_word a2 b2 c2 d2
packed_by a b c d a2 b2 c2 d2 p q r s = cc

-- byte j of a word
abbrev pub byte_of_word : ℕ → ℕ → ℕ
byte_of_word w j = get_or (word_bytes w) j 0

zero_byte : (j : ℕ) → j < 4 → byte_of_word 0 j ≡ 0
zero_byte zero h = refl
zero_byte (suc zero) h = refl
zero_byte (suc (suc zero)) h = refl
zero_byte (suc (suc (suc zero))) h = refl
zero_byte (suc (suc (suc (suc j)))) h = absurd (omega arith)

-- the first word
first_word : (w : ℕ) (rest : List ℕ) (j i : ℕ) → j < 4 → i ≡ j → get_or (word_bytes w ++ rest) i 0 ≡ byte_of_word w j
first_word w rest zero i small is = rw is refl
first_word w rest (suc zero) i small is = rw is refl
first_word w rest (suc (suc zero)) i small is = rw is refl
first_word w rest (suc (suc (suc zero))) i small is = rw is refl
first_word w rest (suc (suc (suc (suc j)))) i small is = absurd (omega arith)

-- byte j of word k of a list of words
words_at : (ws rest : List ℕ) (k j i : ℕ) → k < length ws → j < 4 → i ≡ 4 * k + j → get_or (words_bytes ws ++ rest) i 0 ≡ byte_of_word (get_or ws k 0) j
words_at [] rest k j i below small is = absurd (omega arith)
words_at (w ∷ ws) rest zero j i below small is = first_word w (words_bytes ws ++ rest) j i small (omega arith)
words_at (w ∷ ws) rest (suc k) j i below small is =
    behind (word_bytes w) (words_bytes ws ++ rest) i (4 * k + j) (omega arith) ∙ words_at ws rest k j (4 * k + j) (omega arith) small refl

-- a word of a part lies wholly in its segment, or wholly beside it
same_cover : (offset : ℕ) (p : PartData) (pa j : ℕ) → p.at % 4 ≡ 0 → pa % 4 ≡ 0 → j < 4 → covers (segment_of offset p) (pa + j) ≡ has_word p pa
same_cover offset p pa j aligned even small =
    let base : base_of_part p % 4 ≡ 0 = omega arith in
    elim (cases_Bool (has_word p pa)) [
      | inl e ↦ (let low : base_of_part p ≤ pa = grind (arith, nat_tests) in let high : pa < base_of_part p + 4 * length p.words = grind (arith, nat_tests) in
          let inside : covers (segment_of offset p) (pa + j) ≡ true = is_between_true (base_of_part p) (pa + j) (base_of_part p + 4 * length p.words) (omega arith) (omega arith) in inside ∙ sym e)
      | inr e ↦ beside (covers (segment_of offset p) (pa + j)) (has_word p pa) e (λ c.
          let low : base_of_part p ≤ pa + j = between_low (base_of_part p) (pa + j) (base_of_part p + 4 * length p.words) c in
          let high : pa + j < base_of_part p + 4 * length p.words = between_high (base_of_part p) (pa + j) (base_of_part p + 4 * length p.words) c in
          is_between_true (base_of_part p) pa (base_of_part p + 4 * length p.words) (omega arith) (omega arith))
    ]

-- so the same parts give its byte and its word
some_same : (offset : ℕ) (parts : List PartData) (pa j : ℕ) → AreAligned parts → pa % 4 ≡ 0 → j < 4 → is_some (last_covering (segments offset parts) (pa + j)) ≡ is_some (last_with parts pa)
some_same offset [] pa j aligned even small = refl
some_same offset (p ∷ ps) pa j aligned even small =
    let more = some_same (offset + size_of p) ps pa j aligned.1 even small in
    let cover = same_cover offset p pa j aligned.0 even small in
    elim (cases_Bool (is_some (last_with ps pa))) [
      | inl e ↦ (let f : is_some (last_covering (segments (offset + size_of p) ps) (pa + j)) ≡ true = more ∙ e in rw (f, e) (rw (f, e) refl))
      | inr e ↦ (let f : is_some (last_covering (segments (offset + size_of p) ps) (pa + j)) ≡ false = more ∙ e in elim (cases_Bool (has_word p pa)) [
        | inl g ↦ (let c : covers (segment_of offset p) (pa + j) ≡ true = cover ∙ g in rw (f, e, c, g) refl)
        | inr g ↦ (let c : covers (segment_of offset p) (pa + j) ≡ false = cover ∙ g in rw (f, e, c, g) refl)
      ])
    ]

-- the byte that a part's segment gives is that of the part's word
part_byte : (front rest bytes : List ℕ) (offset : ℕ) (p : PartData) (pa j : ℕ) → p.at % 4 ≡ 0 → pa % 4 ≡ 0 → j < 4 → has_word p pa ≡ true → offset ≡ length front → bytes ≡ front ++ (words_bytes p.words ++ rest)
    → segment_byte bytes (segment_of offset p) (pa + j) ≡ byte_of_word (get_or p.words ((pa - base_of_part p) / 4) 0) j
part_byte front rest bytes offset p pa j aligned even small has place is =
    let base : ℕ = base_of_part p in
    let k : ℕ = (pa - base) / 4 in
    let flat : base % 4 ≡ 0 = omega arith in
    let low : base ≤ pa = between_low base pa (base + 4 * length p.words) has in
    let high : pa < base + 4 * length p.words = between_high base pa (base + 4 * length p.words) has in
    let inside : nat_lt (pa + j - base) (size_of p) ≡ true = grind (arith, nat_tests) in
    let at : pa + j - base ≡ 4 * k + j = omega arith in
    cond-true (nat_lt (pa + j - base) (size_of p)) (get_or bytes (offset + (pa + j - base)) 0) 0 inside
    ∙ (ap (λ t. get_or t (offset + (pa + j - base)) 0) is
    ∙ (behind front (words_bytes p.words ++ rest) (offset + (pa + j - base)) (pa + j - base) (omega arith)
    ∙ words_at p.words rest k j (pa + j - base) (omega arith) small at))

-- the word that a list of parts gives, part by part
pub word_later : (p : PartData) (ps : List PartData) (pa : ℕ) → is_some (last_with ps pa) ≡ true → program_word (p ∷ ps) pa ≡ program_word ps pa
word_later p ps pa e = rw e refl

pub word_here : (p : PartData) (ps : List PartData) (pa : ℕ) → is_some (last_with ps pa) ≡ false → has_word p pa ≡ true → program_word (p ∷ ps) pa ≡ get_or p.words ((pa - base_of_part p) / 4) 0
word_here p ps pa e g = rw (e, g) refl

pub word_none : (p : PartData) (ps : List PartData) (pa : ℕ) → is_some (last_with ps pa) ≡ false → has_word p pa ≡ false → program_word (p ∷ ps) pa ≡ 0
word_none p ps pa e g = rw (e, g) refl

byte_is : (front bytes : List ℕ) (offset : ℕ) (parts : List PartData) (pa j : ℕ) → AreAligned parts → pa % 4 ≡ 0 → j < 4 → offset ≡ length front → bytes ≡ front ++ contents parts
    → byte_of bytes (last_covering (segments offset parts) (pa + j)) (pa + j) ≡ byte_of_word (program_word parts pa) j
byte_is front bytes offset [] pa j aligned even small place is = sym (zero_byte j small)
byte_is front bytes offset (p ∷ ps) pa j aligned even small place is =
    let back = λ (w : ℕ) (e : program_word (p ∷ ps) pa ≡ w). ap (λ v. byte_of_word v j) (sym e) in
    let hs = segments (offset + size_of p) ps in
    let long : offset + size_of p ≡ length (front ++ words_bytes p.words) = omega (arith, length-append front (words_bytes p.words), long_words p.words) in
    let again : bytes ≡ (front ++ words_bytes p.words) ++ contents ps = is ∙ sym (append_assoc front (words_bytes p.words) (contents ps)) in
    let more = byte_is (front ++ words_bytes p.words) bytes (offset + size_of p) ps pa j aligned.1 even small long again in
    let same = some_same (offset + size_of p) ps pa j aligned.1 even small in
    let cover = same_cover offset p pa j aligned.0 even small in
    elim (cases_Bool (is_some (last_with ps pa))) [
      | inl e ↦ (let f : is_some (last_covering hs (pa + j)) ≡ true = same ∙ e in rw f (more ∙ back _ (word_later p ps pa e)))
      | inr e ↦ (let f : is_some (last_covering hs (pa + j)) ≡ false = same ∙ e in elim (cases_Bool (has_word p pa)) [
        | inl g ↦ (let c : covers (segment_of offset p) (pa + j) ≡ true = cover ∙ g in rw (f, c) (part_byte front (contents ps) bytes offset p pa j aligned.0 even small g place is ∙ back _ (word_here p ps pa e g)))
        | inr g ↦ (let c : covers (segment_of offset p) (pa + j) ≡ false = cover ∙ g in rw (f, c) (sym (zero_byte j small) ∙ back _ (word_none p ps pa e g)))
      ])
    ]

-- a word of a program is one
word_at : (ws : List ℕ) (k : ℕ) → AreWords ws → get_or ws k 0 < 2 ^ 32
word_at [] k fit = omega arith
word_at (w ∷ ws) zero fit = fit.0
word_at (w ∷ ws) (suc k) fit = word_at ws k fit.1

fits_word : (parts : List PartData) (pa : ℕ) → FitParts parts → program_word parts pa < 2 ^ 32
fits_word [] pa fit = omega arith
fits_word (p ∷ ps) pa fit =
    elim (cases_Bool (is_some (last_with ps pa))) [
      | inl e ↦ rw e (fits_word ps pa fit.1)
      | inr e ↦ elim (cases_Bool (has_word p pa)) [
        | inl g ↦ rw (e, g) (word_at p.words ((pa - base_of_part p) / 4) fit.0.1)
        | inr g ↦ rw (e, g) (omega arith)
      ]
    ]

loaded : (offset : ℕ) (parts : List PartData) → filter (λ (h : ProgramHeader). h.kind == 1) (segments offset parts) ≡ segments offset parts
loaded offset [] = refl
loaded offset (p ∷ ps) = ap (λ hs. segment_of offset p ∷ hs) (loaded (offset + size_of p) ps)

pub plain_word : (p : ProgramData) (pa : ℕ) → length p.parts ≤ 64 → words_in p.parts ≤ 540672 → FitParts p.parts → AreAligned p.parts → pa % 4 ≡ 0
    → image_word (plain_file p) pa ≡ program_word p.parts pa
plain_word p pa few small fit aligned even =
    let bytes : List ℕ = plain_file p in
    let offset : ℕ = contents_offset p.parts in
    let front : List ℕ = file_header p.entry (length p.parts) ++ part_headers offset p.parts in
    let hs : segments_of bytes ≡ segments offset p.parts = ap (λ xs. filter (λ (h : ProgramHeader). h.kind == 1) xs) (plain_headers p few small fit) ∙ loaded offset p.parts in
    let place : offset ≡ length front = omega (arith, length-append (file_header p.entry (length p.parts)) (part_headers offset p.parts), long_file_header p.entry (length p.parts), long_headers offset p.parts) in
    let is : bytes ≡ front ++ contents p.parts = sym (append_assoc (file_header p.entry (length p.parts)) (part_headers offset p.parts) (contents p.parts)) in
    let byte : (j : ℕ) → j < 4 → image_byte bytes (pa + j) ≡ byte_of_word (program_word p.parts pa) j =
    λ j small. ap (λ xs. byte_of bytes (last_covering xs (pa + j)) (pa + j)) hs ∙ byte_is front bytes offset p.parts pa j aligned even small place is in
    let zero_byte : image_byte bytes pa ≡ byte_of_word (program_word p.parts pa) 0 = ap (λ a. image_byte bytes a) (sym (add-zero pa)) ∙ byte 0 (omega arith) in
    packed_by _ _ _ _ _ _ _ _ zero_byte (byte 1 (omega arith)) (byte 2 (omega arith)) (byte 3 (omega arith)) ∙ word_again (program_word p.parts pa) (fits_word p.parts pa fit)

-- ---- the whole image

map_same : (f g : ℕ → ℕ) → ((i : ℕ) → f i ≡ g i) → (xs : List ℕ) → map f xs ≡ map g xs
map_same f g same [] = refl
map_same f g same (x ∷ xs) = rw (same x, map_same f g same xs) refl

range_same : (f g : ℕ → ℕ) (n : ℕ) → ((i : ℕ) → f i ≡ g i) → map f (range_with_len 0 n) ≡ map g (range_with_len 0 n)
range_same f g n same = map_same f g same (range_with_len 0 n)

local_even : (i : ℕ) → local_address i % 4 ≡ 0
local_even i = elim (cases_Bool (nat_lt i 262144)) [
  | inl e ↦ rw e (omega arith)
  | inr e ↦ rw e (omega arith)
]

global_even : (i : ℕ) → global_address i % 4 ≡ 0
global_even i = omega arith

pub plain_image : (p : ProgramData) → p.entry < 2 ^ 32 → length p.parts ≤ 64 → words_in p.parts ≤ 540672 → FitParts p.parts → AreAligned p.parts → image_of (plain_file p) ≡ image_of_program p
unfolding image_of image_of_program
plain_image p low few small fit aligned =
    let made = λ (e : ℕ) (l g : List ℕ). let i : MemoryImage = record { entry = e; local = l; global = g } in i in
    let bytes : List ℕ = plain_file p in
    let offset : ℕ = contents_offset p.parts in
    let entry : entry_of bytes ≡ p.entry = plain_entry p.entry (length p.parts) (part_headers offset p.parts ++ contents p.parts) low in
    let local' = range_same (λ i. image_word bytes (local_address i)) (λ i. program_word p.parts (local_address i)) LOCAL_WORDS (λ i. plain_word p (local_address i) few small fit aligned (local_even i)) in
    let global' = range_same (λ i. image_word bytes (global_address i)) (λ i. program_word p.parts (global_address i)) GLOBAL_WORDS (λ i. plain_word p (global_address i) few small fit aligned (global_even i)) in
    ap (λ e. made e (map (λ i. image_word bytes (local_address i)) (range_with_len 0 LOCAL_WORDS)) (map (λ i. image_word bytes (global_address i)) (range_with_len 0 GLOBAL_WORDS))) entry
    ∙ ap (λ l. made p.entry l (map (λ i. image_word bytes (global_address i)) (range_with_len 0 GLOBAL_WORDS))) local'
    ∙ ap (λ g. made p.entry (map (λ i. program_word p.parts (local_address i)) (range_with_len 0 LOCAL_WORDS)) g) global'
