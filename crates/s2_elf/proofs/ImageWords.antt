-- The image of a file, word by word, as its segments are laid one after the other.
use Rattle.std.proofs.Common.{◌≡◌, ℕ, zero, suc, ◌+◌, ◌*◌, ◌/◌, ◌%◌, ◌<◌, Bool, true, false, List, [], ◌∷◌, ◌++◌, length, take, drop, length-append, map, get_or, cond, eqb, zero-add, append-nil, refl, sym, ap, inl, inr, ◌∙◌, Option, Some, arith}
use Rattle.std.specs.List.{range_with_len, filter}
use Rattle.std.proofs.lemmas.Bool.{cases_Bool, cond-true, cond-false, eq-eqb}
use Rattle.std.proofs.lemmas.Grind.{same_number_lists}
use Rattle.std.proofs.lemmas.List.{places, length-take, length-drop}
use Rattle.std.proofs.lemmas.List.FromFn.{length-map-range_with_len, get_or-map-range_with_len, filter_of_map_range_with_len_more}
use Rattle.s2_base.specs.declared.map.TheConstants.{LOCAL_WORDS, GLOBAL_WORDS}
use Rattle.s2_elf.specs.declared.headers.TheConstants.{LOAD}
use Rattle.s2_elf.specs.Files.{ProgramHeader, header_count, program_header, entry_of}
use Rattle.s2_elf.specs.MemoryImage.{MemoryImage}
use Rattle.s2_elf.specs.Images.{covers, segment_byte, last_covering, byte_of, image_word, local_address, global_address, image_of}
use Rattle.s2_elf.specs.Placing.{placed_byte, placed_word, laid_byte, laid_word, AreLaid}

-- the last one that covers an address, of a list with one more
last_covering_more : (hs : List ProgramHeader) (h : ProgramHeader) (pa : ℕ)
    → last_covering (hs ++ h ∷ []) pa ≡ cond (covers h pa) (Some h) (last_covering hs pa)
last_covering_more [] h pa = refl
last_covering_more (g ∷ gs) h pa = elim (cases_Bool (covers h pa)) [
  | inl e ↦ rw (last_covering_more gs h pa, e) refl
  | inr e ↦ rw (last_covering_more gs h pa, e) refl
]

-- one header more, where it is that of a segment that is loaded
one_more : (bytes : List ℕ) (pa : ℕ) (hs : List ProgramHeader) (h : ProgramHeader) (before : ℕ) (b : Bool)
    → before ≡ byte_of bytes (last_covering hs pa) pa
    → cond b (placed_byte bytes pa before h) before ≡ byte_of bytes (last_covering (hs ++ cond b (h ∷ []) []) pa) pa
one_more bytes pa hs h before false same = same ∙ ap (λ xs. byte_of bytes (last_covering xs pa) pa) (sym (append-nil hs))
one_more bytes pa hs h before true same =
    let last = λ (o : Option ProgramHeader). byte_of bytes o pa in
    elim (cases_Bool (covers h pa)) [
      | inl e ↦
          cond-true (covers h pa) (segment_byte bytes h pa) before e
          ∙ sym (ap last (last_covering_more hs h pa ∙ cond-true (covers h pa) (Some h) (last_covering hs pa) e))
      | inr e ↦
          cond-false (covers h pa) (segment_byte bytes h pa) before e ∙ same
          ∙ sym (ap last (last_covering_more hs h pa ∙ cond-false (covers h pa) (Some h) (last_covering hs pa) e))
    ]

-- the index behind another one
next_index : (n : ℕ) → n + 1 ≡ suc n
next_index n = omega arith

-- the bytes that are laid are those of the last segment that covers each
laid_is : (bytes : List ℕ) (pa n : ℕ)
    → laid_byte bytes n pa
    ≡ byte_of bytes (last_covering (filter (λ (h : ProgramHeader). eqb h.kind LOAD) (map (program_header bytes) (range_with_len 0 n))) pa) pa
laid_is bytes pa zero = refl
laid_is bytes pa (suc n) =
    let load = λ (h : ProgramHeader). eqb h.kind LOAD in
    let hs = filter load (map (program_header bytes) (range_with_len 0 n)) in
    let h = program_header bytes n in
    one_more bytes pa hs h (laid_byte bytes n pa) (eqb h.kind LOAD) (laid_is bytes pa n)
    ∙ ap (λ xs. byte_of bytes (last_covering xs pa) pa)
    (sym (filter_of_map_range_with_len_more load (program_header bytes) 0 n n (zero-add n)))
    ∙ ap (λ k. byte_of bytes (last_covering (filter load (map (program_header bytes) (range_with_len 0 k))) pa) pa) (next_index n)

-- and so are the words, once all headers are gone through
pub laid_all : (bytes : List ℕ) (pa : ℕ) → laid_word bytes (header_count bytes) pa ≡ image_word bytes pa
laid_all bytes pa =
    let byte = λ (n : ℕ). laid_is bytes n (header_count bytes) in
    rw (byte pa, byte (pa + 1), byte (pa + 2), byte (pa + 3)) refl

-- a byte that is laid is one
small_if : (b c : Bool) (x y : ℕ) → x < 256 → y < 256 → cond b (cond c x y) y < 256
small_if true true x y small small' = small
small_if true false x y small small' = small'
small_if false c x y small small' = small'

small_or_zero : (b : Bool) (x : ℕ) → x < 256 → cond b x 0 < 256
small_or_zero true x small = small
small_or_zero false x small = omega arith

laid_small : (bytes : List ℕ) → ((i : ℕ) → get_or bytes i 0 < 256) → (n pa : ℕ) → laid_byte bytes n pa < 256
laid_small bytes small zero pa = omega arith
laid_small bytes small (suc n) pa =
    small_if _ _ (segment_byte bytes (program_header bytes n) pa) (laid_byte bytes n pa)
    (small_or_zero _ _ (small _)) (laid_small bytes small n pa)

-- the four bytes of a word
abbrev pub packed_word : ℕ → ℕ → ℕ → ℕ → ℕ
packed_word a b c d = ((a * 256 + b) * 256 + c) * 256 + d

packed_by : (a b c d a' b' c' d' : ℕ) → a ≡ a' → b ≡ b' → c ≡ c' → d ≡ d' → packed_word a b c d ≡ packed_word a' b' c' d'
packed_by a b c d a' b' c' d' p q r s =
    ap (λ w. packed_word w b c d) p ∙ ap (λ w. packed_word a' w c d) q ∙ ap (λ w. packed_word a' b' w d) r
    ∙ ap (λ w. packed_word a' b' c' w) s

first_byte : (a b c d : ℕ) → a < 256 → b < 256 → c < 256 → d < 256 → packed_word a b c d / 16777216 % 256 ≡ a
first_byte a b c d a' b' c' d' = omega arith

second_byte : (a b c d : ℕ) → a < 256 → b < 256 → c < 256 → d < 256 → packed_word a b c d / 65536 % 256 ≡ b
second_byte a b c d a' b' c' d' = omega arith

third_byte : (a b c d : ℕ) → a < 256 → b < 256 → c < 256 → d < 256 → packed_word a b c d / 256 % 256 ≡ c
third_byte a b c d a' b' c' d' = omega arith

fourth_byte : (a b c d : ℕ) → a < 256 → b < 256 → c < 256 → d < 256 → packed_word a b c d % 256 ≡ d
fourth_byte a b c d a' b' c' d' = omega arith

-- a byte of a header more, where that is of a segment that is loaded, and where it is not
byte_over : (bytes : List ℕ) (n pa : ℕ) → (program_header bytes n).kind ≡ LOAD
    → laid_byte bytes (suc n) pa ≡ placed_byte bytes pa (laid_byte bytes n pa) (program_header bytes n)
byte_over bytes n pa loaded =
    cond-true (eqb (program_header bytes n).kind LOAD) (placed_byte bytes pa (laid_byte bytes n pa) (program_header bytes n))
    (laid_byte bytes n pa) (eq-eqb (program_header bytes n).kind LOAD loaded)

byte_same : (bytes : List ℕ) (n pa : ℕ) → eqb (program_header bytes n).kind LOAD ≡ false
    → laid_byte bytes (suc n) pa ≡ laid_byte bytes n pa
byte_same bytes n pa other =
    cond-false (eqb (program_header bytes n).kind LOAD) (placed_byte bytes pa (laid_byte bytes n pa) (program_header bytes n))
    (laid_byte bytes n pa) other

-- the word of the placed bytes of a word
placed_over : (bytes : List ℕ) (n pa old : ℕ) → ((i : ℕ) → get_or bytes i 0 < 256) → old ≡ laid_word bytes n pa
    → placed_word bytes pa old (program_header bytes n)
    ≡ packed_word (placed_byte bytes pa (laid_byte bytes n pa) (program_header bytes n))
    (placed_byte bytes (pa + 1) (laid_byte bytes n (pa + 1)) (program_header bytes n))
    (placed_byte bytes (pa + 2) (laid_byte bytes n (pa + 2)) (program_header bytes n))
    (placed_byte bytes (pa + 3) (laid_byte bytes n (pa + 3)) (program_header bytes n))
placed_over bytes n pa old small same =
    let byte = λ (k : ℕ). laid_small bytes small n k in
    let a = laid_byte bytes n pa in
    let b = laid_byte bytes n (pa + 1) in
    let c = laid_byte bytes n (pa + 2) in
    let d = laid_byte bytes n (pa + 3) in
    let first = first_byte a b c d (byte pa) (byte (pa + 1)) (byte (pa + 2)) (byte (pa + 3)) in
    let second = second_byte a b c d (byte pa) (byte (pa + 1)) (byte (pa + 2)) (byte (pa + 3)) in
    let third = third_byte a b c d (byte pa) (byte (pa + 1)) (byte (pa + 2)) (byte (pa + 3)) in
    let fourth = fourth_byte a b c d (byte pa) (byte (pa + 1)) (byte (pa + 2)) (byte (pa + 3)) in
    let h = program_header bytes n in
    let at = λ (x y z w : ℕ). packed_word (placed_byte bytes pa x h) (placed_byte bytes (pa + 1) y h) (placed_byte bytes (pa + 2) z h)
    (placed_byte bytes (pa + 3) w h) in
    ap (λ o. placed_word bytes pa o h) same
    ∙ ap (λ x. at x (packed_word a b c d / 65536 % 256) (packed_word a b c d / 256 % 256) (packed_word a b c d % 256)) first
    ∙ ap (λ y. at a y (packed_word a b c d / 256 % 256) (packed_word a b c d % 256)) second
    ∙ ap (λ z. at a b z (packed_word a b c d % 256)) third ∙ ap (λ w. at a b c w) fourth

laid_over : (bytes : List ℕ) (n pa old : ℕ) → ((i : ℕ) → get_or bytes i 0 < 256) → old ≡ laid_word bytes n pa
    → (program_header bytes n).kind ≡ LOAD → placed_word bytes pa old (program_header bytes n) ≡ laid_word bytes (suc n) pa
laid_over bytes n pa old small same loaded =
    let over = λ (k : ℕ). sym (byte_over bytes n k loaded) in
    placed_over bytes n pa old small same ∙ packed_by _ _ _ _ _ _ _ _ (over pa) (over (pa + 1)) (over (pa + 2)) (over (pa + 3))

-- a segment that is placed over a word makes it the next one
pub laid_more : (bytes : List ℕ) (n pa old : ℕ) → ((i : ℕ) → get_or bytes i 0 < 256) → old ≡ laid_word bytes n pa
    → (program_header bytes n).kind ≡ LOAD → placed_word bytes pa old (program_header bytes n) ≡ laid_word bytes (n + 1) pa
laid_more bytes n pa old small same loaded =
    laid_over bytes n pa old small same loaded ∙ ap (λ k. laid_word bytes k pa) (sym (next_index n))

-- and another header leaves it
pub laid_same : (bytes : List ℕ) (n pa : ℕ) → eqb (program_header bytes n).kind LOAD ≡ false
    → laid_word bytes n pa ≡ laid_word bytes (n + 1) pa
laid_same bytes n pa other =
    let same = λ (k : ℕ). sym (byte_same bytes n k other) in
    packed_by _ _ _ _ _ _ _ _ (same pa) (same (pa + 1)) (same (pa + 2)) (same (pa + 3))
    ∙ ap (λ k. laid_word bytes k pa) (sym (next_index n))

-- over zeros nothing is laid yet
pub laid_none : (bytes : List ℕ) (address : ℕ → ℕ) (words : List ℕ) → ((i : ℕ) → i < length words → get_or words i 0 ≡ 0)
    → AreLaid bytes 0 address words
laid_none bytes address words zeros = λ i within. zeros i within

-- a list is made of what a function gives at each index
pub made_by : (f : ℕ → ℕ) (n : ℕ) (xs : List ℕ) → length xs ≡ n → ((i : ℕ) → i < length xs → get_or xs i 0 ≡ f i)
    → xs ≡ map f (range_with_len 0 n)
made_by f n xs long each =
    same_number_lists xs (map f (range_with_len 0 n)) (long ∙ sym (length-map-range_with_len f 0 n))
    (λ k within. each k within ∙ sym (get_or-map-range_with_len f 0 n k k 0 (omega arith) (zero-add k)))

-- an image is that of a file where each word of its lists is
pub image_from : (bytes : List ℕ) (image : MemoryImage) → image.entry ≡ entry_of bytes
    → length image.local ≡ LOCAL_WORDS → length image.global ≡ GLOBAL_WORDS
    → AreLaid bytes (header_count bytes) local_address image.local
    → AreLaid bytes (header_count bytes) global_address image.global
    → image ≡ image_of bytes
unfolding image_of
image_from bytes image entry local_long global_long local global =
    let made = λ (e : ℕ) (l g : List ℕ). let i : MemoryImage = record { entry = e; local = l; global = g } in i in
    let local' = made_by (λ i. image_word bytes (local_address i)) LOCAL_WORDS image.local local_long
    (λ i within. local i within ∙ laid_all bytes (local_address i)) in
    let global' = made_by (λ i. image_word bytes (global_address i)) GLOBAL_WORDS image.global global_long
    (λ i within. global i within ∙ laid_all bytes (global_address i)) in
    ap (λ e. made e image.local image.global) entry ∙ ap (λ l. made (entry_of bytes) l image.global) local'
    ∙ ap (λ g. made (entry_of bytes) (map (λ i. image_word bytes (local_address i)) (range_with_len 0 LOCAL_WORDS)) g) global'

-- a list that was written whole through a loan is what was written
pub written_back : (k : ℕ) (new old : List ℕ) → length new ≡ length old → k ≡ length old
    → take k (new ++ drop (length new) old) ≡ new
written_back k new old same all =
    let front : length (take k (new ++ drop (length new) old)) ≡ length new =
    omega (arith, length-take k (new ++ drop (length new) old), length-append new (drop (length new) old), length-drop (length new) old) in
    same_number_lists (take k (new ++ drop (length new) old)) new front (λ i within. grind (arith, places))
