-- The program of an image has that image.
use Rattle.std.proofs.Common.{◌≡◌, ℕ, zero, suc, ◌+◌, ◌-◌, ◌*◌, ◌/◌, ◌%◌, ◌^◌, ◌<◌, ◌≤◌, true, false, List, [], ◌∷◌, ◌++◌, length, take, drop, get_or, refl, sym, ap, ◌∙◌, arith, ◌⊎◌, inl, inr, Option, Some, None, length-append}
use Rattle.std.specs.Prelude.{nat_lt, is_some, map, ◌==◌, ◌&&◌, if◌then◌else◌}
use Rattle.std.specs.List.{range_with_len}
use Rattle.std.proofs.lemmas.Bool.{cases_Bool, cases_lt}
use Rattle.std.proofs.lemmas.Bool.Decides.{nat_tests}
use Rattle.std.proofs.lemmas.List.{places, length-take, length-drop, get_or-take, append-nil}
use Rattle.s2_base.specs.declared.map.TheConstants.{LOCAL_WORDS, GLOBAL_WORDS, LOCAL_MEMORY_WORDS}
use Rattle.s2_elf.specs.MemoryImage.{MemoryImage}
use Rattle.s2_elf.specs.Images.{local_address, global_address}
use Rattle.s2_elf.proofs.ImageWords.{made_by}
use Rattle.s2_program.specs.Programs.{PartData, words_in}
use Rattle.s2_program.specs.ProgramImages.{base_of_part, has_word, last_with, word_in_part, program_word, image_of_program}
use Rattle.s2_program.proofs.FileWords.{word_here, word_none, is_between_true, between_low, between_high, beside}
use Rattle.s2_program.proofs.PartWords.{words_in_append}
use Rattle.s2_asm.specs.Listings.{HavePlaces, AreListable}
use Rattle.s2_asm.specs.ImageListings.{first_word, end_of_words, inner_words, parts_of_memory, parts_of_image, program_of}

-- ---- the zeros around

pub end_within : (ws : List ℕ) → end_of_words ws ≤ length ws
end_within [] = omega arith
end_within (w ∷ ws) = elim (cases_Bool ((end_of_words ws == 0) && (w == 0))) [
  | inl e ↦ rw e (omega arith)
  | inr e ↦ (let h = end_within ws in rw e (omega arith))
]

pub first_within : (ws : List ℕ) → (end_of_words ws ≡ 0 → ⊥) → first_word ws < end_of_words ws
first_within [] some = absurd (some refl)
first_within (w ∷ ws) some = elim (cases_Bool (w == 0)) [
  | inl nought ↦ elim (cases_Bool (end_of_words ws == 0)) [
    | inl none ↦ absurd (some (rw (none, nought) refl))
    | inr more ↦
        let h = first_within ws (λ z. (let g : (end_of_words ws == 0) ≡ true = grind (arith, nat_tests) in absurd cc)) in
        rw (nought, more) (omega arith)
  ]
  | inr other ↦ elim (cases_Bool (end_of_words ws == 0)) [
    | inl none ↦ rw (other, none) (omega arith)
    | inr more ↦ rw (other, more) (omega arith)
  ]
]

pub first_inside : (ws : List ℕ) → 0 < end_of_words ws → first_word ws < end_of_words ws
first_inside ws some = first_within ws (λ z. omega arith)

-- no word before the first is other than 0, and none from the end on
before_of : (w : ℕ) (ws : List ℕ) (i : ℕ) → (w == 0) ≡ true → ((k : ℕ) → k < first_word ws → get_or ws k 0 ≡ 0) → i < suc (first_word ws) → get_or (w ∷ ws) i 0 ≡ 0
before_of w ws zero nought on low = grind (arith, nat_tests)
before_of w ws (suc i) nought on low = on i (omega arith)

before_first : (ws : List ℕ) (i : ℕ) → i < first_word ws → get_or ws i 0 ≡ 0
before_first [] i low = absurd (omega arith)
before_first (w ∷ ws) i low = elim (cases_Bool (w == 0)) [
  | inl nought ↦ before_of w ws i nought (λ k. before_first ws k) (rw nought at low)
  | inr other ↦ (let l = rw other at low in absurd (omega arith))
]

end_of : (w : ℕ) (ws : List ℕ) (i : ℕ) → ((k : ℕ) → end_of_words ws ≤ k → get_or ws k 0 ≡ 0) → (end_of_words ws ≡ 0) → w ≡ 0 → get_or (w ∷ ws) i 0 ≡ 0
end_of w ws zero on none nought = nought
end_of w ws (suc i) on none nought = on i (omega arith)

end_more : (w : ℕ) (ws : List ℕ) (i : ℕ) → ((k : ℕ) → end_of_words ws ≤ k → get_or ws k 0 ≡ 0) → suc (end_of_words ws) ≤ i → get_or (w ∷ ws) i 0 ≡ 0
end_more w ws zero on high = absurd (omega arith)
end_more w ws (suc i) on high = on i (omega arith)

from_end : (ws : List ℕ) (i : ℕ) → end_of_words ws ≤ i → get_or ws i 0 ≡ 0
from_end [] i high = refl
from_end (w ∷ ws) i high = elim (cases_Bool ((end_of_words ws == 0) && (w == 0))) [
  | inl e ↦ end_of w ws i (λ k. from_end ws k) (grind (arith, nat_tests)) (grind (arith, nat_tests))
  | inr e ↦ end_more w ws i (λ k. from_end ws k) (rw e at high)
]

inner_at : (ws : List ℕ) (i : ℕ) → first_word ws ≤ i → i < end_of_words ws → get_or (inner_words ws) (i - first_word ws) 0 ≡ get_or ws i 0
inner_at ws i low high = (let h = end_within ws in grind (arith, places))

pub inner_long : (ws : List ℕ) → length (inner_words ws) ≡ end_of_words ws - first_word ws
inner_long ws = (let h = end_within ws in omega (arith, length-drop (first_word ws) (take (end_of_words ws) ws), length-take (end_of_words ws) ws))

-- ---- one memory

-- where its part begins
low_base : (base k size : ℕ) → base % 536870912 + 4 * size ≤ 536870912 → k < size → (base + 4 * k) % 536870912 ≡ base % 536870912 + 4 * k
low_base base k size room below = omega arith

abbrev part_of : ℕ → List ℕ → PartData
part_of base ws = record { at = base + 4 * first_word ws; words = inner_words ws }

none_word : (o : Option PartData) (pa : ℕ) → is_some o ≡ false → word_in_part o pa ≡ 0
none_word None pa e = refl
none_word (Some p) pa e = absurd cc

none_is : (o : Option PartData) → is_some o ≡ false → None ≡ o
none_is None e = refl
none_is (Some p) e = absurd cc

pub some_end : (ws : List ℕ) → (end_of_words ws == 0) ≡ false → end_of_words ws ≡ 0 → ⊥
some_end ws e z = (let g : (end_of_words ws == 0) ≡ true = grind (arith, nat_tests) in absurd cc)

own_part : (base : ℕ) (ws : List ℕ) (rest : List PartData) (i pa : ℕ) → (end_of_words ws ≡ 0 → ⊥) → base % 536870912 + 4 * length ws ≤ 536870912 → i < length ws → pa ≡ base % 536870912 + 4 * i → is_some (last_with rest pa) ≡ false
    → program_word (part_of base ws ∷ rest) pa ≡ get_or ws i 0
own_part base ws rest i pa some room below is none =
    let first : ℕ = first_word ws in
    let end = end_within ws in
    let inside = first_within ws some in
    let start : base_of_part (part_of base ws) ≡ base % 536870912 + 4 * first = low_base base first (length ws) room (omega arith) in
    let long : length (inner_words ws) ≡ end_of_words ws - first = inner_long ws in
    elim (cases_Bool (has_word (part_of base ws) pa)) [
      | inl has ↦
          let low = between_low (base_of_part (part_of base ws)) pa (base_of_part (part_of base ws) + 4 * length (inner_words ws)) has in
          let high = between_high (base_of_part (part_of base ws)) pa (base_of_part (part_of base ws) + 4 * length (inner_words ws)) has in
          let at : (pa - base_of_part (part_of base ws)) / 4 ≡ i - first = omega arith in
          word_here (part_of base ws) rest pa none has ∙ (ap (λ (k : ℕ). get_or (inner_words ws) k 0) at ∙ inner_at ws i (omega arith) (omega arith))
      | inr out ↦
          word_none (part_of base ws) rest pa none out ∙ sym (elim (cases_lt i first) [
            | inl before ↦ before_first ws i before
            | inr after ↦ elim (cases_lt i (end_of_words ws)) [
              | inl within ↦ absurd (let t = is_between_true (base_of_part (part_of base ws)) pa (base_of_part (part_of base ws) + 4 * length (inner_words ws)) (omega arith) (omega arith) in cc)
              | inr past ↦ from_end ws i past
            ]
          ])
    ]

-- the word at an index of a memory, where no later part has one there
own_word : (base : ℕ) (ws : List ℕ) (rest : List PartData) (i pa : ℕ) → base % 536870912 + 4 * length ws ≤ 536870912 → i < length ws → pa ≡ base % 536870912 + 4 * i → is_some (last_with rest pa) ≡ false
    → program_word (parts_of_memory base ws ++ rest) pa ≡ get_or ws i 0
own_word base ws rest i pa room below is none = elim (cases_Bool (end_of_words ws == 0)) [
  | inl e ↦ (let z : end_of_words ws ≡ 0 = grind (arith, nat_tests) in rw e (none_word (last_with rest pa) pa none ∙ sym (from_end ws i (omega arith))))
  | inr e ↦ rw e (own_part base ws rest i pa (some_end ws e) room below is none)
]

other_part : (base : ℕ) (ws : List ℕ) (rest : List PartData) (pa : ℕ) → (end_of_words ws ≡ 0 → ⊥) → base % 536870912 + 4 * length ws ≤ 536870912 → (pa < base % 536870912) ⊎ (base % 536870912 + 4 * length ws ≤ pa)
    → last_with (part_of base ws ∷ rest) pa ≡ last_with rest pa
other_part base ws rest pa some room side =
    let first : ℕ = first_word ws in
    let end = end_within ws in
    let inside = first_within ws some in
    let start : base_of_part (part_of base ws) ≡ base % 536870912 + 4 * first = low_base base first (length ws) room (omega arith) in
    let long : length (inner_words ws) ≡ end_of_words ws - first = inner_long ws in
    let out : has_word (part_of base ws) pa ≡ false = sym (beside false (has_word (part_of base ws) pa) (elim (cases_Bool (has_word (part_of base ws) pa)) [
      | inl has ↦
          let low = between_low (base_of_part (part_of base ws)) pa (base_of_part (part_of base ws) + 4 * length (inner_words ws)) has in
          let high = between_high (base_of_part (part_of base ws)) pa (base_of_part (part_of base ws) + 4 * length (inner_words ws)) has in
          absurd (elim side [ inl a ↦ omega arith | inr b ↦ omega arith ])
      | inr no_word ↦ no_word
    ]) (λ e. absurd cc)) in
    elim (cases_Bool (is_some (last_with rest pa))) [
      | inl e ↦ rw e refl
      | inr e ↦ rw (e, out) (none_is (last_with rest pa) e)
    ]

-- and elsewhere it has none
other_word : (base : ℕ) (ws : List ℕ) (rest : List PartData) (pa : ℕ) → base % 536870912 + 4 * length ws ≤ 536870912 → (pa < base % 536870912) ⊎ (base % 536870912 + 4 * length ws ≤ pa)
    → last_with (parts_of_memory base ws ++ rest) pa ≡ last_with rest pa
other_word base ws rest pa room side = elim (cases_Bool (end_of_words ws == 0)) [
  | inl e ↦ rw e refl
  | inr e ↦ rw e (other_part base ws rest pa (some_end ws e) room side)
]

-- ---- all three

last_word : (base : ℕ) (ws : List ℕ) (pa : ℕ) → base % 536870912 + 4 * length ws ≤ 536870912 → (pa < base % 536870912) ⊎ (base % 536870912 + 4 * length ws ≤ pa) → is_some (last_with (parts_of_memory base ws) pa) ≡ false
last_word base ws pa room side =
    ap (λ (ps : List PartData). is_some (last_with ps pa)) (sym (append-nil (parts_of_memory base ws))) ∙ ap is_some (other_word base ws [] pa room side)

word_by : (ps qs : List PartData) (pa : ℕ) → last_with ps pa ≡ last_with qs pa → program_word ps pa ≡ program_word qs pa
word_by ps qs pa e = ap (λ (o : Option PartData). word_in_part o pa) e

local_low : (low high global : List ℕ) (k pa : ℕ) → length low ≤ 262144 → length high ≤ 16384 → length global ≤ 262144 → k < length low → pa ≡ 4 * k
    → program_word (parts_of_memory 0x80000000 low ++ (parts_of_memory 0x9FC00000 high ++ parts_of_memory 0x84000000 global)) pa ≡ get_or low k 0
local_low low high global k pa a b c below is =
    own_word 0x80000000 low (parts_of_memory 0x9FC00000 high ++ parts_of_memory 0x84000000 global) k pa (omega arith) below (omega arith)
    (ap is_some (other_word 0x9FC00000 high (parts_of_memory 0x84000000 global) pa (omega arith) (inl (omega arith))) ∙ last_word 0x84000000 global pa (omega arith) (inl (omega arith)))

local_high : (low high global : List ℕ) (k pa : ℕ) → length low ≤ 262144 → length high ≤ 16384 → length global ≤ 262144 → k < length high → pa ≡ 0x1FC00000 + 4 * k
    → program_word (parts_of_memory 0x80000000 low ++ (parts_of_memory 0x9FC00000 high ++ parts_of_memory 0x84000000 global)) pa ≡ get_or high k 0
local_high low high global k pa a b c below is =
    word_by (parts_of_memory 0x80000000 low ++ (parts_of_memory 0x9FC00000 high ++ parts_of_memory 0x84000000 global)) (parts_of_memory 0x9FC00000 high ++ parts_of_memory 0x84000000 global) pa (other_word 0x80000000 low (parts_of_memory 0x9FC00000 high ++ parts_of_memory 0x84000000 global) pa (omega arith) (inr (omega arith)))
    ∙ own_word 0x9FC00000 high (parts_of_memory 0x84000000 global) k pa (omega arith) below (omega arith) (last_word 0x84000000 global pa (omega arith) (inr (omega arith)))

global_own : (low high global : List ℕ) (k pa : ℕ) → length low ≤ 262144 → length high ≤ 16384 → length global ≤ 262144 → k < length global → pa ≡ 0x4000000 + 4 * k
    → program_word (parts_of_memory 0x80000000 low ++ (parts_of_memory 0x9FC00000 high ++ parts_of_memory 0x84000000 global)) pa ≡ get_or global k 0
global_own low high global k pa a b c below is =
    word_by (parts_of_memory 0x80000000 low ++ (parts_of_memory 0x9FC00000 high ++ parts_of_memory 0x84000000 global)) (parts_of_memory 0x9FC00000 high ++ parts_of_memory 0x84000000 global) pa (other_word 0x80000000 low (parts_of_memory 0x9FC00000 high ++ parts_of_memory 0x84000000 global) pa (omega arith) (inr (omega arith)))
    ∙ (word_by (parts_of_memory 0x9FC00000 high ++ parts_of_memory 0x84000000 global) (parts_of_memory 0x84000000 global) pa (other_word 0x9FC00000 high (parts_of_memory 0x84000000 global) pa (omega arith) (inl (omega arith)))
    ∙ (ap (λ (ps : List PartData). program_word ps pa) (sym (append-nil (parts_of_memory 0x84000000 global))) ∙ own_word 0x84000000 global [] k pa (omega arith) below (omega arith) refl))

front_of : (b i : ℕ) (ws : List ℕ) → i < b → b ≤ length ws → get_or (take b ws) i 0 ≡ get_or ws i 0
front_of b i ws below within = get_or-take b ws i 0 below

back_of : (b i : ℕ) (ws : List ℕ) → b ≤ i → get_or (drop b ws) (i - b) 0 ≡ get_or ws i 0
back_of b i ws above = grind (arith, places)

local_word : (b : ℕ) (i : MemoryImage) (k : ℕ) → b ≡ 262144 → length i.local ≡ 278528 → length i.global ≡ 262144 → k < length i.local
    → get_or i.local k 0 ≡ program_word (parts_of_memory 0x80000000 (take b i.local) ++ (parts_of_memory 0x9FC00000 (drop b i.local) ++ parts_of_memory 0x84000000 i.global)) (if nat_lt k b then 0 + 4 * k else 0x1FC00000 + 4 * (k - b))
local_word b i k is local global below =
    let low : length (take b i.local) ≡ 262144 = omega (arith, length-take b i.local) in
    let high : length (drop b i.local) ≡ 16384 = omega (arith, length-drop b i.local) in
    elim (cases_Bool (nat_lt k b)) [
      | inl e ↦ (let l : k < b = grind (arith, nat_tests) in rw e (sym (local_low (take b i.local) (drop b i.local) i.global k (0 + 4 * k) (omega arith) (omega arith) (omega arith) (omega arith) (omega arith) ∙ front_of b k i.local l (omega arith))))
      | inr e ↦ (let l : b ≤ k = grind (arith, nat_tests) in rw e (sym (local_high (take b i.local) (drop b i.local) i.global (k - b) (0x1FC00000 + 4 * (k - b)) (omega arith) (omega arith) (omega arith) (omega arith) refl ∙ back_of b k i.local l)))
    ]

-- the program of an image has that image
pub image_again : (i : MemoryImage) → length i.local ≡ LOCAL_WORDS → length i.global ≡ GLOBAL_WORDS → image_of_program (program_of i) ≡ i
unfolding image_of_program parts_of_image
image_again i local global =
    let made = λ (e : ℕ) (l g : List ℕ). let m : MemoryImage = record { entry = e; local = l; global = g } in m in
    let ps : List PartData = parts_of_image i in
    let l : i.local ≡ map (λ k. program_word ps (local_address k)) (range_with_len 0 LOCAL_WORDS) = made_by (λ k. program_word ps (local_address k)) LOCAL_WORDS i.local local (λ k below. local_word LOCAL_MEMORY_WORDS i k refl local global below) in
    let g : i.global ≡ map (λ k. program_word ps (global_address k)) (range_with_len 0 GLOBAL_WORDS) = made_by (λ k. program_word ps (global_address k)) GLOBAL_WORDS i.global global
    (λ k below. sym (global_own (take LOCAL_MEMORY_WORDS i.local) (drop LOCAL_MEMORY_WORDS i.local) i.global k (global_address k) (omega (arith, length-take LOCAL_MEMORY_WORDS i.local)) (omega (arith, length-drop LOCAL_MEMORY_WORDS i.local)) (omega arith) below refl)) in
    sym (ap (λ x. made i.entry x i.global) l ∙ ap (λ x. made i.entry (map (λ k. program_word ps (local_address k)) (range_with_len 0 LOCAL_WORDS)) x) g)

-- ---- its parts keep the limits of a text

places_append : (ps qs : List PartData) → HavePlaces ps → HavePlaces qs → HavePlaces (ps ++ qs)
places_append [] qs a b = b
places_append (p ∷ ps) qs a b = (a.0, a.1, a.2, places_append ps qs a.3 b)

memory_places : (base : ℕ) (ws : List ℕ) → base % 4 ≡ 0 → base + 4 * length ws < 2 ^ 32 → HavePlaces (parts_of_memory base ws)
memory_places base ws aligned room = elim (cases_Bool (end_of_words ws == 0)) [
  | inl e ↦ rw e tt
  | inr e ↦
      let end = end_within ws in
      let inside = first_within ws (some_end ws e) in
      let long : length (inner_words ws) ≡ end_of_words ws - first_word ws = inner_long ws in
      rw e (omega arith, omega arith, omega arith, tt)
]

memory_counts : (base : ℕ) (ws : List ℕ) → (length (parts_of_memory base ws) ≤ 1) × (words_in (parts_of_memory base ws) ≤ length ws)
memory_counts base ws = elim (cases_Bool (end_of_words ws == 0)) [
  | inl e ↦ rw e (omega arith, omega arith)
  | inr e ↦
      let end = end_within ws in
      let long : length (inner_words ws) ≡ end_of_words ws - first_word ws = inner_long ws in
      rw e (omega arith, omega arith)
]

pub image_listable : (i : MemoryImage) → length i.local ≡ LOCAL_WORDS → length i.global ≡ GLOBAL_WORDS → AreListable (parts_of_image i)
unfolding parts_of_image
image_listable i local global =
    let low : List ℕ = take LOCAL_MEMORY_WORDS i.local in
    let high : List ℕ = drop LOCAL_MEMORY_WORDS i.local in
    let a : length low ≡ 262144 = omega (arith, length-take LOCAL_MEMORY_WORDS i.local) in
    let b : length high ≡ 16384 = omega (arith, length-drop LOCAL_MEMORY_WORDS i.local) in
    let p = memory_counts 0x80000000 low in
    let q = memory_counts 0x9FC00000 high in
    let r = memory_counts 0x84000000 i.global in
    let pl = p.0 in let pw = p.1 in let ql = q.0 in let qw = q.1 in let rl = r.0 in let rw_ = r.1 in
    let A : List PartData = parts_of_memory 0x80000000 low in
    let B : List PartData = parts_of_memory 0x9FC00000 high in
    let C : List PartData = parts_of_memory 0x84000000 i.global in
    record {
      few = omega (arith, length-append A (B ++ C), length-append B C);
      small = (let s = words_in_append A (B ++ C) in let t = words_in_append B C in omega arith);
      places = places_append A (B ++ C) (memory_places 0x80000000 low refl (omega arith)) (places_append B C (memory_places 0x9FC00000 high refl (omega arith)) (memory_places 0x84000000 i.global refl (omega arith)));
    }
