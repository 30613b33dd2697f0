-- The parts of an image lie in the memories, so that the file of its listing is refused for its entry at most.
use Rattle.std.proofs.Common.{◌≡◌, ℕ, ◌+◌, ◌-◌, ◌*◌, ◌%◌, ◌<◌, ◌≤◌, true, List, [], ◌∷◌, ◌++◌, length, take, drop, None, ◌∙◌, refl, arith, inl, inr}
use Rattle.std.specs.Prelude.{◌==◌}
use Rattle.std.specs.List.{list_all, range_with_len}
use Rattle.std.proofs.lemmas.Bool.{cases_Bool, le-leb}
use Rattle.std.proofs.lemmas.Bool.Decides.{nat_tests}
use Rattle.std.proofs.lemmas.List.{length-take, length-drop}
use Rattle.s2_base.specs.Map.{is_between}
use Rattle.s2_base.specs.declared.map.TheConstants.{LOCAL_WORDS, GLOBAL_WORDS, LOCAL_MEMORY_WORDS}
use Rattle.s2_elf.specs.declared.fault.ElfFault.TheVariants.{Entry}
use Rattle.s2_elf.specs.Files.{is_loadable, is_entry, first_false}
use Rattle.s2_elf.specs.Placing.{room_at}
use Rattle.s2_elf.specs.MemoryImage.{MemoryImage}
use Rattle.s2_elf.proofs.Room.{all_loadable}
use Rattle.s2_program.specs.Programs.{PartData}
use Rattle.s2_program.specs.PlainFiles.{size_of}
use Rattle.s2_program.specs.ProgramImages.{part_conditions, place_refusal}
use Rattle.s2_asm.specs.ImageListings.{first_word, end_of_words, inner_words, parts_of_memory, parts_of_image, program_of}
use Rattle.s2_asm.proofs.ListedImages.{end_within, first_within, inner_long, some_end}

-- each part has room at its address
abbrev HaveRoom : List PartData → Type 0
HaveRoom [] = Unit {0}
HaveRoom (p ∷ ps) = (size_of p ≤ room_at p.at) × HaveRoom ps

room_append : (ps qs : List PartData) → HaveRoom ps → HaveRoom qs → HaveRoom (ps ++ qs)
room_append [] qs a b = b
room_append (p ∷ ps) qs a b = (a.0, room_append ps qs a.1 b)

loads : (p : PartData) → size_of p ≤ room_at p.at → list_all (λ k. is_loadable (p.at + k)) (range_with_len 0 (size_of p)) ≡ true
loads p room = all_loadable p.at (size_of p) ∙ le-leb (size_of p) (room_at p.at) room

none_refused : (i e : ℕ) (ps : List PartData) → HaveRoom ps → is_entry e ≡ true → first_false (part_conditions i ps ++ (is_entry e, Entry) ∷ []) ≡ None
none_refused i e [] room entry = rw entry refl
none_refused i e (p ∷ ps) room entry = rw (loads p room.0) (none_refused (i + 1) e ps room.1 entry)

-- the three memories
local_room : (first n : ℕ) → first < 262144 → first + n ≤ 262144 → 4 * n ≤ room_at (0x80000000 + 4 * first)
local_room first n low room =
    let inside : is_between 0x80000000 (0x80000000 + 4 * first) 0xC0000000 ≡ true = grind (arith, nat_tests) in
    let at : (0x80000000 + 4 * first) % 536870912 ≡ 4 * first = omega arith in
    rw (inside, at) (grind (arith, nat_tests))

boot_room : (first n : ℕ) → first < 16384 → first + n ≤ 16384 → 4 * n ≤ room_at (0x9FC00000 + 4 * first)
boot_room first n low room =
    let inside : is_between 0x80000000 (0x9FC00000 + 4 * first) 0xC0000000 ≡ true = grind (arith, nat_tests) in
    let at : (0x9FC00000 + 4 * first) % 536870912 ≡ 0x1FC00000 + 4 * first = omega arith in
    rw (inside, at) (grind (arith, nat_tests))

global_room : (first n : ℕ) → first < 262144 → first + n ≤ 262144 → 4 * n ≤ room_at (0x84000000 + 4 * first)
global_room first n low room =
    let inside : is_between 0x80000000 (0x84000000 + 4 * first) 0xC0000000 ≡ true = grind (arith, nat_tests) in
    let at : (0x84000000 + 4 * first) % 536870912 ≡ 0x4000000 + 4 * first = omega arith in
    rw (inside, at) (grind (arith, nat_tests))

memory_room : (base size : ℕ) (ws : List ℕ) → ((first n : ℕ) → first < size → first + n ≤ size → 4 * n ≤ room_at (base + 4 * first)) → length ws ≤ size → HaveRoom (parts_of_memory base ws)
memory_room base size ws room fits = elim (cases_Bool (end_of_words ws == 0)) [
  | inl e ↦ rw e tt
  | inr e ↦
      let end = end_within ws in
      let inside = first_within ws (some_end ws e) in
      let long : length (inner_words ws) ≡ end_of_words ws - first_word ws = inner_long ws in
      rw e (room (first_word ws) (length (inner_words ws)) (omega arith) (omega arith), tt)
]

pub image_places : (i : MemoryImage) → length i.local ≡ LOCAL_WORDS → length i.global ≡ GLOBAL_WORDS → is_entry i.entry ≡ true → place_refusal (program_of i) ≡ None
unfolding parts_of_image
image_places i local global entry =
    let low : List ℕ = take LOCAL_MEMORY_WORDS i.local in
    let high : List ℕ = drop LOCAL_MEMORY_WORDS i.local in
    let a : length low ≡ 262144 = omega (arith, length-take LOCAL_MEMORY_WORDS i.local) in
    let b : length high ≡ 16384 = omega (arith, length-drop LOCAL_MEMORY_WORDS i.local) in
    let A : List PartData = parts_of_memory 0x80000000 low in
    let B : List PartData = parts_of_memory 0x9FC00000 high in
    let C : List PartData = parts_of_memory 0x84000000 i.global in
    none_refused 0 i.entry (A ++ (B ++ C))
    (room_append A (B ++ C) (memory_room 0x80000000 262144 low local_room (omega arith))
    (room_append B C (memory_room 0x9FC00000 16384 high boot_room (omega arith)) (memory_room 0x84000000 262144 i.global global_room (omega arith))))
    entry
