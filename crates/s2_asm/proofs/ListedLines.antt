-- A text that is written line by line.
use Rattle.std.proofs.Common.{◌≡◌, ℕ, zero, suc, ◌+◌, ◌*◌, ◌%◌, ◌^◌, ◌<◌, ◌≤◌, Bool, true, false, List, [], ◌∷◌, ◌++◌, length, take, drop, get_or, refl, sym, ap, ◌∙◌, subst, append_assoc, append-nil, arith, inl, inr, length-append}
use Rattle.std.specs.Prelude.{◌==◌, if◌then◌else◌}
use Rattle.std.proofs.lemmas.Bool.{cases_Bool}
use Rattle.std.proofs.lemmas.Bool.Decides.{nat_tests}
use Rattle.std.proofs.lemmas.List.{take_more, length-take}
use Rattle.s2_program.specs.Programs.{PartData, ProgramData}
use Rattle.s2_mnemonics.specs.declared.line.Line.{Line}
use Rattle.s2_mnemonics.specs.declared.line.Line.TheVariants.{Org, Entry}
use Rattle.s2_mnemonics.specs.LineWords.{line_text, GivesWord}
use Rattle.s2_asm.specs.Listings.{ListsWords, ListsParts, written}
use Rattle.s2_asm.specs.ImageListings.{first_word, end_of_words, inner_words, parts_of_memory, parts_of_image, program_of, WritesWords, WritesParts, IsListing, HasImage, IsImageOr}
use Rattle.std.specs.Prelude.{OnOk, Result, Ok, Err}
use Rattle.s2_base.specs.declared.Memory.{Memory}
use Rattle.s2_base.specs.declared.map.TheConstants.{LOCAL_WORDS, GLOBAL_WORDS, LOCAL_MEMORY_WORDS}
use Rattle.s2_elf.specs.MemoryImage.{MemoryImage}
use Rattle.s2_asm.specs.declared.fault.AsmFail.{AsmFail}
use Rattle.s2_asm.specs.declared.fault.AsmFail.TheVariants.{Fault, Memory as AsmMemory}
use Rattle.s2_asm.specs.Building.{Assembled}
use Rattle.s2_asm.specs.Listings.{IsProgramOr}
use Rattle.s2_asm.proofs.ListedPlaces.{image_places}
use Rattle.s2_asm.proofs.ListedImages.{image_again, image_listable}
use Rattle.s2_asm.proofs.ListedFaults.{listing_again}

pub ruleset lines = (append_assoc, append-nil)

-- ---- the words other than 0

not_none : (n : ℕ) → (suc n == 0) ≡ false
not_none n = grind (arith, nat_tests)

pub end_more : (ws : List ℕ) (w : ℕ) → end_of_words (ws ++ w ∷ []) ≡ (if w == 0 then end_of_words ws else suc (length ws))
end_more [] w = elim (cases_Bool (w == 0)) [ inl e ↦ rw e refl | inr e ↦ rw e refl ]
end_more (v ∷ ws) w = elim (cases_Bool (w == 0)) [
  | inl e ↦ (let h : end_of_words (ws ++ w ∷ []) ≡ end_of_words ws = rw e at (end_more ws w) in rw (h, e) refl)
  | inr e ↦ (let h : end_of_words (ws ++ w ∷ []) ≡ suc (length ws) = rw e at (end_more ws w) in rw (h, e, not_none (length ws)) refl)
]

-- ---- lines

pub written_append : (xs ys : List Line) → written (xs ++ ys) ≡ written xs ++ written ys
written_append [] ys = refl
written_append (x ∷ xs) ys = ap (λ (t : List ℕ). line_text x ++ 10 ∷ t) (written_append xs ys) ∙ sym (append_assoc (line_text x) (10 ∷ written xs) (written ys))

pub lists_more : (at : ℕ) (ws : List ℕ) (ls : List Line) (w : ℕ) (l : Line) → ListsWords at ws ls → GivesWord (at + 4 * length ws) w l → ListsWords at (ws ++ w ∷ []) (ls ++ l ∷ [])
lists_more at [] [] w l lists gives = (subst (λ (a : ℕ). GivesWord a w l) (omega arith) gives, tt)
lists_more at [] (m ∷ ls) w l lists gives = absurd lists
lists_more at (v ∷ ws) [] w l lists gives = absurd lists
lists_more at (v ∷ ws) (m ∷ ls) w l lists gives = (lists.0, lists_more (at + 4) ws ls w l lists.1 (subst (λ (a : ℕ). GivesWord a w l) (omega arith) gives))

-- a word more
pub writes_more : (at : ℕ) (ws old now new text : List ℕ) (i w place : ℕ) (l : Line) → i < length ws → w ≡ get_or ws i 0 → place ≡ at + 4 * i → GivesWord place w l → text ≡ line_text l → new ≡ now ++ (text ++ 10 ∷ []) → WritesWords at (take i ws) old now → WritesWords at (take (i + 1) ws) old new
writes_more at ws old now new text i w place l below is here gives line step before = record {
  lines = before.lines ++ l ∷ [];
  lists = subst (λ (t : List ℕ). ListsWords at t (before.lines ++ l ∷ [])) (ap (λ (x : ℕ). take i ws ++ x ∷ []) is ∙ sym (take_more ws i 0 below))
      (lists_more at (take i ws) before.lines w l before.lists (subst (λ (a : ℕ). GivesWord a w l) (here ∙ ap (λ (k : ℕ). at + 4 * k) (omega (arith, length-take i ws))) gives));
  is = step ∙ (ap (λ (t : List ℕ). now ++ (t ++ 10 ∷ [])) line ∙ (ap (λ (t : List ℕ). t ++ (line_text l ++ 10 ∷ [])) before.is
      ∙ (append_assoc old (written before.lines) (line_text l ++ 10 ∷ []) ∙ ap (λ (t : List ℕ). old ++ t) (sym (written_append before.lines (l ∷ []))))));
}

pub writes_none : (at : ℕ) (old : List ℕ) → WritesWords at [] old old
writes_none at old = record { lines = []; lists = tt; is = sym (append-nil old) }

pub parts_none : (old : List ℕ) → WritesParts [] old old
parts_none old = record { lines = []; lists = refl; is = sym (append-nil old) }

pub part_written : (p : PartData) (old now new : List ℕ) → now ≡ old ++ (line_text (Org p.at) ++ 10 ∷ []) → WritesWords p.at p.words now new → WritesParts (p ∷ []) old new
part_written p old now new org words = record {
  lines = Org p.at ∷ (words.lines ++ []);
  lists = (words.lines, [], refl, words.lists, refl);
  is = words.is ∙ (ap (λ (t : List ℕ). t ++ written words.lines) org ∙ (append_assoc old (line_text (Org p.at) ++ 10 ∷ []) (written words.lines)
      ∙ ap (λ (t : List ℕ). old ++ t) (append_assoc (line_text (Org p.at)) (10 ∷ []) (written words.lines) ∙ ap (λ (t : List Line). line_text (Org p.at) ++ 10 ∷ written t) (sym (append-nil words.lines)))));
}

pub lists_append : (ps qs : List PartData) (ls ms : List Line) → ListsParts ps ls → ListsParts qs ms → ListsParts (ps ++ qs) (ls ++ ms)
lists_append [] qs ls ms a b = subst (λ (t : List Line). ListsParts qs (t ++ ms)) (sym a) b
lists_append (p ∷ ps) qs ls ms (words, others, same, lists, more) b =
    (words, others ++ ms, ap (λ (t : List Line). t ++ ms) same ∙ ap (λ (t : List Line). Org p.at ∷ t) (append_assoc words others ms), lists, lists_append ps qs others ms more b)

pub end_step : (ws : List ℕ) (i end next : ℕ) → i < length ws → end ≡ end_of_words (take i ws) → next ≡ (if get_or ws i 0 == 0 then end else suc i) → next ≡ end_of_words (take (i + 1) ws)
end_step ws i end next below before now =
    let long : length (take i ws) ≡ i = omega (arith, length-take i ws) in
    now ∙ (ap (λ (k : ℕ). if get_or ws i 0 == 0 then k else suc i) before ∙ (ap (λ (k : ℕ). if get_or ws i 0 == 0 then end_of_words (take i ws) else suc k) (sym long)
    ∙ (sym (end_more (take i ws) (get_or ws i 0)) ∙ ap end_of_words (sym (take_more ws i 0 below)))))

-- the part of a memory
pub memory_part : (base : ℕ) (ws : List ℕ) (first end : ℕ) (inner old new : List ℕ) → first ≡ first_word ws → end ≡ end_of_words ws → (end ≡ 0 → ⊥) → inner ≡ drop first (take end ws)
    → WritesParts ((record { at = base + 4 * first; words = inner }) ∷ []) old new → WritesParts (parts_of_memory base ws) old new
memory_part base ws first end inner old new f e some is written_it =
    let other : (end_of_words ws == 0) ≡ false = grind (arith, nat_tests) in
    let words : inner ≡ inner_words ws = is ∙ (ap (λ (k : ℕ). drop k (take end ws)) f ∙ ap (λ (k : ℕ). drop (first_word ws) (take k ws)) e) in
    let part : (let p : PartData = record { at = base + 4 * first; words = inner } in p) ≡ record { at = base + 4 * first_word ws; words = inner_words ws } =
    ap (λ (k : ℕ). let p : PartData = record { at = base + 4 * k; words = inner } in p) f ∙ ap (λ (x : List ℕ). let p : PartData = record { at = base + 4 * first_word ws; words = x } in p) words in
    rw other (subst (λ (p : PartData). WritesParts (p ∷ []) old new) part written_it)

pub memory_none : (base : ℕ) (ws old : List ℕ) (end : ℕ) → end ≡ end_of_words ws → end ≡ 0 → WritesParts (parts_of_memory base ws) old old
memory_none base ws old end e z = (let none : (end_of_words ws == 0) ≡ true = grind (arith, nat_tests) in rw none (parts_none old))

-- three memories
pub parts_two : (ps qs : List PartData) (old now new : List ℕ) → WritesParts ps old now → WritesParts qs now new → WritesParts (ps ++ qs) old new
parts_two ps qs old now new a b = record {
  lines = a.lines ++ b.lines;
  lists = lists_append ps qs a.lines b.lines a.lists b.lists;
  is = b.is ∙ (ap (λ (t : List ℕ). t ++ written b.lines) a.is ∙ (append_assoc old (written a.lines) (written b.lines) ∙ ap (λ (t : List ℕ). old ++ t) (sym (written_append a.lines b.lines))));
}

pub on_map : (r : Result (Unit {0}) Memory) (P Q : Type 0) → (P → Q) → OnOk r P → OnOk r Q
on_map (Ok u) P Q to h = to h
on_map (Err e) P Q to h = tt

pub listing_of : (p : ProgramData) (empty now new : List ℕ) → empty ≡ [] → now ≡ empty ++ (line_text (Entry p.entry) ++ 10 ∷ []) → WritesParts p.parts now new → IsListing p new
listing_of p empty now new none entry parts = record {
  lines = parts.lines;
  lists = parts.lists;
  is = parts.is ∙ (ap (λ (t : List ℕ). t ++ written parts.lines) (entry ∙ ap (λ (t : List ℕ). t ++ (line_text (Entry p.entry) ++ 10 ∷ [])) none)
      ∙ append_assoc (line_text (Entry p.entry)) (10 ∷ []) (written parts.lines));
}

-- assembling the listing of an image gives a program with that image
by_answer : (i : MemoryImage) (r : Result ProgramData AsmFail) → HasImage i (program_of i) → IsProgramOr (program_of i) r → IsImageOr i r
by_answer i (Ok q) same h = subst (HasImage i) (sym h) same
by_answer i (Err AsmMemory) same h = tt
by_answer i (Err (Fault fault)) same h = h

pub image_listed : (i : MemoryImage) (text : List ℕ) → i.entry < 2 ^ 32 → length i.local ≡ LOCAL_WORDS → length i.global ≡ GLOBAL_WORDS → IsListing (program_of i) text → (r : Result ProgramData AsmFail) → Assembled text r → IsImageOr i r
image_listed i text low local global listing r h =
    by_answer i r (record { image = image_again i local global; placed = image_places i local global })
    (listing_again (program_of i) listing.lines low (image_listable i local global) listing.lists r (subst (λ (t : List ℕ). Assembled t r) listing.is h))

by_lists : (n : ℕ) (l m g h : List ℕ) → l ≡ m → g ≡ h
    → parts_of_memory 0x80000000 (take n l) ++ (parts_of_memory 0x9FC00000 (drop n l) ++ parts_of_memory 0x84000000 g) ≡ parts_of_memory 0x80000000 (take n m) ++ (parts_of_memory 0x9FC00000 (drop n m) ++ parts_of_memory 0x84000000 h)
by_lists n l m g h a b =
    ap (λ (x : List ℕ). parts_of_memory 0x80000000 (take n x) ++ (parts_of_memory 0x9FC00000 (drop n x) ++ parts_of_memory 0x84000000 g)) a
    ∙ ap (λ (x : List ℕ). parts_of_memory 0x80000000 (take n m) ++ (parts_of_memory 0x9FC00000 (drop n m) ++ parts_of_memory 0x84000000 x)) b

pub image_parts : (i : MemoryImage) (local global : List ℕ) → local ≡ i.local → global ≡ i.global
    → parts_of_memory 0x80000000 (take LOCAL_MEMORY_WORDS local) ++ (parts_of_memory 0x9FC00000 (drop LOCAL_MEMORY_WORDS local) ++ parts_of_memory 0x84000000 global) ≡ parts_of_image i
unfolding parts_of_image
image_parts i local global a b = by_lists LOCAL_MEMORY_WORDS local i.local global i.global a b
