-- Loading one saved word sets it to what its part keeps, and leaves all others.
use Rattle.std.proofs.Common.{◌≡◌, ℕ, ◌+◌, ◌-◌, ◌*◌, ◌/◌, ◌%◌, ◌^◌, ◌<◌, ◌≤◌, List, [], ◌∷◌, ◌++◌, length, set, refl, sym, ap, subst, ◌∙◌, inl, inr, arith}
use Rattle.std.specs.Prelude.{Bool, true, false, ◌⊎◌, ◌==◌, nat_lt, bit_and, if◌then◌else◌}
use Rattle.std.specs.List.{flat_map}
use Rattle.std.proofs.lemmas.Bool.{cases_eq, cases_lt}
use Rattle.std.proofs.lemmas.Bool.Decides.{nat_tests}
use Rattle.std.proofs.lemmas.List.{set-get_or}
use Rattle.std.proofs.lemmas.Nat.{and_block, and_mask}
use Rattle.s2_tlb.specs.TranslationEntries.{entry_at, AreTranslationEntries}
use Rattle.s2_cp0.specs.declared.kept.KeptRegister.TheVariants.{Index, EntryLo, Context, BadVAddr, EntryHi, Status, Cause, Epc}
use Rattle.s2_cp0.specs.ControlRegisterAccess.{register_loaded}
use Rattle.s2_cpu.specs.GeneralRegisters.{register_set}
use Rattle.s2_cpu.specs.Processor.{Processor}
use Rattle.s2_saved.specs.SavedWords.{control_words, entry_words, saved_words, kept_bits, after_flags_load, after_entry_load, after_word_load}
use Rattle.s2_saved.specs.SavedLaws.{IsProcessorState, LoadChangesOneWord}
use Rattle.s2_saved.proofs.WordLists.{differs, above, even_test, odd_test, high_set, low_set, general_word_set, control_word_set, buffer_word_set, general_loaded, high_loaded, register_set-behind}
use Rattle.s2_saved.proofs.Restoration.{high_of_entry_loaded, low_of_entry_loaded}

-- what is kept of a word that is loaded into a general register behind the first
unless : (b : Bool) (x y : ℕ) → b ≡ false → (if b then x else y) ≡ y
unless b x y h = ap (λ (c : Bool). if c then x else y) h

-- no number of a word that has a mask of its own
no_mask : (k v rest : ℕ) → (k ≡ 0 → ⊥) → (k < 36) ⊎ (48 ≤ k) →
    (if k == 0 then 0
    else if k == 36 then bit_and v 0x37D
    else if k == 38 then bit_and v 0x1043FF3F
    else if k == 39 then bit_and v 0xB000033C
    else if k == 42 then bit_and v 0xFFFFFFC0
    else if k == 43 then bit_and v 0xFFFFFF00
    else if k == 44 then bit_and v 0x80003F00
    else if k == 45 then bit_and v 0xFFFFFFFC
    else rest) ≡ rest
no_mask k v rest some out =
    unless (k == 0) _ _ (differs k 0 some) ∙ (unless (k == 36) _ _ (differs k 36 (λ e. omega arith)) ∙ (unless (k == 38) _ _ (differs k 38 (λ e. omega arith)) ∙ (unless (k == 39) _ _ (differs k 39 (λ e. omega arith)) ∙
    (unless (k == 42) _ _ (differs k 42 (λ e. omega arith)) ∙ (unless (k == 43) _ _ (differs k 43 (λ e. omega arith)) ∙ (unless (k == 44) _ _ (differs k 44 (λ e. omega arith)) ∙ unless (k == 45) _ _ (differs k 45 (λ e. omega arith))))))))

below_48 : (k v w : ℕ) → k < 48 → (if nat_lt k 48 then v else w) ≡ v
below_48 k v w h = let e : nat_lt k 48 ≡ true = grind (arith, nat_tests) in ap (λ (b : Bool). if b then v else w) e

from_48 : (k v w : ℕ) → 48 ≤ k → (if nat_lt k 48 then v else w) ≡ w
from_48 k v w h = unless (nat_lt k 48) v w (above k 48 h)

general_kept_word : (k v : ℕ) → (k ≡ 0 → ⊥) → k < 36 → kept_bits k v ≡ v
general_kept_word k v some low = no_mask k v _ some (inl low) ∙ below_48 k v _ (omega arith)

entry_kept_word : (k v : ℕ) → 48 ≤ k → kept_bits k v ≡ (if k % 2 == 0 then bit_and v 0xFFFFFFC0 else bit_and v 0xFFFFFF00)
entry_kept_word k v low = no_mask k v _ (λ e. omega arith) (inr low) ∙ from_48 k v _ low

-- a general register
general_sets_one : (p : Processor) (k v : ℕ) → k < 32 → IsProcessorState p → saved_words (after_word_load p k v) ≡ set (saved_words p) k (kept_bits k v)
general_sets_one p k v low h =
    let tail : List ℕ = control_words p ++ flat_map entry_words p.tlb in
    let write : register_set p.r k v ≡ set p.r k (kept_bits k v) = elim (cases_eq k 0) [
      | inl e ↦ subst (λ (n : ℕ). register_set p.r n v ≡ set p.r n (kept_bits n v)) (sym e) (sym (set-get_or p.r 0 0) ∙ ap (λ (x : ℕ). set p.r 0 x) h.general.zero)
      | inr some ↦ register_set-behind p.r k v (omega arith) ∙ sym (ap (λ (x : ℕ). set p.r k x) (general_kept_word k v some (omega arith)))
    ] in
    ap saved_words (general_loaded p k v low) ∙ (ap (λ (l : List ℕ). l ++ tail) write ∙ sym (general_word_set p k (kept_bits k v) h.general.count low))

-- the bits of the flags, taken apart and put together
slot_bit : (v : ℕ) → (if v % 2 == 1 then 1 else 0) ≡ v % 2
slot_bit v = elim (cases_eq (v % 2) 1) [
  | inl e ↦ let b : (v % 2 == 1) ≡ true = grind (arith, nat_tests) in ap (λ (c : Bool). if c then 1 else 0) b ∙ sym e
  | inr n ↦ let b : (v % 2 == 1) ≡ false = grind (arith, nat_tests) in ap (λ (c : Bool). if c then 1 else 0) b ∙ (let z : 0 ≡ v % 2 = omega arith in z)
]

low_bits : (v : ℕ) → bit_and (v % 4) 1 ≡ v % 2
low_bits v = and_mask (v % 4) 1 ∙ (let e : v % 4 % 2 ^ 1 ≡ v % 2 = omega arith in e)

high_bits : (w : ℕ) → bit_and w 223 ≡ w / 64 % 4 * 64 + w % 32
high_bits w =
    let parts : w ≡ w / 64 * 2 ^ 6 + w % 64 = omega arith in
    let five : w % 64 % 2 ^ 5 ≡ w % 32 = omega arith in
    ap (λ (x : ℕ). bit_and x 223) parts ∙ (and_block 6 (w / 64) 3 (w % 64) 31 (omega arith) (omega arith) ∙
    (ap (λ (x : ℕ). x * 2 ^ 6 + bit_and (w % 64) 31) (and_mask (w / 64) 2) ∙ ap (λ (x : ℕ). w / 64 % 4 * 64 + x) (and_mask (w % 64) 5 ∙ five)))

flags_bits : (v : ℕ) → (if v % 2 == 1 then 1 else 0) + 4 * (v / 4 % 32) + 256 * (v / 256 % 4) ≡ bit_and v 0x37D
flags_bits v =
    let parts : v ≡ v / 4 * 2 ^ 2 + v % 4 = omega arith in
    let apart : bit_and v 0x37D ≡ (v / 4 / 64 % 4 * 64 + v / 4 % 32) * 2 ^ 2 + v % 2 =
    ap (λ (x : ℕ). bit_and x 893) parts ∙ (and_block 2 (v / 4) 223 (v % 4) 1 (omega arith) (omega arith) ∙ (ap (λ (x : ℕ). x * 2 ^ 2 + bit_and (v % 4) 1) (high_bits (v / 4)) ∙ ap (λ (x : ℕ). (v / 4 / 64 % 4 * 64 + v / 4 % 32) * 2 ^ 2 + x) (low_bits v)))
    in
    ap (λ (x : ℕ). x + 4 * (v / 4 % 32) + 256 * (v / 256 % 4)) (slot_bit v) ∙ (let e : v % 2 + 4 * (v / 4 % 32) + 256 * (v / 256 % 4) ≡ (v / 4 / 64 % 4 * 64 + v / 4 % 32) * 2 ^ 2 + v % 2 = omega arith in e) ∙ sym apart

-- a word of control
control_sets : (p q : Processor) (k x : ℕ) → length p.r ≡ 32 → q.r ≡ p.r → q.tlb ≡ p.tlb → 32 ≤ k → k < 48 → control_words q ≡ set (control_words p) (k - 32) x → saved_words q ≡ set (saved_words p) k x
control_sets p q k x size r tlb low high words =
    ap (λ (l : List ℕ). l ++ (control_words q ++ flat_map entry_words q.tlb)) r ∙
    (ap (λ (l : List ℕ). p.r ++ (l ++ flat_map entry_words q.tlb)) words ∙ (ap (λ (t : List (ℕ × ℕ)). p.r ++ (set (control_words p) (k - 32) x ++ flat_map entry_words t)) tlb ∙
    sym (control_word_set p k x size low high)))

-- what holds of each number of them
each_control : (P : ℕ → Type 0) → P 32 → P 33 → P 34 → P 35 → P 36 → P 37 → P 38 → P 39 → P 40 → P 41 → P 42 → P 43 → P 44 → P 45 → P 46 → P 47 → (k : ℕ) → 32 ≤ k → k < 48 → P k
each_control P p32 p33 p34 p35 p36 p37 p38 p39 p40 p41 p42 p43 p44 p45 p46 p47 k low high =
    elim (cases_eq k 32) [
      | inl e ↦ subst P (sym e) p32
      | inr n32 ↦
          elim (cases_eq k 33) [
            | inl e ↦ subst P (sym e) p33
            | inr n33 ↦
                elim (cases_eq k 34) [
                  | inl e ↦ subst P (sym e) p34
                  | inr n34 ↦
                      elim (cases_eq k 35) [
                        | inl e ↦ subst P (sym e) p35
                        | inr n35 ↦
                            elim (cases_eq k 36) [
                              | inl e ↦ subst P (sym e) p36
                              | inr n36 ↦
                                  elim (cases_eq k 37) [
                                    | inl e ↦ subst P (sym e) p37
                                    | inr n37 ↦
                                        elim (cases_eq k 38) [
                                          | inl e ↦ subst P (sym e) p38
                                          | inr n38 ↦
                                              elim (cases_eq k 39) [
                                                | inl e ↦ subst P (sym e) p39
                                                | inr n39 ↦
                                                    elim (cases_eq k 40) [
                                                      | inl e ↦ subst P (sym e) p40
                                                      | inr n40 ↦
                                                          elim (cases_eq k 41) [
                                                            | inl e ↦ subst P (sym e) p41
                                                            | inr n41 ↦
                                                                elim (cases_eq k 42) [
                                                                  | inl e ↦ subst P (sym e) p42
                                                                  | inr n42 ↦
                                                                      elim (cases_eq k 43) [
                                                                        | inl e ↦ subst P (sym e) p43
                                                                        | inr n43 ↦
                                                                            elim (cases_eq k 44) [
                                                                              | inl e ↦ subst P (sym e) p44
                                                                              | inr n44 ↦
                                                                                  elim (cases_eq k 45) [
                                                                                    | inl e ↦ subst P (sym e) p45
                                                                                    | inr n45 ↦
                                                                                        elim (cases_eq k 46) [
                                                                                          | inl e ↦ subst P (sym e) p46
                                                                                          | inr n46 ↦
                                                                                              (let e : k ≡ 47 = omega arith in subst P (sym e) p47)
                                                                                        ]
                                                                                  ]
                                                                            ]
                                                                      ]
                                                                ]
                                                          ]
                                                    ]
                                              ]
                                        ]
                                  ]
                            ]
                      ]
                ]
          ]
    ]

two_same : (l : ℕ → ℕ → List ℕ) (a b c d : ℕ) → a ≡ c → b ≡ d → l a b ≡ l c d
two_same l a b c d e f = ap (λ (x : ℕ). l x b) e ∙ ap (λ (x : ℕ). l c x) f

-- the words of control, by the two words of the run count, and by the flags
words_by_run : Processor → ℕ → ℕ → List ℕ
words_by_run p hi lo =
    p.hi ∷ p.lo ∷ p.pc ∷ p.npc ∷ ((if p.slot then 1 else 0) + 4 * p.load_reg + 256 * p.lines) ∷ p.load_value
    ∷ p.cp0.status ∷ p.cp0.cause ∷ p.cp0.epc ∷ p.cp0.bad ∷ p.cp0.entry_hi ∷ p.cp0.entry_lo ∷ p.cp0.index ∷ p.cp0.context
    ∷ hi ∷ lo ∷ []

words_by_flags : Processor → ℕ → List ℕ
words_by_flags p flags =
    p.hi ∷ p.lo ∷ p.pc ∷ p.npc ∷ flags ∷ p.load_value
    ∷ p.cp0.status ∷ p.cp0.cause ∷ p.cp0.epc ∷ p.cp0.bad ∷ p.cp0.entry_hi ∷ p.cp0.entry_lo ∷ p.cp0.index ∷ p.cp0.context
    ∷ p.run / 2 ^ 32 ∷ p.run % 2 ^ 32 ∷ []

flags_set : (p : Processor) (v : ℕ) → control_words (after_flags_load p v) ≡ set (control_words p) 4 (bit_and v 0x37D)
unfolding words_by_flags
flags_set p v = ap (words_by_flags p) (flags_bits v)

high_of_high : (v old : ℕ) → (v * 2 ^ 32 + old % 2 ^ 32) / 2 ^ 32 ≡ v
high_of_high v old = omega arith

low_of_high : (v old : ℕ) → (v * 2 ^ 32 + old % 2 ^ 32) % 2 ^ 32 ≡ old % 2 ^ 32
low_of_high v old = omega arith

high_of_low : (v old : ℕ) → v < 2 ^ 32 → (old / 2 ^ 32 * 2 ^ 32 + v) / 2 ^ 32 ≡ old / 2 ^ 32
high_of_low v old h = omega arith

low_of_low : (v old : ℕ) → v < 2 ^ 32 → (old / 2 ^ 32 * 2 ^ 32 + v) % 2 ^ 32 ≡ v
low_of_low v old h = omega arith

run_high_set : (p : Processor) (v : ℕ) → control_words (record p { run = v * 2 ^ 32 + p.run % 2 ^ 32 }) ≡ set (control_words p) 14 v
unfolding words_by_run
run_high_set p v = two_same (words_by_run p) _ _ _ _ (high_of_high v p.run) (low_of_high v p.run)

run_low_set : (p : Processor) (v : ℕ) → v < 2 ^ 32 → control_words (record p { run = p.run / 2 ^ 32 * 2 ^ 32 + v }) ≡ set (control_words p) 15 v
unfolding words_by_run
run_low_set p v h = two_same (words_by_run p) _ _ _ _ (high_of_low v p.run h) (low_of_low v p.run h)

control_sets_one : (p : Processor) (v : ℕ) → v < 2 ^ 32 → IsProcessorState p → (k : ℕ) → 32 ≤ k → k < 48 → saved_words (after_word_load p k v) ≡ set (saved_words p) k (kept_bits k v)
control_sets_one p v word h =
    let sets : (q : Processor) (n x : ℕ) → q.r ≡ p.r → q.tlb ≡ p.tlb → 32 ≤ n → n < 48 → control_words q ≡ set (control_words p) (n - 32) x → saved_words q ≡ set (saved_words p) n x = λ q n x. control_sets p q n x h.general.count in
    each_control (λ n. saved_words (after_word_load p n v) ≡ set (saved_words p) n (kept_bits n v))
    (sets (record p { hi = v }) 32 v refl refl (omega arith) (omega arith) refl)
    (sets (record p { lo = v }) 33 v refl refl (omega arith) (omega arith) refl)
    (sets (record p { pc = v }) 34 v refl refl (omega arith) (omega arith) refl)
    (sets (record p { npc = v }) 35 v refl refl (omega arith) (omega arith) refl)
    (sets (after_flags_load p v) 36 (bit_and v 0x37D) refl refl (omega arith) (omega arith) (flags_set p v))
    (sets (record p { load_value = v }) 37 v refl refl (omega arith) (omega arith) refl)
    (sets (record p { cp0 = register_loaded p.cp0 Status v }) 38 (bit_and v 0x1043FF3F) refl refl (omega arith) (omega arith) refl)
    (sets (record p { cp0 = register_loaded p.cp0 Cause v }) 39 (bit_and v 0xB000033C) refl refl (omega arith) (omega arith) refl)
    (sets (record p { cp0 = register_loaded p.cp0 Epc v }) 40 v refl refl (omega arith) (omega arith) refl)
    (sets (record p { cp0 = register_loaded p.cp0 BadVAddr v }) 41 v refl refl (omega arith) (omega arith) refl)
    (sets (record p { cp0 = register_loaded p.cp0 EntryHi v }) 42 (bit_and v 0xFFFFFFC0) refl refl (omega arith) (omega arith) refl)
    (sets (record p { cp0 = register_loaded p.cp0 EntryLo v }) 43 (bit_and v 0xFFFFFF00) refl refl (omega arith) (omega arith) refl)
    (sets (record p { cp0 = register_loaded p.cp0 Index v }) 44 (bit_and v 0x80003F00) refl refl (omega arith) (omega arith) refl)
    (sets (record p { cp0 = register_loaded p.cp0 Context v }) 45 (bit_and v 0xFFFFFFFC) refl refl (omega arith) (omega arith) refl)
    (sets (record p { run = v * 2 ^ 32 + p.run % 2 ^ 32 }) 46 v refl refl (omega arith) (omega arith) (run_high_set p v))
    (sets (record p { run = p.run / 2 ^ 32 * 2 ^ 32 + v }) 47 v refl refl (omega arith) (omega arith) (run_low_set p v word))

-- a word of an entry
entry_set : (t : List (ℕ × ℕ)) (n v : ℕ) → n < 128 → AreTranslationEntries t →
    flat_map entry_words (after_entry_load t n v) ≡ set (flat_map entry_words t) n (if n % 2 == 0 then bit_and v 0xFFFFFFC0 else bit_and v 0xFFFFFF00)
entry_set t n v low h = elim (cases_eq (n % 2) 0) [
  | inl even ↦
      let j : ℕ = n / 2 in
      let twice : n ≡ 2 * (n / 2) = omega arith in
      let there : n / 2 < length t = let c = h.count in omega arith in
      ap (flat_map entry_words) (high_of_entry_loaded t n j v twice) ∙ (high_set t j (bit_and v 0xFFFFFFC0) (bit_and (entry_at t j).1 0xFFFFFF00) there (h.each j (omega arith)).lo ∙
      (ap (λ (i : ℕ). set (flat_map entry_words t) i (bit_and v 0xFFFFFFC0)) (sym twice) ∙
      sym (ap (λ (b : Bool). set (flat_map entry_words t) n (if b then bit_and v 0xFFFFFFC0 else bit_and v 0xFFFFFF00)) (even_test n j twice))))
  | inr odd ↦
      let j : ℕ = n / 2 in
      let twice : n ≡ 2 * (n / 2) + 1 = omega arith in
      let there : n / 2 < length t = let c = h.count in omega arith in
      ap (flat_map entry_words) (low_of_entry_loaded t n j v twice) ∙ (low_set t j (bit_and (entry_at t j).0 0xFFFFFFC0) (bit_and v 0xFFFFFF00) there (h.each j (omega arith)).hi ∙
      (ap (λ (i : ℕ). set (flat_map entry_words t) i (bit_and v 0xFFFFFF00)) (sym twice) ∙
      sym (ap (λ (b : Bool). set (flat_map entry_words t) n (if b then bit_and v 0xFFFFFFC0 else bit_and v 0xFFFFFF00)) (odd_test n j twice))))
]

entry_sets_one : (p : Processor) (k v : ℕ) → 48 ≤ k → k < 176 → IsProcessorState p → saved_words (after_word_load p k v) ≡ set (saved_words p) k (kept_bits k v)
entry_sets_one p k v low high h =
    let n : ℕ = k - 48 in
    let number : k ≡ 48 + (k - 48) = omega arith in
    let parity : (k - 48) % 2 ≡ k % 2 = omega arith in
    ap saved_words (high_loaded p k n v number) ∙ (ap (λ (l : List ℕ). p.r ++ (control_words p ++ l)) (entry_set p.tlb n v (omega arith) h.entries ∙
    ap (λ (x : ℕ). set (flat_map entry_words p.tlb) n (if x == 0 then bit_and v 0xFFFFFFC0 else bit_and v 0xFFFFFF00)) parity ∙ sym (ap (λ (x : ℕ). set (flat_map entry_words p.tlb) n x) (entry_kept_word k v low))) ∙
    sym (buffer_word_set p k (kept_bits k v) h.general.count low))

pub sets_one : LoadChangesOneWord
sets_one p k v within word h = elim (cases_lt k 32) [
  | inl general ↦ general_sets_one p k v general h
  | inr behind ↦ elim (cases_lt k 48) [
    | inl control ↦ control_sets_one p v word h k behind control
    | inr entries ↦ entry_sets_one p k v entries within h
  ]
]
