-- The saved words of a processor and of its entries, by their numbers.
use Rattle.std.proofs.Common.{◌≡◌, ℕ, zero, suc, ◌+◌, ◌-◌, ◌*◌, ◌/◌, ◌%◌, ◌<◌, ◌≤◌, List, [], ◌∷◌, ◌++◌, length, get_or, set, refl, sym, ap, ◌∙◌, arith, length-append}
use Rattle.std.specs.Prelude.{Bool, true, false, ◌==◌, nat_lt, if◌then◌else◌}
use Rattle.std.specs.List.{flat_map}
use Rattle.std.proofs.lemmas.Bool.Decides.{nat_tests}
use Rattle.std.proofs.lemmas.List.{get_or_append_left, get_or-append_right, set-append_left, set-append_right}
use Rattle.s2_cpu.specs.GeneralRegisters.{register_set}
use Rattle.s2_cpu.specs.Processor.{Processor}
use Rattle.s2_saved.specs.SavedWords.{control_words, entry_words, saved_words, after_control_load, after_entry_load, after_word_load}

-- tests on numbers
pub below : (k m : ℕ) → k < m → nat_lt k m ≡ true
below k m h = grind (arith, nat_tests)

pub above : (k m : ℕ) → m ≤ k → nat_lt k m ≡ false
above k m h = grind (arith, nat_tests)

pub differs : (k m : ℕ) → (k ≡ m → ⊥) → (k == m) ≡ false
differs k m h = grind (arith, nat_tests)

pub even_test : (n j : ℕ) → n ≡ 2 * j → (n % 2 == 0) ≡ true
even_test n j h = let e : n % 2 ≡ 0 = omega arith in grind (arith, nat_tests)

pub odd_test : (n j : ℕ) → n ≡ 2 * j + 1 → (n % 2 == 0) ≡ false
odd_test n j h = let e : n % 2 ≡ 1 = omega arith in grind (arith, nat_tests)

-- a word of the entries is hi or lo of one of them
pub high_word : (t : List (ℕ × ℕ)) (j : ℕ) → j < length t → get_or (flat_map entry_words t) (2 * j) 0 ≡ (get_or t j (0, 0)).0
high_word [] j h = absurd (omega arith)
high_word (e ∷ t) zero h = refl
high_word (e ∷ t) (suc j) h =
    let twice : 2 * suc j ≡ suc (suc (2 * j)) = omega arith in
    ap (λ (n : ℕ). get_or (e.0 ∷ e.1 ∷ flat_map entry_words t) n 0) twice ∙ high_word t j (omega arith)

pub low_word : (t : List (ℕ × ℕ)) (j : ℕ) → j < length t → get_or (flat_map entry_words t) (2 * j + 1) 0 ≡ (get_or t j (0, 0)).1
low_word [] j h = absurd (omega arith)
low_word (e ∷ t) zero h = refl
low_word (e ∷ t) (suc j) h =
    let twice : 2 * suc j + 1 ≡ suc (suc (2 * j + 1)) = omega arith in
    ap (λ (n : ℕ). get_or (e.0 ∷ e.1 ∷ flat_map entry_words t) n 0) twice ∙ low_word t j (omega arith)

pub even_word : (t : List (ℕ × ℕ)) (n j : ℕ) → j ≡ n / 2 → n % 2 ≡ 0 → n < 2 * length t → get_or (flat_map entry_words t) n 0 ≡ (get_or t j (0, 0)).0
even_word t n j half even low =
    let twice : n ≡ 2 * j = omega arith in
    ap (λ (i : ℕ). get_or (flat_map entry_words t) i 0) twice ∙ high_word t j (omega arith)

pub odd_word : (t : List (ℕ × ℕ)) (n j : ℕ) → j ≡ n / 2 → (n % 2 ≡ 0 → ⊥) → n < 2 * length t → get_or (flat_map entry_words t) n 0 ≡ (get_or t j (0, 0)).1
odd_word t n j half odd low =
    let twice : n ≡ 2 * j + 1 = omega arith in
    ap (λ (i : ℕ). get_or (flat_map entry_words t) i 0) twice ∙ low_word t j (omega arith)

-- to set one word of an entry is to set one word of the list
pub high_set : (t : List (ℕ × ℕ)) (j v w : ℕ) → j < length t → w ≡ (get_or t j (0, 0)).1 → flat_map entry_words (set t j (v, w)) ≡ set (flat_map entry_words t) (2 * j) v
high_set [] j v w h other = absurd (omega arith)
high_set (e ∷ t) zero v w h other = ap (λ (x : ℕ). v ∷ x ∷ flat_map entry_words t) other
high_set (e ∷ t) (suc j) v w h other =
    let twice : 2 * suc j ≡ suc (suc (2 * j)) = omega arith in
    ap (λ (l : List ℕ). e.0 ∷ e.1 ∷ l) (high_set t j v w (omega arith) other) ∙ sym (ap (λ (n : ℕ). set (e.0 ∷ e.1 ∷ flat_map entry_words t) n v) twice)

pub low_set : (t : List (ℕ × ℕ)) (j v w : ℕ) → j < length t → v ≡ (get_or t j (0, 0)).0 → flat_map entry_words (set t j (v, w)) ≡ set (flat_map entry_words t) (2 * j + 1) w
low_set [] j v w h other = absurd (omega arith)
low_set (e ∷ t) zero v w h other = ap (λ (x : ℕ). x ∷ w ∷ flat_map entry_words t) other
low_set (e ∷ t) (suc j) v w h other =
    let twice : 2 * suc j + 1 ≡ suc (suc (2 * j + 1)) = omega arith in
    ap (λ (l : List ℕ). e.0 ∷ e.1 ∷ l) (low_set t j v w (omega arith) other) ∙ sym (ap (λ (n : ℕ). set (e.0 ∷ e.1 ∷ flat_map entry_words t) n w) twice)

-- how many words there are
length-entry_words : (t : List (ℕ × ℕ)) → length (flat_map entry_words t) ≡ 2 * length t
length-entry_words [] = refl
length-entry_words (e ∷ t) = let rest = length-entry_words t in omega arith

pub length-saved_words : (p : Processor) → length p.r ≡ 32 → length p.tlb ≡ 64 → length (saved_words p) ≡ 176
length-saved_words p r tlb =
    let sixteen : length (control_words p) ≡ 16 = refl in
    omega (arith, length-append p.r (control_words p ++ flat_map entry_words p.tlb), length-append (control_words p) (flat_map entry_words p.tlb), length-entry_words p.tlb)

-- the saved words of the three parts, read by their numbers
pub general_word : (p : Processor) (k : ℕ) → length p.r ≡ 32 → k < 32 → get_or (saved_words p) k 0 ≡ get_or p.r k 0
general_word p k size low = get_or_append_left p.r (control_words p ++ flat_map entry_words p.tlb) 0 k (omega arith)

pub control_word : (p : Processor) (k : ℕ) → length p.r ≡ 32 → 32 ≤ k → k < 48 → get_or (saved_words p) k 0 ≡ get_or (control_words p) (k - 32) 0
control_word p k size low high =
    let sixteen : length (control_words p) ≡ 16 = refl in
    get_or-append_right p.r (control_words p ++ flat_map entry_words p.tlb) 32 k 0 size low ∙ get_or_append_left (control_words p) (flat_map entry_words p.tlb) 0 (k - 32) (omega arith)

pub buffer_word : (p : Processor) (k : ℕ) → length p.r ≡ 32 → 48 ≤ k → get_or (saved_words p) k 0 ≡ get_or (flat_map entry_words p.tlb) (k - 48) 0
buffer_word p k size low =
    let same : k - 32 - 16 ≡ k - 48 = omega arith in
    get_or-append_right p.r (control_words p ++ flat_map entry_words p.tlb) 32 k 0 size (omega arith) ∙
    (get_or-append_right (control_words p) (flat_map entry_words p.tlb) 16 (k - 32) 0 refl (omega arith) ∙ ap (λ (n : ℕ). get_or (flat_map entry_words p.tlb) n 0) same)

-- and set
pub general_word_set : (p : Processor) (k v : ℕ) → length p.r ≡ 32 → k < 32 → set (saved_words p) k v ≡ set p.r k v ++ (control_words p ++ flat_map entry_words p.tlb)
general_word_set p k v size low = set-append_left p.r (control_words p ++ flat_map entry_words p.tlb) k v (omega arith)

pub control_word_set : (p : Processor) (k v : ℕ) → length p.r ≡ 32 → 32 ≤ k → k < 48 → set (saved_words p) k v ≡ p.r ++ (set (control_words p) (k - 32) v ++ flat_map entry_words p.tlb)
control_word_set p k v size low high =
    let sixteen : length (control_words p) ≡ 16 = refl in
    set-append_right p.r (control_words p ++ flat_map entry_words p.tlb) 32 k v size low ∙ ap (λ (l : List ℕ). p.r ++ l) (set-append_left (control_words p) (flat_map entry_words p.tlb) (k - 32) v (omega arith))

pub buffer_word_set : (p : Processor) (k v : ℕ) → length p.r ≡ 32 → 48 ≤ k → set (saved_words p) k v ≡ p.r ++ (control_words p ++ set (flat_map entry_words p.tlb) (k - 48) v)
buffer_word_set p k v size low =
    let same : k - 32 - 16 ≡ k - 48 = omega arith in
    set-append_right p.r (control_words p ++ flat_map entry_words p.tlb) 32 k v size (omega arith) ∙
    ap (λ (l : List ℕ). p.r ++ l) (set-append_right (control_words p) (flat_map entry_words p.tlb) 16 (k - 32) v refl (omega arith) ∙ ap (λ (n : ℕ). control_words p ++ set (flat_map entry_words p.tlb) n v) same)

-- the processor after a word of one of the parts was loaded
pub general_loaded : (p : Processor) (k v : ℕ) → k < 32 → after_word_load p k v ≡ record p { r = register_set p.r k v }
general_loaded p k v h = ap (λ (b : Bool). if b then record p { r = register_set p.r k v } else if nat_lt k 48 then after_control_load p k v else record p { tlb = after_entry_load p.tlb (k - 48) v }) (below k 32 h)

pub high_loaded : (p : Processor) (k n v : ℕ) → k ≡ 48 + n → after_word_load p k v ≡ record p { tlb = after_entry_load p.tlb n v }
high_loaded p k n v h =
    let e : k - 48 ≡ n = omega arith in
    ap (λ (b : Bool). if b then record p { r = register_set p.r k v } else if nat_lt k 48 then after_control_load p k v else record p { tlb = after_entry_load p.tlb (k - 48) v }) (above k 32 (omega arith)) ∙
    (ap (λ (b : Bool). if b then after_control_load p k v else record p { tlb = after_entry_load p.tlb (k - 48) v }) (above k 48 (omega arith)) ∙ ap (λ (x : ℕ). record p { tlb = after_entry_load p.tlb x v }) e)

pub register_set-behind : (r : List ℕ) (k v : ℕ) → 0 < k → register_set r k v ≡ set r k v
register_set-behind r k v h = ap (λ (b : Bool). if b then r else set r k v) (differs k 0 (λ e. omega arith))
