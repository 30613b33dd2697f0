-- Loading all saved words of one processor into another gives the first.
use Rattle.std.proofs.Common.{◌≡◌, ℕ, zero, suc, ◌+◌, ◌*◌, ◌/◌, ◌%◌, ◌^◌, ◌<◌, ◌≤◌, List, [], ◌∷◌, ◌++◌, length, get_or, set, refl, sym, ap, ◌∙◌, take, arith, length-append, append_assoc}
use Rattle.std.specs.Prelude.{Bool, true, false, ◌==◌, bit_and, if◌then◌else◌}
use Rattle.std.specs.List.{flat_map}
use Rattle.std.proofs.Math.Seq.{get_or-append_seam, set-append_seam}
use Rattle.std.proofs.lemmas.Bool.Decides.{nat_tests}
use Rattle.std.proofs.lemmas.List.{length-take-le, take_more}
use Rattle.s2_tlb.specs.TranslationEntries.{entry_at, entries_written, IsTranslationEntry}
use Rattle.s2_cpu.specs.Processor.{Processor}
use Rattle.s2_saved.specs.SavedWords.{control_words, entry_words, after_entry_load, after_word_load}
use Rattle.s2_saved.specs.SavedLaws.{after_word_loads, IsProcessorState, AllWordsRestore}
use Rattle.s2_saved.proofs.WordLists.{general_loaded, high_loaded, register_set-behind, even_test, odd_test}

-- words in two parts
pub after_word_loads-append : (p : Processor) (k : ℕ) (xs ys : List ℕ) → after_word_loads p k (xs ++ ys) ≡ after_word_loads (after_word_loads p k xs) (k + length xs) ys
unfolding after_word_loads
after_word_loads-append p k [] ys = let e : k ≡ k + zero = omega arith in ap (λ (n : ℕ). after_word_loads p n ys) e
after_word_loads-append p k (x ∷ xs) ys =
    let e : k + 1 + length xs ≡ k + suc (length xs) = omega arith in
    after_word_loads-append (after_word_load p k x) (k + 1) xs ys ∙ ap (λ (n : ℕ). after_word_loads (after_word_loads (after_word_load p k x) (k + 1) xs) n ys) e

-- one word, and none
pub after_word_loads-none : (p : Processor) (k : ℕ) → after_word_loads p k [] ≡ p
unfolding after_word_loads
after_word_loads-none p k = refl

pub after_word_loads-one : (p : Processor) (k v : ℕ) → after_word_loads p k (v ∷ []) ≡ after_word_load p k v
unfolding after_word_loads
after_word_loads-one p k v = refl

-- the general registers behind the first
registers_behind : (rest done olds : List ℕ) (p : Processor) → p.r ≡ done ++ olds → length olds ≡ length rest → 0 < length done → length done + length rest ≤ 32 → after_word_loads p (length done) rest ≡ record p { r = done ++ rest }
unfolding after_word_loads
registers_behind [] done [] p is size some low = ap (λ (l : List ℕ). record p { r = l }) is
registers_behind [] done (o ∷ olds) p is size some low = absurd (omega arith)
registers_behind (v ∷ rest) done [] p is size some low = absurd (omega arith)
registers_behind (v ∷ rest) done (o ∷ olds) p is size some low =
    let k : ℕ = length done in
    let next : List ℕ = done ++ v ∷ [] in
    let q : Processor = record p { r = next ++ olds } in
    let longer : length next ≡ k + 1 = length-append done (v ∷ []) in
    let write : set p.r k v ≡ next ++ olds = ap (λ (l : List ℕ). set l k v) is ∙ (set-append_seam done o olds v ∙ sym (append_assoc done (v ∷ []) olds)) in
    let step : after_word_load p k v ≡ q = general_loaded p k v (omega arith) ∙ ap (λ (l : List ℕ). record p { r = l }) (register_set-behind p.r k v some ∙ write) in
    let rest_is = registers_behind rest next olds q refl (omega arith) (omega (arith, longer)) (omega (arith, longer)) in
    ap (λ (x : Processor). after_word_loads x (k + 1) rest) step ∙ (ap (λ (n : ℕ). after_word_loads q n rest) (sym longer) ∙ (rest_is ∙ ap (λ (l : List ℕ). record p { r = l }) (append_assoc done (v ∷ []) rest)))

-- all general registers, of which the first is 0 in both processors
registers_restored : (cs ps : List ℕ) (p : Processor) → p.r ≡ ps → length cs ≡ 32 → length ps ≡ 32 → get_or cs 0 0 ≡ 0 → get_or ps 0 0 ≡ 0 → after_word_loads p 0 cs ≡ record p { r = cs }
unfolding after_word_loads
registers_restored [] ps p is c_size p_size c_zero p_zero = absurd (omega arith)
registers_restored (c ∷ cs) [] p is c_size p_size c_zero p_zero = absurd (omega arith)
registers_restored (c ∷ cs) (o ∷ olds) p is c_size p_size c_zero p_zero =
    let same : o ≡ c = p_zero ∙ sym c_zero in
    registers_behind cs (c ∷ []) olds p (is ∙ ap (λ (x : ℕ). x ∷ olds) same) (omega arith) (omega arith) (omega arith)

-- the flags and the run count, put together again
slot_back : (s : Bool) (a b : ℕ) → (((if s then 1 else 0) + 4 * a + 256 * b) % 2 == 1) ≡ s
slot_back true a b = let e : (1 + 4 * a + 256 * b) % 2 ≡ 1 = omega arith in grind (arith, nat_tests)
slot_back false a b = let e : (0 + 4 * a + 256 * b) % 2 ≡ 0 = omega arith in grind (arith, nat_tests)

load_reg_back : (s : Bool) (a b : ℕ) → a < 32 → ((if s then 1 else 0) + 4 * a + 256 * b) / 4 % 32 ≡ a
load_reg_back true a b h = omega arith
load_reg_back false a b h = omega arith

lines_back : (s : Bool) (a b : ℕ) → a < 32 → b < 4 → ((if s then 1 else 0) + 4 * a + 256 * b) / 256 % 4 ≡ b
lines_back true a b h l = omega arith
lines_back false a b h l = omega arith

run_back : (run old : ℕ) → (run / 2 ^ 32 * 2 ^ 32 + old % 2 ^ 32) / 2 ^ 32 * 2 ^ 32 + run % 2 ^ 32 ≡ run
run_back run old = omega arith

-- the words of control
same_control : (c q : Processor) (slot : Bool) (load_reg lines status cause entry_hi entry_lo index context run : ℕ) → slot ≡ c.slot → load_reg ≡ c.load_reg → lines ≡ c.lines →
    status ≡ c.cp0.status → cause ≡ c.cp0.cause → entry_hi ≡ c.cp0.entry_hi → entry_lo ≡ c.cp0.entry_lo → index ≡ c.cp0.index → context ≡ c.cp0.context → run ≡ c.run →
    record q {
      hi = c.hi;
      lo = c.lo;
      pc = c.pc;
      npc = c.npc;
      slot = slot;
      load_reg = load_reg;
      load_value = c.load_value;
      cp0 = record { index = index; entry_lo = entry_lo; context = context; bad = c.cp0.bad; entry_hi = entry_hi; status = status; cause = cause; epc = c.cp0.epc };
      run = run;
      lines = lines;
    } ≡ record c { r = q.r; tlb = q.tlb }
same_control c q slot load_reg lines status cause entry_hi entry_lo index context run e1 e2 e3 e4 e5 e6 e7 e8 e9 e10 = rw (e1, e2, e3, e4, e5, e6, e7, e8, e9, e10) refl

control_restored : (c q : Processor) → IsProcessorState c → after_word_loads q 32 (control_words c) ≡ record c { r = q.r; tlb = q.tlb }
unfolding after_word_loads
control_restored c q h =
    same_control c q _ _ _ _ _ _ _ _ _ _ (slot_back c.slot c.load_reg c.lines) (load_reg_back c.slot c.load_reg c.lines h.load_reg) (lines_back c.slot c.load_reg c.lines h.load_reg h.lines)
    h.control.status h.control.cause h.control.entry_hi h.control.entry_lo h.control.index h.control.context (run_back c.run q.run)

-- hi of entry j, and lo
pub high_of_entry_loaded : (t : List (ℕ × ℕ)) (n j v : ℕ) → n ≡ 2 * j → after_entry_load t n v ≡ entries_written t j v (entry_at t j).1
high_of_entry_loaded t n j v h =
    let e : n / 2 ≡ j = omega arith in
    ap (λ (b : Bool). if b then entries_written t (n / 2) v (entry_at t (n / 2)).1 else entries_written t (n / 2) (entry_at t (n / 2)).0 v) (even_test n j h) ∙ ap (λ (x : ℕ). entries_written t x v (entry_at t x).1) e

pub low_of_entry_loaded : (t : List (ℕ × ℕ)) (n j v : ℕ) → n ≡ 2 * j + 1 → after_entry_load t n v ≡ entries_written t j (entry_at t j).0 v
low_of_entry_loaded t n j v h =
    let e : n / 2 ≡ j = omega arith in
    ap (λ (b : Bool). if b then entries_written t (n / 2) v (entry_at t (n / 2)).1 else entries_written t (n / 2) (entry_at t (n / 2)).0 v) (odd_test n j h) ∙ ap (λ (x : ℕ). entries_written t x (entry_at t x).0 v) e

-- both words of an entry
entry_restored : (q : Processor) (k j : ℕ) (e old : ℕ × ℕ) (done olds : List (ℕ × ℕ)) → q.tlb ≡ done ++ old ∷ olds → j ≡ length done → k ≡ 48 + 2 * j → IsTranslationEntry e → after_word_load (after_word_load q k e.0) (k + 1) e.1 ≡ record q { tlb = done ++ e ∷ olds }
entry_restored q k j e old done olds is place number kept =
    let x : ℕ × ℕ = (bit_and e.0 0xFFFFFFC0, bit_and (entry_at q.tlb j).1 0xFFFFFF00) in
    let t : List (ℕ × ℕ) = done ++ x ∷ olds in
    let q1 : Processor = record q { tlb = t } in
    let first : after_word_load q k e.0 ≡ q1 =
    high_loaded q k (2 * j) e.0 number ∙ ap (λ (l : List (ℕ × ℕ)). record q { tlb = l }) (high_of_entry_loaded q.tlb (2 * j) j e.0 refl ∙
    (ap (λ (l : List (ℕ × ℕ)). set l j x) is ∙ (ap (λ (i : ℕ). set (done ++ old ∷ olds) i x) place ∙ set-append_seam done old olds x)))
    in
    let there : entry_at t j ≡ x = ap (λ (i : ℕ). entry_at t i) place ∙ get_or-append_seam done x olds (0, 0) in
    let hi : bit_and (entry_at t j).0 0xFFFFFFC0 ≡ e.0 = ap (λ (y : ℕ × ℕ). bit_and y.0 0xFFFFFFC0) there ∙ (ap (λ (n : ℕ). bit_and n 0xFFFFFFC0) kept.hi ∙ kept.hi) in
    let second : after_word_load q1 (k + 1) e.1 ≡ record q { tlb = done ++ e ∷ olds } =
    high_loaded q1 (k + 1) (2 * j + 1) e.1 (omega arith) ∙ ap (λ (l : List (ℕ × ℕ)). record q { tlb = l }) (low_of_entry_loaded t (2 * j + 1) j e.1 refl ∙
    (ap (λ (n : ℕ). set t j (n, bit_and e.1 0xFFFFFF00)) hi ∙ (ap (λ (n : ℕ). set t j (e.0, n)) kept.lo ∙ (ap (λ (i : ℕ). set t i e) place ∙ set-append_seam done x olds e))))
    in
    ap (λ (p : Processor). after_word_load p (k + 1) e.1) first ∙ second

-- all entries
entries_restored : (rest done olds : List (ℕ × ℕ)) (q : Processor) (k : ℕ) → q.tlb ≡ done ++ olds → length olds ≡ length rest → k ≡ 48 + 2 * length done → ((i : ℕ) → i < length rest → IsTranslationEntry (get_or rest i (0, 0))) →
    after_word_loads q k (flat_map entry_words rest) ≡ record q { tlb = done ++ rest }
unfolding after_word_loads
entries_restored [] done [] q k is size number kept = ap (λ (l : List (ℕ × ℕ)). record q { tlb = l }) is
entries_restored [] done (o ∷ olds) q k is size number kept = absurd (omega arith)
entries_restored (e ∷ rest) done [] q k is size number kept = absurd (omega arith)
entries_restored (e ∷ rest) done (o ∷ olds) q k is size number kept =
    let next : List (ℕ × ℕ) = done ++ e ∷ [] in
    let q1 : Processor = record q { tlb = next ++ olds } in
    let longer : length next ≡ length done + 1 = length-append done (e ∷ []) in
    let step : after_word_load (after_word_load q k e.0) (k + 1) e.1 ≡ q1 = entry_restored q k (length done) e o done olds is refl number (kept 0 (omega arith)) ∙ ap (λ (l : List (ℕ × ℕ)). record q { tlb = l }) (sym (append_assoc done (e ∷ []) olds)) in
    let rest_is = entries_restored rest next olds q1 (k + 1 + 1) refl (omega arith) (omega (arith, longer)) (λ i low. kept (suc i) (omega arith)) in
    ap (λ (p : Processor). after_word_loads p (k + 1 + 1) (flat_map entry_words rest)) step ∙ (rest_is ∙ ap (λ (l : List (ℕ × ℕ)). record q { tlb = l }) (append_assoc done (e ∷ []) rest))

pub restores : AllWordsRestore
restores c p hc hp =
    let q1 : Processor = record p { r = c.r } in
    let q2 : Processor = record c { tlb = p.tlb } in
    let entries : List ℕ = flat_map entry_words c.tlb in
    let general = registers_restored c.r p.r p refl hc.general.count hp.general.count hc.general.zero hp.general.zero in
    let count : 0 + length c.r ≡ 32 = let h = hc.general.count in omega arith in
    let pairs : length p.tlb ≡ length c.tlb = hp.entries.count ∙ sym hc.entries.count in
    let last = entries_restored c.tlb [] p.tlb q2 48 refl pairs refl (λ i low. hc.entries.each i (let h = hc.entries.count in omega arith)) in
    after_word_loads-append p 0 c.r (control_words c ++ entries) ∙
    (ap (λ (x : Processor). after_word_loads x (0 + length c.r) (control_words c ++ entries)) general ∙ (ap (λ (n : ℕ). after_word_loads q1 n (control_words c ++ entries)) count ∙
    (after_word_loads-append q1 32 (control_words c) entries ∙ (ap (λ (x : Processor). after_word_loads x 48 entries) (control_restored c q1 hc) ∙ last))))

-- one word more than the first n
pub after_word_loads-take-more : (p : Processor) (words : List ℕ) (n : ℕ) → n < length words → after_word_loads p 0 (take (n + 1) words) ≡ after_word_load (after_word_loads p 0 (take n words)) n (get_or words n 0)
after_word_loads-take-more p words n low =
    let size : 0 + length (take n words) ≡ n = let e = length-take-le n words (omega arith) in omega arith in
    ap (after_word_loads p 0) (take_more words n 0 low) ∙ (after_word_loads-append p 0 (take n words) (get_or words n 0 ∷ []) ∙
    (ap (λ (k : ℕ). after_word_loads (after_word_loads p 0 (take n words)) k (get_or words n 0 ∷ [])) size ∙ after_word_loads-one (after_word_loads p 0 (take n words)) n (get_or words n 0)))
