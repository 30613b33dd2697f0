-- Loading a saved word leaves a state of a processor.
use Rattle.std.proofs.Common.{◌≡◌, ℕ, ◌+◌, ◌-◌, ◌*◌, ◌/◌, ◌%◌, ◌^◌, ◌<◌, List, length, get_or, set, refl, sym, ap, subst, ◌∙◌, inl, inr, arith, length-set, get_or-set_same}
use Rattle.std.specs.Prelude.{Bool, true, false, ◌==◌, nat_lt, bit_and, if◌then◌else◌}
use Rattle.std.proofs.lemmas.Bool.{cases_eq, cond_both}
use Rattle.std.proofs.lemmas.Bool.Decides.{nat_tests}
use Rattle.std.proofs.lemmas.List.{get_or-set_other}
use Rattle.std.proofs.lemmas.Nat.{and_assoc}
use Rattle.s2_tlb.specs.TranslationEntries.{entry_at, entries_written, AreTranslationEntries, IsTranslationEntry}
use Rattle.s2_cp0.specs.declared.kept.KeptRegister.{KeptRegister}
use Rattle.s2_cp0.specs.declared.kept.KeptRegister.TheVariants.{Index, EntryLo, Context, BadVAddr, EntryHi, Status, Cause, Epc}
use Rattle.s2_cp0.specs.ControlRegisters.{ControlRegisters, HasKeptBits}
use Rattle.s2_cp0.specs.ControlRegisterAccess.{register_loaded}
use Rattle.s2_cpu.specs.GeneralRegisters.{register_set, AreGeneralRegisters}
use Rattle.s2_cpu.specs.Processor.{Processor}
use Rattle.s2_saved.specs.SavedWords.{after_control_load, after_entry_load, after_flags_load}
use Rattle.s2_saved.specs.SavedLaws.{IsProcessorState, LoadKeepsState}

-- the bits of a mask have no others
once_more : (v m : ℕ) → bit_and m m ≡ m → bit_and (bit_and v m) m ≡ bit_and v m
once_more v m e = and_assoc m v m ∙ ap (λ (x : ℕ). bit_and v x) e

-- the general registers
length-register_set : (r : List ℕ) (k v : ℕ) (z : Bool) → (k == 0) ≡ z → length (register_set r k v) ≡ length r
length-register_set r k v true h = ap (λ (b : Bool). length (if b then r else set r k v)) h
length-register_set r k v false h = ap (λ (b : Bool). length (if b then r else set r k v)) h ∙ length-set r k v

not_zero : (k : ℕ) → (k == 0) ≡ false → k ≡ 0 → ⊥
not_zero k h = grind (arith, nat_tests)

register_set-first : (r : List ℕ) (k v d : ℕ) (z : Bool) → (k == 0) ≡ z → get_or (register_set r k v) 0 d ≡ get_or r 0 d
register_set-first r k v d true h = ap (λ (b : Bool). get_or (if b then r else set r k v) 0 d) h
register_set-first r k v d false h =
    let other : 0 ≡ k → ⊥ = λ e. not_zero k h (sym e) in
    ap (λ (b : Bool). get_or (if b then r else set r k v) 0 d) h ∙ get_or-set_other r k 0 v d other

general_kept : (p : Processor) (k v : ℕ) → IsProcessorState p → IsProcessorState (record p { r = register_set p.r k v })
general_kept p k v h = record {
  general = record { count = length-register_set p.r k v (k == 0) refl ∙ h.general.count; zero = register_set-first p.r k v 0 (k == 0) refl ∙ h.general.zero };
  load_reg = h.load_reg;
  lines = h.lines;
  control = h.control;
  entries = h.entries;
}

-- the registers of coprocessor 0
register_kept : (c : ControlRegisters) (which : KeptRegister) (v : ℕ) → HasKeptBits c → HasKeptBits (register_loaded c which v)
register_kept c Index v h = record { index = once_more v 0x80003F00 refl; entry_lo = h.entry_lo; context = h.context; entry_hi = h.entry_hi; status = h.status; cause = h.cause }
register_kept c EntryLo v h = record { index = h.index; entry_lo = once_more v 0xFFFFFF00 refl; context = h.context; entry_hi = h.entry_hi; status = h.status; cause = h.cause }
register_kept c Context v h = record { index = h.index; entry_lo = h.entry_lo; context = once_more v 0xFFFFFFFC refl; entry_hi = h.entry_hi; status = h.status; cause = h.cause }
register_kept c BadVAddr v h = record { index = h.index; entry_lo = h.entry_lo; context = h.context; entry_hi = h.entry_hi; status = h.status; cause = h.cause }
register_kept c EntryHi v h = record { index = h.index; entry_lo = h.entry_lo; context = h.context; entry_hi = once_more v 0xFFFFFFC0 refl; status = h.status; cause = h.cause }
register_kept c Status v h = record { index = h.index; entry_lo = h.entry_lo; context = h.context; entry_hi = h.entry_hi; status = once_more v 0x1043FF3F refl; cause = h.cause }
register_kept c Cause v h = record { index = h.index; entry_lo = h.entry_lo; context = h.context; entry_hi = h.entry_hi; status = h.status; cause = once_more v 0xB000033C refl }
register_kept c Epc v h = record { index = h.index; entry_lo = h.entry_lo; context = h.context; entry_hi = h.entry_hi; status = h.status; cause = h.cause }

-- the words of control
rest_kept : (p q : Processor) → q.r ≡ p.r → q.load_reg ≡ p.load_reg → q.lines ≡ p.lines → HasKeptBits q.cp0 → q.tlb ≡ p.tlb → IsProcessorState p → IsProcessorState q
rest_kept p q r load lines control tlb h = record {
  general = subst AreGeneralRegisters (sym r) h.general;
  load_reg = subst (λ (n : ℕ). n < 32) (sym load) h.load_reg;
  lines = subst (λ (n : ℕ). n < 4) (sym lines) h.lines;
  control = control;
  entries = subst AreTranslationEntries (sym tlb) h.entries;
}

plain_kept : (p q : Processor) → q.r ≡ p.r → q.load_reg ≡ p.load_reg → q.lines ≡ p.lines → q.cp0 ≡ p.cp0 → q.tlb ≡ p.tlb → IsProcessorState p → IsProcessorState q
plain_kept p q r load lines cp0 tlb h = rest_kept p q r load lines (subst HasKeptBits (sym cp0) h.control) tlb h

flags_kept : (p : Processor) (v : ℕ) → IsProcessorState p → IsProcessorState (after_flags_load p v)
flags_kept p v h = record { general = h.general; load_reg = omega arith; lines = omega arith; control = h.control; entries = h.entries }

loaded_kept : (p : Processor) (which : KeptRegister) (v : ℕ) → IsProcessorState p → IsProcessorState (record p { cp0 = register_loaded p.cp0 which v })
loaded_kept p which v h = rest_kept p (record p { cp0 = register_loaded p.cp0 which v }) refl refl refl (register_kept p.cp0 which v h.control) refl h

control_kept : (p : Processor) (k v : ℕ) → IsProcessorState p → IsProcessorState (after_control_load p k v)
control_kept p k v h =
    cond_both (k == 32) _ _ IsProcessorState (λ _. plain_kept p (record p { hi = v }) refl refl refl refl refl h) (λ _.
    cond_both (k == 33) _ _ IsProcessorState (λ _. plain_kept p (record p { lo = v }) refl refl refl refl refl h) (λ _.
    cond_both (k == 34) _ _ IsProcessorState (λ _. plain_kept p (record p { pc = v }) refl refl refl refl refl h) (λ _.
    cond_both (k == 35) _ _ IsProcessorState (λ _. plain_kept p (record p { npc = v }) refl refl refl refl refl h) (λ _.
    cond_both (k == 36) _ _ IsProcessorState (λ _. flags_kept p v h) (λ _.
    cond_both (k == 37) _ _ IsProcessorState (λ _. plain_kept p (record p { load_value = v }) refl refl refl refl refl h) (λ _.
    cond_both (k == 38) _ _ IsProcessorState (λ _. loaded_kept p Status v h) (λ _.
    cond_both (k == 39) _ _ IsProcessorState (λ _. loaded_kept p Cause v h) (λ _.
    cond_both (k == 40) _ _ IsProcessorState (λ _. loaded_kept p Epc v h) (λ _.
    cond_both (k == 41) _ _ IsProcessorState (λ _. loaded_kept p BadVAddr v h) (λ _.
    cond_both (k == 42) _ _ IsProcessorState (λ _. loaded_kept p EntryHi v h) (λ _.
    cond_both (k == 43) _ _ IsProcessorState (λ _. loaded_kept p EntryLo v h) (λ _.
    cond_both (k == 44) _ _ IsProcessorState (λ _. loaded_kept p Index v h) (λ _.
    cond_both (k == 45) _ _ IsProcessorState (λ _. loaded_kept p Context v h) (λ _.
    cond_both (k == 46) _ _ IsProcessorState (λ _. plain_kept p (record p { run = v * 2 ^ 32 + p.run % 2 ^ 32 }) refl refl refl refl refl h) (λ _.
    plain_kept p (record p { run = p.run / 2 ^ 32 * 2 ^ 32 + v }) refl refl refl refl refl h)))))))))))))))

-- the entries
entries_kept : (t : List (ℕ × ℕ)) (j hi lo : ℕ) → j < 64 → AreTranslationEntries t → AreTranslationEntries (entries_written t j hi lo)
entries_kept t j hi lo low h =
    let e : ℕ × ℕ = (bit_and hi 0xFFFFFFC0, bit_and lo 0xFFFFFF00) in
    let is : IsTranslationEntry e = record { hi = once_more hi 0xFFFFFFC0 refl; lo = once_more lo 0xFFFFFF00 refl } in
    record {
      count = length-set t j e ∙ h.count;
      each = λ k below. elim (cases_eq k j) [
        | inl same ↦ subst IsTranslationEntry (sym (ap (λ (n : ℕ). get_or (set t j e) n (0, 0)) same ∙ get_or-set_same t j e (0, 0) (let s = h.count in omega arith))) is
        | inr other ↦ subst IsTranslationEntry (sym (get_or-set_other t j k e (0, 0) other)) (h.each k below)
      ];
    }

entry_word_kept : (t : List (ℕ × ℕ)) (n v : ℕ) → n < 128 → AreTranslationEntries t → AreTranslationEntries (after_entry_load t n v)
entry_word_kept t n v low h =
    cond_both (n % 2 == 0) _ _ AreTranslationEntries
    (λ _. entries_kept t (n / 2) v (entry_at t (n / 2)).1 (omega arith) h)
    (λ _. entries_kept t (n / 2) (entry_at t (n / 2)).0 v (omega arith) h)

entry_kept : (p : Processor) (n v : ℕ) → n < 128 → IsProcessorState p → IsProcessorState (record p { tlb = after_entry_load p.tlb n v })
entry_kept p n v low h = record { general = h.general; load_reg = h.load_reg; lines = h.lines; control = h.control; entries = entry_word_kept p.tlb n v low h.entries }

pub keeps : LoadKeepsState
keeps p k v low h =
    cond_both (nat_lt k 32) _ _ IsProcessorState (λ _. general_kept p k v h) (λ _. cond_both (nat_lt k 48) _ _ IsProcessorState (λ _. control_kept p k v h) (λ _. entry_kept p (k - 48) v (omega arith) h))
