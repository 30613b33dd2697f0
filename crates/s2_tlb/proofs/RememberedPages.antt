-- What is remembered is what a look-up finds.
use Rattle.std.proofs.Common.{◌≡◌, ℕ, ◌+◌, ◌*◌, ◌/◌, ◌%◌, ◌<◌, List, refl, sym, ap, subst, inl, inr, ◌∙◌, arith, get_or-set_other, length-set}
use Rattle.std.specs.Prelude.{Bool, true, Some, slice_index_or, slice_set, replicate}
use Rattle.std.proofs.lemmas.Bool.{cases_eq, eq-eqb}
use Rattle.std.proofs.lemmas.List.{get_or-set_same, get_or-replicate}
use Rattle.s2_tlb.specs.declared.outcomes.Look.TheVariants.{Hit}
use Rattle.s2_tlb.specs.declared.entries.TheConstants.{DIRTY, VALID}
use Rattle.s2_tlb.specs.TranslationEntries.{entry_at, entry_is_valid, lowest_match, IsLowestMatch}
use Rattle.s2_tlb.specs.TlbLookup.{look_of}
use Rattle.s2_tlb.specs.RememberedPages.{IsFound, AreRemembered}
use Rattle.s2_tlb.proofs.LowestMatch.{found}
use Rattle.s2_tlb.proofs.LookRows.{hit}

-- nothing is remembered
pub nothing_remembered : (entries : List (ℕ × ℕ)) → AreRemembered (replicate 64 (0, 0)) entries
nothing_remembered entries = record {
  count = refl;
  each = λ k h odd. let empty = ap (λ (x : ℕ × ℕ). x.0 % 2) (get_or-replicate 64 k (0, 0) (0, 0) h) in absurd (omega arith);
}

-- a page that was found is remembered
found_now : (entries : List (ℕ × ℕ)) (va space i lo : ℕ) → space < 64 → lowest_match entries (va / 4096) space ≡ Some i → (entry_at entries i).1 ≡ lo → lo / VALID % 2 ≡ 1 → IsFound entries (va / 4096 * 4096 + space * 64 + 1) lo
found_now entries va space i lo low e word valid =
    let page : va / 4096 ≡ (va / 4096 * 4096 + space * 64 + 1) / 4096 = omega arith in
    let number : space ≡ (va / 4096 * 4096 + space * 64 + 1) / 64 % 64 = omega arith in
    record {
      entry = i;
      lowest = subst (λ (p : ℕ). IsLowestMatch entries p ((va / 4096 * 4096 + space * 64 + 1) / 64 % 64) i) page (subst (λ (s : ℕ). IsLowestMatch entries (va / 4096) s i) number ((found entries (va / 4096) space i).0 e));
      word = word;
      valid = eq-eqb _ _ valid;
    }

pub page_remembered : (pairs entries : List (ℕ × ℕ)) (place va space i lo : ℕ) → place < 64 → space < 64 → lowest_match entries (va / 4096) space ≡ Some i → (entry_at entries i).1 ≡ lo → lo / VALID % 2 ≡ 1 → AreRemembered pairs entries
    → AreRemembered (slice_set pairs place (va / 4096 * 4096 + space * 64 + 1, lo)) entries
page_remembered pairs entries place va space i lo within low e word valid are =
    let size = are.count in
    record {
      count = length-set pairs place (va / 4096 * 4096 + space * 64 + 1, lo) ∙ size;
      each = λ k h. elim (cases_eq k place) [
        | inl same ↦
            subst (λ (x : ℕ × ℕ). x.0 % 2 ≡ 1 → IsFound entries x.0 x.1) (sym (ap (λ (q : ℕ). slice_index_or (slice_set pairs place (va / 4096 * 4096 + space * 64 + 1, lo)) q (0, 0)) same ∙ get_or-set_same pairs place (va / 4096 * 4096 + space * 64 + 1, lo) (0, 0) (omega arith))) (λ _. found_now entries va space i lo low e word valid)
        | inr ne ↦
            subst (λ (x : ℕ × ℕ). x.0 % 2 ≡ 1 → IsFound entries x.0 x.1) (sym (get_or-set_other pairs place k (va / 4096 * 4096 + space * 64 + 1, lo) (0, 0) ne)) (are.each k h)
      ];
    }

-- a page that is remembered is hit
pub recalled : (entries : List (ℕ × ℕ)) (hi lo va space : ℕ) (store : Bool) → IsFound entries hi lo → space < 64 → hi ≡ va / 4096 * 4096 + space * 64 + 1 → ((store ≡ true) → lo / DIRTY % 2 ≡ 1) → look_of entries va space store ≡ Hit (lo / 4096 * 4096 + va % 4096)
recalled entries hi lo va space store is low e dirty =
    let page : hi / 4096 ≡ va / 4096 = omega arith in
    let number : hi / 64 % 64 ≡ space = omega arith in
    (hit entries va space store (lo / 4096 * 4096 + va % 4096)).1 (
      is.entry,
      subst (λ (p : ℕ). IsLowestMatch entries p space is.entry) page (subst (λ (s : ℕ). IsLowestMatch entries (hi / 4096) s is.entry) number is.lowest),
      (ap (λ (w : ℕ). entry_is_valid (hi, w)) is.word ∙ is.valid, (λ s. eq-eqb _ _ (ap (λ (w : ℕ). w / DIRTY % 2) is.word ∙ dirty s)), ap (λ (w : ℕ). w / 4096 * 4096 + va % 4096) (sym is.word)),
    )
