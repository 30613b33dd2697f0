-- Each row of the look-up's table says exactly when its outcome comes.
use Rattle.std.proofs.Common.{◌≡◌, ◌≢◌, ℕ, Bool, true, false, List, refl, sym, ap, ◌∙◌}
use Rattle.std.specs.Prelude.{Option, Some, None, ◌↔◌, ◌&&◌, not, if◌then◌else◌}
use Rattle.s2_tlb.specs.declared.outcomes.Look.{Look}
use Rattle.s2_tlb.specs.declared.outcomes.Look.TheVariants.{Hit, Miss, Invalid, ReadOnly}
use Rattle.s2_tlb.specs.TranslationEntries.{virtual_page, entry_at, entry_is_dirty, entry_is_valid, lowest_match, NoneMatches}
use Rattle.s2_tlb.specs.TlbLookup.{access_outcome, look_of, match_outcome, physical_address, LowestMatchHas}
use Rattle.s2_tlb.proofs.LowestMatch.{found, none_found}

-- the rows of an entry that matches, by its bits and the kind of the access
abbrev outcome_by : Bool → Bool → Bool → ℕ → Look
outcome_by valid dirty store pa = if not valid then Invalid else if (store && not dirty) then ReadOnly else Hit pa

invalid_by : (valid dirty store : Bool) (pa : ℕ) → (outcome_by valid dirty store pa ≡ Invalid) ↔ (valid ≡ false)
invalid_by false dirty store pa = ((λ _. refl), (λ _. refl))
invalid_by true false false pa = ((λ e. cc), (λ e. cc))
invalid_by true true false pa = ((λ e. cc), (λ e. cc))
invalid_by true false true pa = ((λ e. cc), (λ e. cc))
invalid_by true true true pa = ((λ e. cc), (λ e. cc))

read_only_by : (valid dirty store : Bool) (pa : ℕ) → (outcome_by valid dirty store pa ≡ ReadOnly) ↔ ((valid ≡ true) × (store ≡ true) × (dirty ≡ false))
read_only_by false dirty store pa = ((λ e. cc), (λ e. let f = e.0 in cc))
read_only_by true false true pa = ((λ _. (refl, refl, refl)), (λ _. refl))
read_only_by true true true pa = ((λ e. cc), (λ e. let f = e.2 in cc))
read_only_by true false false pa = ((λ e. cc), (λ e. let f = e.1 in cc))
read_only_by true true false pa = ((λ e. cc), (λ e. let f = e.1 in cc))

hit_by : (valid dirty store : Bool) (pa at : ℕ) → (outcome_by valid dirty store pa ≡ Hit at) ↔ ((valid ≡ true) × ((store ≡ true) → (dirty ≡ true)) × (at ≡ pa))
hit_by false dirty store pa at = ((λ e. cc), (λ e. let f = e.0 in cc))
hit_by true false true pa at = ((λ e. cc), (λ e. let f = e.1 refl in cc))
hit_by true true true pa at = ((λ e. (refl, (λ _. refl), cc)), (λ e. let f = e.2 in cc))
hit_by true true false pa at = ((λ e. (refl, (λ _. refl), cc)), (λ e. let f = e.2 in cc))
hit_by true false false pa at = ((λ e. (refl, (λ f. cc), cc)), (λ e. let f = e.2 in cc))

-- an outcome that the entry gives comes exactly where the lowest match gives it
module _ (entries : List (ℕ × ℕ)) (va space : ℕ) (store : Bool) where
  by_match : (outcome : Look) (P : ℕ × ℕ → Type 0) → outcome ≢ Miss → ((entry : ℕ × ℕ) → (access_outcome entry va store ≡ outcome) ↔ P entry) → (look_of entries va space store ≡ outcome) ↔ LowestMatchHas entries (virtual_page va) space P
  by_match outcome P other rows = (
    at (lowest_match entries (virtual_page va) space) refl,
    (λ h. ap (λ (o : Option ℕ). match_outcome entries o va store) ((found entries (virtual_page va) space h.0).1 h.1) ∙ (rows (entry_at entries h.0)).1 h.2),
  )
    where
      at : (o : Option ℕ) → lowest_match entries (virtual_page va) space ≡ o → match_outcome entries o va store ≡ outcome → LowestMatchHas entries (virtual_page va) space P
      at None is e = absurd (other (sym e))
      at (Some i) is e = (i, (found entries (virtual_page va) space i).0 is, (rows (entry_at entries i)).0 e)

  pub miss : (look_of entries va space store ≡ Miss) ↔ NoneMatches entries (virtual_page va) space
  miss = (
    (λ e. (none_found entries (virtual_page va) space).0 (at (lowest_match entries (virtual_page va) space) refl e)),
    (λ h. ap (λ (o : Option ℕ). match_outcome entries o va store) ((none_found entries (virtual_page va) space).1 h)),
  )
    where
      no_miss : (valid dirty store : Bool) (pa : ℕ) → outcome_by valid dirty store pa ≢ Miss
      no_miss false dirty store pa e = cc
      no_miss true false true pa e = cc
      no_miss true true true pa e = cc
      no_miss true false false pa e = cc
      no_miss true true false pa e = cc

      at : (o : Option ℕ) → lowest_match entries (virtual_page va) space ≡ o → match_outcome entries o va store ≡ Miss → lowest_match entries (virtual_page va) space ≡ None
      at None is e = is
      at (Some i) is e = absurd (no_miss (entry_is_valid (entry_at entries i)) (entry_is_dirty (entry_at entries i)) store (physical_address (entry_at entries i) va) e)

  pub invalid : (look_of entries va space store ≡ Invalid) ↔ LowestMatchHas entries (virtual_page va) space (λ entry. entry_is_valid entry ≡ false)
  invalid = by_match Invalid (λ entry. entry_is_valid entry ≡ false) (λ e. cc) (λ entry. invalid_by (entry_is_valid entry) (entry_is_dirty entry) store (physical_address entry va))

  pub read_only : (look_of entries va space store ≡ ReadOnly) ↔ LowestMatchHas entries (virtual_page va) space (λ entry. (entry_is_valid entry ≡ true) × (store ≡ true) × (entry_is_dirty entry ≡ false))
  read_only = by_match ReadOnly (λ entry. (entry_is_valid entry ≡ true) × (store ≡ true) × (entry_is_dirty entry ≡ false)) (λ e. cc) (λ entry. read_only_by (entry_is_valid entry) (entry_is_dirty entry) store (physical_address entry va))

  pub hit : (pa : ℕ) → (look_of entries va space store ≡ Hit pa) ↔ LowestMatchHas entries (virtual_page va) space (λ entry. (entry_is_valid entry ≡ true) × ((store ≡ true) → (entry_is_dirty entry ≡ true)) × (pa ≡ physical_address entry va))
  hit pa = by_match (Hit pa) (λ entry. (entry_is_valid entry ≡ true) × ((store ≡ true) → (entry_is_dirty entry ≡ true)) × (pa ≡ physical_address entry va)) (λ e. cc) (λ entry. hit_by (entry_is_valid entry) (entry_is_dirty entry) store (physical_address entry va) pa)
