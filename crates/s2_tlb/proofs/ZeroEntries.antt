-- The entries of a new buffer have only bits that an entry keeps, as they have none.
use Rattle.std.proofs.Common.{sym, refl, subst}
use Rattle.std.proofs.lemmas.List.{get_or-replicate}
use Rattle.s2_tlb.specs.declared.entries.TheConstants.{TLB_ENTRIES}
use Rattle.s2_tlb.specs.TranslationEntries.{zero_entries, IsTranslationEntry, AreTranslationEntries}

pub zeros_are_entries : AreTranslationEntries zero_entries
zeros_are_entries = record {
  count = refl;
  each = λ i below. subst IsTranslationEntry (sym (get_or-replicate TLB_ENTRIES i (0, 0) (0, 0) below)) (record { hi = refl; lo = refl });
}
