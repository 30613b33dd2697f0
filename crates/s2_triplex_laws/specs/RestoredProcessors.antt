-- The end of a reintegration, with the processor of each module loaded from the saved words of the lowest member.
use Rattle.std.specs.Prelude.{ℕ, ◌≡◌, ◌<◌}
use Rattle.s2_cpu.specs.Processor.{Processor}
use Rattle.s2_saved.specs.SavedWords.{saved_words}
use Rattle.s2_saved.specs.SavedLaws.{IsProcessorState, after_word_loads}
use Rattle.s2_triplex.specs.ModuleState.{ModuleState}
use Rattle.s2_triplex.specs.ModuleFaults.{module_reset}
use Rattle.s2_triplex.specs.TriplexState.{TriplexState, Reintegration, three_of, module_at}
use Rattle.s2_triplex.specs.CopyHolds.{lowest_member, joined}

-- a module that is reset and into which saved words are loaded, one after the other
abbrev pub module_loaded : Processor → ModuleState → ModuleState
module_loaded cpu m = record (module_reset m) { cpu = after_word_loads m.cpu 0 (saved_words cpu) }

abbrev pub joined_by_words : TriplexState → Reintegration → TriplexState
joined_by_words d j = record (joined d j) { modules = three_of (λ p. module_loaded (module_at d.modules (lowest_member d.voter)).cpu (module_at d.modules p)) }

-- it is the same machine, for every state that a processor can have
abbrev pub SavedWordsRestore : Type 0
SavedWordsRestore = (d : TriplexState) (j : Reintegration) → ((p : ℕ) → p < 3 → IsProcessorState (module_at d.modules p).cpu) → joined_by_words d j ≡ joined d j
