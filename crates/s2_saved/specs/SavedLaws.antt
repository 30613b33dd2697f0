-- What saving and loading the words of a processor give together.
use Rattle.std.specs.Prelude.{ℕ, ◌≡◌, ◌+◌, ◌<◌, ◌^◌, List, [], ◌∷◌, slice_set}
use Rattle.s2_tlb.specs.TranslationEntries.{AreTranslationEntries}
use Rattle.s2_cp0.specs.ControlRegisters.{HasKeptBits}
use Rattle.s2_cpu.specs.declared.general_registers.TheConstants.{REGISTERS}
use Rattle.s2_cpu.specs.GeneralRegisters.{AreGeneralRegisters}
use Rattle.s2_cpu.specs.Processor.{Processor}
use Rattle.s2_join.specs.declared.join.TheConstants.{SAVED_WORDS}
use Rattle.s2_saved.specs.declared.numbers.TheConstants.{LINES_STATES}
use Rattle.s2_saved.specs.SavedWords.{saved_words, kept_bits, after_word_load}

-- what every processor is, as far as its saved words tell
pub record IsProcessorState (p : Processor) : Type 0 where
  pub general : AreGeneralRegisters p.r
  pub load_reg : p.load_reg < REGISTERS
  pub lines : p.lines < LINES_STATES
  pub control : HasKeptBits p.cp0
  pub entries : AreTranslationEntries p.tlb

-- words with the numbers k and on, loaded one after the other
unfoldable pub after_word_loads : Processor → ℕ → List ℕ → Processor
after_word_loads p k [] = p
after_word_loads p k (v ∷ words) = after_word_loads (after_word_load p k v) (k + 1) words

-- loading all saved words of one processor into another gives the first
abbrev pub AllWordsRestore : Type 0
AllWordsRestore = (c p : Processor) → IsProcessorState c → IsProcessorState p → after_word_loads p 0 (saved_words c) ≡ c

-- loading one word sets that saved word to what its part keeps of it, and leaves all others
abbrev pub LoadChangesOneWord : Type 0
LoadChangesOneWord = (p : Processor) (k v : ℕ) → k < SAVED_WORDS → v < 2 ^ 32 → IsProcessorState p → saved_words (after_word_load p k v) ≡ slice_set (saved_words p) k (kept_bits k v)

-- loading one word leaves a state of a processor
abbrev pub LoadKeepsState : Type 0
LoadKeepsState = (p : Processor) (k v : ℕ) → k < SAVED_WORDS → IsProcessorState p → IsProcessorState (after_word_load p k v)
