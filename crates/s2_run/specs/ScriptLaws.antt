-- Laws of the runs of scripts: every run is masked, an input has one run, and without a version line a script is as it was before
-- there were any.
use Rattle.std.specs.Prelude.{ℕ, ◌≡◌, ◌⊎◌, List, [], ◌∷◌, length, take, codes, Ok, Err}
use Rattle.std.specs.declared.option.Option.{Option}
use Rattle.std.specs.declared.result.Result.{Result}
use Rattle.s2_base.specs.declared.map.TheConstants.{LOCAL_WORDS, GLOBAL_WORDS}
use Rattle.s2_clock.specs.declared.numbers.TheConstants.{FRAME}
use Rattle.s2_elf.specs.MemoryImage.{MemoryImage}
use Rattle.s2_text.specs.declared.stops.BadLine.{BadLine}
use Rattle.s2_text.specs.LineTables.{ReadsLine}
use Rattle.s2_script.specs.ScriptLines.{script_rows}
use Rattle.s2_script.specs.FirstLines.{SaysFrame}
use Rattle.s2_script.specs.declared.entry.Entry.{Entry}
use Rattle.s2_triplex.specs.TriplexState.{TriplexState}
use Rattle.s2_text.specs.InputLines.{InputLine}
use Rattle.s2_run.specs.ScriptRuns.{ScriptRun, ReadsFirstLine, ChoosesFrame}
use Rattle.s2_run.specs.ScriptEndings.{RunsInput}
use Rattle.s2_run.specs.MaskedRuns.{ScriptsAreMasked}

-- whatever a script says, its runs on a program whose lists have the words of the memories are masked
abbrev pub EveryScriptIsMasked : Type 0
EveryScriptIsMasked =
    (image : MemoryImage) → length image.local ≡ LOCAL_WORDS → length image.global ≡ GLOBAL_WORDS → ScriptsAreMasked image

-- two runs of one input, from one machine, are the same run, and leave the same of the input
abbrev pub InputsHaveOneRun : Type 0
InputsHaveOneRun =
    (d : TriplexState) (input : List ℕ) (run other : ScriptRun) (left other_left : Option (List ℕ)) → RunsInput d input run left →
    RunsInput d input other other_left → (run ≡ other) × (left ≡ other_left)

-- a line is no version line
abbrev pub IsUnversioned : List ℕ → Type 0
IsUnversioned text = (frame : ℕ) → SaysFrame frame text → ⊥

-- a line is read alike, or is bad in both readings, and at the same column unless it begins with `v`
abbrev pub IsReadAlike : List ℕ → Result (Option Entry) BadLine → Result (Option Entry) BadLine → Type 0
IsReadAlike text (Ok entry) plain = plain ≡ Ok entry
IsReadAlike text (Err bad) plain = (other : BadLine) × (plain ≡ Err other) × ((take 1 text ≡ codes "v") ⊎ (other ≡ bad))

-- So a line 1 that is no version line is read as the table of the other lines reads it, and chooses the frame FRAME: such a script runs
-- and writes what it did before there were version lines, but for that column.
pub record UnversionedScripts : Type 0 where
  pub reads : (text : List ℕ) (first plain : Result (Option Entry) BadLine) → IsUnversioned text → ReadsFirstLine text first →
      ReadsLine script_rows text plain → IsReadAlike text first plain
  pub frames : (line : InputLine) (lines : List InputLine) (frame : ℕ) → IsUnversioned line.text → ChoosesFrame (line ∷ lines) frame →
      frame ≡ FRAME
  pub none : (frame : ℕ) → ChoosesFrame [] frame → frame ≡ FRAME
