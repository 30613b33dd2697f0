-- The lines of a report, each with its line feed.
use Rattle.std.specs.Prelude.{ℕ, List, [], ◌∷◌, ◌++◌, codes}
use Rattle.s2_journal.specs.ReportLines.{count_text, end_text}
use Rattle.s2_journal.specs.declared.note.Count.TheVariants.{Runs, Ticks, Bytes}
use Rattle.s2_journal.specs.declared.note.End.{End}
use Rattle.s2_elf.specs.declared.fault.ElfFault.{ElfFault}
use Rattle.s2_run.specs.RefusalText.{counted_text, refusal_text}
use Rattle.s2_run.specs.declared.verdict.Verdict.{Verdict}
use Rattle.s2_run.specs.declared.verdict.Verdict.TheVariants.{Passed, Bad, TooLong}

-- a text and its line feed
abbrev pub line_with : List ℕ → List ℕ
line_with text = text ++ 10 ∷ []

-- the end lines of a run: its run cycles, its ticks, its console bytes, and its end
abbrev pub end_lines : ℕ → ℕ → ℕ → End → List ℕ
end_lines runs ticks bytes end =
    (line_with (count_text Runs runs) ++ line_with (count_text Ticks ticks)) ++ (line_with (count_text Bytes bytes) ++ line_with (end_text end))

-- the closing lines of a replay: its run cycles, its console bytes, and its end
abbrev pub replay_lines : ℕ → ℕ → End → List ℕ
replay_lines runs bytes end = line_with (count_text Runs runs) ++ (line_with (count_text Bytes bytes) ++ line_with (end_text end))

-- words that ask for nothing that is offered
abbrev pub usage_line : List ℕ
usage_line = line_with (codes "usage")

-- a file that is too big
abbrev pub too_big_line : List ℕ
too_big_line = line_with (codes "toobig")

-- a file that is refused
abbrev pub elf_line : ElfFault → List ℕ
elf_line fault = line_with (codes "elf" ++ 32 ∷ refusal_text fault)

-- what a check of a script came to
abbrev pub verdict_text : Verdict → List ℕ
verdict_text Passed = codes "ok"
verdict_text (Bad line column) = counted_text (counted_text (codes "bad") line) column
verdict_text (TooLong line) = counted_text (codes "toolong") line

abbrev pub verdict_line : Verdict → List ℕ
verdict_line verdict = line_with (verdict_text verdict)
