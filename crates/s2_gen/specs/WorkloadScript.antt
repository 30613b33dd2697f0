-- The script of a workload: its five lines, and what they say.
use Rattle.std.specs.Prelude.{ℕ, List, [], ◌∷◌, codes}
use Rattle.std.specs.List.{AllZip}
use Rattle.s2_script.specs.declared.entry.Act.TheVariants.{Poke, Revive}
use Rattle.s2_script.specs.declared.entry.Entry.{Entry}
use Rattle.s2_script.specs.declared.entry.Entry.TheVariants.{Ticks, One}
use Rattle.s2_text.specs.LineTables.{SaysIn}
use Rattle.s2_script.specs.ScriptLines.{script_rows}

-- the lines, without their line feeds
abbrev pub workload_lines : List (List ℕ)
workload_lines =
    codes "t 7 5000"
    ∷ codes "poke 1 18 00000000"
    ∷ codes "t 7 5000"
    ∷ codes "revive 1"
    ∷ codes "t 7 10000000"
    ∷ []

-- the entries: general register 18 of processor 1 is lost, and the processor later brought back
abbrev pub workload_entries : List Entry
workload_entries =
    Ticks 7 5000
    ∷ One (Poke 1 18 0)
    ∷ Ticks 7 5000
    ∷ One (Revive 1)
    ∷ Ticks 7 10000000
    ∷ []

-- each entry is what its line of a script says
abbrev pub AreSaid : List Entry → List (List ℕ) → Type 0
AreSaid entries lines = AllZip (SaysIn script_rows) entries lines
