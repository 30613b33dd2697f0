-- What the five lines of a script say.
use Rattle.std.proofs.Common.{◌≡◌, ℕ, List, refl, subst, ◌∙◌, arith, rules}
use Rattle.std.specs.Prelude.{codes, decimal}
use Rattle.std.proofs.lemmas.Fmt.{decimal_digit}
use Rattle.s2_text.proofs.Decimals.{decimal_on}
use Rattle.s2_text.specs.LineTables.{SaysIn}
use Rattle.s2_script.specs.declared.entry.Act.TheVariants.{Poke, Revive}
use Rattle.s2_script.specs.declared.entry.Entry.{Entry}
use Rattle.s2_script.specs.declared.entry.Entry.TheVariants.{Ticks, One}
use Rattle.s2_script.specs.ScriptLines.{script_rows, IsProperEntry, entry_text}
use Rattle.s2_script.proofs.ProperLines.{in_table}
use Rattle.s2_gen.specs.WorkloadScript.{workload_entries, workload_lines, AreSaid}

-- the numbers as texts
one : decimal 1 ≡ codes "1"
one = decimal_digit 1 (omega arith)

seven : decimal 7 ≡ codes "7"
seven = decimal_digit 7 (omega arith)

eighteen : decimal 18 ≡ codes "18"
eighteen = decimal_on (codes "8") 1 (omega arith) (refl, tt) (omega arith) ∙ (rw one refl)

five_thousand : decimal 5000 ≡ codes "5000"
five_thousand = decimal_on (codes "000") 5 (omega arith) (refl, (refl, (refl, tt))) (omega arith) ∙ (rw (decimal_digit 5 (omega arith)) refl)

ten_million : decimal 10000000 ≡ codes "10000000"
ten_million = decimal_on (codes "0000000") 1 (omega arith) (refl, (refl, (refl, (refl, (refl, (refl, (refl, tt))))))) (omega arith) ∙ (rw one refl)

-- an entry is what its text says
said : (e : Entry) (text : List ℕ) → IsProperEntry e → entry_text e ≡ text → SaysIn script_rows e text
said e text proper same = subst (λ (t : List ℕ). SaysIn script_rows e t) same (in_table e proper)

pub lines_said : AreSaid workload_entries workload_lines
lines_said =
    let wait = said (Ticks 7 5000) (codes "t 7 5000") (search rules) (rw (seven, five_thousand) refl) in (
      wait,
      (
        said (One (Poke 1 18 0)) (codes "poke 1 18 00000000") (search rules) (rw (one, eighteen) refl),
        (
          wait,
          (
            said (One (Revive 1)) (codes "revive 1") (search rules) (rw one refl),
            (said (Ticks 7 10000000) (codes "t 7 10000000") (search rules) (rw (seven, ten_million) refl), tt),
          ),
        ),
      ),
    )
