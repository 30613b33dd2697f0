use Rattle.std.proofs.Common.{ℕ, List, sym, ap, ◌∙◌, subst}
use Rattle.s2_text.specs.LineTables.{SaysIn}
use Rattle.s2_script.specs.declared.entry.Entry.{Entry}
use Rattle.s2_script.specs.ScriptLines.{script_rows, entry_text}
use Rattle.s2_script.proofs.ProperLines.{in_table}
use Rattle.s2_script.proofs.writing.put_entry.Goals as goal

pub returns-in-One-clause-said : goal.returns-in-One-clause-said
returns-in-One-clause-said c =
    let text = c.put_act.ensures ∙ ap (λ (e : Entry). entry_text e) (sym c.in-One.is) in
    subst (λ (t : List ℕ). SaysIn script_rows c.args.e.now t) (sym text) (in_table c.args.e.now c.requires)
