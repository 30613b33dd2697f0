-- The entries are what the five lines say.
use Rattle.std.proofs.Common.{◌≡◌, rules, sym, subst, List}
use Rattle.std.specs.Result.{IfOk}
use Rattle.std.proofs.lemmas.Result.{IfOk-weaker}
use Rattle.s2_script.specs.declared.entry.Entry.{Entry}
use Rattle.s2_gen.specs.WorkloadScript.{workload_entries, workload_lines, AreSaid}
use Rattle.s2_gen.proofs.SaidLines.{lines_said}
use Rattle.s2_gen.proofs.script.script.Goals as goal

pub returns-clause-lines : goal.returns-clause-lines
returns-clause-lines c =
    let entries : IfOk c.map_err.result (λ v. v.items ≡ workload_entries) = search rules in
    IfOk-weaker c.map_err.result _ _ (λ v same. subst (λ (es : List Entry). AreSaid es workload_lines) (sym same) lines_said) entries
