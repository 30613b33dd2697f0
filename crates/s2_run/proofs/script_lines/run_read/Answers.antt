use Rattle.std.proofs.Common.{◌≡◌, subst}
use Rattle.std.specs.Prelude.{Some, Ok}
use Rattle.std.specs.declared.option.Option.{Option}
use Rattle.std.specs.declared.result.Result.{Result}
use Rattle.s2_text.specs.declared.stops.BadLine.{BadLine}
use Rattle.s2_script.specs.declared.entry.Entry.{Entry}
use Rattle.s2_run.specs.ScriptRuns.{ReadsScriptLine}
use Rattle.s2_run.proofs.FrameChoice.{said_in}
use Rattle.s2_run.proofs.ProperEntries.{said_proper}
use Rattle.s2_run.proofs.script_lines.run_read.Goals as goal

pub run_entry-requires-clause-proper : goal.run_entry-requires-clause-proper
run_entry-requires-clause-proper g c =
    let read = subst (λ (r : Result (Option Entry) BadLine). ReadsScriptLine c.args.line c.requires.grammar.0 r) c.in-Ok-Some.is c.requires.grammar.1 in
    let some : c.in-Ok-Some.field-0 ≡ Some c.in-Ok-Some.entry = rw c.in-Ok-Some.is at c.in-Ok-Some.field-0-is in
    said_proper c.in-Ok-Some.entry c.requires.grammar.0 (said_in c.args.line c.requires.grammar.0 c.in-Ok-Some.entry (subst (λ (o : Option Entry). ReadsScriptLine c.args.line c.requires.grammar.0 (Ok o)) some read))
