use Rattle.std.proofs.Common.{inl, inr}
use Rattle.s2_run.proofs.EntryRuns.{closing_done, closing_cut}
use Rattle.s2_run.proofs.load.run_to_end.Goals as goal

pub returns-in-Err-clause-ran : goal.returns-in-Err-clause-ran
returns-in-Err-clause-ran g c = inl c.in-Err.ensures.ran

pub returns-in-Ok-put_end_lines-clause-ran : goal.returns-in-Ok-put_end_lines-clause-ran
returns-in-Ok-put_end_lines-clause-ran g c =
    closing_done _ c.in-Ok.finish.end c.in-Ok.finish.written _ _ _ _ _ c.runs.result c.ticks.result c.in-Ok.ensures.ran c.runs.ensures.reference c.ticks.ensures.ticks c.in-Ok-put_end_lines.ensures.bytes

pub returns-in-Err-put_end_lines-clause-ran : goal.returns-in-Err-put_end_lines-clause-ran
returns-in-Err-put_end_lines-clause-ran g c =
    inr (closing_cut _ c.in-Ok.finish.end c.in-Ok.finish.written _ _ _ _ _ c.runs.result c.ticks.result c.in-Err-put_end_lines.field-0.taken c.in-Ok.ensures.ran c.runs.ensures.reference c.ticks.ensures.ticks c.in-Err-put_end_lines.ensures.cut c.in-Err-put_end_lines.ensures.bytes)
