use Rattle.std.proofs.Common.{ap, inr, ◌∙◌}
use Rattle.s2_run.specs.SeenObjects.{sink_seen}
use Rattle.s2_run.specs.Replay.{replay_end}
use Rattle.s2_run.proofs.Replays.{lines_fail, replay_done, closing_cut}
use Rattle.s2_run.proofs.replay.replay.Goals as goal

pub returns-in-Err-clause-told : goal.returns-in-Err-clause-told
returns-in-Err-clause-told g c = λ s h. lines_fail c.args.machine.now s c.in-Err.fault _ _ _ (c.in-Err.ensures.told s (g.R.Sink.taken c.args.report.now) h)

pub returns-in-Ok-put_replay_lines-clause-told : goal.returns-in-Ok-put_replay_lines-clause-told
returns-in-Ok-put_replay_lines-clause-told g c = λ s h.
    replay_done c.args.machine.now s c.in-Ok.found c.replay_lines.new.machine _ _ _ _ _ _ c.run.result c.end_of-end.result (c.in-Ok.ensures.told s (g.R.Sink.taken c.args.report.now) h)
    c.run.ensures (c.end_of-end.ensures ∙ ap (replay_end c.in-Ok.found.verdict) c.halted.ensures) c.in-Ok-put_replay_lines.ensures.bytes

pub returns-in-Err-put_replay_lines-clause-told : goal.returns-in-Err-put_replay_lines-clause-told
returns-in-Err-put_replay_lines-clause-told g c = λ s h.
    inr (closing_cut c.args.machine.now s c.in-Ok.found c.replay_lines.new.machine _ _ _ _ _ _ c.run.result c.end_of-end.result c.in-Err-put_replay_lines.field-0.taken (c.in-Ok.ensures.told s (g.R.Sink.taken c.args.report.now) h)
    c.run.ensures (c.end_of-end.ensures ∙ ap (replay_end c.in-Ok.found.verdict) c.halted.ensures) c.in-Err-put_replay_lines.ensures.cut c.in-Err-put_replay_lines.ensures.bytes)

pub returns-in-Ok-put_replay_lines-clause-counts : goal.returns-in-Ok-put_replay_lines-clause-counts
returns-in-Ok-put_replay_lines-clause-counts g c =
    let r = c.args.report.now in
    let lines = c.in-Ok.ensures.counts (sink_seen (g.R.Sink.taken r) (g.R.Sink.faults r) (g.R.Sink.empty_takes r)) in
    let whole = c.in-Ok-put_replay_lines.ensures.cause.whole in
    (lines.0, lines.1, record { faults = whole.0; empty_takes = whole.1 })

pub returns-in-Err-put_replay_lines-clause-counts : goal.returns-in-Err-put_replay_lines-clause-counts
returns-in-Err-put_replay_lines-clause-counts g c =
    let r = c.args.report.now in
    (c.in-Ok.ensures.counts (sink_seen (g.R.Sink.taken r) (g.R.Sink.faults r) (g.R.Sink.empty_takes r))).0
