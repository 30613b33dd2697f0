use Rattle.std.proofs.Common.{◌≡◌, ℕ, List, ◌+◌, ◌++◌, take, subst}
use Rattle.s2_io.specs.Sinks.{appended}
use Rattle.s2_run.specs.ReportText.{line_with}
use Rattle.s2_run.proofs.Pieces.{two_lines, appended_front}
use Rattle.s2_run.proofs.output.put_four_lines.Goals as goal

pub returns-in-Err-put_two_lines-clause-bytes : goal.returns-in-Err-put_two_lines-clause-bytes
returns-in-Err-put_two_lines-clause-bytes g c =
    let front : List ℕ = line_with c.args.first.now ++ line_with c.args.second.now in
    let back : List ℕ = line_with c.args.third.now ++ line_with c.args.fourth.now in
    subst (λ (k : ℕ). g.K.Sink.taken c.put_two_lines-2.new.sink ≡ appended (g.K.Sink.taken c.args.sink.now) (take (k + c.in-Err-put_two_lines.cut.taken) (front ++ back))) (two_lines c.args.first.now c.args.second.now)
    (appended_front (g.K.Sink.taken c.args.sink.now) (g.K.Sink.taken c.put_two_lines.new.sink) (g.K.Sink.taken c.put_two_lines-2.new.sink) front back c.in-Err-put_two_lines.cut.taken c.in-Ok.ensures.bytes c.in-Err-put_two_lines.ensures.bytes)
