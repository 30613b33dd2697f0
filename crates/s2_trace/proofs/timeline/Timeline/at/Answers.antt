use Rattle.std.proofs.Common.{ℕ, ap, ◌∙◌, arith}
use Rattle.s2_trace.specs.Timeline.{keeps_above}
use Rattle.s2_trace.proofs.Arriving.{arrived_once, arrived_again}
use Rattle.s2_trace.proofs.timeline.Timeline.at.Goals as goal

pub returns-then-last-from : goal.returns-then-last-from
returns-then-last-from c =
    let old = c.args.self.now in
    let mid = c.run_from.new.self in
    arrived_again c.keeping_from-from.result old.present.cpu.run c.args.n c.keeping_from-last.result old mid c.run_from-then-last-from.new.self c.run_from.ensures c.run_from-then-last-from.ensures
    (c.keeping_from-from.ensures ∙ ap (λ (k : ℕ). keeps_above old.every k c.args.n) c.run-floor.ensures)
    (c.keeping_from-last.ensures
    ∙ (ap (λ (k : ℕ). keeps_above mid.every k c.run.result) c.run-floor.ensures ∙ ap (λ (k : ℕ). keeps_above mid.every old.present.cpu.run k) c.run.ensures))

pub returns-else-last-from : goal.returns-else-last-from
returns-else-last-from c =
    let old = c.args.self.now in
    let mid = c.run_from.new.self in
    arrived_once c.keeping_from-from.result old.present.cpu.run c.args.n c.keeping_from-last.result old mid c.run_from.ensures
    (c.keeping_from-from.ensures ∙ ap (λ (k : ℕ). keeps_above old.every k c.args.n) c.run-floor.ensures)
    (c.keeping_from-last.ensures
    ∙ (ap (λ (k : ℕ). keeps_above mid.every k c.run.result) c.run-floor.ensures ∙ ap (λ (k : ℕ). keeps_above mid.every old.present.cpu.run k) c.run.ensures))
    (let no = c.if-last-from.false in omega arith)
