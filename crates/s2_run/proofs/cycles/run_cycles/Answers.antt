use Rattle.std.proofs.Common.{◌≡◌, ◌+◌, ◌-◌, sym, ◌∙◌, ap, arith, true, false}
use Rattle.std.specs.Prelude.{is_some}
use Rattle.s2_single.proofs.ProgramCycles.{bytes_few}
use Rattle.s2_run.proofs.Progress.{Finished, Broken, running_on, finish_halted, broken_off, none_from}
use Rattle.s2_run.proofs.cycles.run_cycles.Goals as goal

broken : (g : _) (c : goal.In-Err g) → Broken c.args.machine.now c.args.limit c.loop-left.written (g.C.Sink.taken c.args.console.now) (g.C.Sink.taken c.emit.new.console)
broken g c =
    let here : c.args.limit - c.burst-burst.result.left ≡ (c.args.limit - c.loop-left.left) + (c.loop-left.left - c.burst-burst.result.left) = omega (arith, c.burst-burst.ensures.some, c.loop-left.invariant.left) in
    broken_off c.burst-burst.new.self c.burst-burst.result.out c.in-Err.field-0.taken _ (c.loop-left.left - c.burst-burst.result.left) (c.args.limit - c.burst-burst.result.left) c.loop-left.invariant.run here (omega arith)
    (c.burst-burst.ensures.run c.loop-left.invariant.run.bytes) c.in-Err.ensures.cut.0 c.in-Err.ensures.cut.1 c.in-Err.ensures.bytes

pub returns-in-Err-clause-bytes : goal.returns-in-Err-clause-bytes
returns-in-Err-clause-bytes g c = (broken g c).taken

pub returns-in-Err-clause-cut : goal.returns-in-Err-clause-cut
returns-in-Err-clause-cut g c = (broken g c).short

halts : (g : _) (c : goal.Then-is_some g) → Finished c.args.machine.now c.args.limit (c.loop-left.written + c.in-Ok.n) c.burst-burst.new.self (g.C.Sink.taken c.args.console.now) (g.C.Sink.taken c.emit.new.console)
halts g c =
    let halt : is_some c.burst-burst.new.self.halt ≡ true = ap is_some (sym c.halted.ensures) ∙ (sym c.is_some.ensures ∙ c.if-is_some.true) in
    let here : c.args.limit - c.burst-burst.result.left ≡ (c.args.limit - c.loop-left.left) + (c.loop-left.left - c.burst-burst.result.left) = omega (arith, c.burst-burst.ensures.some, c.loop-left.invariant.left) in
    finish_halted c.burst-burst.new.self c.burst-burst.result.out _ _ (c.loop-left.left - c.burst-burst.result.left) (c.args.limit - c.burst-burst.result.left) c.loop-left.invariant.run here (omega arith)
    (c.burst-burst.ensures.run c.loop-left.invariant.run.bytes) halt c.in-Ok.ensures.bytes (ap (λ n. c.loop-left.written + n) c.in-Ok.ensures.count)

pub returns-then-is_some-clause-bytes : goal.returns-then-is_some-clause-bytes
returns-then-is_some-clause-bytes g c = (halts g c).taken

pub returns-then-is_some-clause-machine : goal.returns-then-is_some-clause-machine
returns-then-is_some-clause-machine g c = (halts g c).machine_is

pub returns-then-is_some-clause-count : goal.returns-then-is_some-clause-count
returns-then-is_some-clause-count g c = (halts g c).written_is

pub loop-left-preserved : goal.loop-left-preserved
loop-left-preserved g c =
    let halt : is_some c.burst-burst.new.self.halt ≡ false = ap is_some (sym c.halted.ensures) ∙ (sym c.is_some.ensures ∙ c.if-is_some.false) in
    let here : c.args.limit - c.burst-burst.result.left ≡ (c.args.limit - c.loop-left.left) + (c.loop-left.left - c.burst-burst.result.left) = omega (arith, c.burst-burst.ensures.some, c.loop-left.invariant.left) in
    record {
      run = running_on c.burst-burst.new.self c.burst-burst.result.out _ _ (c.loop-left.left - c.burst-burst.result.left) (c.args.limit - c.burst-burst.result.left) c.loop-left.invariant.run here (omega arith)
          (c.burst-burst.ensures.run c.loop-left.invariant.run.bytes) (none_from _ halt) c.in-Ok.ensures.bytes (ap (λ n. c.loop-left.written + n) c.in-Ok.ensures.count);
      left = omega (arith, c.loop-left.invariant.left, c.burst-burst.ensures.some);
      bounded = omega (arith, c.loop-left.invariant.bounded, c.loop-left.invariant.left, c.burst-burst.ensures.some, c.in-Ok.ensures.count, bytes_few c.burst-burst.result.out);
      faults = c.in-Ok.ensures.cause.whole.0 ∙ c.loop-left.invariant.faults;
      empty_takes = c.in-Ok.ensures.cause.whole.1 ∙ c.loop-left.invariant.empty_takes;
    }
