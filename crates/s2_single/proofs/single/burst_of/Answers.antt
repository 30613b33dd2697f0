use Rattle.std.proofs.Common.{◌≡◌, ◌+◌, ◌-◌, refl, ◌∙◌, ap, arith}
use Rattle.s2_cpu.specs.Processor.{Processor}
use Rattle.s2_single.specs.SingleMachine.{machine_of}
use Rattle.s2_single.proofs.SingleCycles.{still_asks, same_cycle, run_more, run_full, turn_more, turn_counts, ran_with_next, counted_full, counted_outside}
use Rattle.s2_single.proofs.single.burst_of.Goals as goal

pub cycle_outside-out-requires-clause-asked : goal.cycle_outside-out-requires-clause-asked
cycle_outside-out-requires-clause-asked c = still_asks c.loop-cpu.cpu _ c.loop-cpu.local _ c.if-not-try_turn.ensures.local c.if-not-try_turn.ensures.cpu c.if-not-try_turn.ensures.words

pub returns-then-not-try_turn-clause-run : goal.returns-then-not-try_turn-clause-run
returns-then-not-try_turn-clause-run c = λ bytes.
    let new = c.cycle_outside-out.new in
    let same : c.cpu-then-not-try_turn.inside.run ≡ c.loop-cpu.cpu.run = ap (λ (p : Processor). p.run) (c.cpu-then-not-try_turn.view_is ∙ c.if-not-try_turn.ensures.cpu) in
    let more = ran_with_next _ _ c.loop-cpu.left c.args.limit (same ∙ c.loop-cpu.invariant.1.1.1) (omega arith) (omega arith) c.loop-cpu.invariant.1.0 c.loop-cpu.invariant.1.1.0 in
    run_more _ (machine_of new.cpu new.local new.global new.board new.halt) c.cycle_outside-out.result c.loop-cpu.invariant.0 more
    (same_cycle c.loop-cpu.cpu _ c.loop-cpu.local _ _ _ c.if-not-try_turn.ensures.cpu c.if-not-try_turn.ensures.words ∙ c.cycle_outside-out.ensures.cycle) bytes

pub returns-then-not-try_turn-clause-cycles : goal.returns-then-not-try_turn-clause-cycles
returns-then-not-try_turn-clause-cycles c =
    let same : c.cpu-then-not-try_turn.inside.run ≡ c.loop-cpu.cpu.run = ap (λ (p : Processor). p.run) (c.cpu-then-not-try_turn.view_is ∙ c.if-not-try_turn.ensures.cpu) in
    let more = ran_with_next _ _ c.loop-cpu.left c.args.limit (same ∙ c.loop-cpu.invariant.1.1.1) (omega arith) (omega arith) c.loop-cpu.invariant.1.0 c.loop-cpu.invariant.1.1.0 in
    counted_outside c.args.limit _ c.loop-cpu.invariant.0 more (omega arith) c.if-not-try_turn.ensures.local

pub returns-then-left-eq0-clause-run : goal.returns-then-left-eq0-clause-run
returns-then-left-eq0-clause-run c = λ bytes.
    let more : c.args.limit - 0 ≡ (c.args.limit - c.loop-cpu.left) + 1 = omega (arith, c.loop-cpu.invariant.1.0, c.loop-cpu.invariant.1.1.0, c.if-left-eq0.true) in
    run_full (c.args.limit - 0) (turn_more (c.args.limit - 0) c.try_turn.new.cpu c.try_turn.new.store c.loop-cpu.invariant.0 more
    c.if-not-try_turn.ensures.local c.if-not-try_turn.ensures.cpu c.if-not-try_turn.ensures.words (c.try_turn.ensures.size ∙ c.loop-cpu.invariant.0.local_size)) refl bytes

pub returns-then-left-eq0-clause-cycles : goal.returns-then-left-eq0-clause-cycles
returns-then-left-eq0-clause-cycles c =
    let more : c.args.limit - 0 ≡ (c.args.limit - c.loop-cpu.left) + 1 = omega (arith, c.loop-cpu.invariant.1.0, c.loop-cpu.invariant.1.1.0, c.if-left-eq0.true) in
    counted_full c.args.limit (c.args.limit - 0) (turn_more (c.args.limit - 0) c.try_turn.new.cpu c.try_turn.new.store c.loop-cpu.invariant.0 more
    c.if-not-try_turn.ensures.local c.if-not-try_turn.ensures.cpu c.if-not-try_turn.ensures.words (c.try_turn.ensures.size ∙ c.loop-cpu.invariant.0.local_size))
    (omega arith)

pub loop-cpu-preserved : goal.loop-cpu-preserved
loop-cpu-preserved c =
    let more : c.args.limit - (c.loop-cpu.left - 1) ≡ (c.args.limit - c.loop-cpu.left) + 1 = omega (arith, c.loop-cpu.invariant.1.0, c.loop-cpu.invariant.1.1.0) in (
      turn_more (c.args.limit - (c.loop-cpu.left - 1)) c.try_turn.new.cpu c.try_turn.new.store c.loop-cpu.invariant.0 more
          c.if-not-try_turn.ensures.local c.if-not-try_turn.ensures.cpu c.if-not-try_turn.ensures.words (c.try_turn.ensures.size ∙ c.loop-cpu.invariant.0.local_size),
      (
        omega (arith, c.if-left-eq0.false),
        (
          omega (arith, c.loop-cpu.invariant.1.1.0),
          turn_counts c.loop-cpu.cpu _ c.loop-cpu.local _ _ _ c.if-not-try_turn.ensures.local c.if-not-try_turn.ensures.cpu c.loop-cpu.invariant.1.1.1 more,
        ),
      ),
    )
