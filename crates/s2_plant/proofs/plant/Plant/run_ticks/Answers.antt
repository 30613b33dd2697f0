use Rattle.std.proofs.Common.{◌≡◌, ℕ, suc, ◌+◌, ◌-◌, ◌<◌, ◌≤◌, ◌^◌, refl, sym, ap, subst, ◌∙◌, arith}
use Rattle.std.specs.Prelude.{Bool, true, false, not, None, Ok}
use Rattle.std.specs.declared.result.Result.{Result}
use Rattle.s2_journal.specs.declared.note.Reason.{Reason}
use Rattle.s2_triplex.specs.StepTurns.{Turn}
use Rattle.s2_triplex.specs.R2000Triplex.{r2000_triplex}
use Rattle.s2_triplex.specs.TriplexState.{TriplexState}
use Rattle.s2_plant.specs.StepParts.{blank_turn}
use Rattle.s2_plant.specs.TickRuns.{IsTickRun, after_ticks, answer_of, is_silent}
use Rattle.s2_plant.proofs.PlantPromises.{plant_facts}
use Rattle.s2_plant.proofs.TickRuns.{going, skip_joined, run_joined, run_tells, silent_is, silent_more, turn_blank}
use Rattle.s2_plant.proofs.plant.Plant.run_ticks.Goals as goal

pub loop-run-init : goal.loop-run-init
unfolding after_ticks
loop-run-init c = record { within = c.requires.some; silent = λ j h. absurd (omega (arith, h)); machine = refl; was = c.ticks-ticks.ensures.kept; blank = c.blank-turn.ensures }

pub skip-before-requires-clause-ticks : goal.skip-before-requires-clause-ticks
skip-before-requires-clause-ticks c =
    let i = c.loop-run.invariant in
    let within = i.within in
    let to = going c.args.self.now c.args.mask c.loop-run.before i.was c.requires.running (omega (arith, c.requires.ticks)) i.silent in
    let same : c.loop-run.self.ticks ≡ c.args.self.now.ticks + c.loop-run.before = ap (λ (d : TriplexState). d.ticks) i.machine ∙ to.ticks in
    omega (arith, same, c.requires.ticks)

pub skip-before-requires-clause-running : goal.skip-before-requires-clause-running
skip-before-requires-clause-running c =
    let i = c.loop-run.invariant in
    let within = i.within in
    let to = going c.args.self.now c.args.mask c.loop-run.before i.was c.requires.running (omega (arith, c.requires.ticks)) i.silent in
    ap (λ (d : TriplexState). d.halt) i.machine ∙ to.running

pub tick_on-run-requires-clause-ticks : goal.tick_on-run-requires-clause-ticks
tick_on-run-requires-clause-ticks c =
    let i = c.loop-run.invariant in
    let s = skip_joined c.args.self.now c.loop-run.self c.args.mask c.args.n c.loop-run.before c.skip-before.result c.skip-before.new.self i.within i.silent i.machine c.skip-before.ensures.skip in
    let within = s.within in
    let to = going c.args.self.now c.args.mask (c.loop-run.before + c.skip-before.result) i.was c.requires.running (omega (arith, c.requires.ticks)) s.silent in
    let same : c.skip-before.new.self.ticks ≡ c.args.self.now.ticks + (c.loop-run.before + c.skip-before.result) = ap (λ (d : TriplexState). d.ticks) s.machine ∙ to.ticks in
    omega (arith, same, c.requires.ticks)

pub tick_on-run-requires-clause-running : goal.tick_on-run-requires-clause-running
tick_on-run-requires-clause-running c =
    let i = c.loop-run.invariant in
    let s = skip_joined c.args.self.now c.loop-run.self c.args.mask c.args.n c.loop-run.before c.skip-before.result c.skip-before.new.self i.within i.silent i.machine c.skip-before.ensures.skip in
    let within = s.within in
    let to = going c.args.self.now c.args.mask (c.loop-run.before + c.skip-before.result) i.was c.requires.running (omega (arith, c.requires.ticks)) s.silent in
    ap (λ (d : TriplexState). d.halt) s.machine ∙ to.running

pub returns-then-not-is_silent-clause-run : goal.returns-then-not-is_silent-clause-run
returns-then-not-is_silent-clause-run c =
    let i = c.loop-run.invariant in
    let s = skip_joined c.args.self.now c.loop-run.self c.args.mask c.args.n c.loop-run.before c.skip-before.result c.skip-before.new.self i.within i.silent i.machine c.skip-before.ensures.skip in
    subst (λ (x : Result Turn Reason). IsTickRun c.args.self.now c.args.mask c.args.n (c.loop-run.before + c.skip-before.result + c.tick_on-run.result.before) c.tick_on-run.new.self x) (sym c.answer.ensures)
    (run_joined c.args.self.now c.skip-before.new.self c.args.mask c.args.n (c.loop-run.before + c.skip-before.result) c.tick_on-run.result.before c.tick_on-run.new.self (answer_of c.tick_on-run.result.refused c.tick_on-run.new.turn) s.within s.silent s.machine c.tick_on-run.ensures.run)

pub returns-then-not-is_silent-clause-facts : goal.returns-then-not-is_silent-clause-facts
returns-then-not-is_silent-clause-facts c = plant_facts _ c.tick_on-run.ensures.kept

pub returns-then-not-is_silent-clause-tells : goal.returns-then-not-is_silent-clause-tells
returns-then-not-is_silent-clause-tells c =
    let i = c.loop-run.invariant in
    let s = skip_joined c.args.self.now c.loop-run.self c.args.mask c.args.n c.loop-run.before c.skip-before.result c.skip-before.new.self i.within i.silent i.machine c.skip-before.ensures.skip in
    let run = run_joined c.args.self.now c.skip-before.new.self c.args.mask c.args.n (c.loop-run.before + c.skip-before.result) c.tick_on-run.result.before c.tick_on-run.new.self (answer_of c.tick_on-run.result.refused c.tick_on-run.new.turn) s.within s.silent s.machine c.tick_on-run.ensures.run in
    run_tells c.args.self.now c.args.mask c.args.n _ _ _ run i.was c.requires.running c.requires.ticks

pub returns-then-before-n-clause-run : goal.returns-then-before-n-clause-run
returns-then-before-n-clause-run c =
    let i = c.loop-run.invariant in
    let s = skip_joined c.args.self.now c.loop-run.self c.args.mask c.args.n c.loop-run.before c.skip-before.result c.skip-before.new.self i.within i.silent i.machine c.skip-before.ensures.skip in
    subst (λ (x : Result Turn Reason). IsTickRun c.args.self.now c.args.mask c.args.n (c.loop-run.before + c.skip-before.result + c.tick_on-run.result.before) c.tick_on-run.new.self x) (sym c.answer-then-before-n.ensures)
    (run_joined c.args.self.now c.skip-before.new.self c.args.mask c.args.n (c.loop-run.before + c.skip-before.result) c.tick_on-run.result.before c.tick_on-run.new.self (answer_of c.tick_on-run.result.refused c.tick_on-run.new.turn) s.within s.silent s.machine c.tick_on-run.ensures.run)

pub returns-then-before-n-clause-facts : goal.returns-then-before-n-clause-facts
returns-then-before-n-clause-facts c = plant_facts _ c.tick_on-run.ensures.kept

pub returns-then-before-n-clause-tells : goal.returns-then-before-n-clause-tells
returns-then-before-n-clause-tells c =
    let i = c.loop-run.invariant in
    let s = skip_joined c.args.self.now c.loop-run.self c.args.mask c.args.n c.loop-run.before c.skip-before.result c.skip-before.new.self i.within i.silent i.machine c.skip-before.ensures.skip in
    let run = run_joined c.args.self.now c.skip-before.new.self c.args.mask c.args.n (c.loop-run.before + c.skip-before.result) c.tick_on-run.result.before c.tick_on-run.new.self (answer_of c.tick_on-run.result.refused c.tick_on-run.new.turn) s.within s.silent s.machine c.tick_on-run.ensures.run in
    run_tells c.args.self.now c.args.mask c.args.n _ _ _ run i.was c.requires.running c.requires.ticks

pub loop-run-preserved : goal.loop-run-preserved
loop-run-preserved c =
    let i = c.loop-run.invariant in
    let s = skip_joined c.args.self.now c.loop-run.self c.args.mask c.args.n c.loop-run.before c.skip-before.result c.skip-before.new.self i.within i.silent i.machine c.skip-before.ensures.skip in
    let q = c.tick_on-run.result.before in
    let run : IsTickRun c.args.self.now c.args.mask c.args.n (c.loop-run.before + c.skip-before.result + q) c.tick_on-run.new.self (answer_of c.tick_on-run.result.refused c.tick_on-run.new.turn) = run_joined c.args.self.now c.skip-before.new.self c.args.mask c.args.n (c.loop-run.before + c.skip-before.result) q c.tick_on-run.new.self (answer_of c.tick_on-run.result.refused c.tick_on-run.new.turn) s.within s.silent s.machine c.tick_on-run.ensures.run in
    let within = run.within in
    let yes : is_silent (answer_of c.tick_on-run.result.refused c.tick_on-run.new.turn) ≡ true = grind (arith, c.is_silent.ensures, c.if-not-is_silent.false) in
    let next : suc (c.loop-run.before + c.skip-before.result + q) ≡ c.loop-run.before + c.skip-before.result + q + 1 = omega arith in
    record {
      within = omega (arith, within, c.if-before-n.false);
      silent = silent_more c.args.self.now c.args.self.now c.args.mask c.args.n 0 (c.loop-run.before + c.skip-before.result + q) c.tick_on-run.new.self (answer_of c.tick_on-run.result.refused c.tick_on-run.new.turn) run (silent_is (answer_of c.tick_on-run.result.refused c.tick_on-run.new.turn) yes);
      machine = run.machine ∙ ap (λ (k : ℕ). after_ticks r2000_triplex c.args.mask k c.args.self.now) next;
      was = i.was;
      blank = turn_blank c.tick_on-run.result.refused c.tick_on-run.new.turn (silent_is (answer_of c.tick_on-run.result.refused c.tick_on-run.new.turn) yes);
    }
