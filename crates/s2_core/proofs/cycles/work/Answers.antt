-- Where the cycle was carried out it asks nothing; where it was not, all is as it was, and the asking says what it asks.
use Rattle.std.proofs.Common.{◌≡◌, ℕ, List, false, ap, sym, ◌∙◌}
use Rattle.s2_cpu.specs.Processor.{Processor}
use Rattle.s2_machine.specs.LocalWork.{ask_of}
use Rattle.s2_core.specs.Working.{is_local}
use Rattle.s2_core.proofs.CarriedOut.{asks_nothing, keeps, kept}
use Rattle.s2_core.proofs.cycles.work.Goals as goal

pub returns-then-try_turn-clause-ask : goal.returns-then-try_turn-clause-ask
returns-then-try_turn-clause-ask g c = asks_nothing _ (sym c.if-try_turn.true ∙ c.try_turn.ensures.local)

pub returns-else-try_turn-clause-ask : goal.returns-else-try_turn-clause-ask
returns-else-try_turn-clause-ask g c =
    c.ask.ensures.ask
    ∙ (ap (λ (p : Processor). ask_of p (g.S.Store.words c.try_turn.new.store)) (kept _ _ _ _ c.if-try_turn.false c.try_turn.ensures.cpu)
    ∙ ap (λ (local : List ℕ). ask_of c.args.cpu.now local) (kept _ _ _ _ c.if-try_turn.false c.try_turn.ensures.words))

asked : (g : _) (c : goal.After-ask g) → false ≡ is_local c.ask.result
asked g c = sym c.if-try_turn.false ∙ (c.try_turn.ensures.local ∙ sym (ap is_local (returns-else-try_turn-clause-ask g c)))

pub returns-else-try_turn-clause-cpu : goal.returns-else-try_turn-clause-cpu
returns-else-try_turn-clause-cpu g c =
    kept _ _ _ _ c.if-try_turn.false c.try_turn.ensures.cpu ∙ keeps c.ask.result _ _ (asked g c)

pub returns-else-try_turn-clause-words : goal.returns-else-try_turn-clause-words
returns-else-try_turn-clause-words g c =
    kept _ _ _ _ c.if-try_turn.false c.try_turn.ensures.words ∙ keeps c.ask.result _ _ (asked g c)

pub returns-else-try_turn-clause-marks : goal.returns-else-try_turn-clause-marks
returns-else-try_turn-clause-marks g c =
    kept _ _ _ _ c.if-try_turn.false c.try_turn.ensures.marks ∙ keeps c.ask.result _ _ (asked g c)
