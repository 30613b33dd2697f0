use Rattle.std.proofs.Common.{ℕ, ◌≤◌, ap, ◌∙◌, sym, subst}
use Rattle.s2_triplex.specs.ReferenceMachine.{run_at, runs}
use Rattle.s2_triplex_laws.proofs.SlowestProcessor.{slowest_is}
use Rattle.s2_plant.proofs.plant.Plant.runs.Goals as goal

pub returns-clause-reference : goal.returns-clause-reference
returns-clause-reference c = c.runs.ensures ∙ ap runs c.self.view_is

pub returns-clause-least : goal.returns-clause-least
returns-clause-least c =
    λ p low good. subst (λ (n : ℕ). n ≤ run_at c.args.self.now.modules p) (sym (c.runs.ensures ∙ ap runs c.self.view_is)) ((slowest_is c.args.self.now.tainted c.args.self.now.modules).least p low good)
