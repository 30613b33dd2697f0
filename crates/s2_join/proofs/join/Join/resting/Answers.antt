use Rattle.std.proofs.Common.{ℕ, List, ap, ◌∙◌}
use Rattle.std.specs.Prelude.{◌==◌}
use Rattle.s2_join.specs.CopyOrder.{CopyState, none_left}
use Rattle.s2_join.specs.HoldItems.{hold_length}
use Rattle.s2_join.proofs.HoldLemmas.{hold_test}
use Rattle.s2_join.proofs.join.Join.resting.Goals as goal

pub returns : goal.returns
returns c =
    let total = c.total.ensures ∙ ap (λ (l : List ℕ). hold_length l c.self.inside.closing) c.deref.ensures.0 in
    ap (λ (n : ℕ). c.self.inside.done == n) total ∙ (hold_test c.self.inside.pages.items c.self.inside.closing c.self.inside.done c.self.invariant.done ∙ ap (λ (j : CopyState). none_left j.left) c.self.view_is)
