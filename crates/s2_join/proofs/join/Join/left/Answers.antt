use Rattle.std.proofs.Common.{ℕ, ◌-◌, length, ap, sym, ◌∙◌}
use Rattle.std.specs.Prelude.{List}
use Rattle.s2_join.specs.CopyOrder.{CopyState}
use Rattle.s2_join.specs.HoldItems.{hold_length}
use Rattle.s2_join.proofs.HoldLemmas.{hold_left}
use Rattle.s2_join.proofs.join.Join.left.Goals as goal

pub returns : goal.returns
returns c =
    let total = c.total.ensures ∙ ap (λ (l : List ℕ). hold_length l c.self.inside.closing) c.deref.ensures.0 in
    ap (λ (n : ℕ). n - c.self.inside.done) total ∙ (sym (hold_left c.self.inside.pages.items c.self.inside.closing c.self.inside.done) ∙ ap (λ (j : CopyState). length j.left) c.self.view_is)
