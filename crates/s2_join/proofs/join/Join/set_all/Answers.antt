use Rattle.std.proofs.Common.{ap, ◌∙◌, arith}
use Rattle.s2_join.specs.CopyOrder.{CopyState, none_left}
use Rattle.s2_join.proofs.HoldLemmas.{hold_closes}
use Rattle.s2_join.proofs.join.Join.set_all.Goals as goal

pub invariant_of-self : goal.invariant_of-self
invariant_of-self c =
    let rest = ap (λ (j : CopyState). none_left j.left) c.self.view_is ∙ c.requires.resting in
    let going = ap (λ (j : CopyState). j.saved) c.self.view_is ∙ c.requires.open in
    let few = c.self.invariant.single_syncs (hold_closes c.self.inside.pages.items c.self.inside.closing c.self.inside.done c.self.invariant.done rest going) in
    record {
      cursor = c.self.invariant.cursor;
      syncs = omega arith;
      single_syncs = λ e. absurd cc;
      pages = c.requires.pages;
      few = c.requires.few;
      done = omega arith;
    }
