use Rattle.std.proofs.Common.{ℕ, length, ap, ◌∙◌, arith, length-append}
use Rattle.std.specs.Prelude.{not}
use Rattle.arrayvec.specs.ArrayVec.{ArrayVec}
use Rattle.s2_join.specs.CopyOrder.{is_unclean}
use Rattle.s2_join.proofs.UncleanPages.{collect_yes, collect_no}
use Rattle.s2_join.proofs.join.collect.Goals as goal
use Rattle.s2_join.proofs.join.collect.Goals.{then-not-clean-page, else-not-clean-page}

pub loop-page-preserved : goal.loop-page-preserved
loop-page-preserved c = elim c.if-not-clean-page.branch [
  | then-not-clean-page w ↦
      let now = ap (λ (v : ArrayVec ℕ). v.items) w.pages-is ∙ w.push.ensures.items in
      record {
        room = omega (arith, ap length now, length-append {A = ℕ});
        items = collect_yes (is_unclean c.args.clean.now) c.args.from c.loop-page.page c.args.pages.now.items c.loop-page.pages.items c.if-not-clean-page.pages.items c.loop-page.auto.page c.loop-page.invariant.items now (ap not w.if-not-clean-page.true);
      }
  | else-not-clean-page w ↦
      let now = ap (λ (v : ArrayVec ℕ). v.items) w.pages-is in
      record {
        room = omega (arith, ap length now);
        items = collect_no (is_unclean c.args.clean.now) c.args.from c.loop-page.page c.args.pages.now.items c.loop-page.pages.items c.if-not-clean-page.pages.items c.loop-page.auto.page c.loop-page.invariant.items now (ap not w.if-not-clean-page.false);
      }
]
