use Rattle.std.proofs.Common.{◌≡◌, ℕ, ap, refl, subst, ◌∙◌, arith}
use Rattle.s2_join.specs.CopyOrder.{CopyState, none_left}
use Rattle.s2_plant.proofs.TakenMarks.{all_taken, one_more, with_marks}
use Rattle.s2_plant.proofs.reintegration.take_marks.Goals as goal

pub loop-page-init : goal.loop-page-init
loop-page-init c = refl

pub take_mark-requires-clause-resting : goal.take_mark-requires-clause-resting
take_mark-requires-clause-resting c = ap (λ (j : CopyState). none_left j.left) c.loop-page.invariant ∙ c.requires.resting

pub take_mark-requires-clause-open : goal.take_mark-requires-clause-open
take_mark-requires-clause-open c = ap (λ (j : CopyState). j.saved) c.loop-page.invariant ∙ c.requires.open

pub loop-page-preserved : goal.loop-page-preserved
loop-page-preserved c = one_more c.args.copying.now _ _ c.args.lowest.now.marks c.loop-page.page c.loop-page.invariant c.take_mark.ensures

pub returns : goal.returns
returns c =
    let pages = c.well_formed-2.ensures.pages in
    let below = c.loop-page.auto.page-end in
    let past = c.loop-page-test.false in
    let at_end : c.loop-page.page ≡ 272 = omega (arith, below, past) in
    all_taken c.args.copying.now _ c.args.lowest.now.marks 272 (omega (arith, pages)) (subst (λ (n : ℕ). c.loop-page.copying ≡ with_marks c.args.copying.now c.args.lowest.now.marks n) at_end c.loop-page.invariant)
