use Rattle.std.proofs.Common.{◌≡◌, ℕ, suc, ◌+◌, refl, sym, ap, ◌∙◌, arith}
use Rattle.s2_revive.specs.MendingBoards.{boards_idled}
use Rattle.s2_revive.specs.IdleRuns.{boards_idled_by}
use Rattle.s2_revive.proofs.revive.Revive.idle_each.Goals as goal

pub loop-done-init : goal.loop-done-init
unfolding boards_idled_by
loop-done-init c = record { after = refl; contents = refl }

pub loop-done-preserved : goal.loop-done-preserved
unfolding boards_idled_by
loop-done-preserved c =
    let one : suc c.loop-done.done ≡ c.loop-done.done + 1 = omega arith in
    record {
      after = c.idle-mended.ensures.boards ∙ (ap boards_idled c.loop-done.invariant.after ∙ ap (λ (i : ℕ). boards_idled_by i c.args.self.now) one);
      contents = c.idle-mended.ensures.contents ∙ c.loop-done.invariant.contents;
    }
