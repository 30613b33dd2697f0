use Rattle.std.proofs.Common.{◌≡◌, ℕ, ◌+◌, ◌<◌, ◌≤◌, refl, ap, ◌∙◌, arith}
use Rattle.std.specs.Prelude.{◌&&◌, nat_lt}
use Rattle.s2_triplex.specs.ModuleState.{is_frame_end}
use Rattle.s2_module.specs.ModuleLeads.{module_ticks}
use Rattle.s2_module.proofs.TurnRuns.{asking_next, quiet_on, ran_on}
use Rattle.s2_module.proofs.module.Module.run_on.Goals as goal

pub returns-then-not-is_running-clause-module : goal.returns-then-not-is_running-clause-module
unfolding module_ticks
returns-then-not-is_running-clause-module c = λ seen. refl

pub returns-clause-quiet : goal.returns-clause-quiet
returns-clause-quiet c =
    let room : 0 < c.turns_on-ran.result → c.self.inside.fires + c.turns_on-ran.result ≤ 254 = λ h. omega (arith, h, c.turns_on-ran.ensures.most, c.firings_left-most.ensures.left) in
    quiet_on _ _ c.turns_on-ran.result c.self.view_is (c.is_running.ensures c.if-not-is_running.false) room c.turns_on-ran.ensures.turns

pub returns-clause-module : goal.returns-clause-module
returns-clause-module c =
    let room : 0 < c.turns_on-ran.result → c.self.inside.fires + c.turns_on-ran.result ≤ 254 = λ h. omega (arith, h, c.turns_on-ran.ensures.most, c.firings_left-most.ensures.left) in
    ran_on _ _ c.turns_on-ran.result c.turns_on-ran.new.cpu c.turns_on-ran.new.pages.words c.turns_on-ran.new.pages.marks c.fires_after-self-inside.result c.ended-due.result
    c.self.view_is (c.is_running.ensures c.if-not-is_running.false) room c.turns_on-ran.ensures.turns c.turns_on-ran.ensures.cpu c.turns_on-ran.ensures.words c.turns_on-ran.ensures.marks
    c.fires_after-self-inside.ensures (c.ended-due.ensures ∙ ap (λ (r : ℕ). nat_lt 0 c.turns_on-ran.result && is_frame_end c.self.inside.frame r) c.run-run.ensures)

pub returns-clause-asks : goal.returns-clause-asks
returns-clause-asks c = λ yes.
    asking_next _ _ c.turns_on-ran.result c.firings_left-most.result c.turns_on-ran.new.cpu c.turns_on-ran.new.pages.words c.turns_on-ran.new.pages.marks c.fires_after-self-inside.result c.ended-due.result c.stopped-asks.result
    c.self.view_is (c.is_running.ensures c.if-not-is_running.false) c.fires_after-self-inside.ensures c.firings_left-most.ensures.left
    (c.ended-due.ensures ∙ ap (λ (r : ℕ). nat_lt 0 c.turns_on-ran.result && is_frame_end c.self.inside.frame r) c.run-run.ensures) c.turns_on-ran.ensures.next
    c.stopped-asks.ensures yes
