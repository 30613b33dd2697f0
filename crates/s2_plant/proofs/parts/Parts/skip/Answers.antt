use Rattle.std.proofs.Common.{ℕ, ap, ◌∙◌, arith}
use Rattle.std.specs.Prelude.{min}
use Rattle.s2_plant.proofs.RestRuns.{skipped_at}
use Rattle.s2_plant.proofs.parts.Parts.skip.Goals as goal

pub returns : goal.returns
returns c =
    skipped_at _ _ c.args.mask c.args.n c.run-ran.result c.min-ahead.result c.idle_all_by.new.modules c.age_by.new.self c.run-ran.new.self c.self.view_is
    c.rest_ahead.ensures.voter c.requires.running c.sized.ensures.posted c.sized.ensures.modules c.sized.ensures.first c.sized.ensures.second c.sized.ensures.third
    (omega (arith, c.requires.ticks)) (c.min-ahead.ensures ∙ ap (λ (x : ℕ). min x c.args.n) c.rest_ahead.ensures.ahead) c.run-ran.ensures.few c.run-ran.ensures.lawful
    (λ h e. c.run-ran.ensures.refused h e) c.idle_all_by.ensures c.age_by.ensures.aged c.run-ran.ensures.windows
