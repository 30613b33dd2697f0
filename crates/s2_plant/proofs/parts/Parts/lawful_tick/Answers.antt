use Rattle.std.proofs.Common.{◌≡◌, ap, ◌∙◌, sym}
use Rattle.std.specs.Prelude.{true, false}
use Rattle.s2_triplex.specs.R2000Triplex.{r2000_triplex}
use Rattle.s2_triplex.specs.TriplexState.{TriplexState}
use Rattle.s2_triplex.specs.CopyHolds.{is_holding}
use Rattle.s2_plant.proofs.HoldTicks.{tick_of_hold, tick_of_work}
use Rattle.s2_plant.proofs.parts.Parts.lawful_tick.Goals as goal

pub returns-then-is_holding : goal.returns-then-is_holding
returns-then-is_holding c =
    let on : is_holding c.args.self.now.reintegration ≡ true = sym (c.if-is_holding.ensures ∙ ap (λ (d : TriplexState). is_holding d.reintegration) c.self.view_is) in
    let is = tick_of_hold r2000_triplex c.args.self.now c.args.mask on in
    record { machine = c.hold.ensures.machine ∙ sym is.0; turn = c.hold.ensures.turn ∙ sym is.1 }

pub returns-else-is_holding : goal.returns-else-is_holding
returns-else-is_holding c =
    let off : is_holding c.args.self.now.reintegration ≡ false = sym (c.if-is_holding.ensures ∙ ap (λ (d : TriplexState). is_holding d.reintegration) c.self.view_is) in
    let is = tick_of_work r2000_triplex c.args.self.now c.args.mask off in
    record { machine = c.working_tick.ensures.machine ∙ sym is.0; turn = c.working_tick.ensures.turn ∙ sym is.1 }
