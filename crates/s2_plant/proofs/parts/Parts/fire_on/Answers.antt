use Rattle.std.proofs.Common.{◌≡◌, ◌+◌, refl, sym, ap, subst, ◌∙◌}
use Rattle.std.specs.Prelude.{None, false}
use Rattle.s2_clock.specs.ClockWatch.{slow_of}
use Rattle.s2_triplex.specs.R2000Triplex.{r2000_triplex}
use Rattle.s2_triplex.specs.TriplexState.{TriplexState}
use Rattle.s2_triplex.specs.TickFirings.{after_firings}
use Rattle.s2_triplex.specs.CopyHolds.{is_holding}
use Rattle.s2_plant.specs.TickRuns.{IsClear, after_ticks, answer_after}
use Rattle.s2_plant.proofs.ApartRuns.{apart_silent, apart_lawful, apart_last}
use Rattle.s2_plant.proofs.parts.Parts.fire_on.Goals as goal

pub returns-clause-silent : goal.returns-clause-silent
returns-clause-silent c = λ j low.
    let clear = subst (λ (d : TriplexState). IsClear d c.args.mask) (sym c.self.view_is) c.requires.clear in
    let running = subst (λ (d : TriplexState). d.halt ≡ None) (sym c.self.view_is) c.requires.running in
    ap (λ (d : TriplexState). answer_after r2000_triplex c.args.mask j d) (sym c.self.view_is)
    ∙ apart_silent _ c.args.mask clear.free running c.record_fired.ensures.lawful c.fire_apart-quiet.result c.fire_apart-quiet.ensures.waits c.idle_by.ensures.silent j low

pub returns-clause-machine : goal.returns-clause-machine
returns-clause-machine c =
    let clear = subst (λ (d : TriplexState). IsClear d c.args.mask) (sym c.self.view_is) c.requires.clear in
    let running = subst (λ (d : TriplexState). d.halt ≡ None) (sym c.self.view_is) c.requires.running in
    apart_last _ c.args.mask clear.free running c.record_fired.ensures.lawful c.fire_apart-quiet.result c.fire_apart-quiet.ensures.waits
    c.fire_apart-quiet.new.modules c.fire_apart-quiet.new.voter c.idle_by.new.self (c.self.inside.ticks + (c.fire_apart-quiet.result + 1)) c.fire_apart-quiet.new.posted c.record_fired.new.self
    c.fire_apart-quiet.ensures.modules c.fire_apart-quiet.ensures.voter c.idle_by.ensures.boards refl c.fire_apart-quiet.ensures.posted c.record_fired.ensures.windows
    ∙ ap (λ (d : TriplexState). after_firings r2000_triplex (after_ticks r2000_triplex c.args.mask c.fire_apart-quiet.result d) c.args.mask) c.self.view_is

pub returns-clause-lawful : goal.returns-clause-lawful
returns-clause-lawful c =
    let clear = subst (λ (d : TriplexState). IsClear d c.args.mask) (sym c.self.view_is) c.requires.clear in
    let running = subst (λ (d : TriplexState). d.halt ≡ None) (sym c.self.view_is) c.requires.running in
    subst (λ (d : TriplexState). slow_of c.args.mask (after_ticks r2000_triplex c.args.mask c.fire_apart-quiet.result d).tainted (after_ticks r2000_triplex c.args.mask c.fire_apart-quiet.result d).windows ≡ None) c.self.view_is
    (apart_lawful _ c.args.mask clear.free running c.record_fired.ensures.lawful c.fire_apart-quiet.result c.fire_apart-quiet.ensures.waits).0

pub returns-clause-free : goal.returns-clause-free
returns-clause-free c =
    let clear = subst (λ (d : TriplexState). IsClear d c.args.mask) (sym c.self.view_is) c.requires.clear in
    let running = subst (λ (d : TriplexState). d.halt ≡ None) (sym c.self.view_is) c.requires.running in
    subst (λ (d : TriplexState). is_holding (after_ticks r2000_triplex c.args.mask c.fire_apart-quiet.result d).reintegration ≡ false) c.self.view_is
    (apart_lawful _ c.args.mask clear.free running c.record_fired.ensures.lawful c.fire_apart-quiet.result c.fire_apart-quiet.ensures.waits).1
