use Rattle.std.proofs.Common.{sym, ap, ◌∙◌}
use Rattle.std.specs.Prelude.{Ok}
use Rattle.std.specs.declared.result.Result.{Result}
use Rattle.s2_journal.specs.declared.note.Reason.{Reason}
use Rattle.s2_voter.specs.Verdicts.{verdict_of}
use Rattle.s2_triplex.specs.R2000Triplex.{r2000_triplex}
use Rattle.s2_triplex.specs.TriplexState.{TriplexState}
use Rattle.s2_triplex.specs.StepTurns.{Turn}
use Rattle.s2_plant.specs.StepParts.{after_voters_turn, voters_turn}
use Rattle.s2_plant.specs.TickRuns.{after_ticks}
use Rattle.s2_plant.proofs.QuietTicks.{lawful_answer, lawful_next}
use Rattle.s2_plant.proofs.parts.Parts.work_on.Goals as goal

pub returns : goal.returns
unfolding after_ticks
returns c =
    let before = after_ticks r2000_triplex c.args.mask c.fire_on-before.result c.args.self.now in
    record {
      within = c.fire_on-before.ensures.within;
      silent = c.fire_on-before.ensures.silent;
      answer = ap (λ (t : Turn). let r : Result Turn Reason = Ok t in r) (c.decide.ensures.turn ∙ ap (λ (d : TriplexState). voters_turn r2000_triplex d (verdict_of d.voter)) c.fire_on-before.ensures.machine)
          ∙ sym (lawful_answer before c.args.mask c.fire_on-before.ensures.lawful c.fire_on-before.ensures.free);
      machine = c.decide.ensures.machine
          ∙ (ap (λ (d : TriplexState). (after_voters_turn r2000_triplex d (verdict_of d.voter)).next) c.fire_on-before.ensures.machine
          ∙ sym (lawful_next before c.args.mask c.fire_on-before.ensures.lawful c.fire_on-before.ensures.free));
    }
