use Rattle.std.proofs.Common.{refl, inr}
use Rattle.s2_run.specs.ReportText.{too_big_line}
use Rattle.s2_run.proofs.Replays.{program_ends}
use Rattle.s2_run.proofs.single.single.Goals as goal

pub returns-in-Ok-clause-told : goal.returns-in-Ok-clause-told
returns-in-Ok-clause-told g c = λ file s held left.
    let loaded = c.in-Ok.ensures.told file held in
    program_ends file s _ c.replay_program.result _ _ loaded.0 loaded.1 (c.replay_program.ensures.told s left)

pub returns-in-Err-clause-told : goal.returns-in-Err-clause-told
returns-in-Err-clause-told g c = λ file s held left.
    inr (
      too_big_line,
      inr (rw c.in-Err-TooBig.field-0-is at (c.in-Err-TooBig.ensures.told file held), refl),
      record {
        left_same = refl;
        console_same = refl;
        cut = record { bytes = c.in-Err.field-0.taken; short = c.in-Err.ensures.cut; wrote = c.in-Err.ensures.bytes };
      },
    )
