use Rattle.std.proofs.Common.{refl}
use Rattle.s2_run.specs.CommandWords.{run, single, check, load}
use Rattle.s2_run.proofs.CompleteRuns.{is_complete}
use Rattle.s2_run.proofs.MaskedFiles.{file_is_masked}
use Rattle.s2_run.proofs.Headlines.{headline_holds}
use Rattle.s2_run.proofs.FaultCounts.{run_told, single_told, check_told, load_told}
use Rattle.s2_run.proofs.Workloads.{load_headline, workload_is_masked, load_is_complete, load_always_ends}
use Rattle.s2_run.proofs.WorkloadEnds.{workload_ends}
use Rattle.s2_run.proofs.WordLists.{answers}
use Rattle.s2_run.proofs.dispatch.serve.Goals as goal

pub returns-in-Some-Run-clause-command : goal.returns-in-Some-Run-clause-command
returns-in-Some-Run-clause-command g c = λ request offered words.
    answers _ (run c.in-Some-Run.name.now) request _ _ _ _ tt offered (rw c.in-Some-Run.field-0-is at c.in-Some-Run.ensures.words) words (record {
      outcome = c.run.result;
      answer_is = c.run_status.ensures;
      told = c.run.ensures.told;
      headline = λ file s result d held input by left. headline_holds file s c.run.result _ _ _ result d (c.run.ensures.told file s held input) by left;
      masked = λ file accepted. file_is_masked file;
      cause = c.run.ensures.cause;
      complete = λ file s frame r left held input accepted chosen runs whole quiet. is_complete _ file s c.run.result _ _ _ _ frame r left c.run_status.ensures accepted (c.run.ensures.told file s held input) c.run.ensures.cause chosen runs whole quiet;
    })

pub returns-in-Some-Check-clause-command : goal.returns-in-Some-Check-clause-command
returns-in-Some-Check-clause-command g c = λ request offered words.
    answers _ check request _ _ _ _ tt offered (rw c.in-Some-Check.field-0-is at c.in-Some-Check.ensures.words) words (record {
      last_is = c.requires;
      command = record {
        outcome = c.check.result;
        answer_is = c.check_status.ensures;
        told = c.check.ensures.told;
        cause = c.check.ensures.cause;
        desk_same = refl;
        console_same = refl;
      };
    })

pub returns-in-Some-Single-clause-command : goal.returns-in-Some-Single-clause-command
returns-in-Some-Single-clause-command g c = λ request offered words.
    answers _ (single c.in-Some-Single.name.now) request _ _ _ _ tt offered (rw c.in-Some-Single.field-0-is at c.in-Some-Single.ensures.words) words (record {
      last_is = c.requires;
      command = record {
        outcome = c.single.result;
        answer_is = c.single_status.ensures;
        told = c.single.ensures.told;
        cause = c.single.ensures.cause;
      };
    })

pub returns-in-Some-Load-clause-command : goal.returns-in-Some-Load-clause-command
returns-in-Some-Load-clause-command g c = λ request offered words.
    answers _ (load c.in-Some-Load.n) request _ _ _ _ (rw c.in-Some-Load.field-0-is at c.in-Some-Load.ensures.offered) offered (rw c.in-Some-Load.field-0-is at c.in-Some-Load.ensures.words) words (record {
      outcome = c.load.result;
      answer_is = c.load_status.ensures;
      ends = c.load.ensures.ends;
      headline = λ d is. load_headline c.in-Some-Load.n c.load.result _ d _ _ _ _ c.load.ensures.ends is;
      masked = workload_is_masked c.in-Some-Load.n;
      complete = λ image is console report. load_is_complete c.in-Some-Load.n image c.load.result _ _ _ _ _ _ c.load_status.ensures is c.load.ensures.ends console report;
      lawful = λ image is. workload_ends image;
      always = load_always_ends c.in-Some-Load.n c.load.result _ _ _ _ _ _ c.load_status.ensures c.load.ensures.ends;
      desk_same = refl;
      input_same = refl;
    })

pub returns-in-Some-Run-clause-counts : goal.returns-in-Some-Run-clause-counts
returns-in-Some-Run-clause-counts g c = run_told _ c.run.result _ _ c.run_status.ensures c.run.ensures.counts

pub returns-in-Some-Check-clause-counts : goal.returns-in-Some-Check-clause-counts
returns-in-Some-Check-clause-counts g c = check_told _ c.check.result _ _ c.check_status.ensures refl (c.check.ensures.counts _)

pub returns-in-Some-Single-clause-counts : goal.returns-in-Some-Single-clause-counts
returns-in-Some-Single-clause-counts g c = single_told _ c.single.result _ _ c.single_status.ensures c.single.ensures.counts

pub returns-in-Some-Load-clause-counts : goal.returns-in-Some-Load-clause-counts
returns-in-Some-Load-clause-counts g c = load_told _ c.load.result _ _ c.load_status.ensures refl refl c.load.ensures.counts
