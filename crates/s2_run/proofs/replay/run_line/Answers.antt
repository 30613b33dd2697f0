use Rattle.std.proofs.Common.{sym, ap, ◌∙◌}
use Rattle.s2_journal.specs.declared.note.ReportLine.{ReportLine}
use Rattle.s2_run.specs.ReplayParts.{after_line}
use Rattle.s2_run.proofs.Replaying.{delivered}
use Rattle.s2_run.proofs.replay.run_line.Goals as goal

pub returns-in-Ok-clause-machine : goal.returns-in-Ok-clause-machine
returns-in-Ok-clause-machine g c =
    delivered c.args.machine.now c.run_to.new.machine c.deliver.new.machine c.in-Delivery.run' c.in-Delivery.event c.in-Ok.ensures.machine c.deliver.ensures.machine
    ∙ ap (λ (x : ReportLine). (after_line x c.args.machine.now).machine) (sym c.in-Delivery.is)
