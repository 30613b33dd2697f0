use Rattle.s2_asm.proofs.LabelMaps.{added}
use Rattle.s2_asm.proofs.progress.add.Goals as goal

pub returns-in-Ok-clause-ok : goal.returns-in-Ok-clause-ok
returns-in-Ok-clause-ok c = λ list holds none. added c.args.labels.now c.insert.new.self c.args.name c.args.at list c.in-Ok.ensures.updates holds none
