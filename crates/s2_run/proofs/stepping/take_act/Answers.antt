use Rattle.s2_triplex.specs.TriplexSteps.{script_act}
use Rattle.s2_run.proofs.stepping.take_act.Goals as goal

pub returns-clause-ran : goal.returns-clause-ran
returns-clause-ran g c = c.take_answer.ensures.ran c.args.plant.now (script_act c.args.act.now) c.step-answer.ensures.turn c.step-answer.ensures.machine

pub returns-clause-cut : goal.returns-clause-cut
returns-clause-cut g c = c.take_answer.ensures.cut c.args.plant.now (script_act c.args.act.now) c.step-answer.ensures.turn c.step-answer.ensures.machine
