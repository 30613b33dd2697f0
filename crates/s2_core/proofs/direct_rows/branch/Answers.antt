use Rattle.std.proofs.Common.{◌≡◌, rules}
use Rattle.s2_machine.specs.Branches.{branch_step}
use Rattle.s2_machine.specs.declared.step.Step.TheVariants.{Jump}
use Rattle.s2_core.proofs.CarriedOut.{carried}
use Rattle.s2_core.proofs.direct_rows.branch.Goals as goal

pub returns : goal.returns
returns c = λ local marks.
    let same : Jump c.branch_target-target.result 0 ≡ branch_step c.args.cpu.now c.args.op c.args.rs c.args.rt c.args.off = search rules in
    carried c.args.cpu.now _ _ _ _ _ _ _ _ same (c.go_to.ensures local marks)
