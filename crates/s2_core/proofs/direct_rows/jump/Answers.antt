use Rattle.std.proofs.Common.{◌≡◌, Some, rules}
use Rattle.s2_machine.specs.Branches.{jump_step}
use Rattle.s2_machine.specs.declared.step.Step.TheVariants.{Jump}
use Rattle.s2_core.proofs.CarriedOut.{carried}
use Rattle.s2_core.proofs.direct_rows.jump.Goals as goal

pub returns : goal.returns
returns c = λ local marks.
    let same : Jump (Some c.jump_target-address.result) c.link_register.result ≡ jump_step c.args.cpu.now c.args.link c.args.target = search rules in
    carried c.args.cpu.now _ _ _ _ _ _ _ _ same (c.go_to.ensures local marks)
