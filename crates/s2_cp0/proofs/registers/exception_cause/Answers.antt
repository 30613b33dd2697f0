use Rattle.std.proofs.Common.{◌≡◌, ◌+◌, ◌*◌, ◌^◌, arith}
use Rattle.std.specs.Prelude.{bit_and}
use Rattle.std.proofs.lemmas.Grind.{common_steps}
use Rattle.s2_cp0.specs.declared.masks.TheConstants.{CAUSE_WRITTEN}
use Rattle.s2_cp0.specs.ExceptionEntry.{cause_of}
use Rattle.s2_cp0.proofs.KeptBits.{cause-within}
use Rattle.s2_cp0.proofs.registers.exception_cause.Goals as goal

pub returns-clause-within : goal.returns-clause-within
returns-clause-within c =
    let value :
    c.if-in_slot.branch_delay + c.from-number.result * 2 ^ 28 + bit_and c.args.old CAUSE_WRITTEN + c.from.result * 4
    ≡ cause_of c.args.old c.args.code c.args.unit c.args.in_slot = grind (arith, common_steps) in
    rw value (cause-within c.args.old c.args.code c.args.unit c.args.in_slot c.requires.code c.requires.unit)
