use Rattle.std.proofs.Common.{sym}
use Rattle.s2_core.proofs.CarriedOut.{carried}
use Rattle.s2_core.proofs.execution.carry_out.Goals as goal

pub returns-in-Load-clause-done : goal.returns-in-Load-clause-done
returns-in-Load-clause-done g c = carried c.args.cpu.now _ _ _ _ _ _ _ _ (sym c.in-Load.is) (c.load_at.ensures.done c.in-Load.address)

pub returns-in-Store-clause-done : goal.returns-in-Store-clause-done
returns-in-Store-clause-done g c = carried c.args.cpu.now _ _ _ _ _ _ _ _ (sym c.in-Store.is) (c.store_at.ensures.done c.in-Store.address)
