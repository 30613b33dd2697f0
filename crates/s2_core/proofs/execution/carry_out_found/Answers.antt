use Rattle.s2_core.proofs.execution.carry_out_found.Goals as goal

pub returns-clause-done : goal.returns-clause-done
returns-clause-done g c = rw c.remember.ensures at c.carry_out_anywhere.ensures.done
