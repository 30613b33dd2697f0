use Rattle.s2_core.proofs.direct_access.access_found.Goals as goal

pub returns-clause-done : goal.returns-clause-done
returns-clause-done g c = rw c.remember.ensures at c.access_anywhere.ensures.done
