use Rattle.std.proofs.Common.{arith, sym, ◌∙◌}
use Rattle.std.proofs.lemmas.Fmt.{decimal_injective}
use Rattle.s2_run.proofs.words.workload.Goals as goal

pub returns-else-n-ge1-clause-none : goal.returns-else-n-ge1-clause-none
returns-else-n-ge1-clause-none c = λ n h.
    let same = decimal_injective n c.in-Some.n (omega (arith, h.last)) (omega (arith, c.in-Some.ensures.found.most)) (sym h.text ∙ (sym c.as_bytes.ensures.value ∙ c.in-Some.ensures.found.is)) in
    omega (arith, same, h.first)

pub returns-in-None-clause-none : goal.returns-in-None-clause-none
returns-in-None-clause-none c = λ n h. c.in-None.ensures.none n (record { most = h.last; is = c.as_bytes.ensures.value ∙ h.text })
