use Rattle.std.proofs.Common.{ℕ, ◌*◌, ◌%◌, ap, sym, ◌∙◌}
use Rattle.s2_base.specs.declared.places.Place.TheVariants.{Local}
use Rattle.s2_core.specs.declared.reach.Reach.TheVariants.{At}
use Rattle.s2_core.specs.TestOrder.{reached_step}
use Rattle.s2_core.proofs.NearWords.{accessed_near}
use Rattle.s2_core.proofs.recalled.local_access.Goals as goal

pub returns-then-accesses_near-clause-reached : goal.returns-then-accesses_near-clause-reached
returns-then-accesses_near-clause-reached c = λ rt.
    ap (λ (i : ℕ). reached_step c.args.cpu.now c.args.op rt (c.args.va % 4) (At (i * 4) (Local i))) c.near_index.ensures.index
    ∙ accessed_near c.args.cpu.now c.args.op rt c.args.va (sym c.accesses_near.ensures ∙ c.if-accesses_near.true)
