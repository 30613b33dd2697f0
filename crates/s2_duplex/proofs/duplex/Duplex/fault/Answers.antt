use Rattle.std.proofs.Common.{◌≡◌, ap, sym, subst, ◌∙◌, rules}
use Rattle.std.specs.Prelude.{true}
use Rattle.s2_duplex.specs.DuplexBoards.{pair_of, contents, IsDuplex}
use Rattle.s2_duplex.specs.ToleratedFaults.{is_tolerated}
use Rattle.s2_duplex.proofs.DuplexInvariant.{struck_duplex, struck_contents}
use Rattle.s2_duplex.proofs.duplex.Duplex.fault.Goals as goal

pub invariant_of-self : goal.invariant_of-self
invariant_of-self c =
    let s = pair_of c.self.inside.first c.self.inside.second in
    let tolerated : is_tolerated s c.args.fault.now ≡ true = search rules in
    subst IsDuplex (sym c.strike.ensures) (struck_duplex s c.args.fault.now c.requires tolerated c.self.invariant)

pub returns-then-tolerates-clause-contents : goal.returns-then-tolerates-clause-contents
returns-then-tolerates-clause-contents c =
    let s = pair_of c.self.inside.first c.self.inside.second in
    let tolerated : is_tolerated s c.args.fault.now ≡ true = search rules in
    ap contents c.strike.ensures ∙ (struck_contents s c.args.fault.now c.requires tolerated c.self.invariant ∙ ap contents c.self.view_is)
