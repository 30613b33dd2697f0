use Rattle.std.proofs.Common.{ap, sym, subst, ◌∙◌}
use Rattle.s2_duplex.specs.DuplexBoards.{pair_of, contents, IsDuplex}
use Rattle.s2_duplex.specs.MendedBoards.{board_out, IsMended}
use Rattle.s2_duplex.proofs.MendedBoards.{joined_duplex, joined_contents}
use Rattle.s2_duplex.proofs.duplex.Duplex.bring_in.Goals as goal

pub invariant_of-self : goal.invariant_of-self
invariant_of-self c =
    let out = ap board_out c.self.view_is ∙ c.requires.out in
    subst IsDuplex (sym c.join.ensures) (joined_duplex (pair_of c.self.inside.first c.self.inside.second) c.args.b out (subst (IsMended c.args.b) (sym c.self.view_is) c.requires.mended) c.self.invariant)

pub returns-clause-contents : goal.returns-clause-contents
returns-clause-contents c =
    let out = ap board_out c.self.view_is ∙ c.requires.out in
    ap contents c.join.ensures ∙ (joined_contents (pair_of c.self.inside.first c.self.inside.second) c.args.b out (subst (IsMended c.args.b) (sym c.self.view_is) c.requires.mended) c.self.invariant ∙ ap contents c.self.view_is)
