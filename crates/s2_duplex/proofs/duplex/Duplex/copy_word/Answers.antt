use Rattle.std.proofs.Common.{ap, sym, subst, ◌∙◌}
use Rattle.std.specs.Prelude.{slice_index_or}
use Rattle.s2_duplex.specs.DuplexBoards.{BoardPair, pair_of, board_word, contents, has_parity, IsDuplex}
use Rattle.s2_duplex.specs.MendedBoards.{board_of, board_out}
use Rattle.s2_duplex.proofs.MendedBoards.{copied_duplex, copied_contents, copied_word}
use Rattle.s2_duplex.proofs.duplex.Duplex.copy_word.Goals as goal

pub invariant_of-self : goal.invariant_of-self
invariant_of-self c =
    let out = ap board_out c.self.view_is ∙ c.requires.out in
    subst IsDuplex (sym c.copy_to.ensures) (copied_duplex (pair_of c.self.inside.first c.self.inside.second) c.args.b c.args.i out c.self.invariant)

pub returns-clause-contents : goal.returns-clause-contents
returns-clause-contents c =
    let out = ap board_out c.self.view_is ∙ c.requires.out in
    ap contents c.copy_to.ensures ∙ (copied_contents (pair_of c.self.inside.first c.self.inside.second) c.args.b c.args.i out c.self.invariant ∙ ap contents c.self.view_is)

pub returns-clause-word : goal.returns-clause-word
returns-clause-word c =
    ap (λ (s : BoardPair). board_word (board_of c.args.b s) c.args.i) c.copy_to.ensures
    ∙ ((copied_word (pair_of c.self.inside.first c.self.inside.second) c.args.b c.args.i c.requires.i c.self.invariant).0 ∙ ap (λ (s : BoardPair). slice_index_or (contents s) c.args.i 0) c.self.view_is)

pub returns-clause-parity : goal.returns-clause-parity
returns-clause-parity c =
    ap (λ (s : BoardPair). has_parity (board_of c.args.b s) c.args.i) c.copy_to.ensures
    ∙ (copied_word (pair_of c.self.inside.first c.self.inside.second) c.args.b c.args.i c.requires.i c.self.invariant).1
