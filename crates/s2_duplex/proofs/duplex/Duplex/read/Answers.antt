use Rattle.std.proofs.Common.{ap, sym, subst, ◌∙◌}
use Rattle.std.specs.Prelude.{slice_index}
use Rattle.s2_duplex.specs.DuplexBoards.{BoardPair, pair_of, contents, word_in, IsDuplex}
use Rattle.s2_duplex.proofs.DuplexInvariant.{read_duplex, read_contents, read_word}
use Rattle.s2_duplex.proofs.duplex.Duplex.read.Goals as goal

pub invariant_of-self : goal.invariant_of-self
invariant_of-self c =
    subst IsDuplex (sym c.repair-repaired.ensures.boards) (read_duplex (pair_of c.self.inside.first c.self.inside.second) c.args.i c.requires c.self.invariant)

pub returns-clause-word : goal.returns-clause-word
returns-clause-word c =
    c.word_of-word.ensures ∙
    (ap (λ (s : BoardPair). word_in s c.args.i) c.repair-repaired.ensures.boards ∙
    (read_word (pair_of c.self.inside.first c.self.inside.second) c.args.i c.requires c.self.invariant ∙ ap (λ (s : BoardPair). slice_index (contents s) c.args.i) c.self.view_is))

pub returns-clause-contents : goal.returns-clause-contents
returns-clause-contents c =
    ap contents c.repair-repaired.ensures.boards ∙
    (read_contents (pair_of c.self.inside.first c.self.inside.second) c.args.i c.requires c.self.invariant ∙ ap contents c.self.view_is)
