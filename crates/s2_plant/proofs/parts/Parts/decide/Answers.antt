use Rattle.std.proofs.Common.{ap, sym, ◌∙◌}
use Rattle.s2_voter.specs.Verdicts.{verdict_of}
use Rattle.s2_triplex.specs.TriplexState.{TriplexState}
use Rattle.s2_triplex_laws.proofs.VoterTurn.{named_in}
use Rattle.s2_plant.proofs.AgreedCounts.{decision_shared}
use Rattle.s2_plant.proofs.parts.Parts.decide.Goals as goal

pub finish-requires-clause-shared : goal.finish-requires-clause-shared
finish-requires-clause-shared c = decision_shared c.args.self.now.voter c.in-Done.request c.in-Done.differ c.in-Done.late (sym (c.in-Done.ensures ∙ ap (λ (d : TriplexState). verdict_of d.voter) c.self.view_is))

pub finish-requires-clause-differ : goal.finish-requires-clause-differ
finish-requires-clause-differ c = (named_in c.args.self.now.voter c.in-Done.request c.in-Done.differ c.in-Done.late (sym (c.in-Done.ensures ∙ ap (λ (d : TriplexState). verdict_of d.voter) c.self.view_is))).0

pub finish-requires-clause-late : goal.finish-requires-clause-late
finish-requires-clause-late c = (named_in c.args.self.now.voter c.in-Done.request c.in-Done.differ c.in-Done.late (sym (c.in-Done.ensures ∙ ap (λ (d : TriplexState). verdict_of d.voter) c.self.view_is))).1
