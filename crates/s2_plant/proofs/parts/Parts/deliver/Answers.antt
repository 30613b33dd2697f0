use Rattle.std.proofs.Common.{◌≡◌, ℕ, ◌≤◌, List, length, subst, sym, ◌∙◌}
use Rattle.std.specs.Prelude.{true}
use Rattle.s2_voter.specs.Verdicts.{is_shared}
use Rattle.s2_triplex.specs.TriplexState.{TriplexState}
use Rattle.s2_plant.proofs.AgreedCounts.{two_seen}
use Rattle.s2_plant.proofs.parts.Parts.deliver.Goals as goal

pub agreed-count-requires-clause-two : goal.agreed-count-requires-clause-two
agreed-count-requires-clause-two c =
    let shared = subst (λ (d : TriplexState). is_shared d.voter.latches c.args.request.now ≡ true) (sym c.self.view_is) c.requires.shared in
    subst (λ (ns : List ℕ). 2 ≤ length ns) (sym (c.as_slice.ensures.value ∙ c.seen_counts-seen.ensures.seen)) (two_seen c.self.inside.voter c.args.request.now c.seen_counts-seen.ensures.voter shared)
