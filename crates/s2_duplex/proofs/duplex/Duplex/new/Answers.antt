use Rattle.s2_duplex.proofs.DuplexInvariant.{new_duplex, new_contents}
use Rattle.s2_duplex.proofs.duplex.Duplex.new.Goals as goal

pub invariant_of-result : goal.invariant_of-result
invariant_of-result c = rw (c.in_ok-first.ensures, c.in_ok-second.ensures) (new_duplex c.args.words.now c.requires)

pub returns-clause-contents : goal.returns-clause-contents
returns-clause-contents c = rw (c.in_ok-first.ensures, c.in_ok-second.ensures) (new_contents c.args.words.now)
