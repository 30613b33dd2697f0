use Rattle.s2_voter.proofs.EqualRequests.{test_is}
use Rattle.s2_private.proofs.values.is_same.Goals as goal

pub returns : goal.returns
returns c = test_is c.same.result c.args.a.now c.args.b.now c.same.ensures.equal
