use Rattle.s2_triplex_laws.proofs.VoterTurn.{members_leave}
use Rattle.s2_triplex_laws.proofs.calls.members_leave_by_calls.Goals as goal

pub returns : goal.returns
returns c = members_leave
