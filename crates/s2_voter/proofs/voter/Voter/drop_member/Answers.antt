use Rattle.s2_voter.proofs.VoterInvariant.{refilled, member_dropped}
use Rattle.s2_voter.proofs.voter.Voter.drop_member.Goals as goal

pub invariant_of-self : goal.invariant_of-self
invariant_of-self c =
    rw (c.remaining-self-inside.ensures, c.has_two.ensures, c.as_slice.ensures.value, c.deref_mut.ensures.value, refilled) (member_dropped _ c.args.p c.requires c.self.invariant)

pub returns-clause-kept : goal.returns-clause-kept
returns-clause-kept c =
    rw (c.remaining-self-inside.ensures, c.has_two.ensures, c.as_slice.ensures.value, c.deref_mut.ensures.value, refilled) (member_dropped _ c.args.p c.requires c.self.invariant)
