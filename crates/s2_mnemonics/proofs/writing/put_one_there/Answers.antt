use Rattle.std.proofs.Common.{◌∙◌, append_assoc}
use Rattle.s2_mnemonics.proofs.writing.put_one_there.Goals as goal

pub returns : goal.returns
returns c = c.put_next_address.ensures ∙ (rw c.put_first.ensures.text (simp append_assoc))
