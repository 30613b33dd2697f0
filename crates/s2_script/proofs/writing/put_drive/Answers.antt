use Rattle.std.proofs.Common.{append_assoc}
use Rattle.std.proofs.lemmas.List.{append-nil}
use Rattle.s2_script.proofs.writing.put_drive.Goals as goal

pub returns : goal.returns
returns c = rw (c.and_dec-2.ensures.text, c.and_dec.ensures.text, c.and_dec-line.ensures.text, c.put_request-line.ensures.text) (simp (append_assoc, append-nil))
