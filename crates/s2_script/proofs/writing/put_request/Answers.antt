use Rattle.std.proofs.Common.{append_assoc}
use Rattle.s2_script.proofs.writing.put_request.Goals as goal

pub returns-clause-text : goal.returns-clause-text
returns-clause-text c = rw (c.and_hex-2.ensures.text, c.and_hex.ensures.text, c.and_word-line.ensures.text, c.kind_word.ensures.word, c.and_dec.ensures.text, c.start.ensures) (simp append_assoc)
