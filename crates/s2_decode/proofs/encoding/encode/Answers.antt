-- The word is the one that the encoder makes, and that is the least.
use Rattle.s2_decode.proofs.TableRows.{encoded_least}
use Rattle.s2_decode.proofs.encoding.encode.Goals as goal

pub returns-clause-least : goal.returns-clause-least
returns-clause-least c w row = encoded_least c.word_of.result w c.args.i.now c.word_of.ensures.word row
