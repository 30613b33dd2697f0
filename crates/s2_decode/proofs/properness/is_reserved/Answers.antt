-- The word that a row keeps is the one that was decoded.
use Rattle.std.proofs.Common.{refl}
use Rattle.s2_decode.proofs.TableRows.{reserved_row}
use Rattle.s2_decode.proofs.properness.is_reserved.Goals as goal

pub returns-in-Reserved : goal.returns-in-Reserved
returns-in-Reserved c = ((λ _. reserved_row c.args.word c.in-Reserved.field-0 c.in-Reserved.ensures.row), (λ _. refl))
