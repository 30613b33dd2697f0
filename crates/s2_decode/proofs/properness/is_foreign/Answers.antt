-- The word that a row keeps is the one that was decoded.
use Rattle.s2_decode.proofs.TableRows.{foreign_row}
use Rattle.s2_decode.proofs.properness.is_foreign.Goals as goal

pub returns-in-Foreign : goal.returns-in-Foreign
returns-in-Foreign c = foreign_row c.args.word c.in-Foreign.number c.in-Foreign.word c.args.unit c.in-Foreign.ensures.row
