-- The row is the table's, and each of the table's instructions is proper.
use Rattle.std.proofs.Common.{◌≡◌, rules, sym, subst}
use Rattle.s2_decode.specs.Table.{decoded}
use Rattle.s2_decode.specs.Properness.{IsProper}
use Rattle.s2_decode.proofs.TableRows.{decoded_proper}
use Rattle.s2_decode.proofs.decoding.decode.Goals as goal

pub returns-else-word-lt-SPECIAL_END-clause-proper : goal.returns-else-word-lt-SPECIAL_END-clause-proper
returns-else-word-lt-SPECIAL_END-clause-proper c =
    let row : c.coded_row.result ≡ decoded c.args.word = search rules in
    subst IsProper (sym row) (decoded_proper c.args.word)
