use Rattle.std.proofs.Common.{sym, ◌∙◌, arith}
use Rattle.std.specs.Prelude.{string_bytes, codes}
use Rattle.std.proofs.lemmas.Slice.Eq.{bytes_eq-Decides}
use Rattle.s2_run.proofs.WordLists.{one_word}
use Rattle.s2_run.proofs.words.command_of.Goals as goal

pub returns-then-eq-clause-words : goal.returns-then-eq-clause-words
returns-then-eq-clause-words c =
    one_word string_bytes c.args.words.now c.command-item.result (codes "check") (omega arith) (omega arith) c.command-item.is
    (sym c.as_str.ensures.value ∙ (bytes_eq-Decides c.as_str.result.now (codes "check")).0 (sym c.eq.ensures ∙ c.if-eq.true))
