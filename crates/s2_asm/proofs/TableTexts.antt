-- Texts of the table have no line feed.
use Rattle.std.proofs.Common.{◌≡◌, ℕ, true, List, refl}
use Rattle.s2_text.specs.LineGrammar.{IsTextOfOne}
use Rattle.s2_text.specs.LineTables.{forms}
use Rattle.s2_text.specs.InputLines.{IsPlain}
use Rattle.s2_text.proofs.PlainTexts.{are_plain_forms, text_plain}
use Rattle.s2_mnemonics.specs.TextTable.{text_rows}

text_rows_plain : are_plain_forms (forms text_rows) ≡ true
text_rows_plain = refl

pub line_plain : (t : List ℕ) → IsTextOfOne (forms text_rows) t → IsPlain t
line_plain t is = text_plain (forms text_rows) t text_rows_plain is
