-- The table's tests.
use Rattle.std.proofs.Common.{◌≡◌, true, refl}
use Rattle.s2_text.specs.LineTables.{forms}
use Rattle.s2_text.proofs.FormTests.{are_short, are_no_remarks}
use Rattle.s2_text.proofs.DisjointForms.{are_disjoint}
use Rattle.s2_mnemonics.specs.TextTable.{text_rows}

pub text_disjoint : are_disjoint (forms text_rows) ≡ true
text_disjoint = refl

pub text_short : are_short (forms text_rows) ≡ true
text_short = refl

pub text_no_remarks : are_no_remarks (forms text_rows) ≡ true
text_no_remarks = refl
