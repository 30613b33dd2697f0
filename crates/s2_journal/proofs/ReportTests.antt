-- The tests of the table.
use Rattle.std.proofs.Common.{◌≡◌, true, refl}
use Rattle.s2_text.specs.LineTables.{forms}
use Rattle.s2_text.proofs.FormTests.{are_short}
use Rattle.s2_text.proofs.DisjointForms.{are_disjoint}
use Rattle.s2_journal.specs.ReportLines.{report_rows}

pub report_disjoint : are_disjoint (forms report_rows) ≡ true
report_disjoint = refl

pub report_short : are_short (forms report_rows) ≡ true
report_short = refl
