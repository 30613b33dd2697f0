-- The tests of the table.
use Rattle.std.proofs.Common.{◌≡◌, true, refl}
use Rattle.s2_text.specs.LineTables.{forms}
use Rattle.s2_text.proofs.FormTests.{are_short, are_no_remarks}
use Rattle.s2_text.proofs.DisjointForms.{are_disjoint}
use Rattle.s2_script.specs.ScriptLines.{script_rows}

pub script_disjoint : are_disjoint (forms script_rows) ≡ true
script_disjoint = refl

pub script_short : are_short (forms script_rows) ≡ true
script_short = refl

pub script_no_remarks : are_no_remarks (forms script_rows) ≡ true
script_no_remarks = refl
