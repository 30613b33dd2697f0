use Rattle.s2_text.proofs.ShortLines.{uncut_line, line_again, remark_again}
use Rattle.s2_script.specs.ScriptLines.{script_rows}
use Rattle.s2_script.proofs.ScriptTests.{script_disjoint, script_short, script_no_remarks}
use Rattle.s2_script.proofs.reading.read_entry.Goals as goal

pub returns-clause-read : goal.returns-clause-read
returns-clause-read c = uncut_line script_rows c.args.line.now c.front-seen.result.now c.with_remarks.result script_short c.front-seen.ensures.front (c.with_remarks.ensures script_rows c.table_line.ensures).is

pub returns-clause-entry : goal.returns-clause-entry
returns-clause-entry c =
    line_again script_rows c.args.line.now c.with_remarks.result script_disjoint script_no_remarks
    (uncut_line script_rows c.args.line.now c.front-seen.result.now c.with_remarks.result script_short c.front-seen.ensures.front (c.with_remarks.ensures script_rows c.table_line.ensures).is)

pub returns-clause-remark : goal.returns-clause-remark
returns-clause-remark c =
    remark_again script_rows c.args.line.now c.with_remarks.result script_no_remarks
    (uncut_line script_rows c.args.line.now c.front-seen.result.now c.with_remarks.result script_short c.front-seen.ensures.front (c.with_remarks.ensures script_rows c.table_line.ensures).is)
