use Rattle.s2_text.proofs.ShortLines.{uncut_line, line_again}
use Rattle.s2_mnemonics.specs.TextTable.{text_rows}
use Rattle.s2_mnemonics.proofs.Tables.{text_disjoint, text_short, text_no_remarks}
use Rattle.s2_mnemonics.proofs.reading.read_line.Goals as goal

pub returns-clause-read : goal.returns-clause-read
returns-clause-read c = uncut_line text_rows c.args.line.now c.front-seen.result.now c.with_remarks.result text_short c.front-seen.ensures.front (c.with_remarks.ensures text_rows c.table_line.ensures).is

pub returns-clause-again : goal.returns-clause-again
returns-clause-again c = line_again text_rows c.args.line.now c.with_remarks.result text_disjoint text_no_remarks (uncut_line text_rows c.args.line.now c.front-seen.result.now c.with_remarks.result text_short c.front-seen.ensures.front (c.with_remarks.ensures text_rows c.table_line.ensures).is)
