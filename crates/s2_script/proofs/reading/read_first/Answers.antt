use Rattle.std.proofs.Common.{ap, inl, inr, ◌∙◌}
use Rattle.s2_text.proofs.ShortLines.{uncut_line, line_again, remark_again}
use Rattle.s2_script.specs.FirstLines.{first_answer, first_rows}
use Rattle.s2_script.specs.ScriptLines.{script_rows}
use Rattle.s2_script.proofs.FirstRows.{first_disjoint, first_no_remarks, first_short, reads_first, says_on_first}
use Rattle.s2_script.proofs.reading.read_first.Goals as goal

pub returns-clause-read : goal.returns-clause-read
returns-clause-read c =
    rw c.answer.ensures (reads_first c.args.line.now c.with_remarks.result
    (uncut_line first_rows c.args.line.now c.front-held.result.now c.with_remarks.result first_short c.front-held.ensures.front (c.with_remarks.ensures first_rows c.first_line.ensures).is))

pub returns-clause-frame : goal.returns-clause-frame
returns-clause-frame c = λ frame says.
    c.answer.ensures ∙ ap first_answer
    (line_again first_rows c.args.line.now c.with_remarks.result first_disjoint first_no_remarks
    (uncut_line first_rows c.args.line.now c.front-held.result.now c.with_remarks.result first_short c.front-held.ensures.front (c.with_remarks.ensures first_rows c.first_line.ensures).is) _ (inl says))

pub returns-clause-entry : goal.returns-clause-entry
returns-clause-entry c = λ e says.
    c.answer.ensures ∙ ap first_answer
    (line_again first_rows c.args.line.now c.with_remarks.result first_disjoint first_no_remarks
    (uncut_line first_rows c.args.line.now c.front-held.result.now c.with_remarks.result first_short c.front-held.ensures.front (c.with_remarks.ensures first_rows c.first_line.ensures).is) _ (inr (says_on_first script_rows e c.args.line.now says)))

pub returns-clause-remark : goal.returns-clause-remark
returns-clause-remark c = λ remark.
    c.answer.ensures ∙ ap first_answer
    (remark_again first_rows c.args.line.now c.with_remarks.result first_no_remarks
    (uncut_line first_rows c.args.line.now c.front-held.result.now c.with_remarks.result first_short c.front-held.ensures.front (c.with_remarks.ensures first_rows c.first_line.ensures).is) remark)
