use Rattle.std.proofs.Common.{◌++◌}
use Rattle.s2_text.proofs.TableRows.{rows_join}
use Rattle.s2_mnemonics.specs.TextTable.{direct_rows, three_rows, variable_shift_rows, shift_rows, immediate_rows, division_rows, move_rows, jump_rows, branch_on_two_rows, branch_on_one_rows, memory_rows, coprocessor_rows, named_rows}
use Rattle.s2_mnemonics.proofs.reading.table_line.Goals as goal

pub returns : goal.returns
returns c =
    rows_join direct_rows (three_rows ++ variable_shift_rows ++ shift_rows ++ immediate_rows ++ division_rows ++ move_rows ++ jump_rows ++ branch_on_two_rows ++ branch_on_one_rows ++ memory_rows ++ coprocessor_rows ++ named_rows) _ _ _ _ c.direct_line.ensures
    (rows_join three_rows (variable_shift_rows ++ shift_rows ++ immediate_rows ++ division_rows ++ move_rows ++ jump_rows ++ branch_on_two_rows ++ branch_on_one_rows ++ memory_rows ++ coprocessor_rows ++ named_rows) _ _ _ _ c.three_line.ensures
    (rows_join variable_shift_rows (shift_rows ++ immediate_rows ++ division_rows ++ move_rows ++ jump_rows ++ branch_on_two_rows ++ branch_on_one_rows ++ memory_rows ++ coprocessor_rows ++ named_rows) _ _ _ _ c.variable_shift_line.ensures
    (rows_join shift_rows (immediate_rows ++ division_rows ++ move_rows ++ jump_rows ++ branch_on_two_rows ++ branch_on_one_rows ++ memory_rows ++ coprocessor_rows ++ named_rows) _ _ _ _ c.shift_line.ensures
    (rows_join immediate_rows (division_rows ++ move_rows ++ jump_rows ++ branch_on_two_rows ++ branch_on_one_rows ++ memory_rows ++ coprocessor_rows ++ named_rows) _ _ _ _ c.immediate_line.ensures
    (rows_join division_rows (move_rows ++ jump_rows ++ branch_on_two_rows ++ branch_on_one_rows ++ memory_rows ++ coprocessor_rows ++ named_rows) _ _ _ _ c.division_line.ensures
    (rows_join move_rows (jump_rows ++ branch_on_two_rows ++ branch_on_one_rows ++ memory_rows ++ coprocessor_rows ++ named_rows) _ _ _ _ c.move_line.ensures
    (rows_join jump_rows (branch_on_two_rows ++ branch_on_one_rows ++ memory_rows ++ coprocessor_rows ++ named_rows) _ _ _ _ c.jump_line.ensures
    (rows_join branch_on_two_rows (branch_on_one_rows ++ memory_rows ++ coprocessor_rows ++ named_rows) _ _ _ _ c.branch_on_two_line.ensures
    (rows_join branch_on_one_rows (memory_rows ++ coprocessor_rows ++ named_rows) _ _ _ _ c.branch_on_one_line.ensures
    (rows_join memory_rows (coprocessor_rows ++ named_rows) _ _ _ _ c.memory_line.ensures
    (rows_join coprocessor_rows (named_rows) _ _ _ _ c.coprocessor_line.ensures
    c.named_line-found.ensures c.either-found.ensures) c.either-found-2.ensures) c.either-found-3.ensures) c.either-found-4.ensures) c.either-found-5.ensures) c.either-found-6.ensures) c.either-found-7.ensures) c.either-found-8.ensures) c.either-found-9.ensures) c.either-found-10.ensures) c.either-found-11.ensures) c.either.ensures
