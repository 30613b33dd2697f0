use Rattle.std.proofs.Common.{◌≡◌, ◌≤◌, ◌+◌, ◌-◌, ◌++◌, length}
use Rattle.std.specs.List.{filter, range_with_len}
use Rattle.s2_join.specs.CopyOrder.{is_unclean}
use Rattle.s2_join.proofs.join.collect.Given as goal

abbrev pub invariant-loop-page : goal.invariant-loop-page
invariant-loop-page l = record {
  room : length l.pages.items ≤ length l.initial.pages.items + (l.page - l.from);
  items : l.pages.items ≡ l.initial.pages.items ++ filter (is_unclean l.clean) (range_with_len l.from (l.page - l.from));
}
