use Rattle.std.proofs.Common.{◌<◌, ℕ, List, ◌++◌, length, get_or, ap, subst, sym, ◌∙◌, arith}
use Rattle.std.specs.Prelude.{◌-◌}
use Rattle.std.specs.List.{filter, range_with_len}
use Rattle.s2_join.specs.CopyOrder.{is_unclean}
use Rattle.s2_join.proofs.UncleanPages.{in_two, unclean_length, unclean_below}
use Rattle.s2_join.proofs.join.unclean_from.Goals as goal

pub returns-clause-items : goal.returns-clause-items
returns-clause-items c =
    c.collect-2.ensures.items ∙
    (ap (λ (l : List ℕ). l ++ filter (is_unclean c.args.clean.now) (range_with_len 0 (c.args.cursor - 0))) (c.collect.ensures.items ∙ ap (λ (l : List ℕ). l ++ filter (is_unclean c.args.clean.now) (range_with_len c.args.cursor (272 - c.args.cursor))) c.new-pages.ensures) ∙
    in_two c.args.clean.now c.args.cursor (c.args.cursor - 0) (omega arith))

pub returns-clause-count : goal.returns-clause-count
returns-clause-count c = ap length (returns-clause-items c) ∙ unclean_length c.args.clean.now c.args.cursor c.told-clean c.requires

pub returns-clause-below : goal.returns-clause-below
returns-clause-below c =
    subst (λ (l : List ℕ). (k : ℕ) → k < length l → get_or l k 0 < 272) (sym (returns-clause-items c)) (unclean_below c.args.clean.now c.args.cursor c.requires)
