use Rattle.std.proofs.Common.{ℕ, ◌+◌, ◌<◌, List, ◌∷◌, drop, ap, subst, sym, ◌∙◌, arith}
use Rattle.s2_join.specs.declared.item.Item.{Item}
use Rattle.s2_join.specs.CopyOrder.{CopyState, copy_after_item, none_left}
use Rattle.s2_join.specs.HoldItems.{hold_length, hold_item, hold_items}
use Rattle.s2_join.proofs.HoldLemmas.{hold_more, hold_open, hold_copied}
use Rattle.s2_join.proofs.join.Join.next.Goals as goal

pub item_at-item-requires-clause-within : goal.item_at-item-requires-clause-within
item_at-item-requires-clause-within c =
    let left = ap (λ (j : CopyState). j.left) c.self.view_is in
    let below = hold_open c.self.inside.pages.items c.self.inside.closing c.self.inside.done c.self.invariant.done (ap none_left left ∙ c.requires) in
    subst (λ (l : List ℕ). c.self.inside.done < hold_length l c.self.inside.closing) (sym c.deref.ensures.0) below

pub invariant_of-self : goal.invariant_of-self
invariant_of-self c =
    let left = ap (λ (j : CopyState). j.left) c.self.view_is in
    let below = hold_open c.self.inside.pages.items c.self.inside.closing c.self.inside.done c.self.invariant.done (ap none_left left ∙ c.requires) in
    record {
      cursor = c.self.invariant.cursor;
      syncs = c.self.invariant.syncs;
      single_syncs = c.self.invariant.single_syncs;
      pages = c.self.invariant.pages;
      few = c.self.invariant.few;
      done = omega arith;
    }

pub returns-clause-item : goal.returns-clause-item
returns-clause-item c =
    let left = ap (λ (j : CopyState). j.left) c.self.view_is in
    let below = hold_open c.self.inside.pages.items c.self.inside.closing c.self.inside.done c.self.invariant.done (ap none_left left ∙ c.requires) in
    let word = c.item_at-item.ensures.item ∙ ap (λ (l : List ℕ). hold_item l c.self.inside.done) c.deref.ensures.0 in
    sym left ∙ (hold_more c.self.inside.pages.items c.self.inside.closing c.self.inside.done below ∙
    ap (λ (w : Item). w ∷ drop (c.self.inside.done + 1) (hold_items c.self.inside.pages.items c.self.inside.closing)) (sym word))

pub returns-clause-step : goal.returns-clause-step
returns-clause-step c =
    let left = ap (λ (j : CopyState). j.left) c.self.view_is in
    let below = hold_open c.self.inside.pages.items c.self.inside.closing c.self.inside.done c.self.invariant.done (ap none_left left ∙ c.requires) in
    hold_copied c.self.inside.joiner c.self.inside.clean c.self.inside.cursor c.self.inside.syncs c.self.inside.pages.items c.self.inside.closing c.self.inside.done below ∙ ap copy_after_item c.self.view_is
