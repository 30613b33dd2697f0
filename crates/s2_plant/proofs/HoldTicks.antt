-- A tick of a hold, by the word that is copied next; and a tick by whether the machine holds.
use Rattle.std.proofs.Common.{◌≡◌, ℕ, ◌+◌, List, [], ◌∷◌, ap, refl}
use Rattle.std.specs.Prelude.{Bool, true, false, Some, None, ◌==◌, if◌then◌else◌}
use Rattle.std.specs.declared.option.Option.{Option}
use Rattle.s2_join.specs.declared.item.Item.{Item}
use Rattle.s2_join.specs.declared.item.Item.TheVariants.{Local, Saved}
use Rattle.s2_triplex.specs.TriplexCores.{TriplexCore}
use Rattle.s2_triplex.specs.TriplexState.{TriplexState, Reintegration}
use Rattle.s2_triplex.specs.VoterDecision.{StepResult, no_effects}
use Rattle.s2_triplex.specs.CopyHolds.{is_holding, copied, item_copied, after_hold_tick}
use Rattle.s2_triplex.specs.TickStep.{after_working_tick, ticked}
use Rattle.s2_triplex.specs.StepTurns.{hold_notes, copy_notes, joined_notes_if, hold_turn, working_turn, tick_turn}
use Rattle.s2_plant.specs.StepParts.{first_copied, first_item, item_copied_by, copied_note}

clash : false ≡ true → ⊥
clash h = cc

by_item : (d : TriplexState) (j : Reintegration) (left : List Item) → is_holding (Some (record j { copying = record j.copying { left = left } })) ≡ true → item_copied d j left ≡ item_copied_by d j (first_item left)
by_item d j [] h = absurd (clash h)
by_item d j (Local i ∷ left) h = refl
by_item d j (Saved n ∷ left) h = refl

pub copied_first : (d : TriplexState) (o : Option Reintegration) → is_holding o ≡ true → copied d o ≡ first_copied d o
copied_first d None h = absurd (clash h)
copied_first d (Some j) h = by_item d j j.copying.left h

by_note : (tick : ℕ) (j : Reintegration) (left : List Item) → is_holding (Some (record j { copying = record j.copying { left = left } })) ≡ true → copy_notes tick j left ≡ copied_note tick (Some (record j { copying = record j.copying { left = left } }))
by_note tick j [] h = absurd (clash h)
by_note tick j (Local i ∷ left) h = refl
by_note tick j (Saved n ∷ left) h = by_test (n + 1 == 176)
  where
    by_test : (b : Bool) → joined_notes_if b tick j ≡ joined_notes_if b tick (record j { copying = record j.copying { left = Saved n ∷ left } })
    by_test true = refl
    by_test false = refl

pub noted_first : (tick : ℕ) (o : Option Reintegration) → is_holding o ≡ true → hold_notes tick o ≡ copied_note tick o
noted_first tick None h = absurd (clash h)
noted_first tick (Some j) h = by_note tick j j.copying.left h

pub tick_of_hold : (k : TriplexCore) (d : TriplexState) (mask : ℕ) → is_holding d.reintegration ≡ true → ((ticked k d mask).next ≡ after_hold_tick d mask) × (tick_turn k d mask ≡ hold_turn d)
tick_of_hold k d mask h = (
  ap (λ (b : Bool). (if b then (let s : StepResult = record { next = after_hold_tick d mask; effects = no_effects } in s) else after_working_tick k d mask).next) h,
  ap (λ (b : Bool). if b then hold_turn d else working_turn k d mask) h,
)

pub tick_of_work : (k : TriplexCore) (d : TriplexState) (mask : ℕ) → is_holding d.reintegration ≡ false → ((ticked k d mask).next ≡ (after_working_tick k d mask).next) × (tick_turn k d mask ≡ working_turn k d mask)
tick_of_work k d mask h = (
  ap (λ (b : Bool). (if b then (let s : StepResult = record { next = after_hold_tick d mask; effects = no_effects } in s) else after_working_tick k d mask).next) h,
  ap (λ (b : Bool). if b then hold_turn d else working_turn k d mask) h,
)
