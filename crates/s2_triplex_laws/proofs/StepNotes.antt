-- The notes of a step tell its deliveries, and are few.
use Rattle.std.proofs.Common.{◌≡◌, ℕ, suc, ◌+◌, ◌-◌, ◌≤◌, List, [], ◌∷◌, ◌++◌, length, take, refl, sym, ap, subst, ◌∙◌, arith, length-append, length-take}
use Rattle.std.specs.Prelude.{Bool, true, false, nat_lt, Some, None, if◌then◌else◌}
use Rattle.std.specs.declared.option.Option.{Option}
use Rattle.s2_ports.specs.declared.events.Event.{Event}
use Rattle.s2_ports.specs.declared.events.BoardFault.{BoardFault}
use Rattle.s2_ports.specs.declared.events.BoardFault.TheVariants.{Dead, Flip}
use Rattle.s2_ports.specs.declared.requests.Request.{Request}
use Rattle.s2_ports.specs.declared.requests.Kind.{Kind}
use Rattle.s2_ports.specs.declared.requests.Kind.TheVariants.{Load, Store, Sync}
use Rattle.s2_agree.specs.declared.counts.TheConstants.{DELIVERY_LIMIT}
use Rattle.s2_agree.specs.AgreedCount.{agreed_count}
use Rattle.s2_voter.specs.declared.verdicts.Verdict.{Verdict}
use Rattle.s2_voter.specs.declared.verdicts.Verdict.TheVariants.{Waiting, Done, Split}
use Rattle.s2_revive.specs.MendingBoards.{mended_by, mending_begins}
use Rattle.s2_join.specs.declared.item.Item.{Item}
use Rattle.s2_join.specs.CopyOrder.{is_last_item}
use Rattle.s2_script.specs.declared.entry.Act.{Act}
use Rattle.s2_script.specs.declared.entry.Act.TheVariants.{Event as EventAct, Poke, PokeLocal, Drive, Mute, Remove, Revive, Board, Mend}
use Rattle.s2_journal.specs.declared.note.Why.{Why}
use Rattle.s2_journal.specs.declared.note.Why.TheVariants.{Differ, Late, Removed}
use Rattle.s2_journal.specs.declared.note.Note.{Note}
use Rattle.s2_journal.specs.declared.note.Note.TheVariants.{Out, Lost, Mend as MendNote, Join}
use Rattle.s2_machine.specs.declared.deliveries.Delivery.{Delivery}
use Rattle.s2_machine.specs.MachineRun.{bytes_of, core_machine_run}
use Rattle.s2_triplex.specs.declared.numbers.TheConstants.{INBOX_EVENTS}
use Rattle.s2_triplex.specs.TriplexCores.{TriplexCore}
use Rattle.s2_triplex.specs.TriplexState.{TriplexState, Reintegration, membership_at, is_out}
use Rattle.s2_triplex.specs.ReferenceMachine.{reference, runs}
use Rattle.s2_triplex.specs.VotedAccess.{RepairedWord, deliveries_at, seen_in, private_values, private_events, access_of_kind}
use Rattle.s2_private.specs.PrivateValues.{gathered}
use Rattle.s2_base.specs.Map.{place_at}
use Rattle.s2_machine.specs.PrivateArea.{is_private_place}
use Rattle.s2_triplex.specs.TickFirings.{after_firings}
use Rattle.s2_triplex.specs.VoterDecision.{StepEffects, no_effects, after_verdict, tick_verdict, is_idle_verdict}
use Rattle.s2_triplex.specs.CopyHolds.{is_holding, after_hold_tick}
use Rattle.s2_triplex.specs.TickStep.{after_working_tick}
use Rattle.s2_triplex.specs.ActStep.{is_revivable}
use Rattle.s2_triplex.specs.StepTurns.{out_notes, repair_notes, delivery_notes, effect_notes, mended_notes, turn_notes, joined_notes_if, copy_notes, hold_notes, working_turn, hold_turn, board_notes, act_notes}
use Rattle.s2_triplex_laws.specs.ReferenceAdvance.{DueUpTo, DueFrom}
use Rattle.s2_triplex_laws.specs.declared.notes.TheConstants.{TURN_NOTES}
use Rattle.s2_triplex_laws.specs.StepNotes.{deliveries_in, TurnTells, TickTurnTells, ActTurnTells, TurnTellsAdvance}

-- the deliveries among the notes of a voter's turn
delivered_in : (ds : List Delivery) → deliveries_in (delivery_notes ds) ≡ ds
delivered_in [] = refl
delivered_in (d ∷ ds) = ap (λ (xs : List Delivery). d ∷ xs) (delivered_in ds)

out_in : (tick : ℕ) (why : Why) (p : Option ℕ) (ns : List Note) → deliveries_in (out_notes tick why p ++ ns) ≡ deliveries_in ns
out_in tick why None ns = refl
out_in tick why (Some p) ns = refl

repair_in : (tick : ℕ) (word : Option RepairedWord) (ns : List Note) → deliveries_in (repair_notes tick word ++ ns) ≡ deliveries_in ns
repair_in tick None ns = refl
repair_in tick (Some word) ns = refl

effects_in : (tick : ℕ) (e : StepEffects) → deliveries_in (effect_notes tick e) ≡ e.deliveries
effects_in tick e =
    out_in tick Differ e.differ (out_notes tick Late e.late ++ (repair_notes tick e.repaired ++ delivery_notes e.deliveries)) ∙
    (out_in tick Late e.late (repair_notes tick e.repaired ++ delivery_notes e.deliveries) ∙
    (repair_in tick e.repaired (delivery_notes e.deliveries) ∙ delivered_in e.deliveries))

-- how many they are
delivered_length : (ds : List Delivery) → length (delivery_notes ds) ≡ length ds
delivered_length [] = refl
delivered_length (d ∷ ds) = ap suc (delivered_length ds)

out_length : (tick : ℕ) (why : Why) (p : Option ℕ) → length (out_notes tick why p) ≤ 1
out_length tick why None = omega arith
out_length tick why (Some p) = omega arith

repair_length : (tick : ℕ) (word : Option RepairedWord) → length (repair_notes tick word) ≤ 1
repair_length tick None = omega arith
repair_length tick (Some word) = omega arith

pub effects_length : (tick : ℕ) (e : StepEffects) → length e.deliveries ≤ DELIVERY_LIMIT → length (effect_notes tick e) ≤ DELIVERY_LIMIT + 3
effects_length tick e few =
    let a = out_length tick Differ e.differ in
    let b = out_length tick Late e.late in
    let c = repair_length tick e.repaired in
    let d = delivered_length e.deliveries in
    let x = length-append (repair_notes tick e.repaired) (delivery_notes e.deliveries) in
    let y = length-append (out_notes tick Late e.late) (repair_notes tick e.repaired ++ delivery_notes e.deliveries) in
    let z = length-append (out_notes tick Differ e.differ) (out_notes tick Late e.late ++ (repair_notes tick e.repaired ++ delivery_notes e.deliveries)) in
    omega arith

-- a frame's end delivers few events
deliveries_length : (run : ℕ) (es : List Event) → length (deliveries_at run es) ≡ length es
deliveries_length run [] = refl
deliveries_length run (e ∷ es) = ap suc (deliveries_length run es)

take_length : (n : ℕ) (es : List Event) → length (take n es) ≤ n
take_length n es = let e = length-take n es in omega arith

pub count_fits : (seen : List ℕ) (delivered : ℕ) → agreed_count seen delivered - delivered ≤ DELIVERY_LIMIT
count_fits seen delivered = omega arith

one_private : (b : Bool) (event : Event) → length (if b then event ∷ [] else []) ≤ 1
one_private true event = omega arith
one_private false event = omega arith

pub access_length : (k : TriplexCore) (d : TriplexState) (r : Request) (kind : Kind) → length (access_of_kind k d r kind).deliveries ≤ DELIVERY_LIMIT
access_length k d r Sync =
    let count = agreed_count (seen_in d.voter r) d.delivered in
    let a = count_fits (seen_in d.voter r) d.delivered in
    let b = take_length (count - d.delivered) d.inbox in
    let c = deliveries_length r.run (take (count - d.delivered) d.inbox) in
    omega arith
access_length k d r Load = omega arith
access_length k d r Store =
    let a = one_private (is_private_place (place_at r.address)) (gathered d.voter r (private_values d.modules)) in
    let b = deliveries_length r.run (private_events d r Store) in
    omega arith

pub verdict_length : (k : TriplexCore) (d : TriplexState) (v : Verdict) → length (after_verdict k d v).effects.deliveries ≤ DELIVERY_LIMIT
verdict_length k d Waiting = omega arith
verdict_length k d Split = omega arith
verdict_length k d (Done r differ late) = access_length k d r r.kind

-- the notes of a voter's turn, be it idle or not
mended_few : (tick : ℕ) (mended : Option ℕ) → (deliveries_in (mended_notes tick mended) ≡ []) × (length (mended_notes tick mended) ≤ 1)
mended_few tick None = (refl, omega arith)
mended_few tick (Some board) = (refl, omega arith)

record TurnNotesTell (notes : List Note) (effects : StepEffects) : Type 0 where
  deliveries : deliveries_in notes ≡ effects.deliveries
  few : length notes ≤ TURN_NOTES

turn_tells_effects : (k : TriplexCore) (d : TriplexState) (tick : ℕ) (mended : Option ℕ) (v : Verdict) → TurnNotesTell (turn_notes (is_idle_verdict v) tick mended (after_verdict k d v).effects) (after_verdict k d v).effects
turn_tells_effects k d tick mended Waiting = let few = mended_few tick mended in let short = few.1 in record { deliveries = few.0; few = omega arith }
turn_tells_effects k d tick mended Split = let few = mended_few tick mended in let short = few.1 in record { deliveries = few.0; few = omega arith }
turn_tells_effects k d tick mended (Done r differ late) =
    let e = (after_verdict k d (Done r differ late)).effects in
    let short = effects_length tick e (verdict_length k d (Done r differ late)) in
    record { deliveries = effects_in tick e; few = omega arith }

-- the note of a hold
joined_few : (b : Bool) (tick : ℕ) (j : Reintegration) → (deliveries_in (joined_notes_if b tick j) ≡ []) × (length (joined_notes_if b tick j) ≤ 1)
joined_few true tick j = (refl, omega arith)
joined_few false tick j = (refl, omega arith)

copy_few : (tick : ℕ) (j : Reintegration) (items : List Item) → (deliveries_in (copy_notes tick j items) ≡ []) × (length (copy_notes tick j items) ≤ 1)
copy_few tick j [] = (refl, omega arith)
copy_few tick j (item ∷ left) = joined_few (is_last_item item) tick j

hold_few : (tick : ℕ) (o : Option Reintegration) → (deliveries_in (hold_notes tick o) ≡ []) × (length (hold_notes tick o) ≤ 1)
hold_few tick None = (refl, omega arith)
hold_few tick (Some j) = copy_few tick j j.copying.left

-- a tick
pub tick_tells : TickTurnTells
tick_tells k d mask = by_hold (is_holding d.reintegration)
  where
    by_hold : (b : Bool) → TurnTells (if b then hold_turn d else working_turn k d mask) (if b then record { next = after_hold_tick d mask; effects = no_effects } else after_working_tick k d mask).effects
    by_hold true =
        let few = hold_few (d.ticks + 1) d.reintegration in
        let short = few.1 in
        record { deliveries = few.0; out = refl; few = omega arith }
    by_hold false =
        let tells = turn_tells_effects k (after_firings k d mask) (d.ticks + 1) (mended_by d.boards.mending) (tick_verdict k d mask) in
        record { deliveries = tells.deliveries; out = refl; few = tells.few }

-- an act
one_if : (b : Bool) (ns : List Note) → deliveries_in ns ≡ [] → length ns ≤ 1 → (deliveries_in (if b then [] else ns) ≡ []) × (length (if b then [] else ns) ≤ 1)
one_if true ns none few = (refl, omega arith)
one_if false ns none few = (none, few)

only_if : (b : Bool) (ns : List Note) → deliveries_in ns ≡ [] → length ns ≤ 1 → (deliveries_in (if b then ns else []) ≡ []) × (length (if b then ns else []) ≤ 1)
only_if true ns none few = (none, few)
only_if false ns none few = (refl, omega arith)

board_few : (tick : ℕ) (fault : BoardFault) → (deliveries_in (board_notes tick fault) ≡ []) × (length (board_notes tick fault) ≤ 1)
board_few tick (Dead board) = (refl, omega arith)
board_few tick (Flip board index bit) = (refl, omega arith)

act_few : (d : TriplexState) (act : Act) → (deliveries_in (act_notes d act) ≡ []) × (length (act_notes d act) ≤ 1)
act_few d (EventAct event) = one_if (nat_lt (length d.inbox) INBOX_EVENTS) (Lost d.ticks event ∷ []) refl (omega arith)
act_few d (Poke p k v) = (refl, omega arith)
act_few d (PokeLocal p i v) = (refl, omega arith)
act_few d (Drive p posted) = (refl, omega arith)
act_few d (Mute p) = (refl, omega arith)
act_few d (Remove p) = one_if (is_out (membership_at d.memberships p)) (Out d.ticks p Removed ∷ []) refl (omega arith)
act_few d (Revive p) = only_if (is_revivable p d) (Join d.ticks p ∷ []) refl (omega arith)
act_few d (Board fault) = board_few d.ticks fault
act_few d (Mend board) = only_if (mending_begins board d.boards) (MendNote d.ticks board ∷ []) refl (omega arith)

pub act_tells : ActTurnTells
act_tells d act =
    let few = act_few d act in
    let short = few.1 in
    record { deliveries = few.0; out = refl; few = omega arith }

-- what is told of the reference machine
pub turn_tells : TurnTellsAdvance
turn_tells k old new effects turn tells a = record {
  grows = a.grows;
  from = subst (λ (xs : List Delivery). DueFrom (runs old) xs) (sym tells.deliveries) a.from;
  to = subst (λ (xs : List Delivery). DueUpTo (runs new) xs) (sym tells.deliveries) a.to;
  reference_runs = subst (λ (xs : List Delivery). core_machine_run k.core (reference old) xs (runs new) ≡ record { machine = reference new; bytes = bytes_of turn.out }) (sym tells.deliveries)
      (a.reference_runs ∙ ap (λ (o : Option ℕ). record { machine = reference new; bytes = bytes_of o }) (sym tells.out));
}
