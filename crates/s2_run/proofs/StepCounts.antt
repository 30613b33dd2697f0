-- What a step adds to the ticks and to the accepted events.
use Rattle.std.proofs.Common.{◌≡◌, ℕ, ◌+◌, ◌≤◌, Bool, true, false, cond, List, [], ◌∷◌, refl, arith, ◌∙◌}
use Rattle.std.specs.Prelude.{Some, None, nat_lt, length}
use Rattle.std.specs.declared.option.Option.{Option}
use Rattle.s2_voter.specs.declared.verdicts.Verdict.{Verdict}
use Rattle.s2_voter.specs.declared.verdicts.Verdict.TheVariants.{Waiting, Done, Split}
use Rattle.s2_join.specs.declared.item.Item.{Item}
use Rattle.s2_join.specs.declared.item.Item.TheVariants.{Local, Saved}
use Rattle.s2_join.specs.CopyOrder.{is_last_item}
use Rattle.s2_script.specs.declared.entry.Act.{Act}
use Rattle.s2_script.specs.declared.entry.Act.TheVariants.{Event as EventAct, Poke, PokeLocal, Drive, Mute, Remove, Revive, Board, Mend}
use Rattle.s2_triplex.specs.declared.numbers.TheConstants.{INBOX_EVENTS}
use Rattle.s2_triplex.specs.TriplexCores.{TriplexCore}
use Rattle.s2_triplex.specs.TriplexState.{TriplexState, Reintegration}
use Rattle.s2_triplex.specs.TickFirings.{after_firings}
use Rattle.s2_triplex.specs.VoterDecision.{after_verdict, no_effects, tick_verdict, voted, is_sync_verdict}
use Rattle.s2_triplex.specs.CopyHolds.{hold_begun, hold_begun_if, is_holding, after_idle_tick, item_copied, saved_word_copied, copied, after_hold_tick}
use Rattle.s2_triplex.specs.TickStep.{after_working_tick, ticked}
use Rattle.s2_triplex.specs.ActStep.{acted, is_revivable, revived}

-- both counts of a machine are those of another
abbrev SameCounts : TriplexState → TriplexState → Type 0
SameCounts d e = (d.ticks ≡ e.ticks) × (d.accepted ≡ e.accepted)

verdict_same : (k : TriplexCore) (d : TriplexState) (v : Verdict) → SameCounts (after_verdict k d v).next d
verdict_same k d Waiting = (refl, refl)
verdict_same k d Split = (refl, refl)
verdict_same k d (Done r differ late) = (refl, refl)

begun_same : (d : TriplexState) (o : Option Reintegration) → SameCounts (hold_begun d o) d
begun_same d None = (refl, refl)
begun_same d (Some j) = (refl, refl)

begun_if_same : (b : Bool) (d : TriplexState) → SameCounts (hold_begun_if b d) d
begun_if_same true d = begun_same d d.reintegration
begun_if_same false d = (refl, refl)

saved_same : (b : Bool) (d : TriplexState) (j : Reintegration) → SameCounts (saved_word_copied b d j) d
saved_same true d j = (refl, refl)
saved_same false d j = (refl, refl)

item_same : (d : TriplexState) (j : Reintegration) (items : List Item) → SameCounts (item_copied d j items) d
item_same d j [] = (refl, refl)
item_same d j (Local i ∷ left) = (refl, refl)
item_same d j (Saved n ∷ left) = saved_same (is_last_item (Saved n)) d j

copied_same : (d : TriplexState) (o : Option Reintegration) → SameCounts (copied d o) d
copied_same d None = (refl, refl)
copied_same d (Some j) = item_same d j j.copying.left

working_counts : (k : TriplexCore) (d : TriplexState) (mask : ℕ) → ((after_working_tick k d mask).next.ticks ≡ d.ticks + 1) × ((after_working_tick k d mask).next.accepted ≡ d.accepted)
working_counts k d mask =
    let v = verdict_same k (after_firings k d mask) (tick_verdict k d mask) in
    let b = begun_if_same (is_sync_verdict (tick_verdict k d mask)) (voted k d mask).next in
    (b.0 ∙ v.0, b.1 ∙ v.1)

hold_counts : (d : TriplexState) (mask : ℕ) → ((after_hold_tick d mask).ticks ≡ d.ticks + 1) × ((after_hold_tick d mask).accepted ≡ d.accepted)
hold_counts d mask = copied_same (after_idle_tick d mask) d.reintegration

ticked_by : (k : TriplexCore) (d : TriplexState) (mask : ℕ) (b : Bool) → ((cond b (record { next = after_hold_tick d mask; effects = no_effects }) (after_working_tick k d mask)).next.ticks ≡ d.ticks + 1) × ((cond b (record { next = after_hold_tick d mask; effects = no_effects }) (after_working_tick k d mask)).next.accepted ≡ d.accepted)
ticked_by k d mask true = hold_counts d mask
ticked_by k d mask false = working_counts k d mask

-- a tick is counted, and accepts no event
pub tick_counts : (k : TriplexCore) (d : TriplexState) (mask : ℕ) → (ticked k d mask).next.ticks ≡ d.ticks + 1
tick_counts k d mask = (ticked_by k d mask (is_holding d.reintegration)).0

pub tick_accepts : (k : TriplexCore) (d : TriplexState) (mask : ℕ) → (ticked k d mask).next.accepted ≡ d.accepted
tick_accepts k d mask = (ticked_by k d mask (is_holding d.reintegration)).1

-- no time passes in an act, and it accepts one event at most
abbrev FewMore : TriplexState → TriplexState → Type 0
FewMore e d = (e.ticks ≡ d.ticks) × (e.accepted ≤ d.accepted + 1)

event_by : (d e : TriplexState) (b : Bool) → FewMore e d → FewMore (cond b e d) d
event_by d e true h = h
event_by d e false h = (refl, omega arith)

act_few : (act : Act) (d : TriplexState) → FewMore (acted act d) d
act_few (EventAct event) d = event_by d _ (nat_lt (length d.inbox) INBOX_EVENTS) (refl, omega arith)
act_few (Poke p k v) d = (refl, omega arith)
act_few (PokeLocal p i v) d = (refl, omega arith)
act_few (Drive p posted) d = (refl, omega arith)
act_few (Mute p) d = (refl, omega arith)
act_few (Remove p) d = (refl, omega arith)
act_few (Revive p) d = event_by d (revived p d) (is_revivable p d) (refl, omega arith)
act_few (Board fault) d = (refl, omega arith)
act_few (Mend board) d = (refl, omega arith)

pub act_takes_no_time : (act : Act) (d : TriplexState) → (acted act d).ticks ≡ d.ticks
act_takes_no_time act d = (act_few act d).0

pub act_accepts : (act : Act) (d : TriplexState) → (acted act d).accepted ≤ d.accepted + 1
act_accepts act d = (act_few act d).1
