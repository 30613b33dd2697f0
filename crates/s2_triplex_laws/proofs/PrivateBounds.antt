-- The events that wait come from outside, and private values are numbers of firings.
use Rattle.std.proofs.Common.{◌≡◌, ℕ, zero, suc, ◌<◌, List, [], ◌∷◌, ◌++◌, length, refl, sym, subst, arith}
use Rattle.std.specs.Prelude.{Bool, true, false, ◌==◌, nat_lt, Some, None, if◌then◌else◌}
use Rattle.std.specs.declared.option.Option.{Option}
use Rattle.std.proofs.lemmas.Bool.Decides.{nat_tests}
use Rattle.s2_ports.specs.Events.{comes_from_outside}
use Rattle.s2_ports.specs.declared.events.Event.{Event}
use Rattle.s2_ports.specs.declared.requests.Request.{Request}
use Rattle.s2_ports.specs.declared.requests.Posted.{Posted}
use Rattle.s2_clock.specs.ClockWatch.{is_firing}
use Rattle.s2_clock.specs.declared.numbers.TheConstants.{REFRESH_PERIOD}
use Rattle.s2_voter.specs.VoterState.{is_member}
use Rattle.s2_voter.specs.declared.verdicts.Verdict.{Verdict}
use Rattle.s2_voter.specs.declared.verdicts.Verdict.TheVariants.{Waiting, Done, Split}
use Rattle.s2_join.specs.declared.item.Item.{Item}
use Rattle.s2_join.specs.declared.item.Item.TheVariants.{Local as LocalItem, Saved}
use Rattle.s2_join.specs.CopyOrder.{is_last_item}
use Rattle.s2_machine.specs.declared.ask.Ask.{Ask}
use Rattle.s2_machine.specs.declared.ask.Ask.TheVariants.{Local, Outside}
use Rattle.s2_script.specs.declared.entry.Act.{Act}
use Rattle.s2_script.specs.declared.entry.Act.TheVariants.{Event as EventAct, Poke, PokeLocal, Drive, Mute, Remove, Revive, Board, Mend}
use Rattle.s2_triplex.specs.declared.numbers.TheConstants.{INBOX_EVENTS}
use Rattle.s2_triplex.specs.TriplexCores.{TriplexCore}
use Rattle.s2_triplex.specs.ModuleState.{ModuleState, replica_of, with_replica, replica_ask}
use Rattle.s2_triplex.specs.ModuleFiring.{module_idled, is_working, after_work, after_work_unless_waiting, module_fired, module_ticked}
use Rattle.s2_triplex.specs.ModuleAnswer.{finished_replica, is_asking}
use Rattle.s2_triplex.specs.ModuleFaults.{module_poked, module_local_poked, module_driven, module_muted, module_revived}
use Rattle.s2_triplex.specs.TriplexState.{TriplexState, Reintegration, three_of, module_at}
use Rattle.s2_triplex.specs.TickFirings.{after_firings, ticked_at}
use Rattle.s2_triplex.specs.WaitingEvents.{AreFromOutside, from_outside}
use Rattle.s2_triplex.specs.VotedAccess.{voted_access}
use Rattle.s2_triplex.specs.VoterDecision.{no_effects, answered_if, answered_at, stays_member, is_named, after_verdict, tick_verdict, voted, is_sync_verdict}
use Rattle.s2_triplex.specs.CopyHolds.{unmarked_if, unmarked_at, hold_begun, hold_begun_if, is_holding, idled_if, idled_at, after_idle_tick, word_set_if, word_copied_at, restored_at, saved_word_copied, item_copied, copied, after_hold_tick}
use Rattle.s2_triplex.specs.TickStep.{after_working_tick, ticked}
use Rattle.s2_triplex.specs.ActStep.{module_replaced, is_revivable, revived, acted}
use Rattle.s2_triplex_laws.specs.EventOrder.{accepted_by, events_of}
use Rattle.s2_triplex_laws.specs.PrivateFacts.{PrivateBounds}
use Rattle.s2_triplex_laws.specs.TriplexStates.{IsActCall}
use Rattle.s2_triplex_laws.proofs.EventOrder.{ticks_in_order, acts_in_order}

-- ---- the events that wait

later_outside : (xs ys : List Event) → AreFromOutside (xs ++ ys) → AreFromOutside ys
later_outside [] ys h = h
later_outside (x ∷ xs) ys h = later_outside xs ys h.1

both_outside : (xs ys : List Event) → AreFromOutside xs → AreFromOutside ys → AreFromOutside (xs ++ ys)
both_outside [] ys x y = y
both_outside (a ∷ xs) ys x y = (x.0, both_outside xs ys x.1 y)

one_outside : (b : Bool) (event : Event) → comes_from_outside event ≡ true → AreFromOutside (if b then event ∷ [] else [])
one_outside true event h = (h, tt)
one_outside false event h = tt

accepted_outside : (d : TriplexState) (act : Act) → IsActCall act → AreFromOutside (accepted_by d act)
accepted_outside d (EventAct event) call = one_outside (nat_lt (length d.inbox) INBOX_EVENTS) event call
accepted_outside d (Poke p k v) call = tt
accepted_outside d (PokeLocal p i v) call = tt
accepted_outside d (Drive p posted) call = tt
accepted_outside d (Mute p) call = tt
accepted_outside d (Remove p) call = tt
accepted_outside d (Revive p) call = tt
accepted_outside d (Board fault) call = tt
accepted_outside d (Mend board) call = tt

pub tick_waiting : (k : TriplexCore) (d : TriplexState) (mask : ℕ) → AreFromOutside d.inbox → AreFromOutside (ticked k d mask).next.inbox
tick_waiting k d mask h =
    later_outside (from_outside (events_of (ticked k d mask).effects.deliveries)) (ticked k d mask).next.inbox (subst AreFromOutside (sym (ticks_in_order k d mask h)) h)

pub act_waiting : (d : TriplexState) (act : Act) → IsActCall act → AreFromOutside d.inbox → AreFromOutside (acted act d).inbox
act_waiting d act call h = subst AreFromOutside (sym (acts_in_order d act)) (both_outside d.inbox (accepted_by d act) h (accepted_outside d act call))

-- ---- the private values

abbrev IsFiring : ModuleState → Type 0
IsFiring m = m.private < REFRESH_PERIOD

abbrev AreFirings : List ModuleState → Type 0
AreFirings modules = (p : ℕ) → p < 3 → IsFiring (module_at modules p)

three_are : (f : ℕ → ModuleState) → ((p : ℕ) → p < 3 → IsFiring (f p)) → AreFirings (three_of f)
three_are f h zero low = h 0 low
three_are f h (suc zero) low = h 1 low
three_are f h (suc (suc zero)) low = h 2 low
three_are f h (suc (suc (suc p))) low = absurd (omega arith)

-- a firing
work_is : (k : TriplexCore) (seen : ℕ) (m : ModuleState) (a : Ask) → m.fires < REFRESH_PERIOD → IsFiring m → IsFiring (after_work k seen m a)
work_is k seen m Local f h = h
work_is k seen m (Outside r) f h = f

waiting_is : (k : TriplexCore) (seen : ℕ) (m : ModuleState) (port : Option Posted) → m.fires < REFRESH_PERIOD → IsFiring m → IsFiring (after_work_unless_waiting k seen m port)
waiting_is k seen m (Some posted) f h = h
waiting_is k seen m None f h = work_is k seen m (replica_ask k (replica_of m)) f h

fired_by : (k : TriplexCore) (seen : ℕ) (m : ModuleState) (b : Bool) → m.fires < REFRESH_PERIOD → IsFiring m → IsFiring (if b then after_work_unless_waiting k seen m m.port else m)
fired_by k seen m true f h = waiting_is k seen m m.port f h
fired_by k seen m false f h = h

fired_is : (k : TriplexCore) (seen : ℕ) (member : Bool) (m : ModuleState) → IsFiring m → IsFiring (module_fired k seen member m)
fired_is k seen member m h = fired_by k seen (module_idled m) (is_working m member) (omega arith) h

ticked_is : (k : TriplexCore) (seen : ℕ) (member fires : Bool) (m : ModuleState) → IsFiring m → IsFiring (module_ticked k seen member fires m)
ticked_is k seen member true m h = fired_is k seen member m h
ticked_is k seen member false m h = h

pub firings_are : (k : TriplexCore) (d : TriplexState) (mask : ℕ) → AreFirings d.modules → AreFirings (after_firings k d mask).modules
firings_are k d mask h = three_are (ticked_at k d mask) (λ p low. ticked_is k d.accepted (is_member d.voter p) (is_firing mask p) (module_at d.modules p) (h p low))

-- an answer
answered_by : (k : TriplexCore) (r : Request) (word lines : ℕ) (m : ModuleState) (b : Bool) → IsFiring m →
    IsFiring (record (if b then with_replica m (finished_replica k r.kind word lines (replica_of m)) else m) { port = None })
answered_by k r word lines m true h = h
answered_by k r word lines m false h = h

answer_is : (b : Bool) (k : TriplexCore) (r : Request) (word lines : ℕ) (m : ModuleState) → IsFiring m → IsFiring (answered_if b k r word lines m)
answer_is true k r word lines m h = answered_by k r word lines m (is_asking (replica_ask k (replica_of m)) r) h
answer_is false k r word lines m h = h

verdict_are : (k : TriplexCore) (d : TriplexState) (v : Verdict) → AreFirings d.modules → AreFirings (after_verdict k d v).next.modules
verdict_are k d Waiting h = h
verdict_are k d Split h = h
verdict_are k d (Done r differ late) h =
    three_are (answered_at k d r (voted_access k d r) (is_named differ late)) (λ p low. answer_is (stays_member d (is_named differ late) p) k r _ _ (module_at d.modules p) (h p low))

-- a hold
unmarked_is : (b : Bool) (m : ModuleState) → IsFiring m → IsFiring (unmarked_if b m)
unmarked_is true m h = h
unmarked_is false m h = h

begun_are : (d : TriplexState) (o : Option Reintegration) → AreFirings d.modules → AreFirings (hold_begun d o).modules
begun_are d None h = h
begun_are d (Some j) h = three_are (unmarked_at d) (λ p low. unmarked_is (is_member d.voter p) (module_at d.modules p) (h p low))

begun_if_are : (b : Bool) (d : TriplexState) → AreFirings d.modules → AreFirings (hold_begun_if b d).modules
begun_if_are true d h = begun_are d d.reintegration h
begun_if_are false d h = h

idled_is : (b : Bool) (m : ModuleState) → IsFiring m → IsFiring (idled_if b m)
idled_is true m h = h
idled_is false m h = h

idle_are : (d : TriplexState) (mask : ℕ) → AreFirings d.modules → AreFirings (after_idle_tick d mask).modules
idle_are d mask h = three_are (idled_at d mask) (λ p low. idled_is (is_firing mask p) (module_at d.modules p) (h p low))

set_is : (b : Bool) (i v : ℕ) (m : ModuleState) → IsFiring m → IsFiring (word_set_if b i v m)
set_is true i v m h = h
set_is false i v m h = h

saved_are : (b : Bool) (d : TriplexState) (j : Reintegration) → AreFirings d.modules → AreFirings (saved_word_copied b d j).modules
saved_are true d j h = three_are (restored_at d) (λ p low. omega arith)
saved_are false d j h = h

item_are : (d : TriplexState) (j : Reintegration) (items : List Item) → AreFirings d.modules → AreFirings (item_copied d j items).modules
item_are d j [] h = h
item_are d j (LocalItem i ∷ left) h = three_are (word_copied_at d j i) (λ p low. set_is (j.copying.joiner == p) i _ (module_at d.modules p) (h p low))
item_are d j (Saved n ∷ left) h = saved_are (is_last_item (Saved n)) d j h

copied_are : (d : TriplexState) (o : Option Reintegration) → AreFirings d.modules → AreFirings (copied d o).modules
copied_are d None h = h
copied_are d (Some j) h = item_are d j j.copying.left h

tick_are : (k : TriplexCore) (d : TriplexState) (mask : ℕ) → AreFirings d.modules → AreFirings (ticked k d mask).next.modules
tick_are k d mask h = by_hold (is_holding d.reintegration)
  where
    by_hold : (b : Bool) → AreFirings (if b then record { next = after_hold_tick d mask; effects = no_effects } else after_working_tick k d mask).next.modules
    by_hold true = copied_are (after_idle_tick d mask) d.reintegration (idle_are d mask h)
    by_hold false = begun_if_are (is_sync_verdict (tick_verdict k d mask)) (voted k d mask).next (verdict_are k (after_firings k d mask) (tick_verdict k d mask) (firings_are k d mask h))

-- an act
number_is : (p q : ℕ) → (p == q) ≡ true → p ≡ q
number_is p q h = grind (arith, nat_tests)

replaced_by : (p q : ℕ) (m n : ModuleState) (b : Bool) → (p == q) ≡ b → q < 3 → (p < 3 → IsFiring m) → IsFiring n → IsFiring (if b then m else n)
replaced_by p q m n true is low fits h = fits (let same = number_is p q is in omega arith)
replaced_by p q m n false is low fits h = h

replaced_are : (p : ℕ) (m : ModuleState) (modules : List ModuleState) → (p < 3 → IsFiring m) → AreFirings modules → AreFirings (three_of (module_replaced p m modules))
replaced_are p m modules fits h = three_are (module_replaced p m modules) (λ q low. replaced_by p q m (module_at modules q) (p == q) refl low fits (h q low))

event_are : (b : Bool) (d e : TriplexState) → e.modules ≡ d.modules → AreFirings d.modules → AreFirings (if b then e else d).modules
event_are true d e same h = subst AreFirings (sym same) h
event_are false d e same h = h

revived_are : (b : Bool) (p : ℕ) (d : TriplexState) → AreFirings d.modules → AreFirings (if b then revived p d else d).modules
revived_are true p d h = replaced_are p (module_revived (module_at d.modules p)) d.modules (h p) h
revived_are false p d h = h

act_are : (d : TriplexState) (act : Act) → AreFirings d.modules → AreFirings (acted act d).modules
act_are d (EventAct event) h = event_are (nat_lt (length d.inbox) INBOX_EVENTS) d _ refl h
act_are d (Poke p k v) h = replaced_are p (module_poked k v (module_at d.modules p)) d.modules (h p) h
act_are d (PokeLocal p i v) h = replaced_are p (module_local_poked i v (module_at d.modules p)) d.modules (h p) h
act_are d (Drive p posted) h = replaced_are p (module_driven posted (module_at d.modules p)) d.modules (h p) h
act_are d (Mute p) h = replaced_are p (module_muted (module_at d.modules p)) d.modules (h p) h
act_are d (Remove p) h = h
act_are d (Revive p) h = revived_are (is_revivable p d) p d h
act_are d (Board fault) h = h
act_are d (Mend board) h = h

-- ---- both

pub tick_keeps_bounds : (k : TriplexCore) (d : TriplexState) (mask : ℕ) → PrivateBounds d → PrivateBounds (ticked k d mask).next
tick_keeps_bounds k d mask h = record { waiting = tick_waiting k d mask h.waiting; values = tick_are k d mask h.values }

pub act_keeps_bounds : (d : TriplexState) (act : Act) → IsActCall act → PrivateBounds d → PrivateBounds (acted act d)
act_keeps_bounds d act call h = record { waiting = act_waiting d act call h.waiting; values = act_are d act h.values }
