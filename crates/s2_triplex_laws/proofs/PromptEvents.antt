-- What good processors had seen when they posted a request is kept by each step, and delivered where it is decided.
use Rattle.std.proofs.Common.{◌≡◌, ℕ, zero, suc, ◌+◌, ◌<◌, ◌≤◌, List, [], ◌∷◌, ◌++◌, length, append-nil, refl, sym, ap, subst, inl, inr, ◌∙◌, arith}
use Rattle.std.specs.Prelude.{Bool, true, false, ◌⊎◌, ◌==◌, nat_lt, min, is_some, Some, None, if◌then◌else◌}
use Rattle.std.specs.declared.option.Option.{Option}
use Rattle.std.proofs.lemmas.Bool.{cases_lt}
use Rattle.s2_ports.specs.declared.events.Event.{Event}
use Rattle.s2_ports.specs.declared.requests.Request.{Request}
use Rattle.s2_ports.specs.declared.requests.Posted.{Posted}
use Rattle.s2_voter.specs.declared.verdicts.Verdict.{Verdict}
use Rattle.s2_voter.specs.declared.verdicts.Verdict.TheVariants.{Waiting, Done, Split}
use Rattle.s2_voter.specs.VoterState.{is_member}
use Rattle.s2_join.specs.declared.item.Item.{Item}
use Rattle.s2_join.specs.declared.item.Item.TheVariants.{Local, Saved}
use Rattle.s2_join.specs.CopyOrder.{is_last_item}
use Rattle.s2_machine.specs.Cores.{word_at}
use Rattle.s2_machine.specs.declared.deliveries.Delivery.{Delivery}
use Rattle.s2_script.specs.declared.entry.Act.{Act}
use Rattle.s2_script.specs.declared.entry.Act.TheVariants.{Event as EventAct, Poke, PokeLocal, Drive, Mute, Remove, Revive, Board, Mend}
use Rattle.s2_triplex.specs.declared.numbers.TheConstants.{INBOX_EVENTS}
use Rattle.s2_triplex.specs.TriplexCores.{TriplexCore}
use Rattle.s2_triplex.specs.ModuleState.{ModuleState}
use Rattle.s2_triplex.specs.ModuleFaults.{module_poked, module_local_poked, module_driven, module_muted, module_revived}
use Rattle.s2_triplex.specs.TriplexState.{TriplexState, Reintegration, module_at}
use Rattle.s2_triplex.specs.TickFirings.{after_firings}
use Rattle.s2_triplex.specs.VotedAccess.{VotedAccess, voted_access}
use Rattle.s2_triplex.specs.VoterDecision.{StepResult, no_effects, is_named, stays_member, answered_if, after_decision, after_verdict, tick_verdict, voted, is_sync_verdict}
use Rattle.s2_triplex.specs.CopyHolds.{unmarked_if, hold_begun, hold_begun_if, is_holding, after_idle_tick, word_set_if, word_copied, joined, saved_word_copied, item_copied, copied, after_hold_tick, lowest_member}
use Rattle.s2_triplex.specs.WaitingEvents.{from_outside}
use Rattle.s2_triplex.specs.TickStep.{after_voting_tick, after_working_tick, ticked}
use Rattle.s2_triplex.specs.ActStep.{module_replaced, module_disturbed, removed, revived, is_revivable, acted}
use Rattle.s2_triplex.specs.StepRefusals.{act_refusal, second_fault}
use Rattle.s2_triplex.specs.TriplexSteps.{clock_tick, script_act}
use Rattle.s2_triplex_laws.specs.LatchAgreement.{IsGood, AllLatched}
use Rattle.s2_triplex_laws.specs.EventOrder.{events_of, AllGoodSaw, accepted_by}
use Rattle.s2_triplex_laws.specs.PromptEvents.{PostersSaw, KeepsSeen, StepsKeepSeen, SyncsArePrompt, StepsDeliverInOrder}
use Rattle.s2_triplex_laws.proofs.Firings.{FiredModule, stays, posts, works, fires_at}
use Rattle.s2_triplex_laws.proofs.AfterDecisions.{module_is}
use Rattle.s2_triplex_laws.proofs.HoldTicks.{idles_at, copied_is}
use Rattle.s2_triplex_laws.proofs.HoldEnds.{restored_is}
use Rattle.s2_triplex_laws.proofs.Acts.{ActEffect, fault_acts, removal_acts}
use Rattle.s2_triplex_laws.proofs.MaskingLaws.{firings_mask}
use Rattle.s2_triplex_laws.proofs.LawfulSteps.{tainted_by, ticks_decide}
use Rattle.s2_triplex_laws.proofs.StepNotes.{tick_tells, act_tells}
use Rattle.s2_triplex_laws.proofs.EventOrder.{ticks_in_order, acts_in_order, delivered_by, seen_is_delivered}

some_is : (x y : Posted) → Some x ≡ Some y → x ≡ y
some_is x y h = cc

-- what a step does to the port of a processor that is good after it
data PortMoves (d e : TriplexState) (p : ℕ) : Type 0 where
  empty : (module_at e.modules p).port ≡ None → PortMoves d e p
  kept : IsGood d p → (module_at e.modules p).port ≡ (module_at d.modules p).port → PortMoves d e p
  filled : (r : Request) → (module_at e.modules p).port ≡ Some (record { request = r; seen = d.accepted }) → PortMoves d e p

saw_next : (d e : TriplexState) (p : ℕ) → p < 3 → PortMoves d e p → (r : Request) (count : ℕ) → count ≤ d.accepted → PostersSaw d r count → (posted : Posted) → (module_at e.modules p).port ≡ Some posted → posted.request ≡ r → count ≤ posted.seen
saw_next d e p hp (empty none) r count low h posted is same = absurd cc
saw_next d e p hp (kept g port) r count low h posted is same = h p hp g posted (sym port ∙ is) same
saw_next d e p hp (filled q port) r count low h posted is same =
    let seen : d.accepted ≡ posted.seen = ap (λ (x : Posted). x.seen) (some_is (record { request = q; seen = d.accepted }) posted (sym port ∙ is)) in
    omega arith

keeps_by : (d e : TriplexState) → d.accepted ≤ e.accepted → ((p : ℕ) → p < 3 → IsGood e p → PortMoves d e p) → KeepsSeen d e
keeps_by d e low moves = record { accepted = low; saw = λ r count small h p hp g posted is same. saw_next d e p hp (moves p hp g) r count small h posted is same }

pub keeps_twice : (d e f : TriplexState) → KeepsSeen d e → KeepsSeen e f → KeepsSeen d f
keeps_twice d e f x y =
    let low = x.accepted in
    let high = y.accepted in
    record { accepted = omega arith; saw = λ r count small h. y.saw r count (omega arith) (x.saw r count small h) }

pub keeps_same : (d : TriplexState) → KeepsSeen d d
keeps_same d = record { accepted = omega arith; saw = λ r count small h. h }

-- the firings of a tick
fired_moves : (k : TriplexCore) (d e : TriplexState) (p : ℕ) → IsGood d p → FiredModule k d.accepted (module_at d.modules p) (module_at e.modules p) → PortMoves d e p
fired_moves k d e p g (stays m i port mk) = kept g port
fired_moves k d e p g (posts r m x a i port mk) = filled r port
fired_moves k d e p g (works m x a i port mk) = empty port

firings_keep : (k : TriplexCore) (d : TriplexState) (mask : ℕ) → KeepsSeen d (after_firings k d mask)
firings_keep k d mask = keeps_by d (after_firings k d mask) (omega arith) (λ p hp g. fired_moves k d (after_firings k d mask) p g (fires_at k d mask p hp))

-- a verdict
answered_port : (b : Bool) (k : TriplexCore) (r : Request) (word lines : ℕ) (m : ModuleState) → ((answered_if b k r word lines m).port ≡ None) ⊎ ((answered_if b k r word lines m).port ≡ m.port)
answered_port true k r word lines m = inl refl
answered_port false k r word lines m = inr refl

answered_moves : (k : TriplexCore) (d : TriplexState) (r : Request) (a : VotedAccess) (named : ℕ → Bool) (p : ℕ) → p < 3 → IsGood d p → (n : ModuleState) → module_at (after_decision k d r a named).modules p ≡ n → (n.port ≡ None) ⊎ (n.port ≡ (module_at d.modules p).port) →
    PortMoves d (after_decision k d r a named) p
answered_moves k d r a named p hp g n is (inl none) = empty (ap (λ (m : ModuleState). m.port) is ∙ none)
answered_moves k d r a named p hp g n is (inr same) = kept g (ap (λ (m : ModuleState). m.port) is ∙ same)

decision_keeps : (k : TriplexCore) (d : TriplexState) (r : Request) (a : VotedAccess) (named : ℕ → Bool) → KeepsSeen d (after_decision k d r a named)
decision_keeps k d r a named =
    keeps_by d (after_decision k d r a named) (omega arith)
    (λ p hp g. answered_moves k d r a named p hp g _ (module_is k d r a named p hp) (answered_port (stays_member d named p) k r _ _ (module_at d.modules p)))

verdict_keeps : (k : TriplexCore) (d : TriplexState) (v : Verdict) → KeepsSeen d (after_verdict k d v).next
verdict_keeps k d Waiting = keeps_same d
verdict_keeps k d Split = keeps_same d
verdict_keeps k d (Done r differ late) = decision_keeps k d r (voted_access k d r) (is_named differ late)

-- the begin of a hold
unmarked_port : (b : Bool) (m : ModuleState) → (unmarked_if b m).port ≡ m.port
unmarked_port true m = refl
unmarked_port false m = refl

begun_port : (d : TriplexState) (j : Reintegration) (p : ℕ) → p < 3 → (module_at (hold_begun d (Some j)).modules p).port ≡ (module_at d.modules p).port
begun_port d j zero h = unmarked_port (is_member d.voter 0) (module_at d.modules 0)
begun_port d j (suc zero) h = unmarked_port (is_member d.voter 1) (module_at d.modules 1)
begun_port d j (suc (suc zero)) h = unmarked_port (is_member d.voter 2) (module_at d.modules 2)
begun_port d j (suc (suc (suc p))) h = absurd (omega arith)

begun_keeps : (d : TriplexState) (o : Option Reintegration) → KeepsSeen d (hold_begun d o)
begun_keeps d None = keeps_same d
begun_keeps d (Some j) = keeps_by d (hold_begun d (Some j)) (omega arith) (λ p hp g. kept g (begun_port d j p hp))

begun_if_keeps : (b : Bool) (d : TriplexState) → KeepsSeen d (hold_begun_if b d)
begun_if_keeps true d = begun_keeps d d.reintegration
begun_if_keeps false d = keeps_same d

-- a tick of a hold
idle_keeps : (d : TriplexState) (mask : ℕ) → KeepsSeen d (after_idle_tick d mask)
idle_keeps d mask = keeps_by d (after_idle_tick d mask) (omega arith) (λ p hp g. kept g (idles_at d mask p hp).port)

word_port : (b : Bool) (i v : ℕ) (m : ModuleState) → (word_set_if b i v m).port ≡ m.port
word_port true i v m = refl
word_port false i v m = refl

word_keeps : (d : TriplexState) (j : Reintegration) (i : ℕ) → KeepsSeen d (word_copied d j i)
word_keeps d j i =
    keeps_by d (word_copied d j i) (omega arith)
    (λ p hp g. kept g (ap (λ (m : ModuleState). m.port) (copied_is d j i p hp) ∙ word_port (j.copying.joiner == p) i (word_at (module_at d.modules (lowest_member d.voter)).local i) (module_at d.modules p)))

joined_keeps : (d : TriplexState) (j : Reintegration) → KeepsSeen d (joined d j)
joined_keeps d j = keeps_by d (joined d j) (omega arith) (λ p hp g. empty (ap (λ (m : ModuleState). m.port) (restored_is d j p hp)))

saved_keeps : (b : Bool) (d : TriplexState) (j : Reintegration) → KeepsSeen d (saved_word_copied b d j)
saved_keeps true d j = joined_keeps d j
saved_keeps false d j = keeps_by d (saved_word_copied false d j) (omega arith) (λ p hp g. kept g refl)

item_keeps : (d : TriplexState) (j : Reintegration) (items : List Item) → KeepsSeen d (item_copied d j items)
item_keeps d j [] = keeps_same d
item_keeps d j (Local i ∷ left) = word_keeps d j i
item_keeps d j (Saved n ∷ left) = saved_keeps (is_last_item (Saved n)) d j

copied_keeps : (d : TriplexState) (o : Option Reintegration) → KeepsSeen d (copied d o)
copied_keeps d None = keeps_same d
copied_keeps d (Some j) = item_keeps d j j.copying.left

-- a tick
working_keeps : (k : TriplexCore) (d : TriplexState) (mask : ℕ) → KeepsSeen d (after_working_tick k d mask).next
working_keeps k d mask =
    let f = after_firings k d mask in
    let v = (voted k d mask).next in
    let voting : KeepsSeen d (after_voting_tick k d mask) = keeps_twice d v (after_voting_tick k d mask) (keeps_twice d f v (firings_keep k d mask) (verdict_keeps k f (tick_verdict k d mask))) (begun_if_keeps (is_sync_verdict (tick_verdict k d mask)) v) in
    record { accepted = voting.accepted; saw = voting.saw }

pub tick_keeps : (k : TriplexCore) (d : TriplexState) (mask : ℕ) → KeepsSeen d (ticked k d mask).next
tick_keeps k d mask = by_hold (is_holding d.reintegration)
  where
    by_hold : (b : Bool) → KeepsSeen d (if b then record { next = after_hold_tick d mask; effects = no_effects } else after_working_tick k d mask).next
    by_hold true = keeps_twice d (after_idle_tick d mask) _ (idle_keeps d mask) (copied_keeps (after_idle_tick d mask) d.reintegration)
    by_hold false = working_keeps k d mask

-- an act
act_moves : (d e : TriplexState) → d.accepted ≤ e.accepted → ActEffect d e → KeepsSeen d e
act_moves d e low h = keeps_by d e low (λ p hp g. kept (h.good p hp g) (ap (λ (m : ModuleState). m.port) (h.modules p hp g)))

fault_keeps : (d : TriplexState) (p : ℕ) (m : ModuleState) → second_fault d.tainted p ≡ None → KeepsSeen d (module_disturbed p m d)
fault_keeps d p m lawful = act_moves d (module_disturbed p m d) (omega arith) (fault_acts p m d (tainted_by d.tainted p lawful))

received_keeps : (b : Bool) (d : TriplexState) (event : Event) → KeepsSeen d (if b then record d { inbox = d.inbox ++ event ∷ []; accepted = d.accepted + 1 } else d)
received_keeps true d event = keeps_by d (record d { inbox = d.inbox ++ event ∷ []; accepted = d.accepted + 1 }) (omega arith) (λ p hp g. kept g refl)
received_keeps false d event = keeps_same d

replaced_port : (b : Bool) (m n : ModuleState) → m.port ≡ None → ((if b then m else n).port ≡ None) ⊎ ((if b then m else n).port ≡ n.port)
replaced_port true m n h = inl h
replaced_port false m n h = inr refl

revived_place : (d : TriplexState) (p q : ℕ) → q < 3 → module_at (revived p d).modules q ≡ module_replaced p (module_revived (module_at d.modules p)) d.modules q
revived_place d p zero h = refl
revived_place d p (suc zero) h = refl
revived_place d p (suc (suc zero)) h = refl
revived_place d p (suc (suc (suc q))) h = absurd (omega arith)

revived_moves : (d : TriplexState) (p q : ℕ) → IsGood d q → (n : ModuleState) → module_at (revived p d).modules q ≡ n → (n.port ≡ None) ⊎ (n.port ≡ (module_at d.modules q).port) → PortMoves d (revived p d) q
revived_moves d p q g n is (inl none) = empty (ap (λ (m : ModuleState). m.port) is ∙ none)
revived_moves d p q g n is (inr same) = kept g (ap (λ (m : ModuleState). m.port) is ∙ same)

revived_keeps : (b : Bool) (d : TriplexState) (p : ℕ) → KeepsSeen d (if b then revived p d else d)
revived_keeps true d p =
    keeps_by d (revived p d) (omega arith)
    (λ q hq g. revived_moves d p q g _ (revived_place d p q hq) (replaced_port (p == q) (module_revived (module_at d.modules p)) (module_at d.modules q) refl))
revived_keeps false d p = keeps_same d

pub act_keeps : (d : TriplexState) (act : Act) → act_refusal d act ≡ None → KeepsSeen d (acted act d)
act_keeps d (EventAct event) lawful = received_keeps (nat_lt (length d.inbox) INBOX_EVENTS) d event
act_keeps d (Poke p w v) lawful = fault_keeps d p (module_poked w v (module_at d.modules p)) lawful
act_keeps d (PokeLocal p i v) lawful = fault_keeps d p (module_local_poked i v (module_at d.modules p)) lawful
act_keeps d (Drive p posted) lawful = fault_keeps d p (module_driven posted (module_at d.modules p)) lawful
act_keeps d (Mute p) lawful = fault_keeps d p (module_muted (module_at d.modules p)) lawful
act_keeps d (Remove p) lawful = act_moves d (removed p d) (omega arith) (removal_acts p d (tainted_by d.tainted p lawful))
act_keeps d (Revive p) lawful = revived_keeps (is_revivable p d) d p
act_keeps d (Board fault) lawful = keeps_by d (acted (Board fault) d) (omega arith) (λ p hp g. kept g refl)
act_keeps d (Mend board) lawful = keeps_by d (acted (Mend board) d) (omega arith) (λ p hp g. kept g refl)

pub steps_keep_seen : StepsKeepSeen
steps_keep_seen k d (clock_tick mask) lawful = tick_keeps k d mask
steps_keep_seen k d (script_act act) lawful = act_keeps d act lawful

-- what a tick that decides a synchronisation delivers
begun_delivered : (b : Bool) (d : TriplexState) → (hold_begun_if b d).delivered ≡ d.delivered
begun_delivered false d = refl
begun_delivered true d = by_open d.reintegration
  where
    by_open : (o : Option Reintegration) → (hold_begun d o).delivered ≡ d.delivered
    by_open None = refl
    by_open (Some j) = refl

tick_delivered : (k : TriplexCore) (d : TriplexState) (mask : ℕ) (v : Verdict) → is_holding d.reintegration ≡ false → tick_verdict k d mask ≡ v → (ticked k d mask).next.delivered ≡ (after_verdict k (after_firings k d mask) v).next.delivered
tick_delivered k d mask v free is =
    ap (λ (b : Bool). (if b then (let s : StepResult = record { next = after_hold_tick d mask; effects = no_effects } in s) else after_working_tick k d mask).next.delivered) free
    ∙ (begun_delivered (is_sync_verdict (tick_verdict k d mask)) (voted k d mask).next ∙ ap (λ (w : Verdict). (after_verdict k (after_firings k d mask) w).next.delivered) is)

up_to : (count low limit delivered : ℕ) → min count limit ≤ delivered → delivered ≤ limit → (count ≤ delivered) ⊎ (delivered ≡ limit)
up_to count low limit delivered x y = elim (cases_lt delivered count) [ inl less ↦ inr (omega arith) | inr more ↦ inl (omega arith) ]

pub syncs_are_prompt : SyncsArePrompt
syncs_are_prompt k d mask r count s room lawful x small h =
    let f = after_firings k d mask in
    let m = (firings_mask k d mask (record { core = s.core; masking = s.invariant.masking; room = room; halt = s.halt })).masking in
    let facts = (ticks_decide k d mask s room lawful).right r x.differ x.late x.done in
    let all : AllLatched f = λ p hp g. ap (λ (l : Option Posted). is_some l) (facts.latched p hp g).1 in
    let saw : AllGoodSaw f count = λ p hp g posted is.
    let l = facts.latched p hp g in
    (firings_keep k d mask).saw r count small h p hp g posted (sym (m.agreement.good p hp g).latch ∙ is) (ap (λ (y : Posted). y.request) (some_is posted (record { request = r; seen = l.0 }) (sym is ∙ l.1))) in
    let reached = seen_is_delivered k f r x.differ x.late count m all x.done x.sync saw in
    let agreed = delivered_by k f r r.kind x.sync in
    let is = tick_delivered k d mask (Done r x.differ x.late) x.free x.done in
    subst (λ (n : ℕ). (count ≤ n) ⊎ (n ≡ d.delivered + 8)) (sym is) (up_to count 0 (d.delivered + 8) _ reached (omega arith))

-- the order of the events of a step
act_accepted : (d : TriplexState) (act : Act) → (acted act d).accepted ≡ d.accepted + length (accepted_by d act)
act_accepted d (EventAct event) = by_room (nat_lt (length d.inbox) INBOX_EVENTS)
  where
    by_room : (b : Bool) → (if b then record d { inbox = d.inbox ++ event ∷ []; accepted = d.accepted + 1 } else d).accepted ≡ d.accepted + length (if b then event ∷ [] else [])
    by_room true = omega arith
    by_room false = omega arith
act_accepted d (Poke p k v) = omega arith
act_accepted d (PokeLocal p i v) = omega arith
act_accepted d (Drive p posted) = omega arith
act_accepted d (Mute p) = omega arith
act_accepted d (Remove p) = omega arith
act_accepted d (Revive p) = by_test (is_revivable p d)
  where
    by_test : (b : Bool) → (if b then revived p d else d).accepted ≡ d.accepted + 0
    by_test true = omega arith
    by_test false = omega arith
act_accepted d (Board fault) = omega arith
act_accepted d (Mend board) = omega arith

verdict_accepts : (k : TriplexCore) (d : TriplexState) (v : Verdict) → (after_verdict k d v).next.accepted ≡ d.accepted
verdict_accepts k d Waiting = refl
verdict_accepts k d Split = refl
verdict_accepts k d (Done r differ late) = refl

begun_accepts : (b : Bool) (d : TriplexState) → (hold_begun_if b d).accepted ≡ d.accepted
begun_accepts false d = refl
begun_accepts true d = by_open d.reintegration
  where
    by_open : (o : Option Reintegration) → (hold_begun d o).accepted ≡ d.accepted
    by_open None = refl
    by_open (Some j) = refl

saved_accepts : (b : Bool) (d : TriplexState) (j : Reintegration) → (saved_word_copied b d j).accepted ≡ d.accepted
saved_accepts true d j = refl
saved_accepts false d j = refl

item_accepts : (d : TriplexState) (j : Reintegration) (items : List Item) → (item_copied d j items).accepted ≡ d.accepted
item_accepts d j [] = refl
item_accepts d j (Local i ∷ left) = refl
item_accepts d j (Saved n ∷ left) = saved_accepts (is_last_item (Saved n)) d j

copied_accepts : (d : TriplexState) (o : Option Reintegration) → (copied d o).accepted ≡ d.accepted
copied_accepts d None = refl
copied_accepts d (Some j) = item_accepts d j j.copying.left

pub tick_accepts : (k : TriplexCore) (d : TriplexState) (mask : ℕ) → (ticked k d mask).next.accepted ≡ d.accepted
tick_accepts k d mask = by_hold (is_holding d.reintegration)
  where
    by_hold : (b : Bool) → (if b then (let s : StepResult = record { next = after_hold_tick d mask; effects = no_effects } in s) else after_working_tick k d mask).next.accepted ≡ d.accepted
    by_hold true = copied_accepts (after_idle_tick d mask) d.reintegration
    by_hold false = begun_accepts (is_sync_verdict (tick_verdict k d mask)) (voted k d mask).next ∙ verdict_accepts k (after_firings k d mask) (tick_verdict k d mask)

pub steps_in_order : StepsDeliverInOrder
steps_in_order k d (clock_tick mask) outside = record {
  events =
      ap (λ (ds : List Delivery). from_outside (events_of ds) ++ (ticked k d mask).next.inbox) (tick_tells k d mask).deliveries
      ∙ (ticks_in_order k d mask outside ∙ sym (append-nil d.inbox));
  accepted = let same = tick_accepts k d mask in omega arith;
}
steps_in_order k d (script_act act) outside = record {
  events = ap (λ (ds : List Delivery). from_outside (events_of ds) ++ (acted act d).inbox) (act_tells d act).deliveries ∙ acts_in_order d act;
  accepted = act_accepted d act;
}
