-- What the private-write area gives: a store to it prints the processors' own values, and the slots are what was
-- printed last.
use Rattle.std.proofs.Common.{◌≡◌, ℕ, zero, suc, ◌-◌, ◌<◌, List, [], ◌∷◌, ◌++◌, take, refl, sym, ap, subst, ◌∙◌, arith}
use Rattle.std.specs.Prelude.{Bool, true, false, nat_lt, length, Some, None, if◌then◌else◌}
use Rattle.std.specs.declared.option.Option.{Option}
use Rattle.s2_base.specs.Map.{place_at}
use Rattle.s2_ports.specs.Events.{comes_from_outside}
use Rattle.s2_ports.specs.declared.events.Event.{Event}
use Rattle.s2_ports.specs.declared.events.Event.TheVariants.{Tick, Key, Private}
use Rattle.s2_ports.specs.declared.events.TheConstants.{NO_VALUE}
use Rattle.s2_ports.specs.declared.requests.Request.{Request}
use Rattle.s2_ports.specs.declared.requests.Kind.{Kind}
use Rattle.s2_ports.specs.declared.requests.Kind.TheVariants.{Load, Store, Sync}
use Rattle.s2_ports.specs.declared.requests.Posted.{Posted}
use Rattle.s2_agree.specs.AgreedCount.{agreed_count}
use Rattle.s2_device.specs.declared.slots.Slots.{Slots}
use Rattle.s2_device.specs.DeviceState.{Device, empty_slots, lines_of}
use Rattle.s2_revive.specs.MendingBoards.{memory_of}
use Rattle.s2_private.specs.PrivateValues.{agreeing_value, gathered}
use Rattle.s2_voter.specs.VoterState.{latch_of}
use Rattle.s2_voter.specs.declared.verdicts.Verdict.{Verdict}
use Rattle.s2_voter.specs.declared.verdicts.Verdict.TheVariants.{Waiting, Done, Split}
use Rattle.s2_voter.proofs.EqualRequests.{same_self}
use Rattle.s2_join.specs.declared.item.Item.{Item}
use Rattle.s2_join.specs.declared.item.Item.TheVariants.{Local, Saved}
use Rattle.s2_join.specs.CopyOrder.{is_last_item}
use Rattle.s2_machine.specs.Cores.{is_sync}
use Rattle.s2_machine.specs.PrivateArea.{is_private_place, slot_of, stores_at}
use Rattle.s2_machine.specs.declared.deliveries.Delivery.{Delivery}
use Rattle.s2_script.specs.declared.entry.Act.TheVariants.{Event as EventAct, Poke, PokeLocal, Drive, Mute, Remove, Revive, Board, Mend}
use Rattle.s2_triplex.specs.declared.numbers.TheConstants.{INBOX_EVENTS}
use Rattle.s2_triplex.specs.TriplexCores.{IsTriplexCore, TriplexCore}
use Rattle.s2_triplex.specs.ModuleState.{replica_of}
use Rattle.s2_triplex.specs.ModuleAnswer.{after_answered_cycle, finished_replica}
use Rattle.s2_triplex.specs.TriplexState.{TriplexState, Reintegration, module_at}
use Rattle.s2_triplex.specs.TickFirings.{after_firings}
use Rattle.s2_triplex.specs.WaitingEvents.{AreFromOutside}
use Rattle.s2_triplex.specs.VotedAccess.{access_of_kind, deliveries_at, device_after_events, private_values, seen_in, voted_access}
use Rattle.s2_triplex.specs.VoterDecision.{StepResult, no_effects, after_verdict, is_named, tick_verdict, voted, is_idle_verdict, is_sync_verdict}
use Rattle.s2_triplex.specs.CopyHolds.{hold_begun, hold_begun_if, is_holding, after_idle_tick, saved_word_copied, item_copied, copied, after_hold_tick}
use Rattle.s2_triplex.specs.TickStep.{after_working_tick, idled_after, ticked}
use Rattle.s2_triplex.specs.ActStep.{is_revivable, revived}
use Rattle.s2_triplex_laws.specs.LatchAgreement.{IsGood}
use Rattle.s2_triplex_laws.specs.DecisionFacts.{DecisionFacts}
use Rattle.s2_triplex_laws.specs.PrivateFacts.{ActsLeaveDevices, DecidesOn, PrivateStoresPrint, SlotLoadsGive, TicksPrintSlots, printed_by, printed_slots, private_event}
use Rattle.s2_triplex_laws.proofs.AfterDecisions.{good_module, slow_replica}
use Rattle.s2_triplex_laws.proofs.EventOrder.{take_outside}
use Rattle.s2_triplex_laws.proofs.LawfulSteps.{all_latched, can_tick, due_at, done_differs, ticks_decide}
use Rattle.s2_triplex_laws.proofs.MaskingLaws.{decision_for, firings_mask, verdict_told}

-- ---- the slots are what was printed

-- events from outside print nothing into the slots, and leave them
printed_outside : (s : Slots) (e : Event) → comes_from_outside e ≡ true → printed_by s e ≡ s
printed_outside s Tick h = refl
printed_outside s (Key byte) h = refl
printed_outside s (Private a b c) h = absurd cc

device_outside : (b : Bool) (d e : Device) → e.slots ≡ d.slots → (if b then e else d).slots ≡ d.slots
device_outside true d e h = h
device_outside false d e h = refl

pub outside_prints : (es : List Event) (run : ℕ) (s : Slots) → AreFromOutside es → printed_slots s (deliveries_at run es) ≡ s
outside_prints [] run s h = refl
outside_prints (e ∷ es) run s h = ap (λ (t : Slots). printed_slots t (deliveries_at run es)) (printed_outside s e h.0) ∙ outside_prints es run s h.1

outside_leaves : (es : List Event) (dv : Device) → AreFromOutside es → (device_after_events dv es).slots ≡ dv.slots
outside_leaves [] dv h = refl
outside_leaves (Tick ∷ es) dv h = outside_leaves es _ h.1
outside_leaves (Key byte ∷ es) dv h = outside_leaves es _ h.1 ∙ key_leaves (nat_lt (length dv.waiting) 16) _ _ refl refl
  where
    key_leaves : (b : Bool) (x y : Device) → x.slots ≡ dv.slots → y.slots ≡ dv.slots → (if b then x else y).slots ≡ dv.slots
    key_leaves true x y p q = p
    key_leaves false x y p q = q
outside_leaves (Private a b c ∷ es) dv h = absurd (let x = h.0 in cc)

-- an access
access_prints : (k : TriplexCore) (c : IsTriplexCore k) (d : TriplexState) (r : Request) (kind : Kind) → r.kind ≡ kind → AreFromOutside d.inbox →
    (access_of_kind k d r kind).device.slots ≡ printed_slots d.device.slots (access_of_kind k d r kind).deliveries
access_prints k c d r Sync e h =
    let n = agreed_count (seen_in d.voter r) d.delivered - d.delivered in
    outside_leaves (take n d.inbox) d.device (take_outside n d.inbox h) ∙ sym (outside_prints (take n d.inbox) r.run d.device.slots (take_outside n d.inbox h))
access_prints k c d r Load e h = c.core.slots.kept (memory_of d.boards) d.device r (ap (λ (x : Kind). stores_at x (place_at r.address)) e)
access_prints k c d r Store e h = by_test (is_private_place (place_at r.address)) refl
  where
    by_test : (b : Bool) → is_private_place (place_at r.address) ≡ b → let es = (if b then gathered d.voter r (private_values d.modules) ∷ [] else []) in
        (k.core.access (memory_of d.boards) (device_after_events d.device es) r).device.slots ≡ printed_slots d.device.slots (deliveries_at r.run es)
    by_test true is = c.core.slots.stored (memory_of d.boards) _ r (ap (λ (x : Kind). stores_at x (place_at r.address)) e ∙ is)
    by_test false is = c.core.slots.kept (memory_of d.boards) d.device r (ap (λ (x : Kind). stores_at x (place_at r.address)) e ∙ is)

verdict_prints : (k : TriplexCore) (c : IsTriplexCore k) (d : TriplexState) (v : Verdict) → AreFromOutside d.inbox → (after_verdict k d v).next.device.slots ≡ printed_slots d.device.slots (after_verdict k d v).effects.deliveries
verdict_prints k c d Waiting h = refl
verdict_prints k c d Split h = refl
verdict_prints k c d (Done r differ late) h = access_prints k c d r r.kind refl h

-- a reintegration leaves the devices
begun_device : (d : TriplexState) (o : Option Reintegration) → (hold_begun d o).device ≡ d.device
begun_device d None = refl
begun_device d (Some j) = refl

begun_if_device : (b : Bool) (d : TriplexState) → (hold_begun_if b d).device ≡ d.device
begun_if_device true d = begun_device d d.reintegration
begun_if_device false d = refl

saved_device : (b : Bool) (d : TriplexState) (j : Reintegration) → (saved_word_copied b d j).device ≡ d.device
saved_device true d j = refl
saved_device false d j = refl

item_device : (d : TriplexState) (j : Reintegration) (items : List Item) → (item_copied d j items).device ≡ d.device
item_device d j [] = refl
item_device d j (Local i ∷ left) = refl
item_device d j (Saved n ∷ left) = saved_device (is_last_item (Saved n)) d j

copied_device : (d : TriplexState) (o : Option Reintegration) → (copied d o).device ≡ d.device
copied_device d None = refl
copied_device d (Some j) = item_device d j j.copying.left

pub ticks_print_slots : TicksPrintSlots
ticks_print_slots k d mask c h = by_hold (is_holding d.reintegration)
  where
    by_hold : (b : Bool) → let s = if b then record { next = after_hold_tick d mask; effects = no_effects } else after_working_tick k d mask in s.next.device.slots ≡ printed_slots d.device.slots s.effects.deliveries
    by_hold true = ap (λ (v : Device). v.slots) (copied_device (after_idle_tick d mask) d.reintegration)
    by_hold false =
        ap (λ (v : Device). v.slots) (begun_if_device (is_sync_verdict (tick_verdict k d mask)) (voted k d mask).next) ∙
        verdict_prints k c (after_firings k d mask) (tick_verdict k d mask) h

-- an act leaves them, too
either_device : (b : Bool) (d e : TriplexState) → e.device ≡ d.device → (if b then e else d).device ≡ d.device
either_device true d e h = h
either_device false d e h = refl

pub acts_leave_devices : ActsLeaveDevices
acts_leave_devices d (EventAct event) = either_device (nat_lt (length d.inbox) INBOX_EVENTS) d _ refl
acts_leave_devices d (Poke p k v) = refl
acts_leave_devices d (PokeLocal p i v) = refl
acts_leave_devices d (Drive p posted) = refl
acts_leave_devices d (Mute p) = refl
acts_leave_devices d (Remove p) = refl
acts_leave_devices d (Revive p) = either_device (is_revivable p d) d (revived p d) refl
acts_leave_devices d (Board fault) = refl
acts_leave_devices d (Mend board) = refl

pub printed_both : (ds es : List Delivery) (s : Slots) → printed_slots s (ds ++ es) ≡ printed_slots (printed_slots s ds) es
printed_both [] es s = refl
printed_both (d ∷ ds) es s = printed_both ds es (printed_by s d.event)

-- ---- an agreed store to PRIV

-- outside of a hold a tick is its verdict
working : (k : TriplexCore) (d : TriplexState) (mask : ℕ) → is_holding d.reintegration ≡ false → ticked k d mask ≡ after_working_tick k d mask
working k d mask free = subst (λ (b : Bool). (if b then record { next = after_hold_tick d mask; effects = no_effects } else after_working_tick k d mask) ≡ after_working_tick k d mask) (sym free) refl

decided : (k : TriplexCore) (d : TriplexState) (mask : ℕ) (r : Request) (x : DecidesOn k d mask r) → voted k d mask ≡ after_verdict k (after_firings k d mask) (Done r x.differ x.late)
decided k d mask r x = ap (after_verdict k (after_firings k d mask)) x.done

private_told : (k : TriplexCore) (d : TriplexState) (r : Request) (kind : Kind) → stores_at kind (place_at r.address) ≡ true →
    (access_of_kind k d r kind).deliveries ≡ record { run = r.run; event = private_event d r } ∷ []
private_told k d r Load h = absurd cc
private_told k d r Sync h = absurd cc
private_told k d r Store h = ap (λ (b : Bool). deliveries_at r.run (if b then private_event d r ∷ [] else [])) h

-- a good processor is latched with what was agreed
own_value : (r : Request) (latch : Option Posted) (seen value : ℕ) → latch ≡ Some (record { request = r; seen = seen }) → agreeing_value r latch value ≡ value
own_value r latch seen value is =
    ap (λ (l : Option Posted). agreeing_value r l value) is ∙
    ap (λ (b : Bool). if b then value else NO_VALUE) (same_self r)

own_at : (k : TriplexCore) (e : TriplexState) (r : Request) (differ late : Option ℕ) → DecisionFacts k e r differ late → (p : ℕ) → p < 3 → IsGood e p →
    slot_of (printed_by empty_slots (private_event e r)) p ≡ (module_at e.modules p).private
own_at k e r differ late f zero low g = let l = f.latched 0 low g in own_value r (latch_of e.voter 0) l.0 (module_at e.modules 0).private l.1
own_at k e r differ late f (suc zero) low g = let l = f.latched 1 low g in own_value r (latch_of e.voter 1) l.0 (module_at e.modules 1).private l.1
own_at k e r differ late f (suc (suc zero)) low g = let l = f.latched 2 low g in own_value r (latch_of e.voter 2) l.0 (module_at e.modules 2).private l.1
own_at k e r differ late f (suc (suc (suc p))) low g = absurd (omega arith)

pub private_stores_print : PrivateStoresPrint
private_stores_print k d mask r x store =
    let e = after_firings k d mask in
    let told : (ticked k d mask).effects.deliveries ≡ record { run = r.run; event = private_event e r } ∷ [] =
    ap (λ (s : StepResult). s.effects.deliveries) (working k d mask x.working) ∙
    (ap (λ (s : StepResult). s.effects.deliveries) (decided k d mask r x) ∙ private_told k e r r.kind store) in
    let right = (ticks_decide k d mask x.can_step x.room x.lawful).right r x.differ x.late x.done in
    record {
      prints = told;
      own = λ p low g. ap (λ (ds : List Delivery). slot_of (printed_slots empty_slots ds) p) told ∙ own_at k e r x.differ x.late right p low g;
    }

-- ---- an agreed load of a slot

no_sync : (kind : Kind) → kind ≡ Load → is_sync kind ≡ false
no_sync Load h = refl
no_sync Store h = refl
no_sync Sync h = absurd cc

pub slot_loads_give : SlotLoadsGive
slot_loads_give k d mask r p x loads =
    let e = after_firings k d mask in
    let word : (voted_access k e r).word ≡ slot_of d.device.slots p =
    ap (λ (kind : Kind). (access_of_kind k e r kind).word) loads.kind ∙ x.can_step.core.core.slots.loaded (memory_of e.boards) e.device r p loads in
    let f = firings_mask k d mask (can_tick k d x.can_step x.room) in
    let latched = all_latched k d mask x.can_step x.lawful (due_at k d mask (Done r x.differ x.late) x.done (done_differs r x.differ x.late)) in
    let t = verdict_told k e r x.differ x.late f.masking latched x.done in
    let named = decision_for k e r x.differ x.late t in
    let next : (ticked k d mask).next ≡ (after_verdict k e (Done r x.differ x.late)).next =
    ap (λ (s : StepResult). s.next) (working k d mask x.working) ∙
    (ap (λ (v : Verdict). idled_after (is_idle_verdict v) (hold_begun_if (is_sync_verdict v) (after_verdict k e v).next)) x.done ∙
    ap (λ (b : Bool). idled_after false (hold_begun_if b (after_verdict k e (Done r x.differ x.late)).next)) (no_sync r.kind loads.kind)) in
    record {
      word = word;
      gives = λ q low g.
          let m = module_at e.modules q in
          let lines = lines_of (voted_access k e r).device in
          ap (λ (s : TriplexState). replica_of (module_at s.modules q)) next ∙
          (ap replica_of (good_module k e (slow_replica e) r (voted_access k e r) (is_named x.differ x.late) f.masking.agreement named q low g) ∙
          (ap (λ (kind : Kind). finished_replica k kind (voted_access k e r).word lines (replica_of m)) loads.kind ∙
          ap (λ (w : ℕ). after_answered_cycle k w lines (replica_of m)) word));
    }
