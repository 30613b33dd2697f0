-- The numbers of the notes that a run prints are in the ranges of a reader.
use Rattle.std.proofs.Common.{◌≡◌, ℕ, zero, suc, ◌+◌, ◌-◌, ◌/◌, ◌^◌, ◌<◌, ◌≤◌, Bool, true, false, cond, List, [], ◌∷◌, ◌++◌, take, drop, length, refl, arith}
use Rattle.std.specs.Prelude.{Some, None, IfSome, nat_lt, ◌&&◌}
use Rattle.std.specs.declared.option.Option.{Option}
use Rattle.std.proofs.lemmas.Bool.Decides.{nat_tests}
use Rattle.s2_base.specs.Map.{place_at, is_between}
use Rattle.s2_base.specs.declared.map.TheConstants.{LOCAL_START, LOCAL_END, BOOT_START, BOOT_END, GLOBAL_START, GLOBAL_END, DEVICE_START, DEVICE_END, LOCAL_MEMORY_WORDS, GLOBAL_WORDS}
use Rattle.s2_base.specs.declared.places.Place.{Place}
use Rattle.s2_base.specs.declared.places.Place.TheVariants.{Local as LocalPlace, Boot, Global, Device, Nowhere}
use Rattle.s2_ports.specs.declared.events.Event.{Event}
use Rattle.s2_ports.specs.declared.events.Event.TheVariants.{Tick, Key, Private}
use Rattle.s2_ports.specs.declared.events.TheConstants.{NO_VALUE}
use Rattle.s2_ports.specs.Events.{AreValues}
use Rattle.s2_ports.specs.declared.events.BoardFault.TheVariants.{Dead, Flip}
use Rattle.s2_ports.specs.declared.requests.Request.{Request}
use Rattle.s2_ports.specs.declared.requests.Posted.{Posted}
use Rattle.s2_private.specs.PrivateValues.{agreeing_value, gathered}
use Rattle.s2_clock.specs.declared.numbers.TheConstants.{REFRESH_PERIOD}
use Rattle.s2_machine.specs.PrivateArea.{is_private_place}
use Rattle.s2_voter.specs.RequestEquality.{is_same_request}
use Rattle.s2_voter.specs.VoterState.{latch_of}
use Rattle.s2_ports.specs.declared.requests.Kind.{Kind}
use Rattle.s2_ports.specs.declared.requests.Kind.TheVariants.{Load, Store, Sync}
use Rattle.s2_revive.specs.declared.revive.Mending.{Mending}
use Rattle.s2_revive.specs.MendingBoards.{MendingBoards, IsMendingIn, AreMendingBoards, has_more, mended_by, mending_begins, unless_more}
use Rattle.s2_duplex.specs.DuplexBoards.{BoardPair, has_parity, repaired_by}
use Rattle.s2_voter.specs.declared.verdicts.Verdict.{Verdict}
use Rattle.s2_voter.specs.declared.verdicts.Verdict.TheVariants.{Waiting, Done, Split}
use Rattle.s2_voter.specs.Verdicts.{verdict_of}
use Rattle.s2_join.specs.declared.item.Item.{Item}
use Rattle.s2_join.specs.declared.item.Item.TheVariants.{Local, Saved}
use Rattle.s2_join.specs.CopyOrder.{is_last_item}
use Rattle.s2_script.specs.declared.entry.Act.{Act}
use Rattle.s2_script.specs.declared.entry.Act.TheVariants.{Event as EventAct, Poke, PokeLocal, Drive, Mute, Remove, Revive, Board, Mend}
use Rattle.s2_script.specs.declared.entry.Entry.TheVariants.{One}
use Rattle.s2_script.specs.ScriptLines.{IsProperEntry}
use Rattle.s2_journal.specs.declared.note.Why.{Why}
use Rattle.s2_journal.specs.declared.note.Why.TheVariants.{Differ, Late, Removed}
use Rattle.s2_journal.specs.declared.note.Note.{Note}
use Rattle.s2_journal.specs.declared.note.Note.TheVariants.{Delivered, Out, Lost, Repaired, BoardDead, Mend as MendNote, Mended, Join, Joined}
use Rattle.s2_journal.specs.ReportLines.{IsReadableNote}
use Rattle.s2_machine.specs.declared.deliveries.Delivery.{Delivery}
use Rattle.s2_triplex.specs.declared.numbers.TheConstants.{INBOX_EVENTS}
use Rattle.s2_triplex.specs.R2000Triplex.{r2000_triplex, boards_after_access}
use Rattle.s2_triplex.specs.TriplexState.{TriplexState, Reintegration, module_at, membership_at, is_out}
use Rattle.s2_triplex.specs.TickFirings.{after_firings}
use Rattle.s2_triplex.specs.VotedAccess.{RepairedWord, VotedAccess, deliveries_at, sync_access, global_index, repaired_at, access_of_kind, private_values}
use Rattle.s2_triplex.specs.VoterDecision.{StepEffects, StepResult, no_effects, after_verdict, tick_verdict, voted, is_idle_verdict, is_sync_verdict}
use Rattle.s2_triplex.specs.CopyHolds.{hold_begun, hold_begun_if, is_holding, after_idle_tick, tainted_if, item_copied, saved_word_copied, copied, after_hold_tick}
use Rattle.s2_triplex.specs.TickStep.{after_working_tick, ticked}
use Rattle.s2_triplex.specs.ActStep.{acted, is_revivable, revived}
use Rattle.s2_triplex.specs.StepTurns.{out_notes, repair_notes, delivery_notes, effect_notes, mended_notes, turn_notes, joined_notes_if, copy_notes, hold_notes, working_turn, hold_turn, tick_turn, act_notes}
use Rattle.s2_triplex_laws.specs.ReferenceAdvance.{DueUpTo}
use Rattle.s2_triplex_laws.specs.StepNotes.{deliveries_in}
use Rattle.s2_triplex_laws.specs.RepairInvariant.{RepairInvariant}
use Rattle.s2_triplex_laws.specs.PrivateFacts.{PrivateBounds}
use Rattle.s2_triplex_laws.proofs.PrivateBounds.{firings_are}
use Rattle.s2_triplex_laws.proofs.VoterTurn.{named_in}
use Rattle.s2_run.proofs.WrittenReports.{AreReadableNotes}

-- ---- events that a line can say

abbrev pub IsByteEvent : Event → Type 0
IsByteEvent Tick = Unit {0}
IsByteEvent (Key b) = b < 16 ^ 2
IsByteEvent (Private a b c) = ⊥

-- and those that a `d` line can say
abbrev pub IsPrintedEvent : Event → Type 0
IsPrintedEvent Tick = Unit {0}
IsPrintedEvent (Key b) = b < 16 ^ 2
IsPrintedEvent (Private a b c) = AreValues a b c

printed_byte : (event : Event) → IsByteEvent event → IsPrintedEvent event
printed_byte Tick h = tt
printed_byte (Key b) h = h
printed_byte (Private a b c) h = absurd h

abbrev pub AreByteEvents : List Event → Type 0
AreByteEvents [] = Unit {0}
AreByteEvents (e ∷ es) = IsByteEvent e × AreByteEvents es

abbrev AreByteDeliveries : List Delivery → Type 0
AreByteDeliveries [] = Unit {0}
AreByteDeliveries (d ∷ ds) = IsPrintedEvent d.event × AreByteDeliveries ds

take_bytes : (n : ℕ) (es : List Event) → AreByteEvents es → AreByteEvents (take n es)
take_bytes zero es h = tt
take_bytes (suc n) [] h = tt
take_bytes (suc n) (e ∷ es) h = (h.0, take_bytes n es h.1)

drop_bytes : (n : ℕ) (es : List Event) → AreByteEvents es → AreByteEvents (drop n es)
drop_bytes zero es h = h
drop_bytes (suc n) [] h = tt
drop_bytes (suc n) (e ∷ es) h = drop_bytes n es h.1

more_bytes : (es : List Event) (e : Event) → AreByteEvents es → IsByteEvent e → AreByteEvents (es ++ e ∷ [])
more_bytes [] e h is = (is, tt)
more_bytes (x ∷ es) e h is = (h.0, more_bytes es e h.1 is)

delivered_bytes : (run : ℕ) (es : List Event) → AreByteEvents es → AreByteDeliveries (deliveries_at run es)
delivered_bytes run [] h = tt
delivered_bytes run (e ∷ es) h = (printed_byte e h.0, delivered_bytes run es h.1)

-- what is kept: the events that wait are such, and the tainted processor is one of the three
pub record IsReadableState (d : TriplexState) : Type 0 where
  pub inbox : AreByteEvents d.inbox
  pub tainted : (p : ℕ) → d.tainted ≡ Some p → p < 3

-- ---- notes whose numbers are in their ranges, but for the run counts of deliveries

abbrev pub IsNearlyReadable : Note → Type 0
IsNearlyReadable (Delivered run event) = IsPrintedEvent event
IsNearlyReadable (Out tick p why) = IsReadableNote (Out tick p why)
IsNearlyReadable (Lost tick event) = IsReadableNote (Lost tick event)
IsNearlyReadable (Repaired tick b index) = IsReadableNote (Repaired tick b index)
IsNearlyReadable (BoardDead tick b) = IsReadableNote (BoardDead tick b)
IsNearlyReadable (MendNote tick b) = IsReadableNote (MendNote tick b)
IsNearlyReadable (Mended tick b) = IsReadableNote (Mended tick b)
IsNearlyReadable (Join tick p) = IsReadableNote (Join tick p)
IsNearlyReadable (Joined tick p good) = IsReadableNote (Joined tick p good)

abbrev pub AreNearlyReadable : List Note → Type 0
AreNearlyReadable [] = Unit {0}
AreNearlyReadable (n ∷ ns) = IsNearlyReadable n × AreNearlyReadable ns

pub nearly_both : (a b : List Note) → AreNearlyReadable a → AreNearlyReadable b → AreNearlyReadable (a ++ b)
nearly_both [] b x y = y
nearly_both (n ∷ a) b x y = (x.0, nearly_both a b x.1 y)

delivered_readable : (run : ℕ) (event : Event) → run ≤ 2 ^ 40 → IsPrintedEvent event → IsReadableNote (Delivered run event)
delivered_readable run Tick room h = ((omega arith, omega arith), tt)
delivered_readable run (Key b) room h = ((omega arith, omega arith), (h, tt))
delivered_readable run (Private a b c) room h =
    let x = h.first in
    let y = h.second in
    let z = h.third in
    ((omega arith, omega arith), ((omega arith, omega arith), ((omega arith, omega arith), ((omega arith, omega arith), tt))))

-- where the deliveries are due, the run counts are in their range, too
pub all_readable : (ns : List Note) (n : ℕ) → n ≤ 2 ^ 40 → AreNearlyReadable ns → DueUpTo n (deliveries_in ns) → AreReadableNotes ns
all_readable [] n room h due = tt
all_readable (Delivered run event ∷ ns) n room h due = let k = due.0 in (delivered_readable run event (omega arith) h.0, all_readable ns n room h.1 due.1)
all_readable (Out tick p why ∷ ns) n room h due = (h.0, all_readable ns n room h.1 due)
all_readable (Lost tick event ∷ ns) n room h due = (h.0, all_readable ns n room h.1 due)
all_readable (Repaired tick b index ∷ ns) n room h due = (h.0, all_readable ns n room h.1 due)
all_readable (BoardDead tick b ∷ ns) n room h due = (h.0, all_readable ns n room h.1 due)
all_readable (MendNote tick b ∷ ns) n room h due = (h.0, all_readable ns n room h.1 due)
all_readable (Mended tick b ∷ ns) n room h due = (h.0, all_readable ns n room h.1 due)
all_readable (Join tick p ∷ ns) n room h due = (h.0, all_readable ns n room h.1 due)
all_readable (Joined tick p good ∷ ns) n room h due = (h.0, all_readable ns n room h.1 due)

-- ---- the notes of a voter's turn

out_nearly : (tick : ℕ) (why : Why) (o : Option ℕ) → tick ≤ 2 ^ 40 → IfSome o (λ p. p < 3) → AreNearlyReadable (out_notes tick why o)
out_nearly tick why None room h = tt
out_nearly tick why (Some p) room h = (((omega arith, omega arith), ((omega arith, omega arith), tt)), tt)

abbrev IsWordThere : RepairedWord → Type 0
IsWordThere w = (w.board < 2) × (w.index < GLOBAL_WORDS)

repair_nearly : (tick : ℕ) (o : Option RepairedWord) → tick ≤ 2 ^ 40 → IfSome o IsWordThere → AreNearlyReadable (repair_notes tick o)
repair_nearly tick None room h = tt
repair_nearly tick (Some w) room h = let b = h.0 in let i = h.1 in (((omega arith, omega arith), ((omega arith, omega arith), ((omega arith, omega arith), tt))), tt)

delivery_nearly : (ds : List Delivery) → AreByteDeliveries ds → AreNearlyReadable (delivery_notes ds)
delivery_nearly [] h = tt
delivery_nearly (d ∷ ds) h = (h.0, delivery_nearly ds h.1)

record AreReadableEffects (e : StepEffects) : Type 0 where
  differ : IfSome e.differ (λ p. p < 3)
  late : IfSome e.late (λ p. p < 3)
  repaired : IfSome e.repaired IsWordThere
  deliveries : AreByteDeliveries e.deliveries

effects_nearly : (tick : ℕ) (e : StepEffects) → tick ≤ 2 ^ 40 → AreReadableEffects e → AreNearlyReadable (effect_notes tick e)
effects_nearly tick e room h =
    nearly_both (out_notes tick Differ e.differ) (out_notes tick Late e.late ++ (repair_notes tick e.repaired ++ delivery_notes e.deliveries)) (out_nearly tick Differ e.differ room h.differ)
    (nearly_both (out_notes tick Late e.late) (repair_notes tick e.repaired ++ delivery_notes e.deliveries) (out_nearly tick Late e.late room h.late)
    (nearly_both (repair_notes tick e.repaired) (delivery_notes e.deliveries) (repair_nearly tick e.repaired room h.repaired) (delivery_nearly e.deliveries h.deliveries)))

-- the word that a read rewrites
index_by : (pa x y z : ℕ) (a b c e : Bool) → is_between GLOBAL_START pa GLOBAL_END ≡ c → global_index (cond a (LocalPlace x) (cond b (Boot y) (cond c (Global ((pa - GLOBAL_START) / 4)) (cond e (Device z) Nowhere)))) < GLOBAL_WORDS
index_by pa x y z true b c e is = omega arith
index_by pa x y z false true c e is = omega arith
index_by pa x y z false false true e is = let low : GLOBAL_START ≤ pa = grind (arith, nat_tests) in let high : pa < GLOBAL_END = grind (arith, nat_tests) in omega arith
index_by pa x y z false false false true is = omega arith
index_by pa x y z false false false false is = omega arith

index_there : (pa : ℕ) → global_index (place_at pa) < GLOBAL_WORDS
index_there pa = index_by pa ((pa - LOCAL_START) / 4) (LOCAL_MEMORY_WORDS + (pa - BOOT_START) / 4) ((pa - DEVICE_START) / 4) (is_between LOCAL_START pa LOCAL_END) (is_between BOOT_START pa BOOT_END) (is_between GLOBAL_START pa GLOBAL_END) (is_between DEVICE_START pa DEVICE_END) refl

fits_there : (a b : Bool) (s : BoardPair) (i : ℕ) → IfSome (repaired_by a b s i).repaired (λ n. n < 2)
fits_there false b s i = omega arith
fits_there true false s i = omega arith
fits_there true true s i = tt

read_by : (t : Bool) (s : BoardPair) (i : ℕ) → IfSome (cond t (repaired_by (has_parity s.first i) (has_parity s.second i) s i) (record { boards = s; repaired = None })).repaired (λ n. n < 2)
read_by true s i = fits_there (has_parity s.first i) (has_parity s.second i) s i
read_by false s i = tt

board_there : (s : MendingBoards) (kind : Kind) (word mask : ℕ) (place : Place) → IfSome (boards_after_access s kind word mask place).repaired (λ n. n < 2)
board_there s Load word mask (Global i) = read_by (s.pair.first.is_in && s.pair.second.is_in) s.pair i
board_there s Load word mask (LocalPlace i) = tt
board_there s Load word mask (Boot i) = tt
board_there s Load word mask (Device i) = tt
board_there s Load word mask Nowhere = tt
board_there s Store word mask (Global i) = tt
board_there s Store word mask (LocalPlace i) = tt
board_there s Store word mask (Boot i) = tt
board_there s Store word mask (Device i) = tt
board_there s Store word mask Nowhere = tt
board_there s Sync word mask (Global i) = tt
board_there s Sync word mask (LocalPlace i) = tt
board_there s Sync word mask (Boot i) = tt
board_there s Sync word mask (Device i) = tt
board_there s Sync word mask Nowhere = tt

word_there : (pa : ℕ) (o : Option ℕ) → IfSome o (λ n. n < 2) → IfSome (repaired_at pa o) IsWordThere
word_there pa None h = tt
word_there pa (Some board) h = (h, index_there pa)

-- what an access of a kind leaves and gives
record IsReadableAccess (a : VotedAccess) : Type 0 where
  inbox : AreByteEvents a.inbox
  deliveries : AreByteDeliveries a.deliveries
  repaired : IfSome a.repaired IsWordThere

sync_readable : (d : TriplexState) (run count : ℕ) → AreByteEvents d.inbox → IsReadableAccess (sync_access d run count)
sync_readable d run count h =
    let n = count - d.delivered in
    record { inbox = drop_bytes n d.inbox h; deliveries = delivered_bytes run (take n d.inbox) (take_bytes n d.inbox h); repaired = tt }

-- private values are numbers of firings, and NO_VALUE is the greatest number
value_there : (r : Request) (latch : Option Posted) (value : ℕ) → value ≤ NO_VALUE → agreeing_value r latch value ≤ NO_VALUE
value_there r None value h = omega arith
value_there r (Some posted) value h = value_if (is_same_request r posted.request) value h
  where
    value_if : (b : Bool) (value : ℕ) → value ≤ NO_VALUE → cond b value NO_VALUE ≤ NO_VALUE
    value_if true value h = h
    value_if false value h = omega arith

abbrev ArePrivateValues : TriplexState → Type 0
ArePrivateValues d = (p : ℕ) → p < 3 → (module_at d.modules p).private < REFRESH_PERIOD

values_there : (d : TriplexState) (r : Request) → ArePrivateValues d → IsPrintedEvent (gathered d.voter r (private_values d.modules))
values_there d r h =
    let x = h 0 (omega arith) in
    let y = h 1 (omega arith) in
    let z = h 2 (omega arith) in
    record {
      first = value_there r (latch_of d.voter 0) (module_at d.modules 0).private (omega arith);
      second = value_there r (latch_of d.voter 1) (module_at d.modules 1).private (omega arith);
      third = value_there r (latch_of d.voter 2) (module_at d.modules 2).private (omega arith);
    }

one_printed : (b : Bool) (run : ℕ) (event : Event) → IsPrintedEvent event → AreByteDeliveries (deliveries_at run (cond b (event ∷ []) []))
one_printed true run event h = (h, tt)
one_printed false run event h = tt

access_readable : (d : TriplexState) (r : Request) (kind : Kind) → AreByteEvents d.inbox → ArePrivateValues d → IsReadableAccess (access_of_kind r2000_triplex d r kind)
access_readable d r Sync h v = sync_readable d r.run _ h
access_readable d r Load h v = record { inbox = h; deliveries = tt; repaired = word_there r.address _ (board_there d.boards r.kind r.word r.mask (place_at r.address)) }
access_readable d r Store h v = record { inbox = h; deliveries = one_printed (is_private_place (place_at r.address)) r.run _ (values_there d r v); repaired = word_there r.address _ (board_there d.boards r.kind r.word r.mask (place_at r.address)) }

-- a verdict, and the machine behind it
record IsReadableResult (x : StepResult) : Type 0 where
  effects : AreReadableEffects x.effects
  state : IsReadableState x.next

no_effects_readable : AreReadableEffects no_effects
no_effects_readable = record { differ = tt; late = tt; repaired = tt; deliveries = tt }

verdict_readable : (d : TriplexState) (v : Verdict) → verdict_of d.voter ≡ v → IsReadableState d → ArePrivateValues d → IsReadableResult (after_verdict r2000_triplex d v)
verdict_readable d Waiting is h w = record { effects = no_effects_readable; state = h }
verdict_readable d Split is h w = record { effects = no_effects_readable; state = h }
verdict_readable d (Done r differ late) is h w =
    let named = named_in d.voter r differ late is in
    let a = access_readable d r r.kind h.inbox w in
    record {
      effects = record { differ = named.0; late = named.1; repaired = a.repaired; deliveries = a.deliveries };
      state = record { inbox = a.inbox; tainted = h.tainted };
    }

begun_readable : (d : TriplexState) (o : Option Reintegration) → IsReadableState d → IsReadableState (hold_begun d o)
begun_readable d None h = h
begun_readable d (Some j) h = record { inbox = h.inbox; tainted = h.tainted }

begun_if_readable : (b : Bool) (d : TriplexState) → IsReadableState d → IsReadableState (hold_begun_if b d)
begun_if_readable true d h = begun_readable d d.reintegration h
begun_if_readable false d h = h

-- ---- a tick

-- the board that an idle turn brings in is one of the two
out_there : (x y : Bool) (b : ℕ) → cond {A = Option ℕ} x (cond y None (Some 1)) (Some 0) ≡ Some b → b < 2
out_there true true b h = absurd cc
out_there true false b h = let e : 1 ≡ b = cc in omega arith
out_there false y b h = let e : 0 ≡ b = cc in omega arith

there_unless : (b : ℕ) (more : Bool) → b < 2 → IfSome (unless_more b more) (λ n. n < 2)
there_unless b true low = tt
there_unless b false low = low

mended_there : (s : BoardPair) (o : Option Mending) → IsMendingIn s o → IfSome (mended_by o) (λ n. n < 2)
mended_there s None h = tt
mended_there s (Some m) h = there_unless m.board (has_more m) (out_there s.first.is_in s.second.is_in m.board h.out)

mended_nearly : (tick : ℕ) (o : Option ℕ) → tick ≤ 2 ^ 40 → IfSome o (λ n. n < 2) → AreNearlyReadable (mended_notes tick o)
mended_nearly tick None room h = tt
mended_nearly tick (Some board) room h = (((omega arith, omega arith), ((omega arith, omega arith), tt)), tt)

turn_nearly : (idle : Bool) (tick : ℕ) (mended : Option ℕ) (e : StepEffects) → tick ≤ 2 ^ 40 → IfSome mended (λ n. n < 2) → AreReadableEffects e → AreNearlyReadable (turn_notes idle tick mended e)
turn_nearly true tick mended e room h x = mended_nearly tick mended room h
turn_nearly false tick mended e room h x = effects_nearly tick e room x

working_readable : (d : TriplexState) (mask : ℕ) → d.ticks < 2 ^ 40 → AreMendingBoards d.boards → PrivateBounds d → IsReadableState d → AreNearlyReadable (working_turn r2000_triplex d mask).notes × IsReadableState (after_working_tick r2000_triplex d mask).next
working_readable d mask room boards w h =
    let v = tick_verdict r2000_triplex d mask in
    let x = verdict_readable (after_firings r2000_triplex d mask) v refl (record { inbox = h.inbox; tainted = h.tainted }) (firings_are r2000_triplex d mask w.values) in
    let begun = begun_if_readable (is_sync_verdict v) (voted r2000_triplex d mask).next x.state in (
      turn_nearly (is_idle_verdict v) (d.ticks + 1) (mended_by d.boards.mending) (voted r2000_triplex d mask).effects (omega arith) (mended_there d.boards.pair d.boards.mending boards.mending) x.effects,
      record { inbox = begun.inbox; tainted = begun.tainted },
    )

joined_nearly : (b : Bool) (tick : ℕ) (j : Reintegration) → tick ≤ 2 ^ 40 → j.copying.joiner < 3 → AreNearlyReadable (joined_notes_if b tick j)
joined_nearly true tick j room low = (((omega arith, omega arith), ((omega arith, omega arith), tt)), tt)
joined_nearly false tick j room low = tt

copy_nearly : (tick : ℕ) (j : Reintegration) (items : List Item) → tick ≤ 2 ^ 40 → j.copying.joiner < 3 → AreNearlyReadable (copy_notes tick j items)
copy_nearly tick j [] room low = tt
copy_nearly tick j (item ∷ left) room low = joined_nearly (is_last_item item) tick j room low

hold_nearly : (tick : ℕ) (o : Option Reintegration) → tick ≤ 2 ^ 40 → ((j : Reintegration) → o ≡ Some j → j.copying.joiner < 3) → AreNearlyReadable (hold_notes tick o)
hold_nearly tick None room low = tt
hold_nearly tick (Some j) room low = copy_nearly tick j j.copying.left room (low j refl)

untainted : (b : Bool) (o : Option ℕ) → ((p : ℕ) → o ≡ Some p → p < 3) → (p : ℕ) → tainted_if b o ≡ Some p → p < 3
untainted true o h p is = h p is
untainted false o h p is = absurd cc

saved_readable : (b : Bool) (d : TriplexState) (j : Reintegration) → IsReadableState d → IsReadableState (saved_word_copied b d j)
saved_readable true d j h = record { inbox = h.inbox; tainted = untainted j.disturbed d.tainted h.tainted }
saved_readable false d j h = record { inbox = h.inbox; tainted = h.tainted }

item_readable : (d : TriplexState) (j : Reintegration) (items : List Item) → IsReadableState d → IsReadableState (item_copied d j items)
item_readable d j [] h = h
item_readable d j (Local i ∷ left) h = record { inbox = h.inbox; tainted = h.tainted }
item_readable d j (Saved n ∷ left) h = saved_readable (is_last_item (Saved n)) d j h

copied_readable : (d : TriplexState) (o : Option Reintegration) → IsReadableState d → IsReadableState (copied d o)
copied_readable d None h = h
copied_readable d (Some j) h = item_readable d j j.copying.left h

hold_readable : (d : TriplexState) (mask : ℕ) → d.ticks < 2 ^ 40 → RepairInvariant d → IsReadableState d → AreNearlyReadable (hold_turn d).notes × IsReadableState (after_hold_tick d mask)
hold_readable d mask room r h = (
  hold_nearly (d.ticks + 1) d.reintegration (omega arith) (λ j is. h.tainted j.copying.joiner (r.opened j is).tainted),
  copied_readable (after_idle_tick d mask) d.reintegration (record { inbox = h.inbox; tainted = h.tainted }),
)

tick_by : (d : TriplexState) (mask : ℕ) (b : Bool) → d.ticks < 2 ^ 40 → RepairInvariant d → AreMendingBoards d.boards → PrivateBounds d → IsReadableState d →
    AreNearlyReadable (cond b (hold_turn d) (working_turn r2000_triplex d mask)).notes × IsReadableState (cond b (record { next = after_hold_tick d mask; effects = no_effects }) (after_working_tick r2000_triplex d mask)).next
tick_by d mask true room r boards w h = hold_readable d mask room r h
tick_by d mask false room r boards w h = working_readable d mask room boards w h

pub tick_readable : (d : TriplexState) (mask : ℕ) → d.ticks < 2 ^ 40 → RepairInvariant d → AreMendingBoards d.boards → PrivateBounds d → IsReadableState d → AreNearlyReadable (tick_turn r2000_triplex d mask).notes × IsReadableState (ticked r2000_triplex d mask).next
tick_readable d mask room r boards w h = tick_by d mask (is_holding d.reintegration) room r boards w h

-- ---- an act

proper_event : (event : Event) → IsProperEntry (One (EventAct event)) → IsByteEvent event
proper_event Tick h = tt
proper_event (Key b) h = h.0
proper_event (Private a b c) h = absurd h

lost_readable : (tick : ℕ) (event : Event) → tick ≤ 2 ^ 40 → IsByteEvent event → IsReadableNote (Lost tick event)
lost_readable tick Tick room h = ((omega arith, omega arith), tt)
lost_readable tick (Key b) room h = ((omega arith, omega arith), (h, tt))
lost_readable tick (Private a b c) room h = absurd h

only_if : (b : Bool) (ns : List Note) → AreNearlyReadable ns → AreNearlyReadable (cond b ns [])
only_if true ns h = h
only_if false ns h = tt

but_if : (b : Bool) (ns : List Note) → AreNearlyReadable ns → AreNearlyReadable (cond b [] ns)
but_if true ns h = tt
but_if false ns h = h

one_tainted : (p : ℕ) → p < 3 → (q : ℕ) → Some p ≡ Some q → q < 3
one_tainted p low q is = let same : p ≡ q = cc in omega arith

state_by : (b : Bool) (d e : TriplexState) → IsReadableState d → IsReadableState e → IsReadableState (cond b e d)
state_by true d e x y = y
state_by false d e x y = x

pub act_readable : (d : TriplexState) (act : Act) → d.ticks ≤ 2 ^ 40 → IsProperEntry (One act) → IsReadableState d → AreNearlyReadable (act_notes d act) × IsReadableState (acted act d)
act_readable d (EventAct event) room proper h =
    let is = proper_event event proper in
    (but_if (nat_lt (length d.inbox) INBOX_EVENTS) (Lost d.ticks event ∷ []) (lost_readable d.ticks event room is, tt), state_by (nat_lt (length d.inbox) INBOX_EVENTS) d _ h (record { inbox = more_bytes d.inbox event h.inbox is; tainted = h.tainted }))
act_readable d (Poke p k v) room proper h = let low = proper.0.1 in (tt, record { inbox = h.inbox; tainted = one_tainted p (omega arith) })
act_readable d (PokeLocal p i v) room proper h = let low = proper.0.1 in (tt, record { inbox = h.inbox; tainted = one_tainted p (omega arith) })
act_readable d (Drive p posted) room proper h = let low = proper.0.1 in (tt, record { inbox = h.inbox; tainted = one_tainted p (omega arith) })
act_readable d (Mute p) room proper h = let low = proper.0.1 in (tt, record { inbox = h.inbox; tainted = one_tainted p (omega arith) })
act_readable d (Remove p) room proper h =
    let low = proper.0.1 in
    (but_if (is_out (membership_at d.memberships p)) (Out d.ticks p Removed ∷ []) (((omega arith, omega arith), ((omega arith, omega arith), tt)), tt), record { inbox = h.inbox; tainted = one_tainted p (omega arith) })
act_readable d (Revive p) room proper h =
    let low = proper.0.1 in
    (only_if (is_revivable p d) (Join d.ticks p ∷ []) (((omega arith, omega arith), ((omega arith, omega arith), tt)), tt), state_by (is_revivable p d) d (revived p d) h (record { inbox = h.inbox; tainted = h.tainted }))
act_readable d (Board (Dead board)) room proper h = let low = proper.0.1 in ((((omega arith, omega arith), ((omega arith, omega arith), tt)), tt), record { inbox = h.inbox; tainted = h.tainted })
act_readable d (Board (Flip board index bit)) room proper h = (tt, record { inbox = h.inbox; tainted = h.tainted })
act_readable d (Mend board) room proper h =
    let low = proper.0.1 in
    (only_if (mending_begins board d.boards) (MendNote d.ticks board ∷ []) (((omega arith, omega arith), ((omega arith, omega arith), tt)), tt), record { inbox = h.inbox; tainted = h.tainted })
