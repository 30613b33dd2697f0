-- A note that a board is mended comes at the end of its mending alone, and one that a mending begins at its begin.
use Rattle.std.proofs.Common.{◌≡◌, ℕ, zero, suc, ◌+◌, List, [], ◌∷◌, ◌++◌, refl, sym, ap, subst, inl, inr, ◌⊎◌, arith}
use Rattle.std.specs.Prelude.{Bool, true, false, not, nat_lt, ◌&&◌, length, Some, None, if◌then◌else◌}
use Rattle.std.specs.List.{Contains}
use Rattle.std.specs.declared.option.Option.{Option}
use Rattle.s2_ports.specs.declared.events.Event.{Event}
use Rattle.s2_ports.specs.declared.events.BoardFault.{BoardFault}
use Rattle.s2_ports.specs.declared.events.BoardFault.TheVariants.{Dead, Flip}
use Rattle.s2_revive.specs.declared.revive.Mending.{Mending}
use Rattle.s2_revive.specs.MendingBoards.{begins_in, mended_by, mending_begins}
use Rattle.s2_duplex.specs.DuplexBoards.{BoardPair}
use Rattle.s2_revive.proofs.MendingMemory.{begins_out}
use Rattle.s2_join.specs.declared.item.Item.{Item}
use Rattle.s2_join.specs.CopyOrder.{is_last_item}
use Rattle.s2_script.specs.declared.entry.Act.{Act}
use Rattle.s2_script.specs.declared.entry.Act.TheVariants.{Event as EventAct, Poke, PokeLocal, Drive, Mute, Remove, Revive, Board, Mend as MendAct}
use Rattle.s2_journal.specs.declared.note.Why.{Why}
use Rattle.s2_journal.specs.declared.note.Why.TheVariants.{Differ, Late, Removed}
use Rattle.s2_journal.specs.declared.note.Note.{Note}
use Rattle.s2_journal.specs.declared.note.Note.TheVariants.{Delivered, Out, Lost, Repaired, BoardDead, Mend, Mended, Join, Joined}
use Rattle.s2_machine.specs.declared.deliveries.Delivery.{Delivery}
use Rattle.s2_triplex.specs.declared.numbers.TheConstants.{INBOX_EVENTS}
use Rattle.s2_triplex.specs.TriplexCores.{TriplexCore}
use Rattle.s2_triplex.specs.TriplexState.{TriplexState, Reintegration, membership_at, is_out}
use Rattle.s2_triplex.specs.VotedAccess.{RepairedWord}
use Rattle.s2_triplex.specs.VoterDecision.{StepEffects, tick_verdict, voted, is_idle_verdict}
use Rattle.s2_triplex.specs.CopyHolds.{is_holding}
use Rattle.s2_triplex.specs.ActStep.{is_revivable}
use Rattle.s2_triplex.specs.StepTurns.{out_notes, repair_notes, delivery_notes, effect_notes, mended_notes, turn_notes, joined_notes_if, copy_notes, hold_notes, hold_turn, working_turn, board_notes, act_notes}
use Rattle.s2_triplex.specs.TriplexSteps.{TriplexStep, clock_tick, script_act}
use Rattle.s2_triplex_laws.specs.MendingGoesOn.{MendedNotesEndMendings, BeginsMending, MendNotesBeginMendings}

-- one of some notes is so
abbrev OneIs : (Note → Type 0) → List Note → Type 0
OneIs P [] = ⊥
OneIs P (n ∷ ns) = P n ⊎ OneIs P ns

first_or_later : (note x : Note) (notes : List Note) → Contains (note ∷ notes) x → (note ≡ x) ⊎ Contains notes x
first_or_later note x notes (zero, low, is) = inl is
first_or_later note x notes (suc i, low, is) = inr (i, omega arith, is)

one_is : (P : Note → Type 0) (x : Note) (notes : List Note) → P x → Contains notes x → OneIs P notes
one_is P x [] so (i, low, is) = absurd (omega arith)
one_is P x (n ∷ ns) so c = elim (first_or_later n x ns c) [
  | inl same ↦ inl (subst P (sym same) so)
  | inr later ↦ inr (one_is P x ns so later)
]

-- what is so of no note but those of mendings
record IsOfMendings (P : Note → Type 0) : Type 0 where
  delivered : (run : ℕ) (event : Event) → P (Delivered run event) → ⊥
  out : (tick p : ℕ) (why : Why) → P (Out tick p why) → ⊥
  lost : (tick : ℕ) (event : Event) → P (Lost tick event) → ⊥
  repaired : (tick board index : ℕ) → P (Repaired tick board index) → ⊥
  dead : (tick board : ℕ) → P (BoardDead tick board) → ⊥
  join : (tick p : ℕ) → P (Join tick p) → ⊥
  joined : (tick p : ℕ) (good : Bool) → P (Joined tick p good) → ⊥

-- the notes of other steps
module _ (P : Note → Type 0) (s : IsOfMendings P) where
  is_either : (a b : List Note) → OneIs P (a ++ b) → OneIs P a ⊎ OneIs P b
  is_either [] b h = inr h
  is_either (n ∷ a) b (inl h) = inl (inl h)
  is_either (n ∷ a) b (inr h) = elim (is_either a b h) [ inl x ↦ inl (inr x) | inr y ↦ inr y ]

  alone_silent : (n : Note) → (P n → ⊥) → OneIs P (n ∷ []) → ⊥
  alone_silent n not (inl h) = not h
  alone_silent n not (inr h) = h

  out_silent : (t : ℕ) (why : Why) (o : Option ℕ) → OneIs P (out_notes t why o) → ⊥
  out_silent t why None h = h
  out_silent t why (Some p) h = alone_silent (Out t p why) (s.out t p why) h

  repair_silent : (t : ℕ) (o : Option RepairedWord) → OneIs P (repair_notes t o) → ⊥
  repair_silent t None h = h
  repair_silent t (Some word) h = alone_silent (Repaired t word.board word.index) (s.repaired t word.board word.index) h

  delivery_silent : (ds : List Delivery) → OneIs P (delivery_notes ds) → ⊥
  delivery_silent [] h = h
  delivery_silent (d ∷ ds) (inl h) = s.delivered d.run d.event h
  delivery_silent (d ∷ ds) (inr h) = delivery_silent ds h

  effects_silent : (t : ℕ) (e : StepEffects) → OneIs P (effect_notes t e) → ⊥
  effects_silent t e h = elim (is_either (out_notes t Differ e.differ) (out_notes t Late e.late ++ (repair_notes t e.repaired ++ delivery_notes e.deliveries)) h) [
    | inl x ↦ out_silent t Differ e.differ x
    | inr x ↦ elim (is_either (out_notes t Late e.late) (repair_notes t e.repaired ++ delivery_notes e.deliveries) x) [
      | inl y ↦ out_silent t Late e.late y
      | inr y ↦ elim (is_either (repair_notes t e.repaired) (delivery_notes e.deliveries) y) [
        | inl z ↦ repair_silent t e.repaired z
        | inr z ↦ delivery_silent e.deliveries z
      ]
    ]
  ]

  joined_silent : (t : ℕ) (b : Bool) (j : Reintegration) → OneIs P (joined_notes_if b t j) → ⊥
  joined_silent t true j h = alone_silent (Joined t j.copying.joiner (not j.disturbed)) (s.joined t j.copying.joiner (not j.disturbed)) h
  joined_silent t false j h = h

  copy_silent : (t : ℕ) (j : Reintegration) (items : List Item) → OneIs P (copy_notes t j items) → ⊥
  copy_silent t j [] h = h
  copy_silent t j (item ∷ left) h = joined_silent t (is_last_item item) j h

  hold_silent : (t : ℕ) (o : Option Reintegration) → OneIs P (hold_notes t o) → ⊥
  hold_silent t None h = h
  hold_silent t (Some j) h = copy_silent t j j.copying.left h

  unless_silent : (b : Bool) (n : Note) → (P n → ⊥) → OneIs P (if b then [] else n ∷ []) → ⊥
  unless_silent true n not h = h
  unless_silent false n not h = alone_silent n not h

  if_silent : (b : Bool) (n : Note) → (P n → ⊥) → OneIs P (if b then n ∷ [] else []) → ⊥
  if_silent true n not h = alone_silent n not h
  if_silent false n not h = h

  board_silent : (t : ℕ) (fault : BoardFault) → OneIs P (board_notes t fault) → ⊥
  board_silent t (Dead b) h = alone_silent (BoardDead t b) (s.dead t b) h
  board_silent t (Flip b index bit) h = h

-- ---- a note that a board is mended

-- whether a note says so, at this tick
abbrev SaysMended : ℕ → ℕ → Note → Type 0
SaysMended tick board (Mended t b) = (t ≡ tick) × (b ≡ board)
SaysMended tick board (Delivered run event) = ⊥
SaysMended tick board (Out t p why) = ⊥
SaysMended tick board (Lost t event) = ⊥
SaysMended tick board (Repaired t b index) = ⊥
SaysMended tick board (BoardDead t b) = ⊥
SaysMended tick board (Mend t b) = ⊥
SaysMended tick board (Join t p) = ⊥
SaysMended tick board (Joined t p good) = ⊥

ends_only : (tick board : ℕ) → IsOfMendings (SaysMended tick board)
ends_only tick board = record {
  delivered = λ run event h. h;
  out = λ t p why h. h;
  lost = λ t event h. h;
  repaired = λ t b index h. h;
  dead = λ t b h. h;
  join = λ t p h. h;
  joined = λ t p good h. h;
}

act_silent : (tick board : ℕ) (d : TriplexState) (act : Act) → OneIs (SaysMended tick board) (act_notes d act) → ⊥
act_silent tick board d (EventAct event) h = unless_silent (SaysMended tick board) (ends_only tick board) (nat_lt (length d.inbox) INBOX_EVENTS) (Lost d.ticks event) (λ x. x) h
act_silent tick board d (Poke p k v) h = h
act_silent tick board d (PokeLocal p i v) h = h
act_silent tick board d (Drive p posted) h = h
act_silent tick board d (Mute p) h = h
act_silent tick board d (Remove p) h = unless_silent (SaysMended tick board) (ends_only tick board) (is_out (membership_at d.memberships p)) (Out d.ticks p Removed) (λ x. x) h
act_silent tick board d (Revive p) h = if_silent (SaysMended tick board) (ends_only tick board) (is_revivable p d) (Join d.ticks p) (λ x. x) h
act_silent tick board d (Board fault) h = board_silent (SaysMended tick board) (ends_only tick board) d.ticks fault h
act_silent tick board d (MendAct b) h = if_silent (SaysMended tick board) (ends_only tick board) (mending_begins b d.boards) (Mend d.ticks b) (λ x. x) h

-- the note of an idle turn
mended_says : (tick board t : ℕ) (o : Option ℕ) → OneIs (SaysMended tick board) (mended_notes t o) → (t ≡ tick) × (o ≡ Some board)
mended_says tick board t None h = absurd h
mended_says tick board t (Some b) (inl h) = (h.0, ap (λ (n : ℕ). Some n) h.1)
mended_says tick board t (Some b) (inr h) = absurd h

abbrev Tells : ℕ → ℕ → ℕ → Option ℕ → Bool → Type 0
Tells tick board t o idle = (idle ≡ true) × (o ≡ Some board) × (tick ≡ t)

turn_says : (tick board t : ℕ) (o : Option ℕ) (e : StepEffects) (idle : Bool) → OneIs (SaysMended tick board) (turn_notes idle t o e) →
    Tells tick board t o idle
turn_says tick board t o e true h = let m = mended_says tick board t o h in (refl, m.1, sym m.0)
turn_says tick board t o e false h = absurd (effects_silent (SaysMended tick board) (ends_only tick board) t e h)

tick_says : (k : TriplexCore) (d : TriplexState) (mask tick board : ℕ) (b : Bool) →
    OneIs (SaysMended tick board) (if b then hold_turn d else working_turn k d mask).notes →
    Tells tick board (d.ticks + 1) (mended_by d.boards.mending) (not b && is_idle_verdict (tick_verdict k d mask))
tick_says k d mask tick board true h = absurd (hold_silent (SaysMended tick board) (ends_only tick board) (d.ticks + 1) d.reintegration h)
tick_says k d mask tick board false h =
    turn_says tick board (d.ticks + 1) (mended_by d.boards.mending) (voted k d mask).effects (is_idle_verdict (tick_verdict k d mask)) h

pub mended_notes_end_mendings : MendedNotesEndMendings
mended_notes_end_mendings k d (clock_tick mask) tick board c =
    tick_says k d mask tick board (is_holding d.reintegration) (one_is (SaysMended tick board) (Mended tick board) _ (refl, refl) c)
mended_notes_end_mendings k d (script_act act) tick board c =
    absurd (act_silent tick board d act (one_is (SaysMended tick board) (Mended tick board) _ (refl, refl) c))

-- ---- a note that a mending begins

abbrev SaysMend : ℕ → ℕ → Note → Type 0
SaysMend tick board (Mend t b) = (t ≡ tick) × (b ≡ board)
SaysMend tick board (Mended t b) = ⊥
SaysMend tick board (Delivered run event) = ⊥
SaysMend tick board (Out t p why) = ⊥
SaysMend tick board (Lost t event) = ⊥
SaysMend tick board (Repaired t b index) = ⊥
SaysMend tick board (BoardDead t b) = ⊥
SaysMend tick board (Join t p) = ⊥
SaysMend tick board (Joined t p good) = ⊥

begins_only : (tick board : ℕ) → IsOfMendings (SaysMend tick board)
begins_only tick board = record {
  delivered = λ run event h. h;
  out = λ t p why h. h;
  lost = λ t event h. h;
  repaired = λ t b index h. h;
  dead = λ t b h. h;
  join = λ t p h. h;
  joined = λ t p good h. h;
}

begins_none : (b : ℕ) (s : BoardPair) (o : Option Mending) → begins_in b s o ≡ true → o ≡ None
begins_none b s None h = refl
begins_none b s (Some m) h = absurd cc

-- the act of the note
begins_by : (k : TriplexCore) (d : TriplexState) (tick board b : ℕ) (begins : Bool) → mending_begins b d.boards ≡ begins →
    OneIs (SaysMend tick board) (if begins then Mend d.ticks b ∷ [] else []) → BeginsMending k d (script_act (MendAct b)) tick board
begins_by k d tick board b false is h = absurd h
begins_by k d tick board b true is (inr h) = absurd h
begins_by k d tick board b true is (inl h) = subst (λ (x : ℕ). BeginsMending k d (script_act (MendAct b)) tick x) h.1 (record {
  step = refl;
  now = sym h.0;
  out = begins_out b d.boards.pair d.boards.mending is;
  none = begins_none b d.boards.pair d.boards.mending is;
  begun = ap (begun_if d b) is;
})
  where
    begun_if : TriplexState → ℕ → Bool → TriplexState
    begun_if d b t = record d { boards = if t then record d.boards { mending = Some (record { board = b; cursor = 0 }) } else d.boards }

begins_at : (k : TriplexCore) (d : TriplexState) (s : TriplexStep) (tick board : ℕ) (act : Act) → s ≡ script_act act →
    OneIs (SaysMend tick board) (act_notes d act) → BeginsMending k d s tick board
begins_at k d s tick board (EventAct event) is h =
    absurd (unless_silent (SaysMend tick board) (begins_only tick board) (nat_lt (length d.inbox) INBOX_EVENTS) (Lost d.ticks event) (λ x. x) h)
begins_at k d s tick board (Poke p w v) is h = absurd h
begins_at k d s tick board (PokeLocal p i v) is h = absurd h
begins_at k d s tick board (Drive p posted) is h = absurd h
begins_at k d s tick board (Mute p) is h = absurd h
begins_at k d s tick board (Remove p) is h =
    absurd (unless_silent (SaysMend tick board) (begins_only tick board) (is_out (membership_at d.memberships p)) (Out d.ticks p Removed) (λ x. x) h)
begins_at k d s tick board (Revive p) is h =
    absurd (if_silent (SaysMend tick board) (begins_only tick board) (is_revivable p d) (Join d.ticks p) (λ x. x) h)
begins_at k d s tick board (Board fault) is h = absurd (board_silent (SaysMend tick board) (begins_only tick board) d.ticks fault h)
begins_at k d s tick board (MendAct b) is h =
    subst (λ (x : TriplexStep). BeginsMending k d x tick board) (sym is) (begins_by k d tick board b (mending_begins b d.boards) refl h)

turn_silent : (tick board t : ℕ) (o : Option ℕ) (e : StepEffects) (idle : Bool) → OneIs (SaysMend tick board) (turn_notes idle t o e) → ⊥
turn_silent tick board t None e true h = h
turn_silent tick board t (Some b) e true (inl h) = h
turn_silent tick board t (Some b) e true (inr h) = h
turn_silent tick board t o e false h = effects_silent (SaysMend tick board) (begins_only tick board) t e h

tick_silent : (k : TriplexCore) (d : TriplexState) (mask tick board : ℕ) (b : Bool) →
    OneIs (SaysMend tick board) (if b then hold_turn d else working_turn k d mask).notes → ⊥
tick_silent k d mask tick board true h = hold_silent (SaysMend tick board) (begins_only tick board) (d.ticks + 1) d.reintegration h
tick_silent k d mask tick board false h =
    turn_silent tick board (d.ticks + 1) (mended_by d.boards.mending) (voted k d mask).effects (is_idle_verdict (tick_verdict k d mask)) h

pub mend_notes_begin_mendings : MendNotesBeginMendings
mend_notes_begin_mendings k d (clock_tick mask) tick board c =
    absurd (tick_silent k d mask tick board (is_holding d.reintegration) (one_is (SaysMend tick board) (Mend tick board) _ (refl, refl) c))
mend_notes_begin_mendings k d (script_act act) tick board c =
    begins_at k d (script_act act) tick board act refl (one_is (SaysMend tick board) (Mend tick board) _ (refl, refl) c)
