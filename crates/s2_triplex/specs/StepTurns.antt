-- What a step makes known: its notes in their order, the byte for the console, and the halt value.
use Rattle.std.specs.Prelude.{ℕ, ◌+◌, not, nat_lt, List, [], ◌∷◌, ◌++◌, length, Bool, true, false, Some, None, Ok, Err, if◌then◌else◌}
use Rattle.std.specs.declared.option.Option.{Option}
use Rattle.std.specs.declared.result.Result.{Result}
use Rattle.s2_ports.specs.declared.events.BoardFault.{BoardFault}
use Rattle.s2_ports.specs.declared.events.BoardFault.TheVariants.{Dead, Flip}
use Rattle.s2_revive.specs.MendingBoards.{mended_by, mending_begins}
use Rattle.s2_join.specs.declared.item.Item.{Item}
use Rattle.s2_join.specs.CopyOrder.{is_last_item}
use Rattle.s2_script.specs.declared.entry.Act.{Act}
use Rattle.s2_script.specs.declared.entry.Act.TheVariants.{Event, Poke, PokeLocal, Drive, Mute, Remove, Revive, Board, Mend as MendAct}
use Rattle.s2_journal.specs.declared.note.Why.{Why}
use Rattle.s2_journal.specs.declared.note.Why.TheVariants.{Differ, Late, Removed}
use Rattle.s2_journal.specs.declared.note.Note.{Note}
use Rattle.s2_journal.specs.declared.note.Note.TheVariants.{Delivered, Out as OutNote, Lost, Repaired, BoardDead, Mend, Mended, Join, Joined}
use Rattle.s2_journal.specs.declared.note.Reason.{Reason}
use Rattle.s2_machine.specs.declared.deliveries.Delivery.{Delivery}
use Rattle.s2_triplex.specs.declared.numbers.TheConstants.{INBOX_EVENTS}
use Rattle.s2_triplex.specs.TriplexCores.{TriplexCore}
use Rattle.s2_triplex.specs.TriplexState.{TriplexState, Reintegration, membership_at, is_out}
use Rattle.s2_triplex.specs.VotedAccess.{RepairedWord}
use Rattle.s2_triplex.specs.VoterDecision.{StepEffects, tick_verdict, is_idle_verdict}
use Rattle.s2_triplex.specs.CopyHolds.{is_holding}
use Rattle.s2_triplex.specs.TickStep.{after_working_tick, ticked}
use Rattle.s2_triplex.specs.ActStep.{acted, is_revivable}
use Rattle.s2_triplex.specs.StepRefusals.{tick_refusal, act_refusal}

-- the notes in their order; at most one byte; and the halt value after the step
pub record Turn : Type 0 where
  pub notes : List Note
  pub out : Option ℕ
  pub halt : Option ℕ

-- a processor is out
abbrev pub out_notes : ℕ → Why → Option ℕ → List Note
out_notes tick why None = []
out_notes tick why (Some p) = OutNote tick p why ∷ []

-- a word was rewritten on a board
abbrev pub repair_notes : ℕ → Option RepairedWord → List Note
repair_notes tick None = []
repair_notes tick (Some word) = Repaired tick word.board word.index ∷ []

-- the delivered events
abbrev pub delivery_notes : List Delivery → List Note
delivery_notes [] = []
delivery_notes (d ∷ ds) = Delivered d.run d.event ∷ delivery_notes ds

-- those of a voter's turn: who is out, what was rewritten, what was delivered
abbrev pub effect_notes : ℕ → StepEffects → List Note
effect_notes tick e = out_notes tick Differ e.differ ++ (out_notes tick Late e.late ++ (repair_notes tick e.repaired ++ delivery_notes e.deliveries))

-- that of an idle turn, which has no other effects: a board is in again
abbrev pub mended_notes : ℕ → Option ℕ → List Note
mended_notes tick None = []
mended_notes tick (Some board) = Mended tick board ∷ []

-- those of a voter's turn, be it idle or not
abbrev pub turn_notes : Bool → ℕ → Option ℕ → StepEffects → List Note
turn_notes idle tick mended e = if idle then mended_notes tick mended else effect_notes tick e

-- that of the last saved word
abbrev pub joined_notes_if : Bool → ℕ → Reintegration → List Note
joined_notes_if true tick j = Joined tick j.copying.joiner (not j.disturbed) ∷ []
joined_notes_if false tick j = []

abbrev pub copy_notes : ℕ → Reintegration → List Item → List Note
copy_notes tick j [] = []
copy_notes tick j (item ∷ left) = joined_notes_if (is_last_item item) tick j

abbrev pub hold_notes : ℕ → Option Reintegration → List Note
hold_notes tick None = []
hold_notes tick (Some j) = copy_notes tick j j.copying.left

-- what a tick makes known
abbrev pub working_turn : TriplexCore → TriplexState → ℕ → Turn
working_turn k d mask =
    let step = after_working_tick k d mask in
    record { notes = turn_notes (is_idle_verdict (tick_verdict k d mask)) (d.ticks + 1) (mended_by d.boards.mending) step.effects; out = step.effects.out; halt = step.next.halt }

abbrev pub hold_turn : TriplexState → Turn
hold_turn d = record { notes = hold_notes (d.ticks + 1) d.reintegration; out = None; halt = d.halt }

abbrev pub tick_turn : TriplexCore → TriplexState → ℕ → Turn
tick_turn k d mask = if is_holding d.reintegration then hold_turn d else working_turn k d mask

-- what an act makes known: an event that is lost, a removal of a processor that was not out, the begin of a
-- reintegration, a board that is out, and the begin of its mending
abbrev pub board_notes : ℕ → BoardFault → List Note
board_notes tick (Dead board) = BoardDead tick board ∷ []
board_notes tick (Flip board index bit) = []

abbrev pub act_notes : TriplexState → Act → List Note
act_notes d (Event event) = if nat_lt (length d.inbox) INBOX_EVENTS then [] else Lost d.ticks event ∷ []
act_notes d (Poke p k v) = []
act_notes d (PokeLocal p i v) = []
act_notes d (Drive p posted) = []
act_notes d (Mute p) = []
act_notes d (Remove p) = if is_out (membership_at d.memberships p) then [] else OutNote d.ticks p Removed ∷ []
act_notes d (Revive p) = if is_revivable p d then Join d.ticks p ∷ [] else []
act_notes d (Board fault) = board_notes d.ticks fault
act_notes d (MendAct board) = if mending_begins board d.boards then Mend d.ticks board ∷ [] else []

abbrev pub act_turn : TriplexState → Act → Turn
act_turn d act = record { notes = act_notes d act; out = None; halt = d.halt }

-- a refused step answers its reason and changes nothing
abbrev pub unless_refused : {A : Type 0} → Option Reason → A → Result A Reason
unless_refused None given = Ok given
unless_refused (Some reason) given = Err reason

abbrev pub next_unless_refused : Option Reason → TriplexState → TriplexState → TriplexState
next_unless_refused None new old = new
next_unless_refused (Some reason) new old = old

-- a tick and an act as they are taken: the answer, and the next machine
abbrev pub tick_answer : TriplexCore → TriplexState → ℕ → Result Turn Reason
tick_answer k d mask = unless_refused (tick_refusal d mask) (tick_turn k d mask)

abbrev pub next_after_tick : TriplexCore → TriplexState → ℕ → TriplexState
next_after_tick k d mask = next_unless_refused (tick_refusal d mask) (ticked k d mask).next d

abbrev pub act_answer : TriplexState → Act → Result Turn Reason
act_answer d act = unless_refused (act_refusal d act) (act_turn d act)

abbrev pub next_after_act : TriplexState → Act → TriplexState
next_after_act d act = next_unless_refused (act_refusal d act) (acted act d) d
