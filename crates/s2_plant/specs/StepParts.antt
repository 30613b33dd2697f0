-- Parts of a step, each over the fields that it reads and changes, for the parts of the machine alone: what the
-- functions inside this crate do. Over the fields of one machine they are the steps that s2_triplex defines.
use Rattle.std.specs.Prelude.{ℕ, ◌==◌, ◌&&◌, ◌||◌, not, List, [], ◌∷◌, ◌++◌, Bool, false, Some, None, if◌then◌else◌}
use Rattle.std.specs.declared.option.Option.{Option}
use Rattle.s2_ports.specs.declared.events.Event.{Event}
use Rattle.s2_ports.specs.declared.requests.Request.{Request}
use Rattle.s2_ports.specs.declared.requests.Posted.{Posted}
use Rattle.s2_clock.specs.ClockWatch.{is_firing}
use Rattle.s2_cpu.specs.Processor.{Processor}
use Rattle.s2_revive.specs.MendingBoards.{mended_by}
use Rattle.s2_device.specs.declared.effect.Effect.{Effect}
use Rattle.s2_base.specs.Map.{place_at}
use Rattle.s2_ports.specs.declared.requests.Kind.{Kind}
use Rattle.s2_private.specs.PrivateValues.{gathered}
use Rattle.s2_machine.specs.OutsideAccess.{AccessResult}
use Rattle.s2_machine.specs.PrivateArea.{stores_at}
use Rattle.s2_voter.specs.declared.verdicts.Verdict.{Verdict}
use Rattle.s2_voter.specs.VoterState.{VoterState, is_member}
use Rattle.s2_voter.specs.VoterCalls.{no_latches}
use Rattle.s2_script.specs.declared.entry.Act.{Act}
use Rattle.s2_script.specs.declared.entry.Act.TheVariants.{Event as EventAct, Poke, PokeLocal, Drive, Mute, Remove, Revive, Board, Mend}
use Rattle.s2_journal.specs.declared.note.Note.{Note}
use Rattle.s2_triplex.specs.declared.membership.Membership.{Membership}
use Rattle.s2_triplex.specs.TriplexCores.{TriplexCore}
use Rattle.s2_triplex.specs.ModuleState.{ModuleState, module_framed}
use Rattle.s2_triplex.specs.ModuleFiring.{module_ticked, is_posting}
use Rattle.s2_triplex.specs.ModuleFaults.{module_poked, module_local_poked, module_driven, module_muted, module_restored}
use Rattle.s2_triplex.specs.TriplexState.{TriplexState, Reintegration, three_of, module_at, membership_at, posted_at}
use Rattle.s2_triplex.specs.VotedAccess.{VotedAccess, private_values}
use Rattle.s2_triplex.specs.VoterDecision.{StepResult, membership_unless_left, answered_if, after_verdict, is_idle_verdict, is_sync_verdict}
use Rattle.s2_join.specs.declared.item.Item.{Item}
use Rattle.s2_join.specs.declared.item.Item.TheVariants.{Local, Saved}
use Rattle.s2_join.specs.CopyOrder.{is_last_item}
use Rattle.s2_triplex.specs.CopyHolds.{hold_begun_if, idled_if, unmarked_if, word_set_if, membership_joined, after_copy, word_copied, saved_word_copied}
use Rattle.s2_triplex.specs.ActStep.{module_replaced, membership_revived}
use Rattle.s2_triplex.specs.TickStep.{idled_after}
use Rattle.s2_triplex.specs.StepTurns.{Turn, effect_notes, turn_notes, repair_notes, delivery_notes, joined_notes_if}

-- ---- what a step makes known

-- nothing
abbrev pub blank_turn : Turn
blank_turn = record { notes = []; out = None; halt = None }

-- the effects of a voter's turn, at a tick, with the machine after it
abbrev pub effects_turn : ℕ → StepResult → Turn
effects_turn tick step = record { notes = effect_notes tick step.effects; out = step.effects.out; halt = step.next.halt }

-- the notes of what was agreed
abbrev pub access_notes : ℕ → VotedAccess → List Note
access_notes tick a = repair_notes tick a.repaired ++ delivery_notes a.deliveries

-- an event, as a list
abbrev pub event_list : Option Event → List Event
event_list None = []
event_list (Some event) = event ∷ []

-- the event of an agreed store to PRIV, from the latches and the modules
abbrev pub agreed_events : VoterState → List ModuleState → Request → Kind → List Event
agreed_events v modules r kind = if stores_at kind (place_at r.address) then gathered v r (private_values modules) ∷ [] else []

-- ---- firings

-- the modules after their firings
abbrev pub fired_modules : TriplexCore → ℕ → ℕ → VoterState → List ModuleState → List ModuleState
fired_modules k seen mask v modules = three_of (λ p. module_ticked k seen (is_member v p) (is_firing mask p) (module_at modules p))

-- the ticks of the last postings after them
abbrev pub posting_tick : TriplexCore → ℕ → ℕ → VoterState → List ModuleState → List ℕ → ℕ → ℕ
posting_tick k tick mask v modules posted p = if (is_firing mask p && is_posting k (module_at modules p) (is_member v p)) then tick else posted_at posted p

abbrev pub posting_ticks : TriplexCore → ℕ → ℕ → VoterState → List ModuleState → List ℕ → List ℕ
posting_ticks k tick mask v modules posted = three_of (posting_tick k tick mask v modules posted)

abbrev pub three_postings : Bool → Bool → Bool → ℕ → List ℕ → List ℕ
three_postings a b c tick posted = (if a then tick else posted_at posted 0) ∷ (if b then tick else posted_at posted 1) ∷ (if c then tick else posted_at posted 2) ∷ []

-- the modules after firings that are counted alone
abbrev pub idled_modules : ℕ → List ModuleState → List ModuleState
idled_modules mask modules = three_of (λ p. idled_if (is_firing mask p) (module_at modules p))

-- what the ports hold
abbrev pub port_of : List ModuleState → ℕ → Option Posted
port_of modules p = (module_at modules p).port

-- ---- decisions

-- those that are named are out
abbrev pub memberships_left : (ℕ → Bool) → List Membership → List Membership
memberships_left named memberships = three_of (λ p. membership_unless_left (named p) (membership_at memberships p))

-- and are no members; no latch and no age
abbrev pub voter_decided : (ℕ → Bool) → VoterState → VoterState
voter_decided named v = record { members = three_of (λ p. not (named p) && is_member v p); latches = no_latches; age = None; timer = v.timer }

-- the members are answered
abbrev pub answered_modules : TriplexCore → VoterState → Request → ℕ → ℕ → List ModuleState → List ModuleState
answered_modules k v r word lines modules = three_of (λ p. answered_if (is_member v p) k r word lines (module_at modules p))

-- what an access gives besides the memories and devices after it
abbrev pub effect_of : AccessResult → Effect
effect_of a = record { word = a.word; out = a.out; halt = a.halt }

-- the machine after what was agreed, before anyone is answered
abbrev pub with_access : TriplexState → VotedAccess → TriplexState
with_access d a = record d { boards = a.boards; device = a.device; inbox = a.inbox; delivered = a.delivered; halt = a.halt }

-- the voter's turn with a verdict, but for the word that an idle turn copies
abbrev pub after_voters_verdict : TriplexCore → TriplexState → Verdict → StepResult
after_voters_verdict k d v = record { next = hold_begun_if (is_sync_verdict v) (after_verdict k d v).next; effects = (after_verdict k d v).effects }

-- and with it
abbrev pub after_voters_turn : TriplexCore → TriplexState → Verdict → StepResult
after_voters_turn k d v = record { next = idled_after (is_idle_verdict v) (after_voters_verdict k d v).next; effects = (after_voters_verdict k d v).effects }

-- what it makes known
abbrev pub voters_turn : TriplexCore → TriplexState → Verdict → Turn
voters_turn k d v =
    let step = after_voters_turn k d v in
    record { notes = turn_notes (is_idle_verdict v) d.ticks (mended_by d.boards.mending) step.effects; out = step.effects.out; halt = step.next.halt }

-- ---- a reintegration

-- the marks of the members are cleared
abbrev pub unmarked_modules : VoterState → List ModuleState → List ModuleState
unmarked_modules v modules = three_of (λ p. unmarked_if (is_member v p) (module_at modules p))

-- a word is copied to the joining processor
abbrev pub copied_modules : ℕ → ℕ → ℕ → List ModuleState → List ModuleState
copied_modules joiner i word modules = three_of (λ p. word_set_if (joiner == p) i word (module_at modules p))

-- all have one processor
abbrev pub restored_modules : Processor → List ModuleState → List ModuleState
restored_modules cpu modules = three_of (λ p. module_restored cpu (module_at modules p))

-- the joining processor is in, and a member
abbrev pub memberships_joined : ℕ → List Membership → List Membership
memberships_joined joiner memberships = three_of (λ p. membership_joined (joiner == p) (membership_at memberships p))

abbrev pub voter_joined : ℕ → VoterState → VoterState
voter_joined joiner v = record v { members = three_of (λ p. (joiner == p) || is_member v p) }

-- the first word that is to copy
abbrev pub first_item : List Item → Item
first_item [] = Saved 0
first_item (item ∷ left) = item

abbrev pub next_item : Option Reintegration → Item
next_item None = Saved 0
next_item (Some j) = first_item j.copying.left

-- what is open once it is copied
abbrev pub left_after_copy : Option Reintegration → Option Reintegration
left_after_copy None = None
left_after_copy (Some j) = Some (after_copy j)

-- the processor of an open reintegration, and whether an act disturbed it
abbrev pub joiner_of : Option Reintegration → ℕ
joiner_of None = 0
joiner_of (Some j) = j.copying.joiner

abbrev pub is_disturbed : Option Reintegration → Bool
is_disturbed None = false
is_disturbed (Some j) = j.disturbed

-- how many words were copied, and whether the saved words were
abbrev pub copied_count : Option Reintegration → ℕ
copied_count None = 0
copied_count (Some j) = j.copied

abbrev pub is_saved : Option Reintegration → Bool
is_saved None = false
is_saved (Some j) = j.copying.saved

-- the machine after a word was copied
abbrev pub item_copied_by : TriplexState → Reintegration → Item → TriplexState
item_copied_by d j (Local i) = word_copied d j i
item_copied_by d j (Saved n) = saved_word_copied (is_last_item (Saved n)) d j

abbrev pub first_copied : TriplexState → Option Reintegration → TriplexState
first_copied d None = d
first_copied d (Some j) = item_copied_by d j (first_item j.copying.left)

-- the note of a word that was copied
abbrev pub copied_note : ℕ → Option Reintegration → List Note
copied_note tick None = []
copied_note tick (Some j) = joined_notes_if (is_last_item (first_item j.copying.left)) tick j

-- ---- the frame

-- each module with another frame
abbrev pub framed_modules : ℕ → List ModuleState → List ModuleState
framed_modules frame modules = three_of (λ p. module_framed frame (module_at modules p))

-- ---- acts

-- the module of a processor after an act that disturbs it
abbrev pub changed_by : Act → ModuleState → ModuleState
changed_by (Poke p k v) m = module_poked k v m
changed_by (PokeLocal p i v) m = module_local_poked i v m
changed_by (Drive p posted) m = module_driven posted m
changed_by (Mute p) m = module_muted m
changed_by (EventAct event) m = m
changed_by (Remove p) m = m
changed_by (Revive p) m = m
changed_by (Board fault) m = m
changed_by (Mend board) m = m

-- one module is another
abbrev pub modules_replaced : ℕ → ModuleState → List ModuleState → List ModuleState
modules_replaced p m modules = three_of (module_replaced p m modules)

-- one processor is out, and one is joining
abbrev pub memberships_removed : ℕ → List Membership → List Membership
memberships_removed p memberships = three_of (λ q. membership_unless_left (p == q) (membership_at memberships q))

abbrev pub memberships_revived : ℕ → List Membership → List Membership
memberships_revived p memberships = three_of (λ q. membership_revived (p == q) (membership_at memberships q))
