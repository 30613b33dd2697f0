-- The boards of a machine change nothing else of it than by the list that they stand for.
use Rattle.std.proofs.Common.{◌≡◌, ℕ, ◌+◌, List, [], ◌∷◌, ◌++◌, length, refl, sym, ap, subst, ◌∙◌, arith}
use Rattle.std.specs.Prelude.{Bool, true, false, ◌==◌, ◌||◌, nat_lt, Some, None, if◌then◌else◌}
use Rattle.std.proofs.lemmas.Bool.Decides.{nat_tests}
use Rattle.std.specs.declared.option.Option.{Option}
use Rattle.s2_ports.specs.declared.events.Event.{Event}
use Rattle.s2_ports.specs.declared.events.BoardFault.TheVariants.{Dead}
use Rattle.s2_duplex.specs.ToleratedFaults.{is_tolerated}
use Rattle.s2_revive.specs.MendingFaults.{is_mending_board, ends_mending, struck_if}
use Rattle.s2_journal.specs.declared.note.Reason.{Reason}
use Rattle.s2_journal.specs.declared.note.Reason.TheVariants.{BothBoards}
use Rattle.s2_ports.specs.declared.requests.Request.{Request}
use Rattle.s2_ports.specs.declared.requests.Kind.{Kind}
use Rattle.s2_ports.specs.declared.requests.Kind.TheVariants.{Load, Store, Sync}
use Rattle.s2_revive.specs.MendingBoards.{MendingBoards, AreMendingBoards, memory_of}
use Rattle.s2_revive.proofs.MendingMemory.{struck_memory, begun_memory}
use Rattle.s2_voter.specs.declared.verdicts.Verdict.{Verdict}
use Rattle.s2_voter.specs.declared.verdicts.Verdict.TheVariants.{Waiting, Done, Split}
use Rattle.s2_join.specs.declared.item.Item.{Item}
use Rattle.s2_join.specs.declared.item.Item.TheVariants.{Local, Saved}
use Rattle.s2_join.specs.CopyOrder.{is_last_item}
use Rattle.s2_script.specs.declared.entry.Act.{Act}
use Rattle.s2_script.specs.declared.entry.Act.TheVariants.{Event as EventAct, Poke, PokeLocal, Drive, Mute, Remove, Revive, Board, Mend}
use Rattle.s2_device.specs.DeviceState.{Device}
use Rattle.s2_machine.specs.OutsideAccess.{AccessResult}
use Rattle.s2_triplex.specs.declared.numbers.TheConstants.{INBOX_EVENTS}
use Rattle.s2_triplex.specs.TriplexCores.{TriplexCore, IsTriplexCore}
use Rattle.s2_triplex.specs.TriplexState.{TriplexState, Reintegration}
use Rattle.s2_triplex.specs.TickFirings.{after_firings}
use Rattle.s2_triplex.specs.VotedAccess.{VotedAccess, device_after_events, private_events, outside_access, access_of_kind}
use Rattle.s2_triplex.specs.VoterDecision.{StepResult, no_effects, is_named, after_decision, after_verdict, tick_verdict, is_idle_verdict, is_sync_verdict}
use Rattle.s2_triplex.specs.CopyHolds.{hold_begun, hold_begun_if, is_holding, after_idle_tick, saved_word_copied, item_copied, copied, after_hold_tick}
use Rattle.s2_triplex.specs.TickStep.{boards_idled_if, idled_after, after_working_tick, ticked}
use Rattle.s2_triplex.specs.ActStep.{is_revivable, revived, mend_begun, acted}
use Rattle.s2_triplex.specs.StepRefusals.{act_refusal}
use Rattle.s2_triplex.specs.TriplexSteps.{TriplexStep, clock_tick, script_act, step_refusal}
use Rattle.s2_triplex_laws.specs.TriplexExecutions.{IsStepCall}
use Rattle.s2_triplex_laws.specs.BoardMending.{EqualButBoards, StepsAlike, StepsIgnoreBoards, StepsIgnoreMending, unmended, DeadBoardsEndMendings}
use Rattle.s2_triplex_laws.proofs.StepNotes.{tick_tells, act_tells}
use Rattle.s2_triplex_laws.proofs.LawfulSteps.{tolerated_by}
use Rattle.s2_triplex_laws.proofs.BoardMoves.{idled_memory}

-- a machine with other boards
abbrev pub with_boards : MendingBoards → TriplexState → TriplexState
with_boards s d = record d { boards = s }

-- ---- a tick of a hold

pub record Moved (s : MendingBoards) (x y : TriplexState) (old : MendingBoards) : Type 0 where
  pub is : y ≡ with_boards s x
  pub same : x.boards ≡ old

item_moved : (s : MendingBoards) (d : TriplexState) (j : Reintegration) (items : List Item) → Moved s (item_copied d j items) (item_copied (with_boards s d) j items) d.boards
item_moved s d j [] = record { is = refl; same = refl }
item_moved s d j (Local i ∷ left) = record { is = refl; same = refl }
item_moved s d j (Saved n ∷ left) = by_test (is_last_item (Saved n))
  where
    by_test : (b : Bool) → Moved s (saved_word_copied b d j) (saved_word_copied b (with_boards s d) j) d.boards
    by_test true = record { is = refl; same = refl }
    by_test false = record { is = refl; same = refl }

pub copied_moved : (s : MendingBoards) (d : TriplexState) (o : Option Reintegration) → Moved s (copied d o) (copied (with_boards s d) o) d.boards
copied_moved s d None = record { is = refl; same = refl }
copied_moved s d (Some j) = item_moved s d j j.copying.left

begun_moved : (s : MendingBoards) (d : TriplexState) (o : Option Reintegration) → Moved s (hold_begun d o) (hold_begun (with_boards s d) o) d.boards
begun_moved s d None = record { is = refl; same = refl }
begun_moved s d (Some j) = record { is = refl; same = refl }

pub begun_if_moved : (s : MendingBoards) (b : Bool) (d : TriplexState) → Moved s (hold_begun_if b d) (hold_begun_if b (with_boards s d)) d.boards
begun_if_moved s true d = begun_moved s d d.reintegration
begun_if_moved s false d = record { is = refl; same = refl }

-- ---- what a step makes of two machines that are equal in all but the boards

record Alike (x y : StepResult) : Type 0 where
  states : EqualButBoards x.next y.next
  left : AreMendingBoards x.next.boards
  right : AreMendingBoards y.next.boards
  deliveries : y.effects.deliveries ≡ x.effects.deliveries
  out : y.effects.out ≡ x.effects.out

moved_equal : (s : MendingBoards) (x y : TriplexState) (old : MendingBoards) → Moved s x y old → memory_of s ≡ memory_of old → EqualButBoards x y
moved_equal s x y old m same =
    let at : y.boards ≡ s = ap (λ (d : TriplexState). d.boards) m.is in
    record {
      rest = m.is ∙ ap (λ (b : MendingBoards). with_boards b x) (sym at);
      memory = ap memory_of at ∙ (same ∙ sym (ap memory_of m.same));
    }

-- an access
module _ (k : TriplexCore) (c : IsTriplexCore k) (d : TriplexState) (s : MendingBoards) (low : AreMendingBoards d.boards) (high : AreMendingBoards s) (same : memory_of s ≡ memory_of d.boards) where
  abbrev told : Request → Kind → Device
  told r kind = device_after_events d.device (private_events d r kind)

  abbrev reads : Request → Kind → List ℕ → AccessResult
  reads r kind global = k.core.access global (told r kind) r

  outside_alike : (r : Request) (kind : Kind) (differ late : Option ℕ) → EqualButBoards
      (after_decision k d r (outside_access d r (private_events d r kind) (reads r kind (memory_of d.boards)) (k.boards_after d.boards r)) (is_named differ late))
      (after_decision k (with_boards s d) r (outside_access (with_boards s d) r (private_events d r kind) (reads r kind (memory_of s)) (k.boards_after s r)) (is_named differ late))
  outside_alike r kind differ late =
      let a = c.boards d.boards (told r kind) r low in
      let b = c.boards s (told r kind) r high in
      record {
        rest = ap (λ (g : List ℕ). after_decision k (with_boards s d) r (outside_access (with_boards s d) r (private_events d r kind) (reads r kind g) (k.boards_after s r)) (is_named differ late)) same;
        memory = b.memory ∙ (ap (λ (g : List ℕ). (reads r kind g).global) same ∙ sym a.memory);
      }

  record AccessAlike (r : Request) (differ late : Option ℕ) (a b : VotedAccess) : Type 0 where
    states : EqualButBoards (after_decision k d r a (is_named differ late)) (after_decision k (with_boards s d) r b (is_named differ late))
    left : AreMendingBoards a.boards
    right : AreMendingBoards b.boards
    deliveries : b.deliveries ≡ a.deliveries
    out : b.out ≡ a.out

  outside_result : (r : Request) (kind : Kind) (differ late : Option ℕ) → AccessAlike r differ late (outside_access d r (private_events d r kind) (reads r kind (memory_of d.boards)) (k.boards_after d.boards r)) (outside_access (with_boards s d) r (private_events d r kind) (reads r kind (memory_of s)) (k.boards_after s r))
  outside_result r kind differ late = record {
    states = outside_alike r kind differ late;
    left = (c.boards d.boards (told r kind) r low).boards;
    right = (c.boards s (told r kind) r high).boards;
    deliveries = refl;
    out = ap (λ (g : List ℕ). (reads r kind g).out) same;
  }

  access_alike : (r : Request) (differ late : Option ℕ) (kind : Kind) → AccessAlike r differ late (access_of_kind k d r kind) (access_of_kind k (with_boards s d) r kind)
  access_alike r differ late Sync = record { states = record { rest = refl; memory = same }; left = low; right = high; deliveries = refl; out = refl }
  access_alike r differ late Load = outside_result r Load differ late
  access_alike r differ late Store = outside_result r Store differ late

  verdict_alike : (v : Verdict) → Alike (after_verdict k d v) (after_verdict k (with_boards s d) v)
  verdict_alike Waiting = record { states = record { rest = refl; memory = same }; left = low; right = high; deliveries = refl; out = refl }
  verdict_alike Split = record { states = record { rest = refl; memory = same }; left = low; right = high; deliveries = refl; out = refl }
  verdict_alike (Done r differ late) =
      let x = access_alike r differ late r.kind in
      record { states = x.states; left = x.left; right = x.right; deliveries = x.deliveries; out = x.out }

-- the begin of a hold, and the word of an idle turn
record Begun (x y : TriplexState) : Type 0 where
  states : EqualButBoards x y
  left : AreMendingBoards x.boards
  right : AreMendingBoards y.boards

begun_alike : (b : Bool) (x y : TriplexState) → EqualButBoards x y → AreMendingBoards x.boards → AreMendingBoards y.boards → Begun (hold_begun_if b x) (hold_begun_if b y)
begun_alike b x y h left right =
    let m = begun_if_moved y.boards b x in
    let is : hold_begun_if b y ≡ with_boards y.boards (hold_begun_if b x) = ap (hold_begun_if b) h.rest ∙ m.is in
    let at : (hold_begun_if b y).boards ≡ y.boards = ap (λ (d : TriplexState). d.boards) is in
    record {
      states = moved_equal y.boards (hold_begun_if b x) (hold_begun_if b y) x.boards (record { is = is; same = m.same }) h.memory;
      left = subst AreMendingBoards (sym m.same) left;
      right = subst AreMendingBoards (sym at) right;
    }

idled_alike : (b : Bool) (x y : TriplexState) → Begun x y → EqualButBoards (idled_after b x) (idled_after b y)
idled_alike b x y h = record {
  rest = ap (λ (e : TriplexState). with_boards (boards_idled_if b y.boards) e) h.states.rest;
  memory = idled_memory b y.boards h.right ∙ (h.states.memory ∙ sym (idled_memory b x.boards h.left));
}

-- what is seen of a tick
record TickAlike (x y : StepResult) : Type 0 where
  states : EqualButBoards x.next y.next
  deliveries : y.effects.deliveries ≡ x.effects.deliveries
  out : y.effects.out ≡ x.effects.out

tick_alike : (k : TriplexCore) (c : IsTriplexCore k) (d : TriplexState) (s : MendingBoards) (mask : ℕ) → AreMendingBoards d.boards → AreMendingBoards s → memory_of s ≡ memory_of d.boards → TickAlike (ticked k d mask) (ticked k (with_boards s d) mask)
tick_alike k c d s mask low high same = by_hold (is_holding d.reintegration)
  where
    by_hold : (b : Bool) → TickAlike (if b then record { next = after_hold_tick d mask; effects = no_effects } else after_working_tick k d mask)
        (if b then record { next = after_hold_tick (with_boards s d) mask; effects = no_effects } else after_working_tick k (with_boards s d) mask)
    by_hold true = record {
      states = moved_equal s (after_hold_tick d mask) (after_hold_tick (with_boards s d) mask) d.boards (copied_moved s (after_idle_tick d mask) d.reintegration) same;
      deliveries = refl;
      out = refl;
    }
    by_hold false =
        let v = tick_verdict k d mask in
        let f = after_firings k d mask in
        let x = verdict_alike k c f s low high same v in
        let b = begun_alike (is_sync_verdict v) (after_verdict k f v).next (after_verdict k (with_boards s f) v).next x.states x.left x.right in
        record {
          states = idled_alike (is_idle_verdict v) (hold_begun_if (is_sync_verdict v) (after_verdict k f v).next) (hold_begun_if (is_sync_verdict v) (after_verdict k (with_boards s f) v).next) b;
          deliveries = x.deliveries;
          out = x.out;
        }

-- ---- an act

received_alike : (b : Bool) (d : TriplexState) (s : MendingBoards) (event : Event) → memory_of s ≡ memory_of d.boards → EqualButBoards (if b then record d { inbox = d.inbox ++ event ∷ []; accepted = d.accepted + 1 } else d)
    (if b then record (with_boards s d) { inbox = d.inbox ++ event ∷ []; accepted = d.accepted + 1 } else with_boards s d)
received_alike true d s event same = record { rest = refl; memory = same }
received_alike false d s event same = record { rest = refl; memory = same }

revived_alike : (b : Bool) (d : TriplexState) (s : MendingBoards) (p : ℕ) → memory_of s ≡ memory_of d.boards → EqualButBoards (if b then revived p d else d) (if b then revived p (with_boards s d) else with_boards s d)
revived_alike true d s p same = record { rest = refl; memory = same }
revived_alike false d s p same = record { rest = refl; memory = same }

act_alike : (d : TriplexState) (s : MendingBoards) (act : Act) → AreMendingBoards d.boards → AreMendingBoards s → memory_of s ≡ memory_of d.boards → IsStepCall (script_act act) → act_refusal d act ≡ None → act_refusal (with_boards s d) act ≡ None →
    EqualButBoards (acted act d) (acted act (with_boards s d))
act_alike d s (EventAct event) low high same call x y = received_alike (nat_lt (length d.inbox) INBOX_EVENTS) d s event same
act_alike d s (Poke p w v) low high same call x y = record { rest = refl; memory = same }
act_alike d s (PokeLocal p i v) low high same call x y = record { rest = refl; memory = same }
act_alike d s (Drive p posted) low high same call x y = record { rest = refl; memory = same }
act_alike d s (Mute p) low high same call x y = record { rest = refl; memory = same }
act_alike d s (Remove p) low high same call x y = record { rest = refl; memory = same }
act_alike d s (Revive p) low high same call x y = revived_alike (is_revivable p d) d s p same
act_alike d s (Board fault) low high same call x y = record {
  rest = refl;
  memory = struck_memory s fault call (tolerated_by (with_boards s d) fault y) high ∙ (same ∙ sym (struck_memory d.boards fault call (tolerated_by d fault x) low));
}
act_alike d s (Mend board) low high same call x y = record { rest = refl; memory = begun_memory board s ∙ (same ∙ sym (begun_memory board d.boards)) }

-- ---- a step

steps_by : (k : TriplexCore) (c : IsTriplexCore k) (d : TriplexState) (s : MendingBoards) (step : TriplexStep) → AreMendingBoards d.boards → AreMendingBoards s → memory_of s ≡ memory_of d.boards → IsStepCall step → step_refusal d step ≡ None → step_refusal (with_boards s d) step ≡ None →
    StepsAlike k d (with_boards s d) step
steps_by k c d s (clock_tick mask) low high same call x y =
    let t = tick_alike k c d s mask low high same in
    let a = tick_tells k d mask in
    let b = tick_tells k (with_boards s d) mask in
    record { states = t.states; turns = record { deliveries = b.deliveries ∙ (t.deliveries ∙ sym a.deliveries); out = b.out ∙ (t.out ∙ sym a.out) } }
steps_by k c d s (script_act act) low high same call x y =
    let a = act_tells d act in
    let b = act_tells (with_boards s d) act in
    record { states = act_alike d s act low high same call x y; turns = record { deliveries = b.deliveries ∙ sym a.deliveries; out = refl } }

pub steps_ignore_boards : StepsIgnoreBoards
steps_ignore_boards k d e step c low high h call x y =
    subst (λ (z : TriplexState). StepsAlike k d z step) (sym h.rest) (steps_by k c d e.boards step low high h.memory call x (subst (λ (z : TriplexState). step_refusal z step ≡ None) h.rest y))

pub steps_ignore_mending : StepsIgnoreMending
steps_ignore_mending k d step c low call x y =
    steps_ignore_boards k (unmended d) d step c (record { duplex = low.duplex; mending = tt }) low (record { rest = refl; memory = refl }) call y x

-- the end of the board that mends
pub dead_boards_end_mendings : DeadBoardsEndMendings
dead_boards_end_mendings k d m is =
    let here : (m.board == m.board) ≡ true = grind (arith, nat_tests) in
    let ends : ends_mending d.boards.mending (Dead m.board) ≡ true = ap (is_mending_board m.board) is ∙ here in
    let refusal : Bool → Option Reason = λ b. if b || is_tolerated d.boards.pair (Dead m.board) then None else Some (BothBoards m.board) in
    record {
      lawful = ap refusal ends;
      state = ap (λ (b : Bool). with_boards (struck_if b d.boards (Dead m.board)) d) ends;
      memory = refl;
      silent = refl;
      out = refl;
    }

-- the begin of a mending changes nothing but the boards
pub mend_alike : (d e : TriplexState) (board : ℕ) → EqualButBoards d e → EqualButBoards (mend_begun board d) e
mend_alike d e board h = record { rest = h.rest; memory = h.memory ∙ sym (begun_memory board d.boards) }
